-- What the paths below a mount add to what was found.
use Rattle.std.proofs.Common.{◌≡◌, ◌⊎◌, ◌↔◌, inl, inr, ℕ, zero, suc, List, [], ◌∷◌, ◌++◌, refl, ap, sym, ◌∙◌, subst, arith}
use Rattle.std.specs.Prelude.{Contains}
use Rattle.std.proofs.lemmas.List.{append_cancel_left}
use Rattle.std.proofs.lemmas.List.Elements.{Contains-append_left, Contains-append_right, Contains-append_cases, Contains-push, Contains-push_cases}
use Rattle.gopass_base.specs.Text.{Text}
use Rattle.mount_table.specs.Mounts.{row_at}
use Rattle.mount_table.specs.declared.mounts.Row.{Row}
use Rattle.store_state.specs.declared.kind.Kind.{Kind}
use Rattle.store_state.specs.declared.kind.Kind.TheVariants.{Secret, Rule, Template, Shadowed, Hidden, Strange}
use Rattle.store_state.specs.declared.seen.Seen.{Seen}
use Rattle.store_state.specs.Places.{IsKind}
use Rattle.store_state.specs.Found.{LiesAs, GivesName, GivesRule, GivesTemplate, GivesStrange, GivesShadowed, name_in, rule_in, template_in, strange_in, shadowed_in, IsWith, HasMore, AddsPaths, AllLieBelow}
use Rattle.store_state.specs.Tree.{IsTree}
use Rattle.disk_model.specs.Files.{Files}
use Rattle.store_state.proofs.OneKind.{one_kind}

nothing_in : (x : Text) → Contains [] x → ⊥
nothing_in x (k, lt, is) = omega (arith, lt)

just_it : (y x : Text) → Contains (y ∷ []) x → y ≡ x
just_it y x (zero, lt, is) = is
just_it y x (suc k, lt, is) = absurd (omega (arith, lt))

it_is_there : (y x : Text) → y ≡ x → Contains (y ∷ []) x
it_is_there y x same = subst (Contains (y ∷ [])) same (0, omega arith, refl)

-- ---- what one path gives

gives_name : (kind : Kind) (path x : Text) → Contains (name_in kind) x ↔ GivesName kind path x
gives_name (Secret name) path x = (λ h. ap Secret (just_it name x h), λ e. (let same : name ≡ x = cc in it_is_there name x same))
gives_name (Rule folder) path x = (λ h. absurd (nothing_in x h), λ e. absurd (cc))
gives_name (Template folder) path x = (λ h. absurd (nothing_in x h), λ e. absurd (cc))
gives_name Shadowed path x = (λ h. absurd (nothing_in x h), λ e. absurd (cc))
gives_name Hidden path x = (λ h. absurd (nothing_in x h), λ e. absurd (cc))
gives_name Strange path x = (λ h. absurd (nothing_in x h), λ e. absurd (cc))

gives_rule : (kind : Kind) (path x : Text) → Contains (rule_in kind) x ↔ GivesRule kind path x
gives_rule (Rule folder) path x = (λ h. ap Rule (just_it folder x h), λ e. (let same : folder ≡ x = cc in it_is_there folder x same))
gives_rule (Template folder) path x = (λ h. absurd (nothing_in x h), λ e. absurd (cc))
gives_rule (Secret name) path x = (λ h. absurd (nothing_in x h), λ e. absurd (cc))
gives_rule Shadowed path x = (λ h. absurd (nothing_in x h), λ e. absurd (cc))
gives_rule Hidden path x = (λ h. absurd (nothing_in x h), λ e. absurd (cc))
gives_rule Strange path x = (λ h. absurd (nothing_in x h), λ e. absurd (cc))

gives_template : (kind : Kind) (path x : Text) → Contains (template_in kind) x ↔ GivesTemplate kind path x
gives_template (Template folder) path x = (λ h. ap Template (just_it folder x h), λ e. (let same : folder ≡ x = cc in it_is_there folder x same))
gives_template (Rule folder) path x = (λ h. absurd (nothing_in x h), λ e. absurd (cc))
gives_template (Secret name) path x = (λ h. absurd (nothing_in x h), λ e. absurd (cc))
gives_template Shadowed path x = (λ h. absurd (nothing_in x h), λ e. absurd (cc))
gives_template Hidden path x = (λ h. absurd (nothing_in x h), λ e. absurd (cc))
gives_template Strange path x = (λ h. absurd (nothing_in x h), λ e. absurd (cc))

gives_strange : (kind : Kind) (path x : Text) → Contains (strange_in kind path) x ↔ GivesStrange kind path x
gives_strange Strange path x = (λ h. (refl, just_it path x h), λ (e, same). it_is_there path x same)
gives_strange (Rule folder) path x = (λ h. absurd (nothing_in x h), λ (e, same). absurd (cc))
gives_strange (Secret name) path x = (λ h. absurd (nothing_in x h), λ (e, same). absurd (cc))
gives_strange (Template folder) path x = (λ h. absurd (nothing_in x h), λ (e, same). absurd (cc))
gives_strange Shadowed path x = (λ h. absurd (nothing_in x h), λ (e, same). absurd (cc))
gives_strange Hidden path x = (λ h. absurd (nothing_in x h), λ (e, same). absurd (cc))

gives_shadowed : (kind : Kind) (path x : Text) → Contains (shadowed_in kind path) x ↔ GivesShadowed kind path x
gives_shadowed Shadowed path x = (λ h. (refl, just_it path x h), λ (e, same). it_is_there path x same)
gives_shadowed (Rule folder) path x = (λ h. absurd (nothing_in x h), λ (e, same). absurd (cc))
gives_shadowed (Secret name) path x = (λ h. absurd (nothing_in x h), λ (e, same). absurd (cc))
gives_shadowed (Template folder) path x = (λ h. absurd (nothing_in x h), λ (e, same). absurd (cc))
gives_shadowed Strange path x = (λ h. absurd (nothing_in x h), λ (e, same). absurd (cc))
gives_shadowed Hidden path x = (λ h. absurd (nothing_in x h), λ (e, same). absurd (cc))

-- ---- one path more

-- a path lies as one kind
same_kind : (mounts : List Row) (k : ℕ) (path : Text) (a b : Kind) → LiesAs mounts k a path → LiesAs mounts k b path → a ≡ b
same_kind mounts k path a b (rest, whole, is) (other, again, also) =
    let tails : 47 ∷ rest ≡ 47 ∷ other = append_cancel_left (row_at mounts k).dir (47 ∷ rest) (47 ∷ other) (sym whole ∙ again) in
    let same : rest ≡ other = cc in
    one_kind mounts k other a b (subst (λ (r : Text). IsKind mounts k r a) same is) also

module _ (Gives : Kind → Text → Text → Type 0) (mounts : List Row) (k : ℕ) where
  none_more : (list : List Text) → HasMore Gives mounts k [] list list
  none_more list x = (
    inl,
    λ h. elim h [
      | inl was ↦ was
      | inr (path, kind, none, lies, gives) ↦ absurd (nothing_in path none)
    ],
  )

  one_more : (paths : List Text) (path : Text) (kind : Kind) (old mid new added : List Text) → HasMore Gives mounts k paths old mid → new ≡ mid ++ added → LiesAs mounts k kind path
      → ((x : Text) → Contains added x ↔ Gives kind path x) → HasMore Gives mounts k (paths ++ path ∷ []) old new
  one_more paths path kind old mid new added so_far is lies tells x = (to, from)
    where
      to : Contains new x → Contains old x ⊎ ((p : Text) × (what : Kind) × Contains (paths ++ path ∷ []) p × LiesAs mounts k what p × Gives what p x)
      to has = elim (Contains-append_cases mid added x (subst (λ (l : List Text). Contains l x) is has)) [
        | inl before ↦ elim ((so_far x).0 before) [
          | inl was ↦ inl was
          | inr (p, what, listed, there, gives) ↦ inr (p, what, Contains-append_left paths (path ∷ []) p listed, there, gives)
        ]
        | inr now ↦ inr (path, kind, Contains-push paths path, lies, (tells x).0 now)
      ]

      from : Contains old x ⊎ ((p : Text) × (what : Kind) × Contains (paths ++ path ∷ []) p × LiesAs mounts k what p × Gives what p x) → Contains new x
      from (inl was) = subst (λ (l : List Text). Contains l x) (sym is) (Contains-append_left mid added x ((so_far x).1 (inl was)))
      from (inr (p, what, listed, there, gives)) = subst (λ (l : List Text). Contains l x) (sym is) (elim (Contains-push_cases paths path p listed) [
        | inl before ↦ Contains-append_left mid added x ((so_far x).1 (inr (p, what, before, there, gives)))
        | inr here ↦ (let same : what ≡ kind = same_kind mounts k p what kind there (subst (LiesAs mounts k kind) here lies) in
            Contains-append_right mid added x ((tells x).1 (subst (λ (w : Kind). Gives w path x) same (subst (λ (q : Text). Gives what q x) (sym here) gives))))
      ])

pub none_grown : (mounts : List Row) (k : ℕ) (seen : Seen) → AddsPaths mounts k [] seen seen
none_grown mounts k seen = record {
  names = none_more GivesName mounts k seen.names.items;
  rules = none_more GivesRule mounts k seen.rules.items;
  templates = none_more GivesTemplate mounts k seen.templates.items;
  strange = none_more GivesStrange mounts k seen.strange.items;
  shadowed = none_more GivesShadowed mounts k seen.shadowed.items;
}

pub grown_more : (mounts : List Row) (k : ℕ) (paths : List Text) (path : Text) (old mid new : Seen) (kind : Kind) → AddsPaths mounts k paths old mid → LiesAs mounts k kind path → IsWith mid new kind path → AddsPaths mounts k (paths ++ path ∷ []) old new
grown_more mounts k paths path old mid new kind so_far lies with = record {
  names = one_more GivesName mounts k paths path kind old.names.items mid.names.items new.names.items (name_in kind) so_far.names with.names lies (gives_name kind path);
  rules = one_more GivesRule mounts k paths path kind old.rules.items mid.rules.items new.rules.items (rule_in kind) so_far.rules with.rules lies (gives_rule kind path);
  templates = one_more GivesTemplate mounts k paths path kind old.templates.items mid.templates.items new.templates.items (template_in kind) so_far.templates with.templates lies (gives_template kind path);
  strange = one_more GivesStrange mounts k paths path kind old.strange.items mid.strange.items new.strange.items (strange_in kind path) so_far.strange with.strange lies (gives_strange kind path);
  shadowed = one_more GivesShadowed mounts k paths path kind old.shadowed.items mid.shadowed.items new.shadowed.items (shadowed_in kind path) so_far.shadowed with.shadowed lies (gives_shadowed kind path);
}

-- ---- the paths of a tree

pub tree_below : (root : Text) (files : Files) (mounts : List Row) (k : ℕ) (paths : List Text) → IsTree root files (row_at mounts k).dir paths → AllLieBelow mounts k paths
tree_below root files mounts k paths tree path has = (let lies = ((tree.listing.each path).0 has).0 in (lies.rest, lies.whole))
