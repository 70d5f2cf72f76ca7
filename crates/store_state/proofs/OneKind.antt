-- What lies at a rest is of one kind.
use Rattle.std.proofs.Common.{◌≡◌, inl, inr, ℕ, ◌≤◌, List, [], ◌∷◌, ◌++◌, length, refl, ap, sym, ◌∙◌, subst, arith}
use Rattle.std.specs.Prelude.{All, codes}
use Rattle.std.proofs.lemmas.List.{append_assoc, append_cancel_right}
use Rattle.std.proofs.lemmas.List.Elements.{All-nil, All-cons, All-head, All-tail}
use Rattle.gopass_base.specs.Text.{Text}
use Rattle.gopass_base.specs.Parts.{parts, IsHidden}
use Rattle.mount_table.specs.Names.{IsNamePart}
use Rattle.mount_table.specs.Mounts.{row_at, IsMountOf, IsMountOfFolder}
use Rattle.mount_table.specs.declared.mounts.Row.{Row}
use Rattle.mount_table.proofs.PartLemmas.{parts_fill}
use Rattle.gopass_base.proofs.JoinLemmas.{parts_join}
use Rattle.mount_table.proofs.FileLemmas.{with_ending, parts_with_ending}
use Rattle.store_state.specs.declared.kind.Kind.{Kind}
use Rattle.store_state.specs.declared.kind.Kind.TheVariants.{Secret, Rule, Template, Shadowed, Hidden, Strange}
use Rattle.store_state.specs.Places.{HasHidden, IsFolderFileAt, IsKind, IsRuleOrTemplate, IsSecretAt, folder_under, in_folder, rule_file, template_file}
use Rattle.store_state.proofs.KindLemmas.{in_folder_once}

-- ---- texts with other last bytes differ

pub last_is : (xs ys : Text) (a b : ℕ) → xs ++ a ∷ [] ≡ ys ++ b ∷ [] → a ≡ b
last_is [] [] a b e = cc
last_is [] (y ∷ []) a b e = absurd (cc)
last_is [] (y ∷ z ∷ ys) a b e = absurd (cc)
last_is (x ∷ []) [] a b e = absurd (cc)
last_is (x ∷ z ∷ xs) [] a b e = absurd (cc)
last_is (x ∷ xs) (y ∷ ys) a b e = (let more : xs ++ a ∷ [] ≡ ys ++ b ∷ [] = cc in last_is xs ys a b more)

-- what stands before the name of a file of a folder
pub front_of : Text → Text
front_of [] = []
front_of (b ∷ below) = (b ∷ below) ++ 47 ∷ []

pub in_folder_is : (below file : Text) → in_folder below file ≡ front_of below ++ file
unfolding front_of
in_folder_is [] file = refl
in_folder_is (b ∷ below) file = sym (append_assoc (b ∷ below) (47 ∷ []) file)

pub differ : (xs ys us vs : Text) (a b : ℕ) → xs ++ (us ++ a ∷ []) ≡ ys ++ (vs ++ b ∷ []) → a ≡ b
differ xs ys us vs a b e = last_is (xs ++ us) (ys ++ vs) a b (append_assoc xs us (a ∷ []) ∙ (e ∙ sym (append_assoc ys vs (b ∷ []))))

no_rule : (stem below : Text) → stem ++ codes ".gpg" ≡ in_folder below rule_file → ⊥
no_rule stem below e = absurd (omega (arith, differ stem (front_of below) (codes ".gp") (codes ".gpg-i") 103 100 (e ∙ in_folder_is below rule_file)))

no_template : (stem below : Text) → stem ++ codes ".gpg" ≡ in_folder below template_file → ⊥
no_template stem below e = absurd (omega (arith, differ stem (front_of below) (codes ".gp") (codes ".pass-templat") 103 101 (e ∙ in_folder_is below template_file)))

rule_no_template : (one other : Text) → in_folder one rule_file ≡ in_folder other template_file → ⊥
rule_no_template one other e = absurd (omega (arith, differ (front_of one) (front_of other) (codes ".gpg-i") (codes ".pass-templat") 100 101 (sym (in_folder_is one rule_file) ∙ (e ∙ in_folder_is other template_file))))

-- ---- a secret is nothing else

pub secret_no_file : (alias rest name folder : Text) → IsSecretAt alias rest name → IsRuleOrTemplate alias rest folder → ⊥
secret_no_file alias rest name folder h (inl rule) = no_rule h.stem rule.below (sym h.file ∙ rule.there)
secret_no_file alias rest name folder h (inr template) = no_template h.stem template.below (sym h.file ∙ template.there)

pub one_secret : (alias rest a b : Text) → IsSecretAt alias rest a → IsSecretAt alias rest b → a ≡ b
one_secret alias rest a b h k = h.named ∙ (ap (in_folder alias) (append_cancel_right h.stem k.stem (codes ".gpg") (sym h.file ∙ k.file)) ∙ sym k.named)

parts_under : (alias stem : Text) → All IsNamePart (parts (in_folder alias stem)) → All IsNamePart (parts stem)
parts_under [] stem h = h
parts_under (b ∷ alias) stem h = later (parts (b ∷ alias)) (parts stem) (subst (All IsNamePart) (parts_join (b ∷ alias) stem) h)
  where
    later : (ps qs : List Text) → All IsNamePart (ps ++ qs) → All IsNamePart qs
    later [] qs h = h
    later (p ∷ ps) qs h = later ps qs (All-tail IsNamePart p (ps ++ qs) h)

shown_with : (part : Text) → IsNamePart part → ¬ IsHidden (part ++ codes ".gpg")
shown_with [] good hidden = (let some = good.some in absurd (omega arith))
shown_with (b ∷ part) good hidden = good.plain hidden

shown_parts : (ps : List Text) → 1 ≤ length ps → All IsNamePart ps → All (λ part. ¬ IsHidden part) (with_ending ps)
shown_parts [] some h = absurd (omega arith)
shown_parts (p ∷ []) some h = All-cons (λ part. ¬ IsHidden part) (p ++ codes ".gpg") [] (shown_with p (All-head IsNamePart p [] h)) (All-nil (λ part. ¬ IsHidden part))
shown_parts (p ∷ q ∷ ps) some h =
    (let good = All-head IsNamePart p (q ∷ ps) h in
    All-cons (λ part. ¬ IsHidden part) p (with_ending (q ∷ ps)) good.plain (shown_parts (q ∷ ps) (omega arith) (All-tail IsNamePart p (q ∷ ps) h)))

pub secret_shown : (alias rest name : Text) → IsSecretAt alias rest name → All (λ part. ¬ IsHidden part) (parts rest)
secret_shown alias rest name h =
    let good = h.good in
    let each = parts_under alias h.stem (subst (λ (t : Text). All IsNamePart (parts t)) h.named good.each) in
    subst (All (λ part. ¬ IsHidden part)) (sym (ap parts h.file ∙ parts_with_ending h.stem)) (shown_parts (parts h.stem) (parts_fill h.stem).0 each)

pub kind_of_secret : (mounts : List Row) (k : ℕ) (rest name : Text) (kind : Kind) → IsKind mounts k rest kind → IsSecretAt (row_at mounts k).alias rest name → IsMountOf mounts name k → kind ≡ Secret name
kind_of_secret mounts k rest name (Secret other) is h here = ap Secret (one_secret (row_at mounts k).alias rest other name is.0 h)
kind_of_secret mounts k rest name (Rule folder) is h here = absurd (secret_no_file (row_at mounts k).alias rest name folder h (inl is.0))
kind_of_secret mounts k rest name (Template folder) is h here = absurd (secret_no_file (row_at mounts k).alias rest name folder h (inr is.0))
kind_of_secret mounts k rest name Shadowed (inl (other, at, apart)) h here = absurd (apart (subst (λ (n : Text). IsMountOf mounts n k) (one_secret (row_at mounts k).alias rest name other h at) here))
kind_of_secret mounts k rest name Shadowed (inr (folder, at, apart)) h here = absurd (secret_no_file (row_at mounts k).alias rest name folder h at)
kind_of_secret mounts k rest name Hidden (hidden, other) h here = absurd (hidden (secret_shown (row_at mounts k).alias rest name h))
kind_of_secret mounts k rest name Strange (shown, other) h here = absurd (other name h)

-- ---- a file of a folder is nothing else

one_folder : (file alias rest a b : Text) → IsFolderFileAt file alias rest a → IsFolderFileAt file alias rest b → a ≡ b
one_folder file alias rest a b h k = h.named ∙ (ap (folder_under alias) (in_folder_once h.below k.below file (sym h.there ∙ k.there)) ∙ sym k.named)

hidden_last : (below file : Text) → parts file ≡ file ∷ [] → IsHidden file → All (λ part. ¬ IsHidden part) (parts (in_folder below file)) → ⊥
hidden_last [] file one hidden shown = All-head (λ part. ¬ IsHidden part) file [] (subst (All (λ part. ¬ IsHidden part)) one shown) hidden
hidden_last (b ∷ below) file one hidden shown =
    All-head (λ part. ¬ IsHidden part) file [] (later (parts (b ∷ below)) (file ∷ []) (subst (All (λ part. ¬ IsHidden part)) (parts_join (b ∷ below) file ∙ ap (λ ps. parts (b ∷ below) ++ ps) one) shown)) hidden
  where
    later : (ps qs : List Text) → All (λ part. ¬ IsHidden part) (ps ++ qs) → All (λ part. ¬ IsHidden part) qs
    later [] qs h = h
    later (p ∷ ps) qs h = later ps qs (All-tail (λ part. ¬ IsHidden part) p (ps ++ qs) h)

pub folder_hidden : (alias rest folder : Text) → IsRuleOrTemplate alias rest folder → HasHidden rest
folder_hidden alias rest folder (inl rule) shown = hidden_last rule.below rule_file refl refl (subst (λ (t : Text). All (λ part. ¬ IsHidden part) (parts t)) rule.there shown)
folder_hidden alias rest folder (inr template) shown = hidden_last template.below template_file refl refl (subst (λ (t : Text). All (λ part. ¬ IsHidden part) (parts t)) template.there shown)

module _ (mounts : List Row) (k : ℕ) (rest : Text) where
  kind_of_rule : (folder : Text) (kind : Kind) → IsKind mounts k rest kind → IsFolderFileAt rule_file (row_at mounts k).alias rest folder → IsMountOfFolder mounts folder k → kind ≡ Rule folder
  kind_of_rule folder (Secret name) is h here = absurd (secret_no_file (row_at mounts k).alias rest name folder is.0 (inl h))
  kind_of_rule folder (Rule other) is h here = ap Rule (one_folder rule_file (row_at mounts k).alias rest other folder is.0 h)
  kind_of_rule folder (Template other) is h here = absurd (rule_no_template h.below is.0.below (sym h.there ∙ is.0.there))
  kind_of_rule folder Shadowed (inl (name, at, apart)) h here = absurd (secret_no_file (row_at mounts k).alias rest name folder at (inl h))
  kind_of_rule folder Shadowed (inr (other, inl rule, apart)) h here = absurd (apart (subst (λ (f : Text). IsMountOfFolder mounts f k) (one_folder rule_file (row_at mounts k).alias rest folder other h rule) here))
  kind_of_rule folder Shadowed (inr (other, inr template, apart)) h here = absurd (rule_no_template h.below template.below (sym h.there ∙ template.there))
  kind_of_rule folder Hidden (hidden, other) h here = absurd (other folder (inl h))
  kind_of_rule folder Strange (shown, other) h here = absurd (shown (folder_hidden (row_at mounts k).alias rest folder (inl h)))

  kind_of_template : (folder : Text) (kind : Kind) → IsKind mounts k rest kind → IsFolderFileAt template_file (row_at mounts k).alias rest folder → IsMountOfFolder mounts folder k → kind ≡ Template folder
  kind_of_template folder (Secret name) is h here = absurd (secret_no_file (row_at mounts k).alias rest name folder is.0 (inr h))
  kind_of_template folder (Rule other) is h here = absurd (rule_no_template is.0.below h.below (sym is.0.there ∙ h.there))
  kind_of_template folder (Template other) is h here = ap Template (one_folder template_file (row_at mounts k).alias rest other folder is.0 h)
  kind_of_template folder Shadowed (inl (name, at, apart)) h here = absurd (secret_no_file (row_at mounts k).alias rest name folder at (inr h))
  kind_of_template folder Shadowed (inr (other, inl rule, apart)) h here = absurd (rule_no_template rule.below h.below (sym rule.there ∙ h.there))
  kind_of_template folder Shadowed (inr (other, inr template, apart)) h here = absurd (apart (subst (λ (f : Text). IsMountOfFolder mounts f k) (one_folder template_file (row_at mounts k).alias rest folder other h template) here))
  kind_of_template folder Hidden (hidden, other) h here = absurd (other folder (inr h))
  kind_of_template folder Strange (shown, other) h here = absurd (shown (folder_hidden (row_at mounts k).alias rest folder (inr h)))

  not_hidden : IsKind mounts k rest Shadowed → IsKind mounts k rest Hidden → ⊥
  not_hidden (inl (name, at, apart)) (hidden, other) = hidden (secret_shown (row_at mounts k).alias rest name at)
  not_hidden (inr (folder, at, apart)) (hidden, other) = other folder at

  not_strange : IsKind mounts k rest Shadowed → IsKind mounts k rest Strange → ⊥
  not_strange (inl (name, at, apart)) (shown, other) = other name at
  not_strange (inr (folder, at, apart)) (shown, other) = shown (folder_hidden (row_at mounts k).alias rest folder at)

  -- what lies at a rest is of one kind
  pub one_kind : (a b : Kind) → IsKind mounts k rest a → IsKind mounts k rest b → a ≡ b
  one_kind (Secret name) b h k' = sym (kind_of_secret mounts k rest name b k' h.0 h.1)
  one_kind (Rule folder) b h k' = sym (kind_of_rule folder b k' h.0 h.1)
  one_kind (Template folder) b h k' = sym (kind_of_template folder b k' h.0 h.1)
  one_kind a (Secret name) h k' = kind_of_secret mounts k rest name a h k'.0 k'.1
  one_kind a (Rule folder) h k' = kind_of_rule folder a h k'.0 k'.1
  one_kind a (Template folder) h k' = kind_of_template folder a h k'.0 k'.1
  one_kind Shadowed Shadowed h k' = refl
  one_kind Shadowed Hidden h k' = absurd (not_hidden h k')
  one_kind Shadowed Strange h k' = absurd (not_strange h k')
  one_kind Hidden Shadowed h k' = absurd (not_hidden k' h)
  one_kind Hidden Hidden h k' = refl
  one_kind Hidden Strange h k' = absurd (k'.0 h.0)
  one_kind Strange Shadowed h k' = absurd (not_strange k' h)
  one_kind Strange Hidden h k' = absurd (h.0 k'.0)
  one_kind Strange Strange h k' = refl
