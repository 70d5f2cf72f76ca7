-- The rules that were read of the first folders, and of one folder more.
use Rattle.std.proofs.Common.{◌≡◌, inl, inr, ℕ, ◌+◌, ◌<◌, ◌≤◌, Bool, true, false, cond, List, [], ◌∷◌, ◌++◌, length, get_or, take, drop, Option, Some, None, refl, ap, sym, ◌∙◌, subst, arith, take-append-drop}
use Rattle.std.specs.Prelude.{Contains, Err}
use Rattle.std.specs.Ordering.{nat_cmp, eq_by_cmp}
use Rattle.std.specs.Cmp.Lexicographic.{slice_cmp}
use Rattle.std.specs.FinMap as map
use Rattle.std.proofs.lemmas.Bool.{true≢false}
use Rattle.std.proofs.lemmas.Cmp.{nat_list_cmp_total}
use Rattle.std.proofs.lemmas.List.{drop_more}
use Rattle.std.proofs.lemmas.List.Elements.{Contains-push, Contains-push_cases, Contains-append_left}
use Rattle.std.proofs.lemmas.Map.Lookups.{exact_bytes}
use Rattle.gopass_base.specs.Text.{Text}
use Rattle.mount_table.specs.Mounts.{IsMountOfFolder}
use Rattle.mount_table.specs.declared.mounts.Row.{Row}
use Rattle.disk_model.specs.Files.{Files}
use Rattle.recipient_files.specs.Ids.{Ids}
use Rattle.path_rules.specs.RuleMap.{RuleMap, rule_at}
use Rattle.recipient_files.proofs.SetLemmas.{is_among_tells, not_before}
use Rattle.gopass_base.specs.Order.{IsRising}
use Rattle.pending_journal.specs.Service.{without_service}
use Rattle.store_state.specs.Places.{rule_path}
use Rattle.store_state.specs.declared.fault.StoreFault.{StoreFault}
use Rattle.store_state.specs.declared.fault.StoreFault.TheVariants.{BadFile, Full, Disk, NoMemory}
use Rattle.store_state.specs.RuleFiles.{AreRules, IsBadThere, IsRuleThere, ReadsRule, TellsRule, with_rule}
use Rattle.store_state.proofs.TableLemmas.{equal, ties}

-- ---- a rule that came

get_insert : (rules : RuleMap) (folder : Text) (ids : Ids) (q : Text) → rule_at (map.insert rules folder ids) q ≡ cond (eq_by_cmp (slice_cmp nat_cmp) q folder) (Some ids) (rule_at rules q)
get_insert rules folder ids q = map.get-insert nat_list_cmp_total rules folder ids q

rule_here : (rules : RuleMap) (folder : Text) (rule : Option Ids) → rule_at rules folder ≡ None → rule_at (with_rule rules folder rule) folder ≡ rule
rule_here rules folder None none = none
rule_here rules folder (Some ids) none = get_insert rules folder ids folder ∙ ap (λ b. cond b (Some ids) (rule_at rules folder)) (ties folder folder refl)

apart : (q folder : Text) → (q ≡ folder → ⊥) → eq_by_cmp (slice_cmp nat_cmp) q folder ≡ false
apart q folder other = by (eq_by_cmp (slice_cmp nat_cmp) q folder) refl
  where
    by : (b : Bool) → eq_by_cmp (slice_cmp nat_cmp) q folder ≡ b → eq_by_cmp (slice_cmp nat_cmp) q folder ≡ false
    by true e = absurd (other (exact_bytes q folder (equal (slice_cmp nat_cmp q folder) e)))
    by false e = e

rule_apart : (rules : RuleMap) (folder : Text) (rule : Option Ids) (q : Text) → (q ≡ folder → ⊥) → rule_at (with_rule rules folder rule) q ≡ rule_at rules q
rule_apart rules folder None q other = refl
rule_apart rules folder (Some ids) q other = get_insert rules folder ids q ∙ ap (λ b. cond b (Some ids) (rule_at rules q)) (apart q folder other)

-- ---- the folders one by one

pub none_are : (root : Text) (files : Files) (mounts : List Row) → AreRules root files mounts [] map.empty
none_are root files mounts = record {
  each = λ folder (k, lt, is). absurd (omega (arith, lt));
  others = λ folder other. map.get-empty (slice_cmp nat_cmp) folder;
}

pub one_more : (root : Text) (files : Files) (mounts : List Row) (folders more : List Text) (folder : Text) (old new : RuleMap) (rule : Option Ids) → more ≡ folders ++ folder ∷ [] → (Contains folders folder → ⊥)
    → AreRules root files mounts folders old → IsRuleThere root files mounts folder rule → new ≡ with_rule old folder rule → AreRules root files mounts more new
one_more root files mounts folders more folder old new rule is fresh are there now = record { each = each; others = others }
  where
    gives : (q : Text) → (q ≡ folder → ⊥) → rule_at new q ≡ rule_at old q
    gives q other = ap (λ rules. rule_at rules q) now ∙ rule_apart old folder rule q other

    here : rule_at new folder ≡ rule
    here = ap (λ rules. rule_at rules folder) now ∙ rule_here old folder rule (are.others folder fresh)

    each : (q : Text) → Contains more q → IsRuleThere root files mounts q (rule_at new q)
    each q has = elim (Contains-push_cases folders folder q (subst (λ (l : List Text). Contains l q) is has)) [
      | inl before ↦ subst (IsRuleThere root files mounts q) (sym (gives q (λ same. fresh (subst (Contains folders) same before)))) (are.each q before)
      | inr same ↦ subst (λ (f : Text). IsRuleThere root files mounts f (rule_at new f)) same (subst (IsRuleThere root files mounts folder) (sym here) there)
    ]

    others : (q : Text) → ¬ Contains more q → rule_at new q ≡ None
    others q out = gives q (λ same. out (subst (λ (l : List Text). Contains l q) (sym is) (subst (Contains (folders ++ folder ∷ [])) (sym same) (Contains-push folders folder))))
        ∙ are.others q (λ before. out (subst (λ (l : List Text). Contains l q) (sym is) (Contains-append_left folders (folder ∷ []) q before)))

-- how many rules there are then
pub few_more : (rules : RuleMap) (folder : Text) (rule : Option Ids) → map.len (with_rule rules folder rule) ≤ map.len rules + 1
few_more rules folder None = omega arith
few_more rules folder (Some ids) = by (map.contains_key rules folder) (map.len-insert nat_list_cmp_total rules folder ids)
  where
    by : (b : Bool) → map.len (map.insert rules folder ids) ≡ cond b (map.len rules) (map.len rules + 1) → map.len (map.insert rules folder ids) ≤ map.len rules + 1
    by true e = omega (arith, e)
    by false e = omega (arith, e)

-- an item of a rising list is none of those before it
pub none_before : (folders : List Text) (i : ℕ) (folder : Text) → IsRising folders → i < length folders → folder ≡ get_or folders i folder → Contains (take i folders) folder → ⊥
none_before folders i folder up lt is has =
    let whole : folders ≡ take i folders ++ folder ∷ drop (i + 1) folders = sym (take-append-drop i folders) ∙ ap (λ l. take i folders ++ l) (drop_more folders i folder lt ∙ ap (λ f. f ∷ drop (i + 1) folders) (sym is)) in
    let out = not_before (take i folders) folder (drop (i + 1) folders) (subst IsRising whole up) in
    let within = (is_among_tells (take i folders) folder).1 has in
    true≢false (sym within ∙ out)

-- a rule file that is read and tells a fault is bad there
pub told_there : (root : Text) (files : Files) (mounts : List Row) (folder path bytes : Text) (k : ℕ) → IsMountOfFolder mounts folder k → path ≡ rule_path mounts k folder
    → without_service root files path ≡ Some bytes → length bytes ≤ 65536 → (fault : StoreFault) → TellsRule path bytes (Err fault) → ReadsRule root files mounts folder (Err fault)
told_there root files mounts folder path bytes k mount at here short (BadFile other line) (same, bad, first, is) =
    subst (λ (p : Text). IsBadThere root files mounts folder p line) (sym same) (k, mount, at, bytes, here, inl (short, bad, first, is))
told_there root files mounts folder path bytes k mount at here short (Full kind) t = absurd t
told_there root files mounts folder path bytes k mount at here short Disk t = absurd t
told_there root files mounts folder path bytes k mount at here short NoMemory t = tt
