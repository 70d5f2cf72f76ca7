-- The rule that is looked up part by part is that of the longest folder, and there is one at most.
use Rattle.std.proofs.Common.{◌≡◌, inl, inr, ℕ, zero, suc, ◌<◌, ◌≤◌, List, [], length, get_or, Bool, true, false, nat_le, if◌then◌else◌, Option, Some, None, refl, ap, sym, ◌∙◌, subst, arith}
use Rattle.std.specs.Option.{option_or}
use Rattle.std.proofs.lemmas.Bool.{cases_lt}
use Rattle.std.proofs.lemmas.Bool.Decides.{nat_tests}
use Rattle.gopass_base.specs.Text.{Text}
use Rattle.gopass_base.specs.Parts.{parts}
use Rattle.mount_table.specs.Names.{IsName}
use Rattle.mount_table.specs.Prefixes.{folder_parts}
use Rattle.mount_table.proofs.MountLemmas.{one_holder}
use Rattle.recipient_files.specs.Ids.{Ids}
use Rattle.path_rules.specs.RuleMap.{RuleMap, rule_at, HasRule}
use Rattle.path_rules.specs.Governing.{CanGovern, Governs, front, longest_rule, governing_below, IsSetAt}
use Rattle.path_rules.proofs.FrontLemmas.{front_depth, front_holds, one_front, holds_less}

-- ---- the longest among folders with fewer than m parts

record IsLongestBelow (rules : RuleMap) (least : ℕ) (name : Text) (m : ℕ) (ids : Ids) : Type 0 where
  folder : Text
  can : CanGovern least folder name
  ruled : rule_at rules folder ≡ Some ids
  longest : (other : Text) → CanGovern least other name → HasRule rules other → length (folder_parts other) < m → length (folder_parts other) ≤ length (folder_parts folder)

abbrev GovernsBelow : RuleMap → ℕ → Text → ℕ → Option Ids → Type 0
GovernsBelow rules least name m None = (folder : Text) → CanGovern least folder name → length (folder_parts folder) < m → rule_at rules folder ≡ None
GovernsBelow rules least name m (Some ids) = IsLongestBelow rules least name m ids

at_most : (k n : ℕ) → k < suc n → (n < k → ⊥) → k ≤ n
at_most k n lt not = omega arith

ruled_not : (rules : RuleMap) (folder : Text) → rule_at rules folder ≡ None → HasRule rules folder → ⊥
ruled_not rules folder none (ids, some) = absurd (cc)

-- one folder more, which has n parts and no rule
none_here : (rules : RuleMap) (least : ℕ) (name : Text) (n : ℕ) (found : Option Ids) → rule_at rules (front n name) ≡ None → GovernsBelow rules least name n found → GovernsBelow rules least name (suc n) found
none_here rules least name n None none h = λ folder can lt. elim (cases_lt (length (folder_parts folder)) n) [
  | inl below ↦ h folder can below
  | inr same ↦ (let is : length (folder_parts folder) ≡ n = omega arith in ap (rule_at rules) (one_front folder name can.holds ∙ ap (λ k. front k name) is) ∙ none)
]
none_here rules least name n (Some ids) none h = record {
  folder = h.folder;
  can = h.can;
  ruled = h.ruled;
  longest = λ other can has lt. elim (cases_lt (length (folder_parts other)) n) [
    | inl below ↦ h.longest other can has below
    | inr same ↦ (let is : length (folder_parts other) ≡ n = omega arith in absurd (ruled_not rules other (ap (rule_at rules) (one_front other name can.holds ∙ ap (λ k. front k name) is) ∙ none) has))
  ];
}

-- one folder more, which has n parts and a rule
some_here : (rules : RuleMap) (least : ℕ) (name : Text) (n : ℕ) (ids : Ids) → IsName name → n < length (parts name) → least ≤ n → rule_at rules (front n name) ≡ Some ids → GovernsBelow rules least name (suc n) (Some ids)
some_here rules least name n ids good lt deep some = record {
  folder = front n name;
  can = record { holds = front_holds name n good lt; deep = omega (arith, front_depth name n good lt) };
  ruled = some;
  longest = λ other can has below. omega (arith, front_depth name n good lt, below);
}

too_short : (rules : RuleMap) (least : ℕ) (name : Text) (n : ℕ) → n < least → GovernsBelow rules least name (suc n) None
too_short rules least name n lt = λ folder can below. (let deep = can.deep in absurd (omega arith))

one_more : (rules : RuleMap) (least : ℕ) (name : Text) (n : ℕ) (found : Option Ids) → IsName name → n < length (parts name) → GovernsBelow rules least name n found
    → (b : Bool) → nat_le least n ≡ b → (r : Option Ids) → rule_at rules (front n name) ≡ r → GovernsBelow rules least name (suc n) (if b then option_or r found else None)
one_more rules least name n found good lt h false e r is = too_short rules least name n (grind (arith, nat_tests))
one_more rules least name n found good lt h true e None is = none_here rules least name n found is h
one_more rules least name n found good lt h true e (Some ids) is = some_here rules least name n ids good lt (grind (arith, nat_tests)) is

computed_below : (rules : RuleMap) (least : ℕ) (name : Text) (m : ℕ) → IsName name → m ≤ length (parts name) → GovernsBelow rules least name m (longest_rule rules least name m)
computed_below rules least name zero good le = λ folder can lt. absurd (omega arith)
computed_below rules least name (suc n) good le = one_more rules least name n (longest_rule rules least name n) good (omega arith) (computed_below rules least name n good (omega arith)) (nat_le least n) refl (rule_at rules (front n name)) refl

from_all : (rules : RuleMap) (least : ℕ) (name : Text) (found : Option Ids) → GovernsBelow rules least name (length (parts name)) found → Governs rules least name found
from_all rules least name None h = λ folder can. h folder can (holds_less folder name can.holds)
from_all rules least name (Some ids) h = record {
  folder = h.folder;
  can = h.can;
  ruled = h.ruled;
  longest = λ other can has. h.longest other can has (holds_less other name can.holds);
}

pub computed : (rules : RuleMap) (least : ℕ) (name : Text) → IsName name → Governs rules least name (governing_below rules least name)
computed rules least name good = from_all rules least name (governing_below rules least name) (computed_below rules least name (length (parts name)) good (omega arith))

-- ---- one rule governs

pub one : (rules : RuleMap) (least : ℕ) (name : Text) (a b : Option Ids) → Governs rules least name a → Governs rules least name b → a ≡ b
one rules least name None None h k = refl
one rules least name None (Some ids) h k = (let some : HasRule rules k.folder = (ids, k.ruled) in absurd (ruled_not rules k.folder (h k.folder k.can) some))
one rules least name (Some ids) None h k = (let some : HasRule rules h.folder = (ids, h.ruled) in absurd (ruled_not rules h.folder (k h.folder h.can) some))
one rules least name (Some ids) (Some others) h k =
    let mine : HasRule rules h.folder = (ids, h.ruled) in
    let other : HasRule rules k.folder = (others, k.ruled) in
    let as_many : length (folder_parts h.folder) ≡ length (folder_parts k.folder) = omega (arith, h.longest k.folder k.can other, k.longest h.folder h.can mine) in
    let same : h.folder ≡ k.folder = one_holder name h.folder k.folder h.can.holds k.can.holds as_many in
    sym h.ruled ∙ (ap (rule_at rules) same ∙ k.ruled)

-- ---- the loop over the parts of a name

-- behind a folder with too few parts nothing is found yet
nothing_yet : (rules : RuleMap) (least : ℕ) (name : Text) (m : ℕ) → m ≤ least → longest_rule rules least name m ≡ None
nothing_yet rules least name zero le = refl
nothing_yet rules least name (suc n) le = ap (λ b. if b then option_or (rule_at rules (front n name)) (longest_rule rules least name n) else None) {x = nat_le least n} {y = false} (grind (arith, nat_tests))

pub step_short : (rules : RuleMap) (least : ℕ) (name : Text) (n : ℕ) (sets : List Ids) (found : Option ℕ) → n < least → IsSetAt sets found (longest_rule rules least name n) → IsSetAt sets found (longest_rule rules least name (suc n))
step_short rules least name n sets found lt h = subst (IsSetAt sets found) (nothing_yet rules least name n (omega arith) ∙ sym (nothing_yet rules least name (suc n) lt)) h

deep_enough : (rules : RuleMap) (least : ℕ) (name : Text) (n : ℕ) → least ≤ n → longest_rule rules least name (suc n) ≡ option_or (rule_at rules (front n name)) (longest_rule rules least name n)
deep_enough rules least name n le = ap (λ b. if b then option_or (rule_at rules (front n name)) (longest_rule rules least name n) else None) {x = nat_le least n} {y = true} (grind (arith, nat_tests))

pub step_none : (rules : RuleMap) (least : ℕ) (name : Text) (n : ℕ) (sets : List Ids) (found : Option ℕ) → least ≤ n → rule_at rules (front n name) ≡ None → IsSetAt sets found (longest_rule rules least name n) → IsSetAt sets found (longest_rule rules least name (suc n))
step_none rules least name n sets found le none h = subst (IsSetAt sets found) (sym (deep_enough rules least name n le ∙ ap (λ r. option_or r (longest_rule rules least name n)) none)) h

pub step_some : (rules : RuleMap) (least : ℕ) (name : Text) (n : ℕ) (sets : List Ids) (index : ℕ) → least ≤ n → index < length sets → rule_at rules (front n name) ≡ Some (get_or sets index []) → IsSetAt sets (Some index) (longest_rule rules least name (suc n))
step_some rules least name n sets index le inside some = (inside, deep_enough rules least name n le ∙ ap (λ r. option_or r (longest_rule rules least name n)) some)
