-- One turn of the loop that looks for the nearest rule, and its end.
use Rattle.std.proofs.Common.{[], get_or, ◌≡◌, ℕ, suc, ◌+◌, ◌-◌, ◌<◌, ◌≤◌, List, length, take, Option, Some, refl, ap, sym, ◌∙◌, subst, arith}
use Rattle.std.proofs.lemmas.List.{get_or_default}
use Rattle.gopass_base.specs.Text.{Text}
use Rattle.gopass_base.specs.Parts.{parts}
use Rattle.mount_table.specs.NameFaults.{start_of}
use Rattle.recipient_files.specs.Ids.{Ids}
use Rattle.path_rules.specs.RuleMap.{RuleMap, AreEntries, map_of, IsSpot}
use Rattle.path_rules.specs.Governing.{front, longest_rule, governing_below, IsSetAt}
use Rattle.path_rules.specs.declared.entries.Spot.{Spot}
use Rattle.path_rules.specs.declared.entries.Spot.TheVariants.{At, Before}
use Rattle.path_rules.proofs.FrontLemmas.{front_bytes, start_before, start_from}
use Rattle.path_rules.proofs.GoverningLemmas.{step_short, step_none, step_some}
use Rattle.path_rules.proofs.MapLemmas.{turned_spot, found_at, found_nowhere}

-- what is found among the folders of fewer than n parts, from any least number of parts on that begins at `from`
abbrev pub IsSoFar : List Text → List Ids → (text : Text) → (from n : ℕ) → Option ℕ → Type 0
IsSoFar fs ss text from n found = (least : ℕ) → least < length (parts text) → from ≡ start_of (parts text) least → IsSetAt ss found (longest_rule (map_of fs ss) least text n)

pub turn_short : (fs : List Text) (ss : List Ids) (text : Text) (from at n m : ℕ) (found : Option ℕ) → n < length (parts text) → at ≡ start_of (parts text) n → m ≡ n + 1 → at < from → IsSoFar fs ss text from n found → IsSoFar fs ss text from m found
turn_short fs ss text from at n m found inside begun count short h = λ least lt is.
    let before : n < least = start_before (parts text) n least (omega arith) (omega (arith, begun, is, short)) in
    let next : suc n ≡ m = omega (arith, count) in
    subst (λ k. IsSetAt ss found (longest_rule (map_of fs ss) least text k)) next (step_short (map_of fs ss) least text n ss found before (h least lt is))

-- the folder that is looked up is the front of n parts
spot_of_front : (fs : List Text) (text folder : Text) (at n : ℕ) (spot other : Spot) → n < length (parts text) → at ≡ start_of (parts text) n → folder ≡ take (at - 1) text → IsSpot fs folder spot → spot ≡ other → IsSpot fs (front n text) other
spot_of_front fs text folder at n spot other inside begun folder_is here is =
    turned_spot fs fs (front n text) folder spot other refl (folder_is ∙ (ap (λ k. take (k - 1) text) begun ∙ front_bytes text n inside)) is here

pub turn_none : (fs : List Text) (ss : List Ids) (text folder : Text) (from at n m index : ℕ) (spot : Spot) (found : Option ℕ) → AreEntries fs ss → n < length (parts text) → at ≡ start_of (parts text) n → m ≡ n + 1 → from ≤ at
    → folder ≡ take (at - 1) text → IsSpot fs folder spot → spot ≡ Before index → IsSoFar fs ss text from n found → IsSoFar fs ss text from m found
turn_none fs ss text folder from at n m index spot found are inside begun count deep folder_is here spot_is h = λ least lt is.
    let le : least ≤ n = start_from (parts text) least n (omega arith) (omega (arith, begun, is, deep)) (omega arith) in
    let next : suc n ≡ m = omega (arith, count) in
    subst (λ k. IsSetAt ss found (longest_rule (map_of fs ss) least text k)) next
    (step_none (map_of fs ss) least text n ss found le (found_nowhere fs ss (front n text) index are (spot_of_front fs text folder at n spot (Before index) inside begun folder_is here spot_is)) (h least lt is))

pub turn_some : (fs : List Text) (ss : List Ids) (text folder : Text) (from at n m index : ℕ) (spot : Spot) → AreEntries fs ss → n < length (parts text) → at ≡ start_of (parts text) n → m ≡ n + 1 → from ≤ at
    → folder ≡ take (at - 1) text → IsSpot fs folder spot → spot ≡ At index → IsSoFar fs ss text from m (Some index)
turn_some fs ss text folder from at n m index spot are inside begun count deep folder_is here spot_is = λ least lt is.
    let le : least ≤ n = start_from (parts text) least n (omega arith) (omega (arith, begun, is, deep)) (omega arith) in
    let next : suc n ≡ m = omega (arith, count) in
    let there : IsSpot fs (front n text) (At index) = spot_of_front fs text folder at n spot (At index) inside begun folder_is here spot_is in
    let many : length ss ≡ length fs = are.as_many in
    subst (λ k. IsSetAt ss (Some index) (longest_rule (map_of fs ss) least text k)) next
    (step_some (map_of fs ss) least text n ss index le (omega (arith, there.0, many)) (found_at fs ss (front n text) index are there))

pub all_seen : (fs : List Text) (ss : List Ids) (text name : Text) (from n : ℕ) (found : Option ℕ) → text ≡ name → n ≡ length (parts text) → IsSoFar fs ss text from n found
    → (least : ℕ) → least < length (parts name) → from ≡ start_of (parts name) least → IsSetAt ss found (governing_below (map_of fs ss) least name)
all_seen fs ss text name from n found same all h =
    subst (λ (t : Text). (least : ℕ) → least < length (parts t) → from ≡ start_of (parts t) least → IsSetAt ss found (governing_below (map_of fs ss) least t)) same
    (λ least lt is. subst (λ k. IsSetAt ss found (longest_rule (map_of fs ss) least text k)) all (h least lt is))

-- the set that is handed over is the rule
pub handed : (fs gs : List Text) (ss ts : List Ids) (rules : RuleMap) (least : ℕ) (name : Text) (found : Option ℕ) (index : ℕ) (set : Ids) → gs ≡ fs → ts ≡ ss → map_of fs ss ≡ rules → found ≡ Some index
    → IsSetAt ts found (governing_below (map_of gs ts) least name) → set ≡ get_or ss index set → Some set ≡ governing_below rules least name
handed fs gs ss ts rules least name found index set gs_is ts_is view was h is =
    let there : IsSetAt ss (Some index) (governing_below rules least name) =
    subst (λ (r : Option ℕ). IsSetAt ss r (governing_below rules least name)) was
    (subst (λ (m : RuleMap). IsSetAt ss found (governing_below m least name)) ((λ i. map_of (gs_is i) (ts_is i)) ∙ view)
    (subst (λ (l : List Ids). IsSetAt l found (governing_below (map_of gs ts) least name)) ts_is h)) in
    (λ i. Some (is i)) ∙ ((λ i. Some (get_or_default ss index set [] there.0 i)) ∙ sym there.1)
