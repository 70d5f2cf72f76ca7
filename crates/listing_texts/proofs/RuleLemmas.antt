-- The entries of a finite map are its keys, each with what is found of it.
use Rattle.std.proofs.Common.{◌≡◌, ℕ, zero, suc, ◌+◌, ◌<◌, ◌≤◌, T, List, [], ◌∷◌, ◌++◌, length, get_or, drop, map, cond, Some, None, refl, ap, sym, subst, ◌∙◌, arith, append_assoc, drop-cons}
use Rattle.std.specs.Ordering.{nat_cmp, is_lt, is_eq}
use Rattle.std.specs.declared.cmp.Ordering.{Ordering}
use Rattle.std.specs.declared.cmp.Ordering.TheVariants.{Greater}
use Rattle.std.specs.Cmp.Lexicographic.{slice_cmp}
use Rattle.std.specs.FinMap as finite
use Rattle.std.specs.FinMap.Entries.{is_sorted, below_all, find}
use Rattle.std.proofs.lemmas.Cmp.{nat_list_cmp_total, tied_itself}
use Rattle.std.proofs.lemmas.List.{append-nil, drop_all}
use Rattle.gopass_base.specs.Text.{Text}
use Rattle.gopass_base.proofs.OrderLemmas.{above, both, less}
use Rattle.recipient_files.specs.Ids.{Ids}
use Rattle.path_rules.specs.RuleMap.{RuleMap, rule_at}
use Rattle.listing_texts.specs.RuleLines.{lines_of_rule, rule_lines, recipients_listing}

abbrev order : Text → Text → Ordering
order = slice_cmp nat_cmp

key_at : (es : List (Text × Ids)) (k : ℕ) (d : Text × Ids) (q : Text) → k < length es → get_or (map (λ (e : Text × Ids). e.0) es) k q ≡ (get_or es k d).0
key_at [] k d q lt = absurd (omega arith)
key_at (e ∷ es) zero d q lt = refl
key_at (e ∷ es) (suc k) d q lt = key_at es k d q (omega arith)

as_many : (es : List (Text × Ids)) → length (map (λ (e : Text × Ids). e.0) es) ≡ length es
as_many [] = refl
as_many (e ∷ es) = ap suc (as_many es)

-- a key that stands behind another is above it
behind : (x : Text) (es : List (Text × Ids)) (k : ℕ) (d : Text × Ids) → T (below_all order x es) → k < length es → order (get_or es k d).0 x ≡ Greater
behind x [] k d h lt = absurd (omega arith)
behind x (e ∷ es) zero d h lt = above x e.0 (less (order x e.0) (both (is_lt (order x e.0)) (below_all order x es) h).0)
behind x (e ∷ es) (suc k) d h lt = behind x es k d (both (is_lt (order x e.0)) (below_all order x es) h).1 (omega arith)

find_at : (es : List (Text × Ids)) (k : ℕ) (d : Text × Ids) → T (is_sorted order es) → k < length es → find order (get_or es k d).0 es ≡ Some (get_or es k d).1
find_at [] k d up lt = absurd (omega arith)
find_at (e ∷ es) zero d up lt = ap (λ o. cond (is_eq o) (Some e.1) (find order e.0 es)) (tied_itself nat_list_cmp_total e.0)
find_at (e ∷ es) (suc k) d up lt =
    let parts = both (below_all order e.0 es) (is_sorted order es) up in
    ap (λ o. cond (is_eq o) (Some e.1) (find order (get_or es k d).0 es)) (behind e.0 es k d parts.0 (omega arith))
    ∙ find_at es k d parts.1 (omega arith)

-- the k-th entry is the k-th key with what is found of it
entry_at : (rules : RuleMap) (k : ℕ) (d : Text × Ids) (q : Text) → k < length (finite.keys rules)
    → ((get_or (finite.entries rules) k d).0 ≡ get_or (finite.keys rules) k q) × (rule_at rules (get_or (finite.keys rules) k q) ≡ Some (get_or (finite.entries rules) k d).1)
entry_at rules k d q lt =
    let inside : k < length (finite.entries rules) = omega (arith, as_many (finite.entries rules)) in
    let key : get_or (finite.keys rules) k q ≡ (get_or (finite.entries rules) k d).0 = key_at (finite.entries rules) k d q inside in (
      sym key,
      ap (λ (q : Text). rule_at rules q) key
          ∙ (finite.get-entries rules (get_or (finite.entries rules) k d).0 ∙ find_at (finite.entries rules) k d (finite.entries_sorted rules) inside),
    )

-- the k-th of these folders, which are the keys
pub record IsFolderAt (rules : RuleMap) (folders : List Text) (k : ℕ) (folder : Text) : Type 0 where
  pub keys : folders ≡ finite.keys rules
  pub inside : k < length folders
  pub is : folder ≡ get_or folders k folder

rule_of : (rules : RuleMap) (folders : List Text) (k : ℕ) (folder : Text) (d : Text × Ids) → IsFolderAt rules folders k folder
    → (k < length (finite.entries rules)) × ((get_or (finite.entries rules) k d).0 ≡ folder) × (rule_at rules folder ≡ Some (get_or (finite.entries rules) k d).1)
rule_of rules folders k folder d at =
    let inside : k < length (finite.keys rules) = subst (λ (l : List Text). k < length l) at.keys at.inside in
    let is : folder ≡ get_or (finite.keys rules) k folder = subst (λ (l : List Text). folder ≡ get_or l k folder) at.keys at.is in
    let entry = entry_at rules k d folder inside in
    (omega (arith, inside, as_many (finite.entries rules)), entry.0 ∙ sym is, ap (λ (q : Text). rule_at rules q) is ∙ entry.1)

-- each of them has a rule
pub has_rule : (rules : RuleMap) (folders : List Text) (k : ℕ) (folder : Text) → IsFolderAt rules folders k folder → rule_at rules folder ≡ None → ⊥
has_rule rules folders k folder at none =
    let found : Some (get_or (finite.entries rules) k (folder, [])).1 ≡ None = sym (rule_of rules folders k folder (folder, []) at).2 ∙ none in
    cc

-- the lines of one folder more
pub one_more : (rules : RuleMap) (folders : List Text) (k : ℕ) (folder : Text) (ids : Ids) (old new : Text) → IsFolderAt rules folders k folder → rule_at rules folder ≡ Some ids
    → old ++ rule_lines (drop k (finite.entries rules)) ≡ recipients_listing rules → new ≡ old ++ lines_of_rule folder ids → new ++ rule_lines (drop (k + 1) (finite.entries rules)) ≡ recipients_listing rules
one_more rules folders k folder ids old new at ruled so_far new_is =
    let (inside, key, found) = rule_of rules folders k folder (folder, ids) at in
    let same : Some (get_or (finite.entries rules) k (folder, ids)).1 ≡ Some ids = sym found ∙ ruled in
    let value : (get_or (finite.entries rules) k (folder, ids)).1 ≡ ids = cc in
    let next : suc k ≡ k + 1 = omega arith in
    let cut : rule_lines (drop k (finite.entries rules)) ≡ lines_of_rule folder ids ++ rule_lines (drop (k + 1) (finite.entries rules)) =
    ap rule_lines (drop-cons (finite.entries rules) k (folder, ids) inside) ∙ (λ i. lines_of_rule (key i) (value i) ++ rule_lines (drop (next i) (finite.entries rules))) in
    ap (λ (t : Text). t ++ rule_lines (drop (k + 1) (finite.entries rules))) new_is
    ∙ (append_assoc old (lines_of_rule folder ids) (rule_lines (drop (k + 1) (finite.entries rules))) ∙ (ap (λ (t : Text). old ++ t) (sym cut) ∙ so_far))

-- none is left
pub all_lines : (rules : RuleMap) (folders : List Text) (k : ℕ) (text : Text) → folders ≡ finite.keys rules → length folders ≤ k → text ++ rule_lines (drop k (finite.entries rules)) ≡ recipients_listing rules → text ≡ recipients_listing rules
all_lines rules folders k text keys le so_far =
    let none : drop k (finite.entries rules) ≡ [] = drop_all k (finite.entries rules) (omega (arith, ap length keys, as_many (finite.entries rules))) in
    sym (append-nil text) ∙ (ap (λ (es : List (Text × Ids)). text ++ rule_lines es) (sym none) ∙ so_far)
