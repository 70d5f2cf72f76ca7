-- The lines of a secret, folder by folder.
use Rattle.std.proofs.Common.{◌≡◌, ◌≢◌, ℕ, Bor, Bool, cond, eqb, true, false, zero, ne_eqb, ◌+◌, ◌-◌, ◌<◌, List, [], ◌∷◌, ◌++◌, length, get_or, take, drop, suc, refl, ap, sym, ◌∙◌, arith, append_assoc, length-append}
use Rattle.std.proofs.lemmas.List.{drop_at, append-nil, get_or_default}
use Rattle.std.specs.Prelude.{Option, Some, None, MatchOption, bytes_eq}
use Rattle.std.specs.List.{repeat}
use Rattle.std.proofs.lemmas.Slice.Eq.{bytes_eq-Decides}
use Rattle.std.proofs.lemmas.List.Splits.{slice_split_none, slice_split_at}
use Rattle.gopass_base.specs.Text.{Text}
use Rattle.gopass_base.specs.Parts.{parts}
use Rattle.mount_table.specs.Names.{folders}
use Rattle.mount_table.specs.NameFaults.{span}
use Rattle.mount_table.specs.Prefixes.{rest_start, Holds}
use Rattle.mount_table.proofs.PartLemmas.{parts_fill}
use Rattle.gopass_base.proofs.JoinLemmas.{parts_join}
use Rattle.mount_table.proofs.FolderLemmas.{bytes_by_holds}
use Rattle.mount_table.proofs.RestLemmas.{start_other}
use Rattle.listing_texts.specs.Tree.{below, common, last_part, tree_line, folder_line, folder_lines, secret_lines}

-- ---- the first folder of a text

pub first_of : (text : Text) (cut : Option (Bor Text × Bor Text)) → MatchOption cut ((i : ℕ) → i < length text → get_or text i 0 ≢ 47) (λ x. (text ≡ x.0.now ++ 47 ∷ x.1.now) × ((i : ℕ) → i < length x.0.now → get_or x.0.now i 0 ≢ 47))
    → MatchOption cut (parts text ≡ text ∷ []) (λ x. parts text ≡ x.0.now ∷ parts x.1.now)
first_of text None lacks = slice_split_none (λ b. eqb b 47) text (λ k d lt. ne_eqb _ 47 (λ e. lacks k lt (get_or_default text k 0 d lt ∙ e)))
first_of text (Some x) (whole, lacks) =
    ap parts whole ∙ slice_split_at (λ b. eqb b 47) x.0.now 47 x.1.now (λ k d lt. ne_eqb _ 47 (λ e. lacks k lt (get_or_default x.0.now k 0 d lt ∙ e))) refl

-- what is behind the first folder is shorter
pub shorter : (text first rest : Text) → parts text ≡ first ∷ parts rest → length rest < length text
shorter text first rest e = omega (arith, ap span e, (parts_fill text).1, (parts_fill rest).1)

-- ---- the lines of a secret from some depth on

-- of these folders the line before was inside the first k
abbrev pub lines_of : (depth k : ℕ) → List Text → Text → Text
lines_of depth k fs part = folder_lines (depth + k) (drop k fs) ++ tree_line (depth + length fs) part

abbrev pub lines_at : ℕ → (inside texts : List Text) → Text
lines_at depth inside texts = lines_of depth (common inside (folders texts)) (folders texts) (last_part texts)

pub lines_whole : (inside texts : List Text) → lines_at 0 inside texts ≡ secret_lines inside texts
lines_whole inside texts =
    ap (λ n. folder_lines n (drop (common inside (folders texts)) (folders texts)) ++ tree_line (0 + length (folders texts)) (last_part texts)) {x = 0 + common inside (folders texts)} {y = common inside (folders texts)} (omega arith)
    ∙ ap (λ n. folder_lines (common inside (folders texts)) (drop (common inside (folders texts)) (folders texts)) ++ tree_line n (last_part texts)) {x = 0 + length (folders texts)} {y = length (folders texts)} (omega arith)

one_in : (depth k : ℕ) (f : Text) (fs : List Text) (part : Text) → lines_of depth (suc k) (f ∷ fs) part ≡ lines_of (depth + 1) k fs part
one_in depth k f fs part =
    ap (λ n. folder_lines n (drop k fs) ++ tree_line (depth + suc (length fs)) part) {x = depth + suc k} {y = depth + 1 + k} (omega arith)
    ∙ ap (λ n. folder_lines (depth + 1 + k) (drop k fs) ++ tree_line n part) {x = depth + suc (length fs)} {y = depth + 1 + length fs} (omega arith)

one_line : (depth : ℕ) (f : Text) (fs : List Text) (part : Text) → lines_of depth 0 (f ∷ fs) part ≡ folder_line depth f ++ lines_of (depth + 1) 0 fs part
one_line depth f fs part =
    ap (λ n. folder_lines n (f ∷ fs) ++ tree_line (depth + suc (length fs)) part) {x = depth + 0} {y = depth} (omega arith)
    ∙ (append_assoc (folder_line depth f) (folder_lines (depth + 1) fs) (tree_line (depth + suc (length fs)) part)
    ∙ (ap (λ n. folder_line depth f ++ (folder_lines n fs ++ tree_line (depth + suc (length fs)) part)) {x = depth + 1} {y = depth + 1 + 0} (omega arith)
    ∙ ap (λ n. folder_line depth f ++ (folder_lines (depth + 1 + 0) fs ++ tree_line n part)) {x = depth + suc (length fs)} {y = depth + 1 + length fs} (omega arith)))

folders_first : (f : Text) (more : List Text) → 0 < length more → folders (f ∷ more) ≡ f ∷ folders more
folders_first f [] some = absurd (omega arith)
folders_first f (p ∷ more) some =
    ap (λ n. take n (f ∷ p ∷ more)) {x = suc (suc (length more)) - 1} {y = suc (length more)} (omega arith)
    ∙ ap (λ n. f ∷ take n (p ∷ more)) {x = length more} {y = suc (length more) - 1} (omega arith)

last_first : (f : Text) (more : List Text) → 0 < length more → last_part (f ∷ more) ≡ last_part more
last_first f [] some = absurd (omega arith)
last_first f (p ∷ more) some =
    ap (λ n. get_or (f ∷ p ∷ more) n []) {x = suc (suc (length more)) - 1} {y = suc (length more)} (omega arith)
    ∙ ap (λ n. get_or (p ∷ more) n []) {x = length more} {y = suc (length more) - 1} (omega arith)

abbrev lines_with : (depth : ℕ) → (inside fs : List Text) → Text → Text
lines_with depth inside fs part = lines_of depth (common inside fs) fs part

lines_first : (depth : ℕ) (inside : List Text) (f : Text) (more : List Text) → 0 < length more → lines_at depth inside (f ∷ more) ≡ lines_with depth inside (f ∷ folders more) (last_part more)
lines_first depth inside f more some = λ i. lines_with depth inside (folders_first f more some i) (last_first f more some i)

-- the folder is one that the line before was inside
pub folder_shared : (depth : ℕ) (inside after : List Text) (f : Text) (more : List Text) → 0 < length more → common inside (f ∷ folders more) ≡ common after (folders more) + 1
    → lines_at depth inside (f ∷ more) ≡ lines_at (depth + 1) after more
folder_shared depth inside after f more some shared =
    lines_first depth inside f more some
    ∙ (ap (λ k. lines_of depth k (f ∷ folders more) (last_part more)) {x = common inside (f ∷ folders more)} {y = suc (common after (folders more))} (omega (arith, shared))
    ∙ one_in depth (common after (folders more)) f (folders more) (last_part more))

-- the folder is the first that it was not inside
pub folder_new : (depth : ℕ) (inside : List Text) (f : Text) (more : List Text) → 0 < length more → common inside (f ∷ folders more) ≡ 0
    → lines_at depth inside (f ∷ more) ≡ folder_line depth f ++ lines_at (depth + 1) [] more
folder_new depth inside f more some apart =
    lines_first depth inside f more some
    ∙ (ap (λ k. lines_of depth k (f ∷ folders more) (last_part more)) apart ∙ one_line depth f (folders more) (last_part more))

-- ---- what two lists of folders have in common

common_same : (f : Text) (ps qs : List Text) → common (f ∷ ps) (f ∷ qs) ≡ common ps qs + 1
common_same f ps qs = ap (λ b. cond b (common ps qs + 1) 0) ((bytes_eq-Decides f f).1 refl)

common_apart : (ps : List Text) (f : Text) (qs : List Text) → ((more : List Text) → ps ≢ f ∷ more) → common ps (f ∷ qs) ≡ 0
common_apart [] f qs apart = refl
common_apart (p ∷ ps) f qs apart = other (bytes_eq p f) (bytes_eq-Decides p f).0
  where
    other : (b : Bool) → (b ≡ true → p ≡ f) → cond b (common ps qs + 1) 0 ≡ 0
    other true same = absurd (apart ps (ap (λ (t : Text). t ∷ ps) (same refl)))
    other false same = refl

-- ---- whether a text begins with a folder

pub begins_so : (text first after folder : Text) → parts text ≡ first ∷ parts after → bytes_eq first folder ≡ true → folders (parts text) ≡ folder ∷ folders (parts after)
begins_so text first after folder e same =
    ap (λ (ps : List Text). folders ps) e
    ∙ (folders_first first (parts after) (parts_fill after).0 ∙ ap (λ (t : Text). t ∷ folders (parts after)) ((bytes_eq-Decides first folder).0 same))

-- ---- one turn of a loop over the folders of a secret

pub goes_in : (old now whole : Text) (depth : ℕ) (inside after left folder below : Text) → old ++ lines_at depth (folders (parts inside)) (parts left) ≡ whole → parts left ≡ folder ∷ parts below
    → folders (parts inside) ≡ folder ∷ folders (parts after) → now ≡ old → now ++ lines_at (depth + 1) (folders (parts after)) (parts below) ≡ whole
goes_in old now whole depth inside after left folder below lines cut shared same =
    ap (λ (t : Text). t ++ lines_at (depth + 1) (folders (parts after)) (parts below)) same
    ∙ (ap (λ (t : Text). old ++ t) (sym (ap (lines_at depth (folders (parts inside))) cut
    ∙ folder_shared depth (folders (parts inside)) (folders (parts after)) folder (parts below) (parts_fill below).0 (ap (λ (ps : List Text). common ps (folder ∷ folders (parts below))) shared ∙ common_same folder (folders (parts after)) (folders (parts below))))) ∙ lines)

pub prints : (old now whole : Text) (depth : ℕ) (inside left folder below : Text) → old ++ lines_at depth (folders (parts inside)) (parts left) ≡ whole → parts left ≡ folder ∷ parts below
    → ((more : List Text) → folders (parts inside) ≢ folder ∷ more) → now ≡ old ++ folder_line depth folder → now ++ lines_at (depth + 1) [] (parts below) ≡ whole
prints old now whole depth inside left folder below lines cut apart printed =
    ap (λ (t : Text). t ++ lines_at (depth + 1) [] (parts below)) printed
    ∙ (append_assoc old (folder_line depth folder) (lines_at (depth + 1) [] (parts below))
    ∙ (ap (λ (t : Text). old ++ t) (sym (ap (lines_at depth (folders (parts inside))) cut ∙ folder_new depth (folders (parts inside)) folder (parts below) (parts_fill below).0 (common_apart (folders (parts inside)) folder (folders (parts below)) apart))) ∙ lines))

-- ---- two spaces for each folder above

pub repeat_next : (n : ℕ) (xs : List ℕ) → repeat n xs ++ xs ≡ repeat (n + 1) xs
repeat_next n xs = next n ∙ ap (λ k. repeat k xs) {x = suc n} {y = n + 1} (omega arith)
  where
    next : (n : ℕ) → repeat n xs ++ xs ≡ repeat (suc n) xs
    next zero = sym (append-nil xs)
    next (suc n) = append_assoc xs (repeat n xs) xs ∙ ap (λ (t : List ℕ). xs ++ t) (next n)

-- ---- the rest of a name below a folder

pub rest_parts : (folder name : Text) → Holds folder name → parts (drop (rest_start folder name) name) ≡ below folder name
rest_parts [] name holds = refl
rest_parts (b ∷ folder) name holds =
    let (more, whole) = bytes_by_holds b folder name holds in
    ap parts (rest more whole) ∙ sym (ap (drop (length (parts (b ∷ folder)))) (ap parts whole ∙ parts_join (b ∷ folder) more) ∙ drop_at (parts (b ∷ folder)) (parts more) (length (parts (b ∷ folder))) refl)
  where
    rest : (more : Text) → name ≡ (b ∷ folder) ++ 47 ∷ more → drop (rest_start (b ∷ folder) name) name ≡ more
    rest more whole =
        ap (λ n. drop n name) (start_other (b ∷ folder) name (λ e. absurd (omega (arith, e))) holds)
        ∙ (ap (drop (length (b ∷ folder) + 1)) (whole ∙ sym (append_assoc (b ∷ folder) (47 ∷ []) more))
        ∙ drop_at ((b ∷ folder) ++ 47 ∷ []) more (length (b ∷ folder) + 1) (omega (arith, length-append (b ∷ folder) (47 ∷ []))))
