-- The fault that is computed of a text is the one fault that it has.
use Rattle.std.proofs.Common.{◌≡◌, ℕ, zero, suc, ◌+◌, ◌<◌, ◌≤◌, ◌≢◌, Bool, true, false, not, ◌&&◌, cond, List, [], ◌∷◌, length, All, IsTrue, refl, ap, sym, ◌∙◌, subst, arith, ◌-◌, ◌⊎◌, inl, inr, take, length-take}
use Rattle.std.specs.Prelude.{Option, Some, None, MatchOption, Decides, if◌then◌else◌, ◌==◌, nat_le, nat_lt, nat_eq, slice_index, codes, bytes_eq}
use Rattle.std.specs.List.{list_all, ends_with}
use Rattle.std.proofs.lemmas.Bool.{and_parts, not-false}
use Rattle.std.proofs.lemmas.Bool.Decides.{nat_tests, Decides-by_and, Decides-not, Decides-eqb, not_from_Decides}
use Rattle.std.proofs.lemmas.Slice.Eq.{bytes_eq-Decides}
use Rattle.gopass_base.specs.Text.{Text, IsPrintable}
use Rattle.gopass_base.specs.Parts.{parts, IsHidden}
use Rattle.mount_table.specs.Names.{IsName, IsNamePart}
use Rattle.mount_table.specs.NameFaults.{Fails, IsGood, AreGood, IsGoodAt, IsFirstFault, IsFault, IsNameFault, is_folder, part_at, start_of}
use Rattle.mount_table.specs.Folders.{IsFolder, IsFolderText, IsFolderFault, without_slash}
use Rattle.mount_table.specs.FaultOf.{is_printable, kind_of_part, fault_or, first_fault, fault_of, name_fault, folder_fault}
use Rattle.mount_table.specs.declared.name.NameKind.{NameKind}
use Rattle.mount_table.specs.declared.name.NameKind.TheVariants.{Empty, Dots, Control, LongPart, LongName, ManyParts, FolderGpg}
use Rattle.mount_table.specs.declared.name.BadName.{BadName}
use Rattle.mount_table.proofs.NameLemmas.{good_no_fault, name_of, good_of}
use Rattle.mount_table.proofs.FolderNames.{root_folder, folder_of, good_of_folder, fault_no_folder}

-- ---- one part

printable_byte : (b : ℕ) → Decides (is_printable b) (IsPrintable b)
printable_byte b = (λ e. (grind (arith, nat_tests), grind (arith, nat_tests)), λ p. grind (arith, nat_tests, p.0, p.1))

printable : (part : Text) → Decides (list_all is_printable part) (All IsPrintable part)
printable part = Decides-by_and is_printable IsPrintable (list_all is_printable) printable_byte refl (λ _ _. refl) part

if_tells : (Good : Type 0) (Bad : NameKind → Type 0) (test : Bool) (kind : NameKind) (behind : Option NameKind) → (test ≡ true → Bad kind) → (test ≡ false → MatchOption behind Good Bad)
    → MatchOption (if test then Some kind else behind) Good Bad
if_tells Good Bad true kind behind here there = here refl
if_tells Good Bad false kind behind here there = there refl

abbrev behind_long : Bool → Text → Option NameKind
behind_long folder part = if folder && ends_with nat_eq part (codes ".gpg") then Some FolderGpg else None

abbrev behind_control : Bool → Text → Option NameKind
behind_control folder part = if nat_lt 100 (length part) then Some LongPart else behind_long folder part

abbrev behind_dots : Bool → Text → Option NameKind
behind_dots folder part = if not (list_all is_printable part) then Some Control else behind_control folder part

abbrev behind_empty : Bool → Text → Option NameKind
behind_empty folder part = if slice_index part 0 == 46 then Some Dots else behind_dots folder part

abbrev behind_many : Bool → Text → Option NameKind
behind_many folder part = if length part == 0 then Some Empty else behind_empty folder part

-- what the tests of a part say
few : (number : ℕ) → nat_le 16 number ≡ false → number < 16
few number e = grind (arith, nat_tests)

many : (number : ℕ) → nat_le 16 number ≡ true → 16 ≤ number
many number e = grind (arith, nat_tests)

some_bytes : (n : ℕ) → (n == 0) ≡ false → 1 ≤ n
some_bytes n e = grind (arith, nat_tests)

no_bytes : (n : ℕ) → (n == 0) ≡ true → n ≡ 0
no_bytes n e = grind (arith, nat_tests)

long : (n : ℕ) → nat_lt 100 n ≡ true → 100 < n
long n e = grind (arith, nat_tests)

short : (n : ℕ) → nat_lt 100 n ≡ false → n ≤ 100
short n e = grind (arith, nat_tests)

not_both : (a b : Bool) → a && b ≡ false → IsTrue a → IsTrue b → ⊥
not_both true b e is_a is_b = absurd (cc)
not_both false b e is_a is_b = absurd (cc)

kind_tells : (number : ℕ) (folder : Bool) (part : Text) → MatchOption (kind_of_part number folder part) (IsGood number folder part) (Fails number folder part)
kind_tells number folder part =
    if_tells (IsGood number folder part) (Fails number folder part) (nat_le 16 number) ManyParts (behind_many folder part) (many number)
    (λ is_few. if_tells (IsGood number folder part) (Fails number folder part) (length part == 0) Empty (behind_empty folder part) (λ none. (few number is_few, no_bytes (length part) none))
    (λ is_some. if_tells (IsGood number folder part) (Fails number folder part) (slice_index part 0 == 46) Dots (behind_dots folder part) (λ dot. (few number is_few, (Decides-eqb (slice_index part 0) 46).0 dot))
    (λ no_dot. if_tells (IsGood number folder part) (Fails number folder part) (not (list_all is_printable part)) Control (behind_control folder part)
    (λ control. (few number is_few, some_bytes (length part) is_some, not_from_Decides (slice_index part 0 == 46) (Decides-eqb (slice_index part 0) 46) no_dot, (Decides-not (list_all is_printable part) (printable part)).0 control))
    (λ plain. if_tells (IsGood number folder part) (Fails number folder part) (nat_lt 100 (length part)) LongPart (behind_long folder part)
    (λ is_long. (few number is_few, not_from_Decides (slice_index part 0 == 46) (Decides-eqb (slice_index part 0) 46) no_dot, (printable part).0 (not-false (list_all is_printable part) plain), long (length part) is_long))
    (λ is_short.
    let named : IsNamePart part = record {
      some = some_bytes (length part) is_some;
      short = short (length part) is_short;
      plain = not_from_Decides (slice_index part 0 == 46) (Decides-eqb (slice_index part 0) 46) no_dot;
      printable = (printable part).0 (not-false (list_all is_printable part) plain);
    } in
    if_tells (IsGood number folder part) (Fails number folder part) (folder && ends_with nat_eq part (codes ".gpg")) FolderGpg None
    (λ sealed. (let tests = and_parts folder (ends_with nat_eq part (codes ".gpg")) sealed in (few number is_few, named, tests.0, tests.1)))
    (λ above. record { few = few number is_few; named = named; above = not_both folder (ends_with nat_eq part (codes ".gpg")) above }))))))

told_not : {P : Type 0} (r : Bool) → Decides r P → ¬ P → r ≡ false
told_not true told other = absurd (other (told.0 refl))
told_not false told other = refl

hidden_some : (part : Text) → IsHidden part → (length part == 0) ≡ false
hidden_some [] dot = absurd (omega (arith, dot))
hidden_some (b ∷ part) dot = grind (arith, nat_tests)

-- a part fails in one way at most
kind_some : (number : ℕ) (folder : Bool) (part : Text) (kind : NameKind) → Fails number folder part kind → kind_of_part number folder part ≡ Some kind
kind_some number folder part ManyParts fails =
    let is_many : nat_le 16 number ≡ true = grind (arith, nat_tests) in
    simp is_many
kind_some number folder part Empty fails =
    let is_few : nat_le 16 number ≡ false = grind (arith, nat_tests, fails.0) in
    let none : (length part == 0) ≡ true = grind (arith, nat_tests, fails.1) in
    simp (is_few, none)
kind_some number folder part Dots fails =
    let is_few : nat_le 16 number ≡ false = grind (arith, nat_tests, fails.0) in
    let dot : (slice_index part 0 == 46) ≡ true = (Decides-eqb (slice_index part 0) 46).1 fails.1 in
    let is_some : (length part == 0) ≡ false = hidden_some part fails.1 in
    simp (is_few, is_some, dot)
kind_some number folder part Control fails =
    let is_few : nat_le 16 number ≡ false = grind (arith, nat_tests, fails.0) in
    let is_some : (length part == 0) ≡ false = grind (arith, nat_tests, fails.1) in
    let no_dot : (slice_index part 0 == 46) ≡ false = told_not (slice_index part 0 == 46) (Decides-eqb (slice_index part 0) 46) fails.2 in
    let control : list_all is_printable part ≡ false = told_not (list_all is_printable part) (printable part) fails.3 in
    simp (is_few, is_some, no_dot, control)
kind_some number folder part LongPart fails =
    let is_few : nat_le 16 number ≡ false = grind (arith, nat_tests, fails.0) in
    let is_some : (length part == 0) ≡ false = grind (arith, nat_tests, fails.3) in
    let no_dot : (slice_index part 0 == 46) ≡ false = told_not (slice_index part 0 == 46) (Decides-eqb (slice_index part 0) 46) fails.1 in
    let plain : list_all is_printable part ≡ true = (printable part).1 fails.2 in
    let is_long : nat_lt 100 (length part) ≡ true = grind (arith, nat_tests, fails.3) in
    simp (is_few, is_some, no_dot, plain, is_long)
kind_some number folder part FolderGpg fails =
    let is_few : nat_le 16 number ≡ false = grind (arith, nat_tests, fails.0) in
    let is_some : (length part == 0) ≡ false = grind (arith, nat_tests, fails.1.some) in
    let no_dot : (slice_index part 0 == 46) ≡ false = told_not (slice_index part 0 == 46) (Decides-eqb (slice_index part 0) 46) fails.1.plain in
    let plain : list_all is_printable part ≡ true = (printable part).1 fails.1.printable in
    let is_short : nat_lt 100 (length part) ≡ false = grind (arith, nat_tests, fails.1.short) in
    let is_folder : folder ≡ true = fails.2 in
    let sealed : ends_with nat_eq part (codes ".gpg") ≡ true = fails.3 in
    simp (is_few, is_some, no_dot, plain, is_short, is_folder, sealed)
kind_some number folder part LongName fails = absurd fails

one_kind : (number : ℕ) (folder : Bool) (part : Text) (kind other : NameKind) → Fails number folder part kind → Fails number folder part other → kind ≡ other
one_kind number folder part kind other fails fails_too =
    let this = kind_some number folder part kind fails in
    let that = kind_some number folder part other fails_too in
    cc

-- ---- the parts

-- no part of these fails, where the first of them has this number
abbrev AreGoodFrom : Bool → ℕ → List Text → Type 0
AreGoodFrom is_secret number texts = (k : ℕ) → k < length texts → IsGood (number + k) (is_folder is_secret texts k) (part_at texts k)

-- the first part of these that fails, where the first of them has this number and begins at this byte
record IsFirstFrom (is_secret : Bool) (number at : ℕ) (texts : List Text) (bad : BadName) : Type 0 where
  pub behind : ℕ
  pub inside : behind < length texts
  pub fails : Fails (number + behind) (is_folder is_secret texts behind) (part_at texts behind) bad.kind
  pub before : (k : ℕ) → k < behind → IsGood (number + k) (is_folder is_secret texts k) (part_at texts k)
  pub place : bad.at ≡ at + start_of texts behind

moved : (P : ℕ → Bool → Type 0) (m n : ℕ) (a b : Bool) → m ≡ n → a ≡ b → P m a → P n b
moved P m n a b number folder p = subst (P n) folder (subst (λ k. P k a) number p)

first_folder : (is_secret : Bool) (part : Text) (texts : List Text) → not (is_secret && (length texts == 0)) ≡ is_folder is_secret (part ∷ texts) 0
first_folder is_secret part texts = ap (λ b. not (is_secret && b)) (same (length texts))
  where
    same : (n : ℕ) → (n == 0) ≡ (0 + 1 == suc n)
    same n = grind (arith, nat_tests)

next_folder : (is_secret : Bool) (part : Text) (texts : List Text) (k : ℕ) → is_folder is_secret texts k ≡ is_folder is_secret (part ∷ texts) (suc k)
next_folder is_secret part texts k = ap (λ b. not (is_secret && b)) (same k (length texts))
  where
    same : (k n : ℕ) → (k + 1 == n) ≡ (suc k + 1 == suc n)
    same k n = grind (arith, nat_tests)

good_first : (is_secret : Bool) (number : ℕ) (part : Text) (texts : List Text) → IsGood number (not (is_secret && (length texts == 0))) part → IsGood (number + 0) (is_folder is_secret (part ∷ texts) 0) part
good_first is_secret number part texts good =
    moved (λ n f. IsGood n f part) number (number + 0) (not (is_secret && (length texts == 0))) (is_folder is_secret (part ∷ texts) 0) (omega arith) (first_folder is_secret part texts) good

good_next : (is_secret : Bool) (number : ℕ) (part : Text) (texts : List Text) (k : ℕ) → IsGood (number + 1 + k) (is_folder is_secret texts k) (part_at texts k)
    → IsGood (number + suc k) (is_folder is_secret (part ∷ texts) (suc k)) (part_at texts k)
good_next is_secret number part texts k good =
    moved (λ n f. IsGood n f (part_at texts k)) (number + 1 + k) (number + suc k) (is_folder is_secret texts k) (is_folder is_secret (part ∷ texts) (suc k)) (omega arith) (next_folder is_secret part texts k) good

-- these are good below a number, the first of them and those behind it
good_below : (is_secret : Bool) (number : ℕ) (part : Text) (texts : List Text) (most k : ℕ) → IsGood number (not (is_secret && (length texts == 0))) part
    → ((j : ℕ) → j < most → IsGood (number + 1 + j) (is_folder is_secret texts j) (part_at texts j)) → k < suc most → IsGood (number + k) (is_folder is_secret (part ∷ texts) k) (part_at (part ∷ texts) k)
good_below is_secret number part texts most zero good behind lt = good_first is_secret number part texts good
good_below is_secret number part texts most (suc k) good behind lt = good_next is_secret number part texts k (behind k (omega arith))

tells_more : (is_secret : Bool) (number at : ℕ) (part : Text) (texts : List Text) (kind : Option NameKind) (behind : Option BadName)
    → MatchOption kind (IsGood number (not (is_secret && (length texts == 0))) part) (Fails number (not (is_secret && (length texts == 0))) part)
    → MatchOption behind (AreGoodFrom is_secret (number + 1) texts) (IsFirstFrom is_secret (number + 1) (at + length part + 1) texts)
    → MatchOption (fault_or at kind behind) (AreGoodFrom is_secret number (part ∷ texts)) (IsFirstFrom is_secret number at (part ∷ texts))
tells_more is_secret number at part texts (Some kind) behind fails more = record {
  behind = 0;
  inside = omega arith;
  fails = moved (λ n f. Fails n f part kind) number (number + 0) (not (is_secret && (length texts == 0))) (is_folder is_secret (part ∷ texts) 0) (omega arith) (first_folder is_secret part texts) fails;
  before = λ k lt. absurd (omega arith);
  place = omega arith;
}
tells_more is_secret number at part texts None None good more = λ k lt. good_below is_secret number part texts (length texts) k good more lt
tells_more is_secret number at part texts None (Some bad) good more = record {
  behind = suc more.behind;
  inside = (let inside = more.inside in omega arith);
  fails = moved (λ n f. Fails n f (part_at texts more.behind) bad.kind) (number + 1 + more.behind) (number + suc more.behind) (is_folder is_secret texts more.behind)
      (is_folder is_secret (part ∷ texts) (suc more.behind)) (omega arith) (next_folder is_secret part texts more.behind) more.fails;
  before = λ k lt. good_below is_secret number part texts more.behind k good more.before lt;
  place = (let place = more.place in omega arith);
}

first_tells : (is_secret : Bool) (number at : ℕ) (texts : List Text) → MatchOption (first_fault is_secret number at texts) (AreGoodFrom is_secret number texts) (IsFirstFrom is_secret number at texts)
first_tells is_secret number at [] = λ k lt. absurd (omega arith)
first_tells is_secret number at (part ∷ texts) =
    tells_more is_secret number at part texts (kind_of_part number (not (is_secret && (length texts == 0))) part) (first_fault is_secret (number + 1) (at + length part + 1) texts)
    (kind_tells number (not (is_secret && (length texts == 0))) part) (first_tells is_secret (number + 1) (at + length part + 1) texts)

-- ---- a text

good_at_zero : (is_secret : Bool) (texts : List Text) (k : ℕ) → IsGood (0 + k) (is_folder is_secret texts k) (part_at texts k) → IsGoodAt is_secret texts k
good_at_zero is_secret texts k good = subst (λ n. IsGood n (is_folder is_secret texts k) (part_at texts k)) (omega arith) good

-- what the fault of a text says, and that it has none
abbrev Tells : Bool → Text → Option BadName → Type 0
Tells is_secret text fault = MatchOption fault ((length text ≤ 400) × AreGood is_secret (parts text)) (IsFault is_secret text)

tells_short : (is_secret : Bool) (text : Text) (fault : Option BadName) → length text ≤ 400 → MatchOption fault (AreGoodFrom is_secret 0 (parts text)) (IsFirstFrom is_secret 0 0 (parts text)) → Tells is_secret text fault
tells_short is_secret text None short good = (short, λ k lt. good_at_zero is_secret (parts text) k (good k lt))
tells_short is_secret text (Some bad) short first = record {
  long = λ lt. absurd (omega arith);
  first = λ _. record {
    number = first.behind;
    inside = first.inside;
    fails = subst (λ n. Fails n (is_folder is_secret (parts text) first.behind) (part_at (parts text) first.behind) bad.kind) (omega arith) first.fails;
    before = λ k lt. good_at_zero is_secret (parts text) k (first.before k lt);
    place = (let place = first.place in omega arith);
  };
}

tells : (is_secret : Bool) (text : Text) → Tells is_secret text (fault_of is_secret text)
tells is_secret text =
    elim (nat_lt 400 (length text)) as (λ b. nat_lt 400 (length text) ≡ b → Tells is_secret text (if b then Some (record { at = 400; kind = LongName }) else first_fault is_secret 0 0 (parts text))) [
      | true ↦ λ e. record { long = λ _. refl; first = λ le. absurd (too_long (length text) e le) }
      | false ↦ λ e. tells_short is_secret text (first_fault is_secret 0 0 (parts text)) (not_long (length text) e) (first_tells is_secret 0 0 (parts text))
    ] refl
  where
    too_long : (n : ℕ) → nat_lt 400 n ≡ true → n ≤ 400 → ⊥
    too_long n e le = grind (arith, nat_tests)

    not_long : (n : ℕ) → nat_lt 400 n ≡ false → n ≤ 400
    not_long n e = grind (arith, nat_tests)

-- no text has a fault and none, or two faults
no_fault : (is_secret : Bool) (text : Text) (bad : BadName) → length text ≤ 400 → AreGood is_secret (parts text) → IsFault is_secret text bad → ⊥
no_fault is_secret text bad short good fault =
    let first = fault.first short in
    good_no_fault first.number (is_folder is_secret (parts text) first.number) (part_at (parts text) first.number) bad.kind (good first.number first.inside) first.fails

one_first : (is_secret : Bool) (texts : List Text) (bad other : BadName) → IsFirstFault is_secret texts bad → IsFirstFault is_secret texts other → bad ≡ other
one_first is_secret texts bad other first first_too = λ i. record { at = at i; kind = kind i }
  where
    not_before : (this that : BadName) → (a : IsFirstFault is_secret texts this) → (b : IsFirstFault is_secret texts that) → ¬ (a.number < b.number)
    not_before this that a b lt = good_no_fault a.number (is_folder is_secret texts a.number) (part_at texts a.number) this.kind (b.before a.number lt) a.fails

    level : (m n : ℕ) → ¬ (m < n) → ¬ (n < m) → m ≡ n
    level m n not_below not_above = grind arith

    number : first.number ≡ first_too.number
    number = level first.number first_too.number (not_before bad other first first_too) (not_before other bad first_too first)

    at : bad.at ≡ other.at
    at = first.place ∙ (ap (start_of texts) number ∙ sym first_too.place)

    kind : bad.kind ≡ other.kind
    kind = one_kind first_too.number (is_folder is_secret texts first_too.number) (part_at texts first_too.number) bad.kind other.kind
        (subst (λ n. Fails n (is_folder is_secret texts n) (part_at texts n) bad.kind) number first.fails) first_too.fails

one_fault : (is_secret : Bool) (text : Text) (bad other : BadName) → IsFault is_secret text bad → IsFault is_secret text other → bad ≡ other
one_fault is_secret text bad other fault fault_too = elim (long_or_short (length text)) [
  | inl lt ↦ fault.long lt ∙ sym (fault_too.long lt)
  | inr le ↦ one_first is_secret (parts text) bad other (fault.first le) (fault_too.first le)
]
  where
    long_or_short : (n : ℕ) → (400 < n) ⊎ (n ≤ 400)
    long_or_short n = grind arith

good_none : (is_secret : Bool) (text : Text) → length text ≤ 400 → AreGood is_secret (parts text) → fault_of is_secret text ≡ None
good_none is_secret text short good = from (fault_of is_secret text) (tells is_secret text)
  where
    from : (fault : Option BadName) → Tells is_secret text fault → fault ≡ None
    from None told = refl
    from (Some bad) told = absurd (no_fault is_secret text bad short good told)

fault_some : (is_secret : Bool) (text : Text) (bad : BadName) → IsFault is_secret text bad → fault_of is_secret text ≡ Some bad
fault_some is_secret text bad fault = from (fault_of is_secret text) (tells is_secret text)
  where
    from : (found : Option BadName) → Tells is_secret text found → found ≡ Some bad
    from None told = absurd (no_fault is_secret text bad told.0 told.1 fault)
    from (Some other) told = ap (λ b. Some b) (one_fault is_secret text other bad told fault)

none_good : (is_secret : Bool) (text : Text) → fault_of is_secret text ≡ None → (length text ≤ 400) × AreGood is_secret (parts text)
none_good is_secret text e = subst (Tells is_secret text) e (tells is_secret text)

some_fault : (is_secret : Bool) (text : Text) (bad : BadName) → fault_of is_secret text ≡ Some bad → IsFault is_secret text bad
some_fault is_secret text bad e = subst (Tells is_secret text) e (tells is_secret text)

-- ---- names

pub name_none : (text : Text) → IsName text → name_fault text ≡ None
name_none text name = good_none true text name.short (good_of text name)

pub name_some : (text : Text) (bad : BadName) → IsNameFault text bad → name_fault text ≡ Some bad
name_some text bad fault = fault_some true text bad fault

pub none_name : (text : Text) → name_fault text ≡ None → IsName text
none_name text e = let good = none_good true text e in name_of text good.0 good.1

pub some_name : (text : Text) (bad : BadName) → name_fault text ≡ Some bad → IsNameFault text bad
some_name text bad e = some_fault true text bad e

-- ---- folders

slash_folder : IsFolderText (codes "/")
slash_folder = record { some = omega arith; folder = root_folder }

-- a text that is no slash alone keeps a byte
keeps_byte : (text : Text) → text ≢ codes "/" → 1 ≤ length text → 1 ≤ length (without_slash text)
keeps_byte [] other some = absurd (omega arith)
keeps_byte (b ∷ []) other some = subst (λ r. 1 ≤ length (cond r [] (b ∷ []))) (sym (told_not (b == 47) (Decides-eqb b 47) (λ e. other (ap (λ x. x ∷ []) e)))) (omega arith)
keeps_byte (b ∷ c ∷ text) other some = left (slice_index (b ∷ c ∷ text) (length (b ∷ c ∷ text) - 1) == 47)
  where
    left : (r : Bool) → 1 ≤ length (if r then take (length (b ∷ c ∷ text) - 1) (b ∷ c ∷ text) else b ∷ c ∷ text)
    left true = omega (arith, length-take (length (b ∷ c ∷ text) - 1) (b ∷ c ∷ text))
    left false = omega arith

good_folder : (text : Text) → 1 ≤ length text → IsFolder text → (length text ≤ 400) × AreGood false (parts text)
good_folder [] some folder = absurd (omega arith)
good_folder (b ∷ text) some folder = (folder.short, good_of_folder b text folder)

is_slash : (text : Text) → Decides (bytes_eq text (codes "/")) (text ≡ codes "/")
is_slash text = bytes_eq-Decides text (codes "/")

pub folder_none : (text : Text) → IsFolderText text → folder_fault text ≡ None
folder_none text is =
    elim (bytes_eq text (codes "/")) as (λ b. bytes_eq text (codes "/") ≡ b → (if b then None else fault_of false (without_slash text)) ≡ None) [
      | true ↦ λ _. refl
      | false ↦ λ e. (let good = good_folder (without_slash text) (keeps_byte text (not_from_Decides (bytes_eq text (codes "/")) (is_slash text) e) is.some) is.folder in
          good_none false (without_slash text) good.0 good.1)
    ] refl

pub folder_some : (text : Text) (bad : BadName) → ¬ IsFolderText text → IsFolderFault text bad → folder_fault text ≡ Some bad
folder_some text bad other fault =
    elim (bytes_eq text (codes "/")) as (λ b. bytes_eq text (codes "/") ≡ b → (if b then None else fault_of false (without_slash text)) ≡ Some bad) [
      | true ↦ λ e. absurd (other (subst IsFolderText (sym ((is_slash text).0 e)) slash_folder))
      | false ↦ λ _. fault_some false (without_slash text) bad fault
    ] refl

pub none_folder : (text : Text) → folder_fault text ≡ None → IsFolderText text
none_folder text none =
    elim (bytes_eq text (codes "/")) as (λ b. bytes_eq text (codes "/") ≡ b → (if b then None else fault_of false (without_slash text)) ≡ None → IsFolderText text) [
      | true ↦ λ e _. subst IsFolderText (sym ((is_slash text).0 e)) slash_folder
      | false ↦ λ _ sound. (let good = none_good false (without_slash text) sound in
          record { some = has_byte text sound; folder = folder_of (without_slash text) good.0 good.1 })
    ] refl none
  where
    has_byte : (text : Text) → fault_of false (without_slash text) ≡ None → 1 ≤ length text
    has_byte [] e = absurd (cc)
    has_byte (b ∷ text) e = omega arith

pub some_folder : (text : Text) (bad : BadName) → folder_fault text ≡ Some bad → (¬ IsFolderText text) × IsFolderFault text bad
some_folder text bad some =
    elim (bytes_eq text (codes "/")) as (λ b. bytes_eq text (codes "/") ≡ b → (if b then None else fault_of false (without_slash text)) ≡ Some bad → (¬ IsFolderText text) × IsFolderFault text bad) [
      | true ↦ λ _ found. absurd (cc)
      | false ↦ λ e found. (let fault = some_fault false (without_slash text) bad found in (
        λ is. fault_no_folder (without_slash text) bad (keeps_byte text (not_from_Decides (bytes_eq text (codes "/")) (is_slash text) e) is.some) fault is.folder,
        fault,
      ))
    ] refl some
