-- What came of a source, take after take.
use Rattle.std.proofs.Common.{ℕ, ◌+◌, ◌≤◌, ◌≡◌, ◌≢◌, ◌++◌, ◌∷◌, [], length, take, drop, cond, Bool, eqb, true, false, Option, Some, None, Ok, Err, Vec, refl, sym, ◌∙◌, ap, subst, arith, ne_eqb, length-append, take-append-drop, inl, inr, Global, ◌↔◌, ◌⊎◌}
use Rattle.std.proofs.Math.Seq.{take-append-add, drop-append-add, drop-append_seam}
use Rattle.std.proofs.lemmas.List.{append_assoc, append-nil, length-take, length-take-le, take_all, drop_all}
use Rattle.std.proofs.lemmas.Bool.Decides.{eqb_tells}
use Rattle.std.proofs.lemmas.List.Elements.{All-nil, All-cons, All-head, All-tail}
use Rattle.gopass_base.proofs.LineLemmas.{both, cut_is}
use Rattle.gopass_base.specs.Text.{Text}
use Rattle.gopass_base.specs.Lines.{Lacks, cut_at, front_or, with_first}
use Rattle.io_ports.specs.Told.{Told}
use Rattle.io_ports.specs.Source.{Came, CameNext}
use Rattle.io_ports.specs.Input.{ReadsAll, ReadsLine, IsLine, StandsFirst, first_line, content_of}
use Rattle.io_ports.specs.declared.input.InputFault.TheVariants.{Failed, Long, NoMemory}
use Rattle.io_ports.proofs.ToldLemmas.{told_two, told_as}

pub came_two : (xs ys a b c : Text) → Came xs a b → Came ys b c → Came (xs ++ ys) a c
came_two xs ys a b c first then = first ∙ ap (λ l. xs ++ l) then ∙ sym (append_assoc xs ys c)

-- these came first, and this is left
pub behind_these : (xs a c : Text) (n : ℕ) → Came xs a c → length xs ≡ n → c ≡ drop n a
behind_these xs a c n came is = sym (ap (λ t. drop n t) came ∙ ap (λ k. drop k (xs ++ c)) (sym is) ∙ drop-append_seam xs c)

-- one byte beyond the limit
pub all_long : (max n : ℕ) (xs into : Text) (x y z : Option Text) → length xs + n ≡ max + 1 → n ≤ length into
    → Told (Came xs) x y → Told (CameNext (take n into)) y z → Told (ReadsAll {Z = Global} max (Err Long)) x z
all_long max n xs into x y z over fits first then = told_two _ _ _ step x y z first then
  where
    here : length (xs ++ take n into) ≡ max + 1
    here = length-append xs (take n into) ∙ ap (λ k. length xs + k) (length-take-le n into fits) ∙ over

    step : (a b c : Text) → Came xs a b → CameNext (take n into) b c → ReadsAll {Z = Global} max (Err Long) a c
    step a b c p q = (let whole : a ≡ (xs ++ take n into) ++ c = came_two xs (take n into) a b c p q.came in
        (omega (arith, ap length whole, length-append (xs ++ take n into) c, here), behind_these (xs ++ take n into) a c (max + 1) whole here))

-- the cut of a byte and those behind it, by whether the byte is an LF
abbrev cut_from : ℕ → Text → Bool → Option (Text × Text)
cut_from b bs is_lf = cond is_lf (Some ([], bs)) (with_first b (cut_at 10 bs))

-- a byte that is no LF, and what stands behind it
content_more : (b : ℕ) (bs : Text) → eqb b 10 ≡ false → content_of (b ∷ bs) ≡ b ∷ content_of bs
content_more b bs off = ap (λ r. front_or r (b ∷ bs)) (ap (cut_from b bs) off) ∙ by_cut (cut_at 10 bs)
  where
    by_cut : (r : Option (Text × Text)) → front_or (with_first b r) (b ∷ bs) ≡ b ∷ front_or r bs
    by_cut None = refl
    by_cut (Some cut) = refl

-- what the first line says behind bytes without an LF
content_behind : (xs ys : Text) → cut_at 10 xs ≡ None → content_of (xs ++ ys) ≡ xs ++ content_of ys
content_behind [] ys none = refl
content_behind (b ∷ xs) ys none = elim (eqb_tells b 10) [
  | inl (t, same) ↦ (let bad : ◌≡◌ {A = Option (Text × Text)} (Some ([], xs)) None = sym (ap (cut_from b xs) t) ∙ none in absurd (cc))
  | inr (t, other) ↦ content_more b (xs ++ ys) t ∙ ap (λ l. b ∷ l) (content_behind xs ys (not_behind (cut_at 10 xs) (sym (ap (cut_from b xs) t) ∙ none)))
]
  where
    not_behind : (r : Option (Text × Text)) → with_first b r ≡ None → r ≡ None
    not_behind None e = refl
    not_behind (Some cut) e = absurd (cc)

-- a text cut at a place
abbrev parted : ℕ → Text → Text × Text
parted n text = (take n text, drop n text)

line_behind : (xs ys : Text) → cut_at 10 xs ≡ None → first_line (xs ++ ys) ≡ (xs ++ (first_line ys).0, (first_line ys).1)
line_behind xs ys none = ap (λ n. parted n (xs ++ ys)) place ∙ (λ i. (take-append-add xs ys (length (content_of ys) + 1) i, drop-append-add xs ys (length (content_of ys) + 1) i))
  where
    place : length (content_of (xs ++ ys)) + 1 ≡ length xs + (length (content_of ys) + 1)
    place = omega (arith, ap length (content_behind xs ys none), length-append xs (content_of ys))

-- the first line of what begins with any byte
some_line : (byte : ℕ) (ys : Text) → 1 ≤ length (first_line (byte ∷ ys)).0
some_line byte ys = omega (arith, length-take (length (content_of (byte ∷ ys)) + 1) (byte ∷ ys))

pub none_behind : (xs : Text) (byte : ℕ) → cut_at 10 xs ≡ None → byte ≢ 10 → cut_at 10 (xs ++ byte ∷ []) ≡ None
none_behind [] byte none off = ap (cut_from byte []) (ne_eqb byte 10 off)
none_behind (b ∷ xs) byte none off = elim (eqb_tells b 10) [
  | inl (t, same) ↦ (let bad : ◌≡◌ {A = Option (Text × Text)} (Some ([], xs)) None = sym (ap (cut_from b xs) t) ∙ none in absurd (cc))
  | inr (t, other) ↦ (let rest : with_first b (cut_at 10 xs) ≡ None = sym (ap (cut_from b xs) t) ∙ none in
      ap (cut_from b (xs ++ byte ∷ [])) t
      ∙ ap (with_first b) (none_behind xs byte (not_behind (cut_at 10 xs) rest) off))
]
  where
    not_behind : (r : Option (Text × Text)) → with_first b r ≡ None → r ≡ None
    not_behind None e = refl
    not_behind (Some cut) e = absurd (cc)

-- the source failed within the line
pub line_stopped : (max : ℕ) (xs : Text) (x y z : Option Text) → cut_at 10 xs ≡ None → length xs ≤ max → Told (Came xs) x y → z ≡ y → Told (ReadsLine {Z = Global} max (Err Failed)) x z
line_stopped max xs x y z none inside came same = subst (λ (o : Option Text). Told (ReadsLine {Z = Global} max (Err Failed)) x o) (sym same) (told_as _ _ step x y came)
  where
    step : (a b : Text) → Came xs a b → ReadsLine {Z = Global} max (Err Failed) a b
    step a b p = (let whole : content_of a ≡ xs ++ content_of b = ap content_of p ∙ content_behind xs b none in
        (xs, omega (arith, inside, ap length whole, length-append xs (content_of b)), p))

-- there was no room for a byte of the line
pub line_unkept : (max byte : ℕ) (xs : Text) (x y z : Option Text) → cut_at 10 xs ≡ None → length xs ≤ max → Told (Came xs) x y → Told (Came (byte ∷ [])) y z → Told (ReadsLine {Z = Global} max (Err NoMemory)) x z
line_unkept max byte xs x y z none inside first then = told_two _ _ _ step x y z first then
  where
    step : (a b c : Text) → Came xs a b → Came (byte ∷ []) b c → ReadsLine {Z = Global} max (Err NoMemory) a c
    step a b c p q = (let whole : (first_line a).0 ≡ xs ++ (first_line (byte ∷ c)).0 = ap (λ t. (first_line t).0) (p ∙ ap (λ l. xs ++ l) q) ∙ ap (λ (l : Text × Text). l.0) (line_behind xs (byte ∷ c) none) in
        (xs ++ byte ∷ [], omega (arith, inside, ap length whole, length-append xs (first_line (byte ∷ c)).0, length-append xs (byte ∷ []), some_line byte c), came_two xs (byte ∷ []) a b c p q))

-- the line has ended
pub line_ended : (max byte : ℕ) (xs : Text) (line : Vec ℕ Global) (x y z : Option Text) → cut_at 10 xs ≡ None → length xs ≤ max → byte ≡ 10 → line.items ≡ xs ++ byte ∷ []
    → Told (Came xs) x y → Told (Came (byte ∷ [])) y z → Told (ReadsLine max (Ok line)) x z
line_ended max byte xs line x y z none short is grown first then = told_two _ _ _ step x y z first then
  where
    step : (a b c : Text) → Came xs a b → Came (byte ∷ []) b c → ReadsLine max (Ok line) a c
    step a b c p q = (let whole : a ≡ xs ++ 10 ∷ c = p ∙ ap (λ l. xs ++ l) q ∙ ap (λ n. xs ++ n ∷ c) is in
        let says : content_of a ≡ xs = ap content_of whole ∙ content_behind xs (10 ∷ c) none ∙ append-nil xs in
        (ap first_line whole ∙ line_behind xs (10 ∷ c) none ∙ ap (λ l. (l, c)) (ap (λ n. xs ++ n ∷ []) (sym is) ∙ sym grown), omega (arith, ap length says, short)))

pub one_line : (max byte : ℕ) (xs grown : Text) → cut_at 10 xs ≡ None → length xs ≤ max → byte ≡ 10 → grown ≡ xs ++ byte ∷ [] → IsLine max grown
one_line max byte xs grown none short is grew =
    let whole : grown ≡ xs ++ 10 ∷ [] = grew ∙ ap (λ n. xs ++ n ∷ []) is in
    let says : content_of grown ≡ xs = ap content_of whole ∙ content_behind xs (10 ∷ []) none ∙ append-nil xs in
    record { one = ap first_line whole ∙ line_behind xs (10 ∷ []) none ∙ ap (λ l. (l, [])) (sym whole); short = omega (arith, ap length says, short) }

-- bytes with no cut are one line, and what it says
pub none_says : (xs : Text) → cut_at 10 xs ≡ None → content_of xs ≡ xs
none_says xs none = ap (λ r. front_or r xs) none

pub none_line : (xs : Text) → cut_at 10 xs ≡ None → first_line xs ≡ (xs, [])
none_line xs none = ap (λ t. parted (length t + 1) xs) (none_says xs none) ∙ (λ i. (take_all (length xs + 1) xs (omega arith) i, drop_all (length xs + 1) xs (omega arith) i))

-- one byte beyond the limit of a line
pub line_long : (max byte : ℕ) (xs : Text) (x y z : Option Text) → cut_at 10 xs ≡ None → length xs ≡ max → byte ≢ 10
    → Told (Came xs) x y → Told (Came (byte ∷ [])) y z → Told (ReadsLine {Z = Global} max (Err Long)) x z
line_long max byte xs x y z none full off first then = told_two _ _ _ step x y z first then
  where
    step : (a b c : Text) → Came xs a b → Came (byte ∷ []) b c → ReadsLine {Z = Global} max (Err Long) a c
    step a b c p q = (let whole : content_of a ≡ xs ++ byte ∷ content_of c = ap content_of (p ∙ ap (λ l. xs ++ l) q) ∙ content_behind xs (byte ∷ c) none ∙ ap (λ l. xs ++ l) (content_more byte c (ne_eqb byte 10 off)) in (
      omega (arith, ap length whole, length-append xs (byte ∷ content_of c), full),
      behind_these (xs ++ byte ∷ []) a c (max + 1) (came_two xs (byte ∷ []) a b c p q) (omega (arith, length-append xs (byte ∷ []), full)),
    ))

-- bytes without an LF have no cut
never_cut : (xs : Text) → Lacks 10 xs → cut_at 10 xs ≡ None
never_cut [] f = refl
never_cut (b ∷ xs) f = ap (cut_from b xs) (ne_eqb b 10 (All-head (λ n. n ≢ 10) b xs f)) ∙ ap (with_first b) (never_cut xs (All-tail (λ n. n ≢ 10) b xs f))

-- nor have bytes with no cut an LF, and none stands before a cut
clean : (xs : Text) → (cut_at 10 xs ≡ None → Lacks 10 xs) × ((x y : Text) → cut_at 10 xs ≡ Some (x, y) → Lacks 10 x)
clean [] = (λ e. All-nil (λ n. n ≢ 10), λ x y e. absurd (cc))
clean (b ∷ xs) = elim (eqb_tells b 10) [
  | inl (t, same) ↦ (λ e. absurd (none_yet t e), λ x y e. subst (Lacks 10) (at_once x y t e) (All-nil (λ n. n ≢ 10)))
  | inr (t, other) ↦ later other (clean xs) (cut_at 10 xs) refl (ap (cut_from b xs) t)
]
  where
    none_yet : eqb b 10 ≡ true → cut_at 10 (b ∷ xs) ≡ None → ⊥
    none_yet t e = (let bad : ◌≡◌ {A = Option (Text × Text)} (Some ([], xs)) None = sym (ap (cut_from b xs) t) ∙ e in cc)

    at_once : (x y : Text) → eqb b 10 ≡ true → cut_at 10 (b ∷ xs) ≡ Some (x, y) → [] ≡ x
    at_once x y t e = (both [] xs x y (sym (ap (cut_from b xs) t) ∙ e)).0

    later : b ≢ 10 → (cut_at 10 xs ≡ None → Lacks 10 xs) × ((x y : Text) → cut_at 10 xs ≡ Some (x, y) → Lacks 10 x) → (r : Option (Text × Text)) → cut_at 10 xs ≡ r → cut_at 10 (b ∷ xs) ≡ with_first b r
        → (cut_at 10 (b ∷ xs) ≡ None → Lacks 10 (b ∷ xs)) × ((x y : Text) → cut_at 10 (b ∷ xs) ≡ Some (x, y) → Lacks 10 x)
    later other ih None was is = (λ e. All-cons (λ n. n ≢ 10) b xs other (ih.0 was), λ x y e. absurd (none_got x y (sym is ∙ e)))
      where
        none_got : (x y : Text) → ◌≡◌ {A = Option (Text × Text)} None (Some (x, y)) → ⊥
        none_got x y e = cc
    later other ih (Some cut) was is = (λ e. absurd (some_got (sym is ∙ e)), λ x y e. subst (Lacks 10) (both (b ∷ cut.0) cut.1 x y (sym is ∙ e)).0 (All-cons (λ n. n ≢ 10) b cut.0 other (ih.1 cut.0 cut.1 was)))
      where
        some_got : ◌≡◌ {A = Option (Text × Text)} (Some (b ∷ cut.0, cut.1)) None → ⊥
        some_got e = cc

pub none_lacks : (xs : Text) → cut_at 10 xs ≡ None → Lacks 10 xs
none_lacks xs none = (clean xs).0 none

-- bytes with an LF behind them do not lack it
pub lf_within : (says : Text) → Lacks 10 (says ++ 10 ∷ []) → ⊥
lf_within [] none = All-head (λ n. n ≢ 10) 10 [] none refl
lf_within (b ∷ says) none = lf_within says (All-tail (λ n. n ≢ 10) b (says ++ 10 ∷ []) none)

-- the first line of a text stands first
line_stands : (text : Text) → StandsFirst (first_line text).0 (first_line text).1 text
line_stands text = record { whole = sym (take-append-drop (length (content_of text) + 1) text); ends = by_cut (cut_at 10 text) refl }
  where
    by_cut : (r : Option (Text × Text)) → cut_at 10 text ≡ r → ((says : Text) × Lacks 10 says × ((first_line text).0 ≡ says ++ 10 ∷ [])) ⊎ (Lacks 10 (first_line text).0 × ((first_line text).1 ≡ []))
    by_cut None was = (let is = none_line text was in inr (subst (Lacks 10) (sym (ap (λ (l : Text × Text). l.0) is)) ((clean text).0 was), ap (λ (l : Text × Text). l.1) is))
    by_cut (Some cut) was = (let clear = (clean text).1 cut.0 cut.1 was in
        inl (cut.0, clear, ap (λ t. (first_line t).0) (cut_is 10 text cut.0 cut.1 was) ∙ ap (λ (l : Text × Text). l.0) (line_behind cut.0 (10 ∷ cut.1) (never_cut cut.0 clear))))

pub says_only : (says rest : Text) → Lacks 10 says → (content_of says ≡ says) × (content_of (says ++ 10 ∷ rest) ≡ says)
says_only says rest none = (none_says says (never_cut says none), content_behind says (10 ∷ rest) (never_cut says none) ∙ append-nil says)

-- what stands first is the first line
stands_line : (text line rest : Text) → StandsFirst line rest text → first_line text ≡ (line, rest)
stands_line text line rest s = elim s.ends [
  | inl (says, none, ended) ↦ ap first_line (s.whole ∙ ap (λ l. l ++ rest) ended ∙ append_assoc says (10 ∷ []) rest)
      ∙ line_behind says (10 ∷ rest) (never_cut says none) ∙ ap (λ l. (l, rest)) (sym ended)
  | inr (none, nothing) ↦ ap first_line (s.whole ∙ ap (λ l. line ++ l) nothing ∙ append-nil line)
      ∙ none_line line (never_cut line none) ∙ ap (λ l. (line, l)) (sym nothing)
]

pub one_first : (text line rest : Text) → first_line text ≡ (line, rest) ↔ StandsFirst line rest text
one_first text line rest = (λ e. subst (λ (p : Text × Text). StandsFirst p.0 p.1 text) e (line_stands text), stands_line text line rest)

-- what a line says has no LF
pub content_lacks : (text : Text) → Lacks 10 (content_of text)
content_lacks text = by_cut (cut_at 10 text) refl
  where
    by_cut : (r : Option (Text × Text)) → cut_at 10 text ≡ r → Lacks 10 (front_or r text)
    by_cut None was = (clean text).0 was
    by_cut (Some cut) was = (clean text).1 cut.0 cut.1 was
