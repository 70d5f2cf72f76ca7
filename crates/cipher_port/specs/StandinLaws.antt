-- Laws of the text of the stand-in: what is read is what was written, and keeps its limits.
use Rattle.std.proofs.Common.{◌≡◌, ℕ, zero, suc, ◌+◌, ◌-◌, ◌*◌, ◌/◌, ◌%◌, ◌<◌, ◌≤◌, Bool, true, false, cond, ◌&&◌, ◌==◌, eqb, List, [], ◌∷◌, ◌++◌, length, take, drop, slice_index, inl, inr, ◌⊎◌, refl, ap, sym, ◌∙◌, subst, arith, length-append}
use Rattle.std.specs.Prelude.{Option, Some, None, Result, Ok, Err, option_map, nat_le, nat_lt, codes, bytes_eq, All}
use Rattle.std.specs.Option.{option_and_then}
use Rattle.std.specs.Result.{result_ok}
use Rattle.std.specs.List.{list_all, flat_map, join_with_byte, AllByRecursion}
use Rattle.std.specs.List.Sorted.{IsStrictlySortedBy}
use Rattle.std.specs.Ordering.{nat_cmp, is_lt}
use Rattle.std.specs.declared.cmp.Ordering.{Ordering}
use Rattle.std.specs.declared.cmp.Ordering.TheVariants.{Less, Equal, Greater}
use Rattle.std.specs.Cmp.Lexicographic.{slice_cmp}
use Rattle.std.proofs.lemmas.Bool.{and_parts, or_cases, cases_lt, leb-true, ltb-true, eqb-true}
use Rattle.std.proofs.lemmas.Bool.Decides.{nat_tests}
use Rattle.std.proofs.lemmas.List.{append_assoc, take-append-drop, append-nil}
use Rattle.std.proofs.lemmas.List.Elements.{All-nil, All-head, All-tail, All-push}
use Rattle.std.proofs.lemmas.List.Splits.{join_with_byte-slice_split}
use Rattle.std.proofs.lemmas.Slice.Eq.{bytes_eq-Decides}
use Rattle.hex.specs.Hex.{IsBytes, decode_of, decode_pairs, encode_lower, encode_with, lower_digits, hex_digit_value, value_at, digit_or_error, pair_value}
use Rattle.hex.specs.declared.error.FromHexError.{FromHexError}
use Rattle.hex.specs.declared.error.FromHexError.TheVariants.{OddLength}
use Rattle.hex.proofs.Pairs.{cons_byte, decode_pairs-ok_pair}
use Rattle.hex.proofs.HexLemmas.{decode_pairs-ok, length-encode_with}
use Rattle.gopass_base.specs.Text.{Text}
use Rattle.gopass_base.specs.Lines.{pieces_of}
use Rattle.gopass_base.specs.Order.{IsRising}
use Rattle.recipient_files.specs.Ids.{Ids, IsId, IsRecipients}
use Rattle.recipient_files.specs.IdText.{is_id, id_at}
use Rattle.recipient_files.proofs.IdLemmas.{is_id_tells}
use Rattle.cipher_port.specs.Tool.{Content, IsSealing, made_of}
use Rattle.cipher_port.specs.StandinText.{IsStandinText, standin_text, to_line}
use Rattle.cipher_port.specs.Standin.{is_below, has_place, with_next, begins_with, is_end, digits_at, is_lower_digit, are_body_digits, body_of, from_body, from_recipients, from_header, standin_content}
use Rattle.cipher_port.specs.StandinReads.{IsSoFar}

-- ---- what a value under a test or a step shows

given : {A : Type 0} (test : Bool) (o : Option A) (x : A) → cond test o None ≡ Some x → (test ≡ true) × (o ≡ Some x)
given true o x e = (refl, e)
given false o x e = cc

found : {A B : Type 0} (f : A → Option B) (o : Option A) (y : B) → option_and_then f o ≡ Some y → (x : A) × (o ≡ Some x) × (f x ≡ Some y)
found f (Some x) y e = (x, refl, e)
found f None y e = cc

mapped : {A B : Type 0} (f : A → B) (o : Option A) (y : B) → option_map f o ≡ Some y → (x : A) × (o ≡ Some x) × (f x ≡ y)
mapped f (Some x) y e = (x, refl, cc)
mapped f None y e = cc

either : {A : Type 0} (test : Bool) (o p : Option A) (x : A) → cond test o p ≡ Some x → ((test ≡ true) × (o ≡ Some x)) ⊎ ((test ≡ false) × (p ≡ Some x))
either true o p x e = inl (refl, e)
either false o p x e = inr (refl, e)

unless : {A : Type 0} (test : Bool) (o : Option A) (x : A) → cond test None o ≡ Some x → (test ≡ false) × (o ≡ Some x)
unless true o x e = cc
unless false o x e = (refl, e)

-- ---- ids in rising order

less_from : (o : Ordering) → is_lt o ≡ true → o ≡ Less
less_from Less e = refl
less_from Equal e = cc
less_from Greater e = cc

each_snoc : {X : Type 0} (P : X → Type 0) (xs : List X) (y : X) → AllByRecursion P xs → P y → AllByRecursion P (xs ++ y ∷ [])
each_snoc P [] y all last = (last, tt)
each_snoc P (x ∷ xs) y all last = (all.0, each_snoc P xs y all.1 last)

rising_snoc : (ids : Ids) (text : Text) → IsRising ids → list_all (is_below text) ids ≡ true → IsRising (ids ++ text ∷ [])
unfolding IsStrictlySortedBy
rising_snoc [] text rising below = (tt, tt)
rising_snoc (id ∷ ids) text rising below =
    let parts = and_parts (is_below text id) (list_all (is_below text) ids) below in (
      each_snoc (λ other. slice_cmp nat_cmp id other ≡ Less) ids text rising.0 (less_from (slice_cmp nat_cmp id text) parts.0),
      rising_snoc ids text rising.1 parts.1,
    )

-- ids with one more are ids as those of recipients
pub with_next_gives : (ids : Ids) (text : Text) (more : Ids) → IsSoFar ids → with_next ids text ≡ Some more → (more ≡ ids ++ text ∷ []) × IsSoFar more
unfolding with_next id_at
with_next_gives ids text more so_far e =
    let (place, mapping) = given (has_place ids text) (option_map (λ id. ids ++ id ∷ []) (id_at text)) more e in
    let (id, was, made) = mapped (λ id. ids ++ id ∷ []) (id_at text) more mapping in
    let (good, same) = given (is_id text) (Some text) id was in
    let room = and_parts (nat_lt (length ids) 64) (list_all (is_below text) ids) place in
    added ids text more so_far (ltb-true (length ids) 64 room.0) room.1 ((is_id_tells text).0 good) (sym made ∙ ap (λ id. ids ++ id ∷ []) (sym (cc)))
  where
    added : (ids : Ids) (text : Text) (more : Ids) → IsSoFar ids → length ids < 64 → list_all (is_below text) ids ≡ true → IsId text → more ≡ ids ++ text ∷ [] → (more ≡ ids ++ text ∷ []) × IsSoFar more
    added ids text more so_far few below good e = (
      e,
      subst IsSoFar (sym e) (record {
        few = omega (arith, length-append ids (text ∷ []));
        each = All-push IsId ids text so_far.each good;
        rising = rising_snoc ids text so_far.rising below;
      }),
    )

pub none_so_far : IsSoFar []
unfolding IsStrictlySortedBy
none_so_far = record { few = omega arith; each = All-nil IsId; rising = tt }

-- ---- the end

pub is_end_only : (lines : List Text) → is_end lines ≡ true → lines ≡ codes "end" ∷ [] ∷ []
is_end_only [] e = cc
is_end_only (line ∷ []) e = cc
is_end_only (line ∷ rest ∷ []) e =
    let parts = and_parts (bytes_eq line (codes "end")) (bytes_eq rest []) e in
    let first : line ≡ codes "end" = (bytes_eq-Decides line (codes "end")).0 parts.0 in
    let last : rest ≡ [] = (bytes_eq-Decides rest []).0 parts.1 in
    λ i. first i ∷ last i ∷ []
is_end_only (line ∷ rest ∷ next ∷ more) e = cc

-- ---- digits

-- the digit of a number below 16
abbrev pub lower_digit : ℕ → ℕ
lower_digit d = cond (nat_lt d 10) (48 + d) (87 + d)

abbrev pub are_lower_below : ℕ → Bool
are_lower_below zero = true
are_lower_below (suc n) = eqb (slice_index lower_digits n) (lower_digit n) && are_lower_below n

pub lower_at : (n d : ℕ) → are_lower_below n ≡ true → d < n → slice_index lower_digits d ≡ lower_digit d
lower_at zero d all below = absurd (omega arith)
lower_at (suc n) d all below =
    let parts = and_parts (eqb (slice_index lower_digits n) (lower_digit n)) (are_lower_below n) all in
    elim (cases_lt d n) [
      | inl less ↦ lower_at n d parts.1 less
      | inr top ↦
          let same : d ≡ n = omega arith in
          rw same (eqb-true (slice_index lower_digits n) (lower_digit n) parts.0)
    ]

-- what a lower-case digit stands for, and that it is written so
record IsDigit (b : ℕ) : Type 0 where
  value : ℕ
  small : value < 16
  reads : hex_digit_value b ≡ Some value
  written : slice_index lower_digits value ≡ b

decimal_digit : (b : ℕ) → 48 ≤ b → b ≤ 57 → hex_digit_value b ≡ Some (b - 48)
decimal_digit b low high = grind (arith, nat_tests)

letter_digit : (b : ℕ) → 97 ≤ b → b ≤ 102 → hex_digit_value b ≡ Some (b - 87)
letter_digit b low high = grind (arith, nat_tests)

decimal_back : (b : ℕ) → 48 ≤ b → b ≤ 57 → lower_digit (b - 48) ≡ b
decimal_back b low high = grind (arith, nat_tests)

letter_back : (b : ℕ) → 97 ≤ b → b ≤ 102 → lower_digit (b - 87) ≡ b
letter_back b low high = grind (arith, nat_tests)

lower_is_digit : (b : ℕ) → is_lower_digit b ≡ true → IsDigit b
lower_is_digit b lower = elim (or_cases (nat_le 48 b && nat_le b 57) (nat_le 97 b && nat_le b 102) lower) [
  | inl is ↦
      let parts = and_parts (nat_le 48 b) (nat_le b 57) is in
      let low : 48 ≤ b = leb-true 48 b parts.0 in
      let high : b ≤ 57 = leb-true b 57 parts.1 in
      record { value = b - 48; small = omega arith; reads = decimal_digit b low high; written = lower_at 16 (b - 48) refl (omega arith) ∙ decimal_back b low high }
  | inr is ↦
      let parts = and_parts (nat_le 97 b) (nat_le b 102) is in
      let low : 97 ≤ b = leb-true 97 b parts.0 in
      let high : b ≤ 102 = leb-true b 102 parts.1 in
      record { value = b - 87; small = omega arith; reads = letter_digit b low high; written = lower_at 16 (b - 87) refl (omega arith) ∙ letter_back b low high }
]

pair_reads : (a b i : ℕ) (x : IsDigit a) (y : IsDigit b) → pair_value a b i ≡ Ok (x.value * 16 + y.value)
pair_reads a b i x y =
    let first : value_at a i ≡ Ok x.value = ap (digit_or_error a i) x.reads in
    let second : value_at b (i + 1) ≡ Ok y.value = ap (digit_or_error b (i + 1)) y.reads in
    rw (first, second) refl

pair_written : (a b : ℕ) (rest bytes : List ℕ) (x : IsDigit a) (y : IsDigit b) → encode_lower bytes ≡ rest → encode_lower ((x.value * 16 + y.value) ∷ bytes) ≡ a ∷ b ∷ rest
unfolding encode_with
pair_written a b rest bytes x y e =
    let small = y.small in
    let high : (x.value * 16 + y.value) / 16 ≡ x.value = omega arith in
    let low : (x.value * 16 + y.value) % 16 ≡ y.value = omega arith in
    let first : slice_index lower_digits ((x.value * 16 + y.value) / 16) ≡ a = ap (slice_index lower_digits) high ∙ x.written in
    let second : slice_index lower_digits ((x.value * 16 + y.value) % 16) ≡ b = ap (slice_index lower_digits) low ∙ y.written in
    λ i. first i ∷ second i ∷ e i

consed : (v : ℕ) (r : Result (List ℕ) FromHexError) (bytes : List ℕ) → cons_byte v r ≡ Ok bytes → (rest : List ℕ) × (r ≡ Ok rest) × (v ∷ rest ≡ bytes)
consed v (Ok rest) bytes e = (rest, refl, cc)
consed v (Err fault) bytes e = cc

-- lower-case digits are the digits of the bytes that they stand for
lower_pairs : (i : ℕ) (digits bytes : List ℕ) → list_all is_lower_digit digits ≡ true → decode_pairs i digits ≡ Ok bytes → encode_lower bytes ≡ digits
unfolding decode_pairs encode_with
lower_pairs i [] bytes lower e =
    let none : [] ≡ bytes = cc in
    subst (λ t. encode_lower t ≡ []) none refl
lower_pairs i (a ∷ []) bytes lower e = cc
lower_pairs i (a ∷ b ∷ more) bytes lower e =
    let parts = and_parts (is_lower_digit a) (is_lower_digit b && list_all is_lower_digit more) lower in
    let others = and_parts (is_lower_digit b) (list_all is_lower_digit more) parts.1 in
    let x = lower_is_digit a parts.0 in
    let y = lower_is_digit b others.0 in
    let (rest, read, same) = consed (x.value * 16 + y.value) (decode_pairs (i + 2) more) bytes (sym (decode_pairs-ok_pair i a b (x.value * 16 + y.value) more (pair_reads a b i x y)) ∙ e) in
    subst (λ t. encode_lower t ≡ a ∷ b ∷ more) same (pair_written a b more rest x y (lower_pairs (i + 2) more rest others.1 read))

ok_from : (r : Result (List ℕ) FromHexError) (bytes : List ℕ) → result_ok r ≡ Some bytes → r ≡ Ok bytes
ok_from (Ok x) bytes e = cc
ok_from (Err fault) bytes e = cc

even_from : (odd : Bool) (r : Result (List ℕ) FromHexError) (fault : FromHexError) (bytes : List ℕ) → cond odd (Err fault) r ≡ Ok bytes → r ≡ Ok bytes
even_from true r fault bytes e = cc
even_from false r fault bytes e = e

record IsBody (digits body : Text) : Type 0 where
  written : digits ≡ encode_lower body
  few : length body ≤ 32768
  bytes : IsBytes body

-- what is read of digits has them as its digits
body_says : (digits body : Text) → body_of digits ≡ Some body → IsBody digits body
unfolding body_of
body_says digits body e =
    let (good, reads) = given (are_body_digits digits) (result_ok (decode_of digits)) body e in
    let parts = and_parts (nat_le (length digits) 65536) (list_all is_lower_digit digits) good in
    let few : length digits ≤ 65536 = leb-true (length digits) 65536 parts.0 in
    let pairs : decode_pairs 0 digits ≡ Ok body = even_from (length digits % 2 == 1) (decode_pairs 0 digits) OddLength body (ok_from (decode_of digits) body reads) in
    let (all, twice, bytes) = decode_pairs-ok 0 digits body pairs in
    record { written = sym (lower_pairs 0 digits body parts.1 pairs); few = omega (arith, twice); bytes = bytes }

-- ---- lines

-- a line that begins with a word is that word and what is behind it
begins_with_says : (word line : Text) → begins_with word line ≡ true → line ≡ word ++ drop (length word) line
begins_with_says word line is = sym (take-append-drop (length word) line) ∙ ap (λ t. t ++ drop (length word) line) ((bytes_eq-Decides (take (length word) line) word).0 is)

-- a line joined to lines
joined : (line : Text) (lines : List Text) → 0 < length lines → join_with_byte 10 (line ∷ lines) ≡ line ++ 10 ∷ join_with_byte 10 lines
joined line [] some = absurd (omega arith)
joined line (next ∷ lines) some = refl

abbrev pub body_text : Text → Text
body_text body = codes "body " ++ (encode_lower body ++ codes "\nend\n")

-- the lines are those of a content, from the recipients on that are not read yet
record Says (ids : Ids) (lines : List Text) (c : Content) : Type 0 where
  more : Ids
  to : c.to ≡ ids ++ more
  good : IsRecipients c.to
  body : length c.body ≤ 32768
  bytes : IsBytes c.body
  text : join_with_byte 10 lines ≡ flat_map to_line more ++ body_text c.body

-- the line of the body, and the end
says_body : (ids : Ids) (line digits body : Text) → IsSoFar ids → 1 ≤ length ids → line ≡ codes "body " ++ digits → IsBody digits body → Says ids (line ∷ codes "end" ∷ [] ∷ []) (made_of ids body)
says_body ids line digits body so_far some same is = record {
  more = [];
  to = sym (append-nil ids);
  good = record { some = some; few = so_far.few; each = so_far.each; rising = so_far.rising };
  body = is.few;
  bytes = is.bytes;
  text = ap (λ t. t ++ codes "\nend\n") same ∙ ap (λ t. codes "body " ++ (t ++ codes "\nend\n")) is.written;
}

-- the line of a recipient
says_id : (ids more : Ids) (line text : Text) (after : List Text) (c : Content) → line ≡ codes "to " ++ text → more ≡ ids ++ text ∷ [] → 0 < length after → Says more after c → Says ids (line ∷ after) c
says_id ids more line text after c same added some s = record {
  more = text ∷ s.more;
  to = s.to ∙ (ap (λ t. t ++ s.more) added ∙ append_assoc ids (text ∷ []) s.more);
  good = s.good;
  body = s.body;
  bytes = s.bytes;
  text = joined line after some ∙ ((λ i. same i ++ 10 ∷ s.text i)
      ∙ sym (append_assoc (to_line text) (flat_map to_line s.more) (body_text c.body) ∙ append_assoc (codes "to " ++ text) (codes "\n") (flat_map to_line s.more ++ body_text c.body)));
}

body_line_says : (ids : Ids) (line : Text) (after : List Text) (c : Content) → IsSoFar ids → from_body ids line after ≡ Some c → Says ids (line ∷ after) c
unfolding from_body digits_at
body_line_says ids line after c so_far e =
    let (some, making) = unless (length ids == 0) (option_map (made_of ids) (option_and_then body_of (digits_at line after))) c e in
    let (body, reading, made) = mapped (made_of ids) (option_and_then body_of (digits_at line after)) c making in
    let (digits, at, reads) = found body_of (digits_at line after) body reading in
    let (tests, same) = given (is_end after && begins_with (codes "body ") line) (Some (drop 5 line)) digits at in
    let parts = and_parts (is_end after) (begins_with (codes "body ") line) tests in
    let short : drop 5 line ≡ digits = cc in
    subst (λ t. Says ids (line ∷ t) c) (sym (is_end_only after parts.0))
    (subst (Says ids (line ∷ codes "end" ∷ [] ∷ [])) made
    (says_body ids line digits body so_far (one (length ids) some) (begins_with_says (codes "body ") line parts.1 ∙ ap (λ t. codes "body " ++ t) short) (body_says digits body reads)))
  where
    one : (n : ℕ) → (n == 0) ≡ false → 1 ≤ n
    one n other = grind (arith, nat_tests)

-- lines that are read are not none
lines_left : (ids : Ids) (lines : List Text) (c : Content) → from_recipients ids lines ≡ Some c → 0 < length lines
lines_left ids [] c e = cc
lines_left ids (line ∷ lines) c e = omega arith

lines_say : (ids : Ids) (lines : List Text) (c : Content) → IsSoFar ids → from_recipients ids lines ≡ Some c → Says ids lines c
lines_say ids [] c so_far e = cc
lines_say ids (line ∷ after) c so_far e =
    elim (either (begins_with (codes "to ") line) (option_and_then (λ more. from_recipients more after) (with_next ids (drop 3 line))) (from_body ids line after) c e) [
      | inl (to, reading) ↦
          let (more, added, rest) = found (λ more. from_recipients more after) (with_next ids (drop 3 line)) c reading in
          let (same, next) = with_next_gives ids (drop 3 line) more so_far added in
          says_id ids more line (drop 3 line) after c (begins_with_says (codes "to ") line to) same (lines_left more after c rest) (lines_say more after c next rest)
      | inr (other, rest) ↦ body_line_says ids line after c so_far rest
    ]

-- ---- the text

-- a text by its first line and the others
pub text_parts : (c : Content) → standin_text c ≡ codes "gopass-standin 1\n" ++ (flat_map to_line c.to ++ body_text c.body)
text_parts c = ap (λ t. codes "gopass-standin 1\n" ++ t) (append_assoc (flat_map to_line c.to ++ codes "body ") (encode_lower c.body) (codes "\nend\n") ∙ append_assoc (flat_map to_line c.to) (codes "body ") (encode_lower c.body ++ codes "\nend\n"))

header_says : (lines : List Text) (c : Content) → from_header lines ≡ Some c → IsStandinText c (join_with_byte 10 lines)
header_says [] c e = cc
header_says (line ∷ after) c e =
    let (is, rest) = given (bytes_eq line (codes "gopass-standin 1")) (from_recipients [] after) c e in
    let same : line ≡ codes "gopass-standin 1" = (bytes_eq-Decides line (codes "gopass-standin 1")).0 is in
    let s = lines_say [] after c none_so_far rest in
    let ids : s.more ≡ c.to = sym s.to in
    record {
      to = s.good;
      body = s.body;
      each = s.bytes;
      text = joined line after (lines_left [] after c rest) ∙ ((λ i. same i ++ 10 ∷ s.text i)
          ∙ (ap (λ t. codes "gopass-standin 1\n" ++ (flat_map to_line t ++ body_text c.body)) ids ∙ sym (text_parts c)));
    }

-- bytes are the text of what is read of them
pub standin_says : (bytes : Text) (c : Content) → standin_content bytes ≡ Some c → IsStandinText c bytes
unfolding standin_content
standin_says bytes c e = subst (IsStandinText c) (join_with_byte-slice_split 10 bytes) (header_says (pieces_of bytes) c e)

-- ---- limits

ids_short : (ids : Ids) → All IsId ids → length (flat_map to_line ids) ≤ 204 * length ids
ids_short [] all = omega arith
ids_short (id ∷ ids) all =
    let first = All-head IsId id ids all in
    let short = first.short in
    let rest = ids_short ids (All-tail IsId id ids all) in
    omega (arith, short, rest, length-append (to_line id) (flat_map to_line ids), length-append (codes "to " ++ id) (codes "\n"), length-append (codes "to ") id)

-- the longest text, of 64 ids of 200 bytes and 32,768 bytes
pub text_short : (bytes : Text) (c : Content) → IsStandinText c bytes → length bytes ≤ 78619
text_short bytes c is =
    let ids = ids_short c.to is.to.each in
    let few = is.to.few in
    let body = is.body in
    let digits = length-encode_with lower_digits c.body in
    let all = ap length is.text in
    let last = length-append (codes "gopass-standin 1\n" ++ flat_map to_line c.to ++ codes "body " ++ encode_lower c.body) (codes "\nend\n") in
    let third = length-append (codes "gopass-standin 1\n" ++ flat_map to_line c.to ++ codes "body ") (encode_lower c.body) in
    let second = length-append (codes "gopass-standin 1\n" ++ flat_map to_line c.to) (codes "body ") in
    let first = length-append (codes "gopass-standin 1\n") (flat_map to_line c.to) in
    omega (arith, ids, few, body, digits, all, last, third, second, first)

limits_from : (bytes : Text) (content : Option Content) → ((c : Content) → content ≡ Some c → IsStandinText c bytes) → IsSealing bytes content
limits_from bytes None says = record { long = λ _. refl; each = λ c e. cc }
limits_from bytes (Some d) says = record {
  long = λ over. let short = text_short bytes d (says d refl) in absurd (omega arith);
  each = λ c e. let is = says c e in (is.to, is.body);
}

-- what bytes are the text of keeps its limits
pub standin_limits : (bytes : Text) → Unit {0} → IsSealing bytes (standin_content bytes)
standin_limits bytes told = limits_from bytes (standin_content bytes) (standin_says bytes)
