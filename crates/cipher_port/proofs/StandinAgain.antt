-- The text of a content is read as that content.
use Rattle.std.proofs.Common.{◌≡◌, ℕ, suc, ◌/◌, ◌%◌, ◌<◌, ◌≤◌, true, false, cond, not, ◌&&◌, eqb, List, [], ◌∷◌, ◌++◌, length, slice_index, refl, ap, sym, ◌∙◌, subst, arith, length-append}
use Rattle.std.specs.Prelude.{Some, None, option_map, nat_le, nat_lt, codes, All}
use Rattle.std.specs.Option.{option_and_then}
use Rattle.std.specs.Result.{result_ok}
use Rattle.std.specs.List.{list_all, flat_map, AllByRecursion}
use Rattle.std.specs.List.Sorted.{IsStrictlySortedBy}
use Rattle.std.specs.Ordering.{nat_cmp, is_lt}
use Rattle.std.specs.Cmp.Lexicographic.{slice_cmp}
use Rattle.std.specs.declared.cmp.Ordering.TheVariants.{Less}
use Rattle.std.proofs.lemmas.Bool.{and_from, not-true, lt-ltb, le-leb, ne_eqb}
use Rattle.std.proofs.lemmas.Bool.Decides.{nat_tests}
use Rattle.std.proofs.lemmas.List.{append_assoc, append-nil}
use Rattle.std.proofs.lemmas.List.Elements.{All-weaker, All-append, All-head, All-tail}
use Rattle.std.proofs.lemmas.List.Sums.{AllPass-from_list_all}
use Rattle.hex.specs.Hex.{IsBytes, decode_of, encode_lower, encode_with, lower_digits}
use Rattle.hex.proofs.HexLemmas.{decode_of-encode_lower, length-encode_with}
use Rattle.gopass_base.specs.Text.{Text}
use Rattle.gopass_base.specs.Order.{IsRising}
use Rattle.recipient_files.specs.Ids.{Ids, IsId, IsRecipients}
use Rattle.cipher_port.specs.Tool.{Content, made_of}
use Rattle.cipher_port.specs.StandinText.{IsStandinText, to_line}
use Rattle.recipient_files.specs.IdText.{id_at}
use Rattle.gopass_base.specs.Lines.{pieces_of}
use Rattle.cipher_port.specs.Standin.{is_below, with_next, is_lower_digit, body_of, digits_at, from_body, from_recipients, from_header, standin_content}
use Rattle.cipher_port.specs.StandinLaws.{lower_digit, lower_at, body_text, text_parts}
use Rattle.gopass_base.proofs.LineLemmas.{IsOneLine, line_first}
use Rattle.recipient_files.proofs.IdLemmas.{id_at-good, one_line_id}

-- ---- lines

one_line_word : (word : Text) → list_all (λ b. not (eqb b 10)) word ≡ true → IsOneLine word
one_line_word word e = All-weaker (λ b. not (eqb b 10) ≡ true) (λ b. eqb b 10 ≡ false) (λ b q. not-true (eqb b 10) q) word (AllPass-from_list_all (λ b. not (eqb b 10)) word e)

-- ---- digits

digit_is_lower : (d : ℕ) → d < 16 → is_lower_digit (lower_digit d) ≡ true
digit_is_lower d small = grind (arith, nat_tests)

at_is_lower : (d : ℕ) → d < 16 → is_lower_digit (slice_index lower_digits d) ≡ true
at_is_lower d small = ap is_lower_digit (lower_at 16 d refl small) ∙ digit_is_lower d small

digits_are_lower : (body : Text) → IsBytes body → list_all is_lower_digit (encode_lower body) ≡ true
unfolding encode_with
digits_are_lower [] bytes = refl
digits_are_lower (b ∷ body) bytes =
    let fits : b < 256 = bytes 0 in
    let rest = digits_are_lower body (λ i. bytes (suc i)) in
    and_from (is_lower_digit (slice_index lower_digits (b / 16))) (is_lower_digit (slice_index lower_digits (b % 16)) && list_all is_lower_digit (encode_lower body)) (at_is_lower (b / 16) (omega arith))
    (and_from (is_lower_digit (slice_index lower_digits (b % 16))) (list_all is_lower_digit (encode_lower body)) (at_is_lower (b % 16) (omega arith)) rest)

lower_no_feed : (b : ℕ) → is_lower_digit b ≡ true → eqb b 10 ≡ false
lower_no_feed b lower = grind (arith, nat_tests)

one_line_digits : (body : Text) → IsBytes body → IsOneLine (encode_lower body)
one_line_digits body bytes = All-weaker (λ b. is_lower_digit b ≡ true) (λ b. eqb b 10 ≡ false) lower_no_feed (encode_lower body) (AllPass-from_list_all is_lower_digit (encode_lower body) (digits_are_lower body bytes))

body_again : (body : Text) → length body ≤ 32768 → IsBytes body → body_of (encode_lower body) ≡ Some body
unfolding body_of
body_again body few bytes =
    let twice = length-encode_with lower_digits body in
    ap (λ t. cond t (result_ok (decode_of (encode_lower body))) None) (and_from (nat_le (length (encode_lower body)) 65536) (list_all is_lower_digit (encode_lower body)) (le-leb (length (encode_lower body)) 65536 (omega (arith, twice))) (digits_are_lower body bytes))
    ∙ ap result_ok (decode_of-encode_lower body bytes)

-- ---- ids

each_at : {X : Type 0} (P : X → Type 0) (xs : List X) (y : X) (ys : List X) → AllByRecursion P (xs ++ y ∷ ys) → P y
each_at P [] y ys all = all.0
each_at P (x ∷ xs) y ys all = each_at P xs y ys all.1

rising_place : (before : Ids) (id : Text) (more : Ids) → IsRising (before ++ id ∷ more) → list_all (is_below id) before ≡ true
unfolding IsStrictlySortedBy
rising_place [] id more rising = refl
rising_place (first ∷ before) id more rising =
    and_from (is_below id first) (list_all (is_below id) before) (ap is_lt (each_at (λ other. slice_cmp nat_cmp first other ≡ Less) before id more rising.0)) (rising_place before id more rising.1)

among : (before : Ids) (id : Text) (more : Ids) → All IsId (before ++ id ∷ more) → IsId id
among [] id more each = All-head IsId id more each
among (first ∷ before) id more each = among before id more (All-tail IsId first (before ++ id ∷ more) each)

id_again : (before : Ids) (id : Text) (more : Ids) → IsRecipients (before ++ id ∷ more) → with_next before id ≡ Some (before ++ id ∷ [])
unfolding with_next
id_again before id more is =
    let few = is.few in
    ap (λ t. cond t (option_map (λ x. before ++ x ∷ []) (id_at id)) None) (and_from (nat_lt (length before) 64) (list_all (is_below id) before) (lt-ltb (length before) 64 (omega (arith, few, length-append before (id ∷ more)))) (rising_place before id more is.rising))
    ∙ ap (option_map (λ x. before ++ x ∷ [])) (id_at-good id (among before id more is.each))

-- ---- the text

body_read : (ids : Ids) (body : Text) → 1 ≤ length ids → length body ≤ 32768 → IsBytes body → from_recipients ids (pieces_of (body_text body)) ≡ Some (made_of ids body)
unfolding from_body digits_at
body_read ids body some few bytes =
    ap (from_recipients ids) (line_first (codes "body " ++ encode_lower body) (codes "end\n") (All-append (λ b. eqb b 10 ≡ false) (codes "body ") (encode_lower body) (one_line_word (codes "body ") refl) (one_line_digits body bytes)))
    ∙ (ap (λ t. cond t None (option_map (made_of ids) (body_of (encode_lower body)))) (ne_eqb (length ids) 0 (λ none. omega arith))
    ∙ ap (option_map (made_of ids)) (body_again body few bytes))

ids_read : (before more : Ids) (body : Text) → IsRecipients (before ++ more) → length body ≤ 32768 → IsBytes body → from_recipients before (pieces_of (flat_map to_line more ++ body_text body)) ≡ Some (made_of (before ++ more) body)
ids_read before [] body is few bytes =
    let all : before ++ [] ≡ before = append-nil before in
    body_read before body (let some = is.some in omega (arith, some, ap length all)) few bytes ∙ ap (λ t. Some (made_of t body)) (sym all)
ids_read before (id ∷ more) body is few bytes =
    let parts : flat_map to_line (id ∷ more) ++ body_text body ≡ (codes "to " ++ id) ++ 10 ∷ (flat_map to_line more ++ body_text body) =
    append_assoc (to_line id) (flat_map to_line more) (body_text body) ∙ append_assoc (codes "to " ++ id) (codes "\n") (flat_map to_line more ++ body_text body) in
    let next = append_assoc before (id ∷ []) more in
    ap (λ t. from_recipients before (pieces_of t)) parts
    ∙ (ap (from_recipients before) (line_first (codes "to " ++ id) (flat_map to_line more ++ body_text body) (All-append (λ b. eqb b 10 ≡ false) (codes "to ") id (one_line_word (codes "to ") refl) (one_line_id id (among before id more is.each))))
    ∙ (ap (option_and_then (λ ids. from_recipients ids (pieces_of (flat_map to_line more ++ body_text body)))) (id_again before id more is)
    ∙ (ids_read (before ++ id ∷ []) more body (subst IsRecipients (sym next) is) few bytes ∙ ap (λ t. Some (made_of t body)) next)))

pub content_again : (c : Content) (bytes : Text) → IsStandinText c bytes → standin_content bytes ≡ Some c
unfolding standin_content
content_again c bytes is =
    ap (λ t. from_header (pieces_of t)) (is.text ∙ text_parts c)
    ∙ (ap from_header (line_first (codes "gopass-standin 1") (flat_map to_line c.to ++ body_text c.body) (one_line_word (codes "gopass-standin 1") refl))
    ∙ ids_read [] c.to c.body is.to is.body is.each)
