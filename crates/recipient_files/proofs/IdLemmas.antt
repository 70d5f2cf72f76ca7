-- The tests of an id tell what an id is.
use Rattle.std.proofs.Common.{◌≡◌, ◌≢◌, ℕ, ◌-◌, ◌≤◌, false, not, ◌&&◌, eqb, length, slice_index, cond, refl, ap, arith}
use Rattle.std.specs.Prelude.{Some, None, nat_le, All}
use Rattle.std.specs.Bool.{Decides}
use Rattle.std.specs.Str.{IsUtf8, is_utf8}
use Rattle.std.specs.List.{list_all}
use Rattle.std.proofs.lemmas.Bool.{le-leb, leb-true, ne_eqb, false_from_ne_true}
use Rattle.std.proofs.lemmas.Bool.Decides.{Decides-and, Decides-not, Decides-eqb, Decides-like, Decides-by_and}
use Rattle.std.proofs.lemmas.List.Elements.{All-weaker}
use Rattle.std.proofs.lemmas.Str.{IsUtf8-from_is_utf8, is_utf8-from_IsUtf8}
use Rattle.gopass_base.specs.Text.{Text, IsPrintable}
use Rattle.recipient_files.specs.Ids.{IsId, CanBegin}
use Rattle.gopass_base.proofs.LineLemmas.{IsOneLine}
use Rattle.recipient_files.specs.IdText.{is_id_byte, is_first_byte, is_id, id_at}

abbrev IsIdByte : ℕ → Type 0
IsIdByte b = IsPrintable b × (b ≢ 35)

id_byte_tells : (b : ℕ) → Decides (is_id_byte b) (IsIdByte b)
id_byte_tells b = Decides-like (is_id_byte b) (λ p. ((p.0, p.1.0), p.1.1)) (λ q. (q.0.0, (q.0.1, q.1)))
    (Decides-and (nat_le 32 b) (not (eqb b 127) && not (eqb b 35)) (leb-true 32 b, le-leb 32 b)
    (Decides-and (not (eqb b 127)) (not (eqb b 35)) (Decides-not (eqb b 127) (Decides-eqb b 127)) (Decides-not (eqb b 35) (Decides-eqb b 35))))

first_byte_tells : (b : ℕ) → Decides (is_first_byte b) (CanBegin b)
first_byte_tells b = Decides-like (is_first_byte b) (λ p. (p.0, p.1.0, p.1.1)) (λ q. (q.0, (q.1, q.2)))
    (Decides-and (not (eqb b 32)) (not (eqb b 45) && not (eqb b 64)) (Decides-not (eqb b 32) (Decides-eqb b 32))
    (Decides-and (not (eqb b 45)) (not (eqb b 64)) (Decides-not (eqb b 45) (Decides-eqb b 45)) (Decides-not (eqb b 64) (Decides-eqb b 64))))

abbrev last_of : Text → ℕ
last_of text = slice_index text (length text - 1)

abbrev IdParts : Text → Type 0
IdParts text = (1 ≤ length text) × ((length text ≤ 200) × (IsUtf8 text × (All IsIdByte text × (CanBegin (slice_index text 0) × (last_of text ≢ 32)))))

id_parts_tell : (text : Text) → Decides (is_id text) (IdParts text)
unfolding is_id
id_parts_tell text =
    Decides-and (nat_le 1 (length text)) _ (leb-true 1 (length text), le-leb 1 (length text))
    (Decides-and (nat_le (length text) 200) _ (leb-true (length text) 200, le-leb (length text) 200)
    (Decides-and (is_utf8 text) _ (IsUtf8-from_is_utf8 text, is_utf8-from_IsUtf8 text)
    (Decides-and (list_all is_id_byte text) _ (Decides-by_and is_id_byte IsIdByte (list_all is_id_byte) id_byte_tells refl (λ _ _. refl) text)
    (Decides-and (is_first_byte (slice_index text 0)) _ (first_byte_tells (slice_index text 0))
    (Decides-not (eqb (last_of text) 32) (Decides-eqb (last_of text) 32))))))

id_from_parts : (text : Text) → IdParts text → IsId text
id_from_parts text p = record {
  some = p.0;
  short = p.1.0;
  utf8 = p.1.1.0;
  printable = All-weaker IsIdByte IsPrintable (λ b q. q.0) text p.1.1.1.0;
  no_hash = All-weaker IsIdByte (λ b. b ≢ 35) (λ b q. q.1) text p.1.1.1.0;
  begins = p.1.1.1.1.0;
  ends = p.1.1.1.1.1;
}

parts_of_id : (text : Text) → IsId text → IdParts text
parts_of_id text id = (id.some, (id.short, (id.utf8, ((λ k d below. (id.printable k d below, id.no_hash k d below)), (id.begins, id.ends)))))

-- the test tells whether a text is an id
pub is_id_tells : (text : Text) → Decides (is_id text) (IsId text)
is_id_tells text = Decides-like (is_id text) (id_from_parts text) (parts_of_id text) (id_parts_tell text)

pub id_at-good : (text : Text) → IsId text → id_at text ≡ Some text
unfolding id_at
id_at-good text id = ap (λ t. cond t (Some text) None) ((is_id_tells text).1 id)

pub id_at-bad : (text : Text) → ¬ IsId text → id_at text ≡ None
unfolding id_at
id_at-bad text bad = ap (λ t. cond t (Some text) None) (false_from_ne_true (is_id text) (λ e. bad ((is_id_tells text).0 e)))

-- an id has no LF
pub one_line_id : (id : Text) → IsId id → IsOneLine id
one_line_id id good = All-weaker IsPrintable (λ b. eqb b 10 ≡ false) (λ b q. ne_eqb b 10 (λ same. let low = q.0 in omega (arith, low, same))) id good.printable
