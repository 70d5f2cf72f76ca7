-- The text that is written for a set is read as that set.
use Rattle.std.proofs.Common.{◌≡◌, ◌≢◌, ◌≤◌, ◌+◌, ℕ, false, cond, ◌==◌, [], ◌∷◌, ◌++◌, length, slice_index, refl, ap, sym, ◌∙◌, subst, arith, length-append}
use Rattle.std.specs.Prelude.{Some, None, codes, All, Contains, option_map}
use Rattle.std.specs.Option.{option_or}
use Rattle.std.proofs.lemmas.Bool.{ne_eqb}
use Rattle.std.proofs.lemmas.List.{append_assoc, append-nil}
use Rattle.std.proofs.lemmas.List.Elements.{All-head, All-tail}
use Rattle.gopass_base.specs.Text.{Text}
use Rattle.gopass_base.specs.Lines.{pieces_of, front_or}
use Rattle.gopass_base.proofs.LineLemmas.{cut_none, line_first}
use Rattle.recipient_files.specs.Ids.{Ids, IsId, IsRecipients}
use Rattle.recipient_files.specs.RuleText.{IsRule, bad_at, trim_start, trim_end, left_of, text_fault, room_fault, line_fault, with_id, with_line, bad_from, ids_from, ids_of, rule_text}
use Rattle.recipient_files.specs.declared.rule.RuleKind.TheVariants.{TooMany}
use Rattle.recipient_files.proofs.IdLemmas.{one_line_id}
use Rattle.recipient_files.proofs.TrimLemmas.{trim_done}
use Rattle.recipient_files.proofs.RuleLemmas.{good_text}
use Rattle.recipient_files.proofs.SetLemmas.{not_before}
use Rattle.recipient_files.proofs.ReadLemmas.{bad_line_none}

-- ---- one line

start_done : (text : Text) → 1 ≤ length text → slice_index text 0 ≢ 32 → trim_start text ≡ text
start_done [] some other = refl
start_done (b ∷ bs) some other = ap (λ t. cond t (trim_start bs) (b ∷ bs)) (ne_eqb b 32 other)

-- of an id all is left
left_id : (id : Text) → IsId id → left_of id ≡ id
left_id id is =
    ap (λ t. trim_end (trim_start (front_or t id))) (cut_none 35 id (λ k below. is.no_hash k 0 below))
    ∙ (ap trim_end (start_done id is.some is.begins.0) ∙ trim_done id (λ _. is.ends))

some_left : (id : Text) → IsId id → (length id == 0) ≡ false
some_left id is = let some = is.some in ne_eqb (length id) 0 (λ none. omega (arith, some, none))

-- ---- an id behind others

abbrev Fits : Ids → Text → Ids → Type 0
Fits before id more = IsRecipients (before ++ id ∷ more)

good_at : (before : Ids) (id : Text) (more : Ids) → Fits before id more → IsId id
good_at before id more is = among before is.each
  where
    among : (before : Ids) → All IsId (before ++ id ∷ more) → IsId id
    among [] each = All-head IsId id more each
    among (first ∷ before) each = among before (All-tail IsId first (before ++ id ∷ more) each)

room : (before : Ids) (id : Text) (more : Ids) → Fits before id more → room_fault before id ≡ None
room before id more is =
    let few = is.few in
    ap (λ t. cond t None (cond (length before == 64) (Some TooMany) None)) (not_before before id more is.rising)
    ∙ ap (λ t. cond t (Some TooMany) None) (ne_eqb (length before) 64 (λ full. omega (arith, few, full, length-append before (id ∷ more))))

no_fault : (before : Ids) (id : Text) (more : Ids) → Fits before id more → line_fault before (left_of id) ≡ None
no_fault before id more is =
    let good = good_at before id more is in
    ap (line_fault before) (left_id id good)
    ∙ (ap (λ t. cond t None (option_or (text_fault id) (room_fault before id))) (some_left id good)
    ∙ (ap (λ o. option_or o (room_fault before id)) (good_text id good) ∙ room before id more is))

taken : (before : Ids) (id : Text) (more : Ids) → Fits before id more → with_line before (left_of id) ≡ before ++ id ∷ []
taken before id more is =
    let good = good_at before id more is in
    ap (with_line before) (left_id id good)
    ∙ (ap (λ t. cond t before (with_id before id)) (some_left id good)
    ∙ ap (λ t. cond t before (before ++ id ∷ [])) (not_before before id more is.rising))

-- ---- the lines

lines_of : (id : Text) (more : Ids) → IsId id → pieces_of (rule_text (id ∷ more)) ≡ id ∷ pieces_of (rule_text more)
lines_of id more good = ap pieces_of (append_assoc id (codes "\n") (rule_text more)) ∙ line_first id (rule_text more) (one_line_id id good)

ids_again : (before more : Ids) → IsRecipients (before ++ more) → ids_from before (pieces_of (rule_text more)) ≡ before ++ more
ids_again before [] is = sym (append-nil before)
ids_again before (id ∷ more) is =
    let next : (before ++ id ∷ []) ++ more ≡ before ++ id ∷ more = append_assoc before (id ∷ []) more in
    ap (ids_from before) (lines_of id more (good_at before id more is))
    ∙ (ap (λ l. ids_from l (pieces_of (rule_text more))) (taken before id more is)
    ∙ (ids_again (before ++ id ∷ []) more (subst IsRecipients (sym next) is) ∙ next))

all_good : (number : ℕ) (before more : Ids) → IsRecipients (before ++ more) → bad_from number before (pieces_of (rule_text more)) ≡ None
all_good number before [] is = refl
all_good number before (id ∷ more) is =
    let next : (before ++ id ∷ []) ++ more ≡ before ++ id ∷ more = append_assoc before (id ∷ []) more in
    ap (bad_from number before) (lines_of id more (good_at before id more is))
    ∙ (ap (λ o. option_or (option_map (bad_at number) o) (bad_from (number + 1) (with_line before (left_of id)) (pieces_of (rule_text more)))) (no_fault before id more is)
    ∙ (ap (λ l. bad_from (number + 1) l (pieces_of (rule_text more))) (taken before id more is)
    ∙ all_good (number + 1) (before ++ id ∷ []) more (subst IsRecipients (sym next) is)))

pub written_again : (set : Ids) → IsRecipients set → IsRule set (rule_text set)
unfolding ids_of
written_again set is =
    let same : ids_from [] (pieces_of (rule_text set)) ≡ set = ids_again [] set is in
    let some = is.some in
    record {
      good = bad_line_none (rule_text set) false (all_good 1 [] set is) (ne_eqb (length (ids_from [] (pieces_of (rule_text set)))) 0 (λ none. omega (arith, some, none, ap length same)));
      set_of = record { rising = is.rising; same = λ id. (subst (λ l. Contains l id) (sym same), subst (λ l. Contains l id) same) };
    }
