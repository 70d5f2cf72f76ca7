-- The lines of a rule file, one after another.
use Rattle.std.proofs.Common.{◌≡◌, ℕ, ◌+◌, cond, not, refl, ap, sym, ◌∙◌}
use Rattle.std.specs.Prelude.{Option, Some, None, Err, option_map}
use Rattle.std.specs.Option.{option_or}
use Rattle.std.specs.Str.{IsUtf8, is_utf8}
use Rattle.std.proofs.lemmas.Bool.{false_from_ne_true}
use Rattle.std.proofs.lemmas.Str.{IsUtf8-from_is_utf8, is_utf8-from_IsUtf8}
use Rattle.gopass_base.specs.Text.{Text}
use Rattle.gopass_base.specs.Lines.{cut_at, pieces_of}
use Rattle.gopass_base.proofs.LineLemmas.{pair, pieces_cut, pieces_end}
use Rattle.recipient_files.specs.Ids.{Ids, IsId}
use Rattle.recipient_files.specs.IdText.{is_id}
use Rattle.recipient_files.specs.RuleText.{BadLine, bad_at, left_of, text_fault, line_fault, with_line, bad_from, ids_from}
use Rattle.recipient_files.specs.RuleReads.{ReadsRuleText}
use Rattle.recipient_files.specs.declared.rule.RuleKind.TheVariants.{NotText, BadId}
use Rattle.recipient_files.specs.declared.rule.RuleFault.{RuleFault}
use Rattle.recipient_files.specs.declared.rule.RuleFault.TheVariants as rule
use Rattle.recipient_files.proofs.IdLemmas.{is_id_tells}

-- ---- a text as an id

pub not_text : (text : Text) → ¬ IsUtf8 text → text_fault text ≡ Some NotText
not_text text bad = ap (λ t. cond (not t) (Some NotText) (cond (is_id text) None (Some BadId))) (false_from_ne_true (is_utf8 text) (λ e. bad (IsUtf8-from_is_utf8 text e)))

pub good_text : (text : Text) → IsId text → text_fault text ≡ None
good_text text id =
    ap (λ t. cond (not t) (Some NotText) (cond (is_id text) None (Some BadId))) (is_utf8-from_IsUtf8 text id.utf8)
    ∙ ap (λ t. cond t None (Some BadId)) ((is_id_tells text).1 id)

pub bad_text : (text : Text) → IsUtf8 text → ¬ IsId text → text_fault text ≡ Some BadId
bad_text text utf8 bad =
    ap (λ t. cond (not t) (Some NotText) (cond (is_id text) None (Some BadId))) (is_utf8-from_IsUtf8 text utf8)
    ∙ ap (λ t. cond t None (Some BadId)) (false_from_ne_true (is_id text) (λ e. bad ((is_id_tells text).0 e)))

-- ---- what a reader answers

-- a fault is passed on
pub passed_on : {X Y : Type 0} (Is : X → Type 0) (Other : Y → Type 0) (fault : RuleFault) (bad all : Option BadLine) → ReadsRuleText Is bad (Err fault) → ((b : BadLine) → bad ≡ Some b → all ≡ Some b) → ReadsRuleText Other all (Err fault)
passed_on Is Other (rule.Bad number kind) bad all h f = f (bad_at number kind) h
passed_on Is Other rule.NoMemory bad all h f = tt

-- ---- a line that ends with an LF

abbrev kind_at : ℕ → Ids → Text → Option BadLine
kind_at number ids line = option_map (bad_at number) (line_fault ids (left_of line))

abbrev after : ℕ → Ids → Text → Text → Option BadLine
after number ids line rest = bad_from (number + 1) (with_line ids (left_of line)) (pieces_of rest)

bad_cut : (number : ℕ) (ids : Ids) (bs x y : Text) (kind : Option BadLine) → pair x y ≡ cut_at 10 bs → kind_at number ids x ≡ kind → bad_from number ids (pieces_of bs) ≡ option_or kind (after number ids x y)
bad_cut number ids bs x y kind cut is = ap (bad_from number ids) (pieces_cut bs x y (sym cut)) ∙ ap (λ o. option_or o (after number ids x y)) is

pub bad_taken : (number : ℕ) (ids next : Ids) (bs x y : Text) → pair x y ≡ cut_at 10 bs → kind_at number ids x ≡ None → next ≡ with_line ids (left_of x) → bad_from (number + 1) next (pieces_of y) ≡ bad_from number ids (pieces_of bs)
bad_taken number ids next bs x y cut good more = ap (λ l. bad_from (number + 1) l (pieces_of y)) more ∙ sym (bad_cut number ids bs x y None cut good)

pub ids_taken : (ids next : Ids) (bs x y : Text) → pair x y ≡ cut_at 10 bs → next ≡ with_line ids (left_of x) → ids_from next (pieces_of y) ≡ ids_from ids (pieces_of bs)
ids_taken ids next bs x y cut more = ap (λ l. ids_from l (pieces_of y)) more ∙ sym (ap (ids_from ids) (pieces_cut bs x y (sym cut)))

pub bad_refused : (number : ℕ) (ids : Ids) (bs x y : Text) (b : BadLine) → pair x y ≡ cut_at 10 bs → kind_at number ids x ≡ Some b → bad_from number ids (pieces_of bs) ≡ Some b
bad_refused number ids bs x y b cut bad = bad_cut number ids bs x y (Some b) cut bad

-- ---- the last line

pub bad_last : (number : ℕ) (ids : Ids) (bs : Text) (kind : Option BadLine) → None ≡ cut_at 10 bs → kind_at number ids bs ≡ kind → bad_from number ids (pieces_of bs) ≡ kind
bad_last number ids bs kind cut is = ap (bad_from number ids) (pieces_end bs (sym cut)) ∙ (ap (λ o. option_or o None) is ∙ or_none kind)
  where
    or_none : (o : Option BadLine) → option_or o None ≡ o
    or_none None = refl
    or_none (Some b) = refl

pub ids_last : (ids : Ids) (bs : Text) → None ≡ cut_at 10 bs → with_line ids (left_of bs) ≡ ids_from ids (pieces_of bs)
ids_last ids bs cut = sym (ap (ids_from ids) (pieces_end bs (sym cut)))
