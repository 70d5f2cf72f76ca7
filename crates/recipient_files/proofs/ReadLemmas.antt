-- The set that a rule file names.
use Rattle.std.proofs.Common.{◌≡◌, Bool, cond, [], length, ◌==◌, ap, ◌∙◌}
use Rattle.std.specs.Prelude.{Option, Some, None}
use Rattle.std.specs.Option.{option_or}
use Rattle.gopass_base.specs.Text.{Text}
use Rattle.gopass_base.specs.Lines.{pieces_of}
use Rattle.recipient_files.specs.RuleText.{BadLine, bad_at, bad_from, ids_from, ids_of, first_bad_line}
use Rattle.recipient_files.specs.declared.rule.RuleKind.TheVariants.{None as NoId}

abbrev no_id : Bool → Option BadLine
no_id none = cond none (Some (bad_at 0 NoId)) None

-- a bad line
pub bad_line_first : (text : Text) (b : BadLine) → bad_from 1 [] (pieces_of text) ≡ Some b → first_bad_line text ≡ Some b
unfolding first_bad_line
bad_line_first text b is = ap (λ o. option_or o (no_id (length (ids_of text) == 0))) is

-- no bad line
pub bad_line_none : (text : Text) (none : Bool) → bad_from 1 [] (pieces_of text) ≡ None → (length (ids_from [] (pieces_of text)) == 0) ≡ none → first_bad_line text ≡ cond none (Some (bad_at 0 NoId)) None
unfolding first_bad_line ids_of
bad_line_none text none good is = ap (λ o. option_or o (no_id (length (ids_of text) == 0))) good ∙ ap no_id is
