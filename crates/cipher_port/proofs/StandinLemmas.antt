-- The parts of the stand-in's text, as they are read.
use Rattle.std.proofs.Common.{◌≡◌, ◌≢◌, Bool, true, false, cond, ◌==◌, [], length, drop, inl, inr, refl, ap, sym, ◌∙◌, subst}
use Rattle.std.specs.Prelude.{Option, Some, None, Result, Ok, Err, option_map, codes, bytes_eq, IfOk}
use Rattle.std.specs.Option.{option_and_then}
use Rattle.std.specs.List.{join_with_byte}
use Rattle.std.proofs.lemmas.Bool.{cases_Bool, false_from_ne_true}
use Rattle.std.proofs.lemmas.List.Splits.{join_with_byte-slice_split}
use Rattle.std.proofs.lemmas.Slice.Eq.{bytes_eq-Decides}
use Rattle.gopass_base.specs.Text.{Text}
use Rattle.gopass_base.specs.Lines.{cut_at, pieces_of}
use Rattle.recipient_files.specs.Ids.{Ids}
use Rattle.cipher_port.specs.Tool.{Content, made_of}
use Rattle.cipher_port.specs.Standin.{with_next, begins_with, is_end, digits_at, body_of, from_body, from_recipients, from_header, standin_content}
use Rattle.cipher_port.specs.StandinReads.{Gives}
use Rattle.cipher_port.specs.declared.standin.StandinFault.{StandinFault}
use Rattle.cipher_port.specs.declared.standin.StandinFault.TheVariants.{NotSealed, NoMemory}
use Rattle.cipher_port.specs.StandinLaws.{is_end_only}
use Rattle.gopass_base.proofs.LineLemmas.{pair, pieces_cut, pieces_end}

-- ---- what a reader answers

-- a fault is passed on
pub passed_on : {X Y Z W : Type 0} (fault : StandinFault) (view : X → Y) (other : Z → W) (read : Option Y) (all : Option W) → Gives view (Err fault) read → (read ≡ None → all ≡ None) → Gives other (Err fault) all
passed_on NotSealed view other read all h f = f h
passed_on NoMemory view other read all h f = tt

pub same_read : {X Y : Type 0} (view : X → Y) (r : Result X StandinFault) (read all : Option Y) → Gives view r read → all ≡ read → Gives view r all
same_read view (Ok x) read all h e = e ∙ h
same_read view (Err NotSealed) read all h e = e ∙ h
same_read view (Err NoMemory) read all h e = tt

pub read_ok : {X Y : Type 0} (view : X → Y) (r : Result X StandinFault) (read all : Option Y) → Gives view r read → all ≡ read → IfOk r (λ x. all ≡ Some (view x))
read_ok view (Ok x) read all h e = e ∙ h
read_ok view (Err fault) read all h e = tt

pub read_none : {X Y : Type 0} (view : X → Y) (r : Result X StandinFault) (read all : Option Y) → Gives view r read → all ≡ read → r ≡ Err NotSealed → all ≡ None
read_none view r read all h e was = e ∙ subst (λ s. Gives view s read) was h

-- ---- the end

pub end_tells : (rest : Text) → bytes_eq rest (codes "end\n") ≡ is_end (pieces_of rest)
end_tells rest = elim (cases_Bool (is_end (pieces_of rest))) [
  | inl is ↦ (bytes_eq-Decides rest (codes "end\n")).1 (sym (join_with_byte-slice_split 10 rest) ∙ ap (join_with_byte 10) (is_end_only (pieces_of rest) is)) ∙ sym is
  | inr isnt ↦ false_from_ne_true (bytes_eq rest (codes "end\n")) (λ e. other rest isnt ((bytes_eq-Decides rest (codes "end\n")).0 e)) ∙ sym isnt
]
  where
    other : (rest : Text) → is_end (pieces_of rest) ≡ false → rest ≢ codes "end\n"
    other rest isnt same = (let clash : is_end (pieces_of (codes "end\n")) ≡ false = subst (λ t. is_end (pieces_of t) ≡ false) same isnt in cc)

-- ---- the lines

-- one more id was read
pub line_taken : (ids more : Ids) (bs x y : Text) (all : Option Content) → from_recipients ids (pieces_of bs) ≡ all → pair x y ≡ cut_at 10 bs → begins_with (codes "to ") x ≡ true → with_next ids (drop 3 x) ≡ Some more → from_recipients more (pieces_of y) ≡ all
line_taken ids more bs x y all so_far cut to took =
    sym (ap (from_recipients ids) (pieces_cut bs x y (sym cut))
    ∙ ap (λ t. cond t (option_and_then (λ more. from_recipients more (pieces_of y)) (with_next ids (drop 3 x))) (from_body ids x (pieces_of y))) to
    ∙ ap (option_and_then (λ more. from_recipients more (pieces_of y))) took) ∙ so_far

-- a line of no id
pub line_refused : (ids : Ids) (bs x y : Text) (all : Option Content) → from_recipients ids (pieces_of bs) ≡ all → pair x y ≡ cut_at 10 bs → begins_with (codes "to ") x ≡ true → with_next ids (drop 3 x) ≡ None → all ≡ None
line_refused ids bs x y all so_far cut to refused =
    sym so_far ∙ (ap (from_recipients ids) (pieces_cut bs x y (sym cut))
    ∙ ap (λ t. cond t (option_and_then (λ more. from_recipients more (pieces_of y)) (with_next ids (drop 3 x))) (from_body ids x (pieces_of y))) to
    ∙ ap (option_and_then (λ more. from_recipients more (pieces_of y))) refused)

-- a line of another kind
pub line_other : (ids : Ids) (bs x y : Text) (all : Option Content) → from_recipients ids (pieces_of bs) ≡ all → pair x y ≡ cut_at 10 bs → begins_with (codes "to ") x ≡ false → all ≡ from_body ids x (pieces_of y)
line_other ids bs x y all so_far cut other =
    sym so_far ∙ (ap (from_recipients ids) (pieces_cut bs x y (sym cut))
    ∙ ap (λ t. cond t (option_and_then (λ more. from_recipients more (pieces_of y)) (with_next ids (drop 3 x))) (from_body ids x (pieces_of y))) other)

-- what stands behind the last LF is no line
alone : (ids : Ids) (rest : Text) → from_body ids rest [] ≡ None
unfolding from_body digits_at
alone ids rest = elim (length ids == 0) as (λ t. cond t None (option_map (made_of ids) (option_and_then body_of None)) ≡ None) [ true ↦ refl | false ↦ refl ]

-- no line is left
pub lines_done : (ids : Ids) (bs : Text) (all : Option Content) → from_recipients ids (pieces_of bs) ≡ all → None ≡ cut_at 10 bs → all ≡ None
lines_done ids bs all so_far cut = sym so_far ∙ (ap (from_recipients ids) (pieces_end bs (sym cut)) ∙ last (begins_with (codes "to ") bs) (with_next ids (drop 3 bs)))
  where
    last : (to : Bool) (next : Option Ids) → cond to (option_and_then (λ more. from_recipients more []) next) (from_body ids bs []) ≡ None
    last true None = refl
    last true (Some more) = refl
    last false next = alone ids bs

-- ---- the header

pub header_read : (bs x y : Text) → pair x y ≡ cut_at 10 bs → bytes_eq x (codes "gopass-standin 1") ≡ true → standin_content bs ≡ from_recipients [] (pieces_of y)
unfolding standin_content
header_read bs x y cut same = ap from_header (pieces_cut bs x y (sym cut)) ∙ ap (λ t. cond t (from_recipients [] (pieces_of y)) None) same

pub header_refused : (bs x y : Text) → pair x y ≡ cut_at 10 bs → bytes_eq x (codes "gopass-standin 1") ≡ false → standin_content bs ≡ None
unfolding standin_content
header_refused bs x y cut other = ap from_header (pieces_cut bs x y (sym cut)) ∙ ap (λ t. cond t (from_recipients [] (pieces_of y)) None) other

pub header_missing : (bs : Text) → None ≡ cut_at 10 bs → standin_content bs ≡ None
unfolding standin_content
header_missing bs cut = ap from_header (pieces_end bs (sym cut)) ∙ no_lines (bytes_eq bs (codes "gopass-standin 1"))
  where
    no_lines : (test : Bool) → cond test (from_recipients [] []) None ≡ None
    no_lines true = refl
    no_lines false = refl
