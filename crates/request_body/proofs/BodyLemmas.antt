-- The body of a request, from the line or the bytes that were read.
use Rattle.std.proofs.Common.{ℕ, ◌+◌, ◌<◌, ◌≤◌, ◌≡◌, ◌≢◌, ◌++◌, ◌∷◌, [], min, length, Result, Ok, Err, IsOk, Vec, refl, sym, ◌∙◌, ap, subst, arith, length-append, inl, inr, Global}
use Rattle.std.proofs.lemmas.List.{append_assoc, append-nil, length-take}
use Rattle.std.proofs.lemmas.List.Elements.{All-nil}
use Rattle.gopass_base.specs.Text.{Text}
use Rattle.gopass_base.specs.Lines.{Lacks}
use Rattle.gopass_base.specs.Faults.{Rose}
use Rattle.io_ports.specs.Told.{Told}
use Rattle.io_ports.specs.Source.{Grew, GrewOnce}
use Rattle.io_ports.specs.Input.{CameSome, IsLine, ReadsAll, ReadsLine, ReadsCount, StandsFirst, first_line, content_of}
use Rattle.io_ports.specs.declared.input.InputFault.{InputFault}
use Rattle.io_ports.specs.declared.input.InputFault.TheVariants as input
use Rattle.io_ports.proofs.ToldLemmas.{told_as}
use Rattle.io_ports.proofs.InputLemmas.{behind_these, lf_within, one_first, says_only}
use Rattle.command_words.specs.declared.command.Intake.{Intake}
use Rattle.command_words.specs.declared.command.Intake.TheVariants.{Line, All}
use Rattle.request_body.specs.Bodies.{Input, TakesBody, GivesBody, RefusesBody, IsBody, IsCutOff, IsLong, IsMissing, IsOver, IsTooLong, HasLf, body_fault, due_of}
use Rattle.request_body.specs.declared.body.BodyFault.{BodyFault}
use Rattle.request_body.specs.declared.body.BodyFault.TheVariants.{Long}

-- a line that ends with its line feed
pub line_with : (line : Text) → first_line line ≡ (line, []) → HasLf line → line ≡ content_of line ++ 10 ∷ []
line_with line one has = elim ((one_first line line []).0 one).ends [
  | inl (says, none, ended) ↦ ended ∙ ap (λ l. l ++ 10 ∷ []) (sym (ap content_of ended ∙ (says_only says [] none).1))
  | inr (none, nothing) ↦ absurd (lf_within has.0 (subst (Lacks 10) has.1 none))
]

-- a line without a line feed
pub line_without : (line : Text) → first_line line ≡ (line, []) → (HasLf line → ⊥) → line ≡ content_of line
line_without line one has_none = elim ((one_first line line []).0 one).ends [
  | inl (says, none, ended) ↦ absurd (has_none (says, ended))
  | inr (none, nothing) ↦ sym (says_only line [] none).0
]

-- a text says in its first line what that line says
same_content : (line after before : Text) → StandsFirst line after before → content_of before ≡ content_of line
same_content line after before s = elim s.ends [
  | inl (says, none, ended) ↦ ap content_of (s.whole ∙ ap (λ l. l ++ after) ended ∙ append_assoc says (10 ∷ []) after) ∙ (says_only says after none).1
      ∙ sym (ap content_of ended ∙ (says_only says [] none).1)
  | inr (none, nothing) ↦ ap content_of (s.whole ∙ ap (λ l. line ++ l) nothing ∙ append-nil line)
]

-- a line says no more than it has, and has no more than the text
says_less : (line after before : Text) → StandsFirst line after before → (length (content_of before) ≤ length line) × (length line ≤ length before)
says_less line after before s = (
  elim s.ends [
    | inl (says, none, ended) ↦ (let said : content_of before ≡ says = same_content line after before s ∙ ap content_of ended ∙ (says_only says [] none).1 in
        omega (arith, ap length said, ap length ended, length-append says (10 ∷ [])))
    | inr (none, nothing) ↦ (let said : content_of before ≡ line = same_content line after before s ∙ (says_only line [] none).0 in
        omega (arith, ap length said))
  ],
  omega (arith, ap length s.whole, length-append line after),
)

first_stands : (text : Text) → StandsFirst (first_line text).0 (first_line text).1 text
first_stands text = (one_first text (first_line text).0 (first_line text).1).0 refl

-- ---- a line

-- some bytes of the line came
some_of_line : (most : ℕ) (a b : Text) → most ≤ 16777217 → most ≤ length (first_line a).0 → CameSome most a b → CameSome (min 16777217 (length (first_line a).0)) a b
some_of_line most a b few within (bytes, short, came) = (bytes, omega (arith, few, within, short), came)

-- the source failed, or gave too long a line, or there was no room for it
pub line_fault : (fault : InputFault) (i : Input) → Told (ReadsLine {Z = Global} 16777216 (Err fault)) i.before i.after → ReadsCount {Z = Global} 16777216 (Err fault) i.old_taken i.new_taken
    → i.new_ends ≡ i.old_ends → (fault ≡ input.Failed → Rose i.old_faults i.new_faults) → RefusesBody Line i (body_fault fault)
line_fault input.Failed i read count goes_on rose = (rose refl, record { came = record { later = count.later; most = omega (arith, count.most) }; told = told_as _ _ step i.before i.after read })
  where
    step : (a b : Text) → ReadsLine {Z = Global} 16777216 (Err input.Failed) a b → CameSome (min 16777217 (length (due_of Line a))) a b
    step a b p = some_of_line (min 16777216 (length (content_of a))) a b (omega arith) (omega (arith, (says_less (first_line a).0 (first_line a).1 a (first_stands a)).0)) p
line_fault input.NoMemory i read count goes_on rose = record { came = record { later = count.later; most = omega (arith, count.most) }; told = told_as _ _ step i.before i.after read }
  where
    step : (a b : Text) → ReadsLine {Z = Global} 16777216 (Err input.NoMemory) a b → CameSome (min 16777217 (length (due_of Line a))) a b
    step a b p = some_of_line (min 16777217 (length (first_line a).0)) a b (omega arith) (omega arith) p
line_fault input.Long i read count goes_on rose = record { came = count; goes_on = goes_on; told = told_as _ _ step i.before i.after read }
  where
    step : (a b : Text) → ReadsLine {Z = Global} 16777216 (Err input.Long) a b → IsLong Line a b
    step a b p = record { over = omega (arith, p.0, (says_less (first_line a).0 (first_line a).1 a (first_stands a)).0); left = p.1 }

no_items : (l : Text) → length l ≡ 0 → l ≡ []
no_items [] none = refl
no_items (b ∷ l) none = absurd (omega (arith, none))

module _ (line : Vec ℕ Global) (i : Input) (read : Told (ReadsLine 16777216 (Ok line)) i.before i.after) (count : Grew (length line.items) i.old_taken i.new_taken) (ends : GrewOnce i.old_ends i.new_ends (Lacks 10 line.items)) where
  stands : (a b : Text) → ReadsLine 16777216 (Ok line) a b → StandsFirst line.items b a
  stands a b p = (one_first a line.items b).0 p.0

  -- the line is empty
  pub line_missing : length line.items ≡ 0 → IsMissing Line i
  line_missing empty = record {
    line = refl;
    none = omega (arith, count.later, count.most, empty);
    ended = ends.once (subst (Lacks 10) (sym (no_items line.items empty)) (All-nil (λ n. n ≢ 10)));
    told = told_as _ _ step i.before i.after read;
  }
    where
      step : (a b : Text) → ReadsLine 16777216 (Ok line) a b → (a ≡ []) × (b ≡ [])
      step a b p = (let none : length (first_line a).0 ≡ 0 = ap (λ (l : Text × Text). length l.0) p.0 ∙ empty in
          let all : length a ≡ 0 = omega (arith, none, length-take (length (content_of a) + 1) a) in
          (no_items a all, no_items b (omega (arith, all, ap length (stands a b p).whole, length-append line.items b))))

  -- the line with its line feed is too long
  pub line_over : 16777216 < length line.items → length line.items ≤ 16777217 → IsLine 16777216 line.items → IsTooLong Line i
  line_over more few one = record {
    came = subst (λ n. Grew n i.old_taken i.new_taken) full count;
    goes_on = ends.stays (λ lacks. omega (arith, more, one.short, ap length (says_only line.items [] lacks).0));
    told = told_as _ _ step i.before i.after read;
  }
    where
      full : length line.items ≡ 16777217
      full = omega (arith, more, few)

      step : (a b : Text) → ReadsLine 16777216 (Ok line) a b → IsLong Line a b
      step a b p = record { over = omega (arith, more, ap (λ (l : Text × Text). length l.0) p.0); left = behind_these line.items a b 16777217 (stands a b p).whole full }

  -- there was no room for its line feed
  pub line_unended : length line.items ≤ 16777216 → IsCutOff Line i
  line_unended short = record { came = record { later = count.later; most = omega (arith, short, count.most) }; told = told_as _ _ step i.before i.after read }
    where
      step : (a b : Text) → ReadsLine 16777216 (Ok line) a b → CameSome (min 16777217 (length (due_of Line a))) a b
      step a b p = (line.items, omega (arith, short, ap (λ (l : Text × Text). length l.0) p.0), (stands a b p).whole)

  -- the line is a body
  pub line_body : (body : Vec ℕ Global) → 0 < length line.items → length line.items ≤ 16777216 → IsLine 16777216 line.items → body.items ≡ content_of line.items ++ 10 ∷ [] → GivesBody Line body.items i
  line_body body some short one is = record {
    due = line.items;
    whole = ap (λ (l : Text × Text). l.0) one.one;
    some = λ e none. omega (arith, some, ap length none);
    short = short;
    body_is = is;
    came = count;
    ended = ends;
    told = told_as _ _ step i.before i.after read;
  }
    where
      step : (a b : Text) → ReadsLine 16777216 (Ok line) a b → IsBody Line body.items a b
      step a b p = (let s = stands a b p in record {
        some = λ none. omega (arith, some, ap length none, (says_less line.items b a s).1);
        short = omega (arith, short, ap (λ (l : Text × Text). length l.0) p.0);
        body_is = is ∙ ap (λ l. l ++ 10 ∷ []) (sym (same_content line.items b a s));
        left = ap (λ (l : Text × Text). l.1) (sym p.0);
      })

-- ---- all that is left

pub all_fault : (fault : InputFault) (i : Input) → Told (ReadsAll {Z = Global} 16777216 (Err fault)) i.before i.after → ReadsCount {Z = Global} 16777216 (Err fault) i.old_taken i.new_taken
    → i.new_ends ≡ i.old_ends → (fault ≡ input.Failed → Rose i.old_faults i.new_faults) → RefusesBody All i (body_fault fault)
all_fault input.Failed i read count goes_on rose = (rose refl, record { came = record { later = count.later; most = omega (arith, count.most) }; told = told_as _ _ some_of_all i.before i.after read })
  where
    some_of_all : (a b : Text) → CameSome 16777216 a b → CameSome (min 16777217 (length a)) a b
    some_of_all a b (bytes, short, came) = (bytes, omega (arith, short, ap length came, length-append bytes b), came)
all_fault input.NoMemory i read count goes_on rose = record { came = record { later = count.later; most = omega (arith, count.most) }; told = told_as _ _ some_of_all i.before i.after read }
  where
    some_of_all : (a b : Text) → CameSome 16777216 a b → CameSome (min 16777217 (length a)) a b
    some_of_all a b (bytes, short, came) = (bytes, omega (arith, short, ap length came, length-append bytes b), came)
all_fault input.Long i read count goes_on rose = record { came = count; goes_on = goes_on; told = told_as _ _ step i.before i.after read }
  where
    step : (a b : Text) → ReadsAll {Z = Global} 16777216 (Err input.Long) a b → IsLong All a b
    step a b p = record { over = p.0; left = p.1 }

pub all_body : (bytes : Vec ℕ Global) (i : Input) → length bytes.items ≤ 16777216 → Told (ReadsAll 16777216 (Ok bytes)) i.before i.after → Grew (length bytes.items) i.old_taken i.new_taken
    → GrewOnce i.old_ends i.new_ends (IsOk {E = InputFault} (Ok bytes)) → GivesBody All bytes.items i
all_body bytes i short read count ends = record {
  due = bytes.items;
  whole = refl;
  some = λ e. absurd (cc);
  short = short;
  body_is = refl;
  came = count;
  ended = record { once = λ all. ends.once refl; stays = λ none. absurd (none tt) };
  told = told_as _ _ step i.before i.after read;
}
  where
    step : (a b : Text) → ReadsAll 16777216 (Ok bytes) a b → IsBody All bytes.items a b
    step a b p = record { body_is = p.0; short = p.1; left = p.2 }

-- ---- what is too long is over the limit

long_is_over : (intake : Intake) (before after : Text) → IsLong intake before after → IsOver before after
long_is_over All before after long = long.over
long_is_over Line before after long = omega (arith, long.over, (says_less (first_line before).0 (first_line before).1 before (first_stands before)).1)

too_long : (intake : Intake) (i : Input) (result : Result (Vec ℕ Global) BodyFault) → TakesBody intake i result → result ≡ Err Long → IsTooLong intake i
too_long intake i result taken is = subst (TakesBody intake i) is taken

pub over_body : (intake : Intake) (i : Input) (result : Result (Vec ℕ Global) BodyFault) → TakesBody intake i result → result ≡ Err Long → Told IsOver i.before i.after
over_body intake i result taken is = told_as _ _ (long_is_over intake) i.before i.after (too_long intake i result taken is).told

pub long_body : (intake : Intake) (i : Input) (result : Result (Vec ℕ Global) BodyFault) → TakesBody intake i result → result ≡ Err Long → Grew 16777217 i.old_taken i.new_taken
long_body intake i result taken is = (too_long intake i result taken is).came
