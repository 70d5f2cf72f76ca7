-- Reading a journal line by line.
use Rattle.std.proofs.Common.{◌≡◌, ◌≢◌, ◌⊎◌, inl, inr, ◌+◌, ◌<◌, List, [], ◌∷◌, ◌++◌, length, map, get_or, codes, cond, false, All, refl, ap, sym, ◌∙◌, subst, arith, append_assoc, length-append, ne_eqb}
use Rattle.std.specs.Prelude.{Option, None, Some, Err, AllPairs, Contains, IsTrue}
use Rattle.std.specs.Str.{is_utf8}
use Rattle.std.proofs.lemmas.Bool.{true≢false}
use Rattle.std.proofs.lemmas.List.{append-nil, get_or_at, get_or_append_left}
use Rattle.std.proofs.lemmas.List.Elements.{All-head, All-tail}
use Rattle.gopass_base.specs.Text.{Text}
use Rattle.gopass_base.specs.Lines.{cut_at, with_first, Lacks}
use Rattle.gopass_base.proofs.LineLemmas.{both, cut_is}
use Rattle.gopass_base.specs.Paths.{IsFilePath}
use Rattle.pending_journal.specs.Service.{is_service}
use Rattle.pending_journal.specs.Journal.{JournalPlan, IsJournalPlan, paths_of, put_lines, drop_lines, journal_text}
use Rattle.pending_journal.specs.Faults.{IsBadText}
use Rattle.pending_journal.specs.Steps.{with_put, with_drop, IsStep, journal_start, fault_of_step}
use Rattle.pending_journal.specs.Change.{plan_in, puts_in, contents_of, MayAdd}
use Rattle.pending_journal.specs.declared.put.Put.{Put}
use Rattle.pending_journal.specs.declared.change.Change.{Change}
use Rattle.pending_journal.specs.declared.change.ChangeAddFault.{ChangeAddFault}
use Rattle.pending_journal.specs.declared.change.ChangeAddFault.TheVariants.{TwoForOne, Service, Long, NoMemory as NoRoom}
use Rattle.pending_journal.specs.declared.read.LineFault.TheVariants.{Bad}
use Rattle.pending_journal.proofs.BuildLemmas.{puts_push, drops_push}
use Rattle.pending_journal.proofs.PlanLemmas.{All-left, All-right, no_feed, first_path, other_first, no_put, lines_of}

-- ---- what is left of a plan's text behind the lines of the first paths

pub record Left (ps xs qs ys : List Text) (rest : Text) : Type 0 where
  pub more_puts : List Text
  pub more_drops : List Text
  pub puts : qs ≡ ps ++ more_puts
  pub drops : ys ≡ xs ++ more_drops
  pub text : rest ≡ lines_of more_puts more_drops
  pub last : 0 < length xs → more_puts ≡ []

left_drops : (xs ys : List Text) (rest : Text) → All IsFilePath xs → All IsFilePath ys → drop_lines xs rest ≡ drop_lines ys (codes "end\n") → (ws : List Text) × (ys ≡ xs ++ ws) × (rest ≡ drop_lines ws (codes "end\n"))
left_drops [] ys rest h k e = (ys, refl, e)
left_drops (x ∷ xs) [] rest h k e = absurd (other_first (drop_lines (x ∷ xs) rest) (codes "end\n") (λ e. absurd (omega (arith, e))) e)
left_drops (x ∷ xs) (y ∷ ys) rest h k e =
    let here : x ++ 10 ∷ drop_lines xs rest ≡ y ++ 10 ∷ drop_lines ys (codes "end\n") = cc in
    let first = first_path x y (drop_lines xs rest) (drop_lines ys (codes "end\n")) (All-head IsFilePath x xs h) (All-head IsFilePath y ys k) here in
    let (ws, is, text) = left_drops xs ys rest (All-tail IsFilePath x xs h) (All-tail IsFilePath y ys k) first.1 in
    (ws, (λ i. sym first.0 i ∷ is i), text)

pub left_of : (ps xs qs ys : List Text) (rest : Text) → All IsFilePath (ps ++ xs) → All IsFilePath (qs ++ ys) → put_lines ps (drop_lines xs rest) ≡ lines_of qs ys → Left ps xs qs ys rest
left_of [] [] qs ys rest h k e = record { more_puts = qs; more_drops = ys; puts = refl; drops = refl; text = e; last = λ some. absurd (omega (arith, some)) }
left_of [] (x ∷ xs) [] ys rest h k e = (let (ws, is, text) = left_drops (x ∷ xs) ys rest h k e in
    record { more_puts = []; more_drops = ws; puts = refl; drops = is; text = text; last = λ some. refl })
left_of [] (x ∷ xs) (q ∷ qs) ys rest h k e = absurd (other_first (drop_lines (x ∷ xs) rest) (lines_of (q ∷ qs) ys) (λ e. absurd (omega (arith, e))) e)
left_of (p ∷ ps) xs [] ys rest h k e = absurd (no_put ys (p ++ 10 ∷ put_lines ps (drop_lines xs rest)) (sym e))
left_of (p ∷ ps) xs (q ∷ qs) ys rest h k e =
    let here : p ++ 10 ∷ put_lines ps (drop_lines xs rest) ≡ q ++ 10 ∷ lines_of qs ys = cc in
    let first = first_path p q (put_lines ps (drop_lines xs rest)) (lines_of qs ys) (All-head IsFilePath p (ps ++ xs) h) (All-head IsFilePath q (qs ++ ys) k) here in
    let l = left_of ps xs qs ys rest (All-tail IsFilePath p (ps ++ xs) h) (All-tail IsFilePath q (qs ++ ys) k) first.1 in
    let puts = l.puts in
    record { more_puts = l.more_puts; more_drops = l.more_drops; puts = (λ i. sym first.0 i ∷ puts i); drops = l.drops; text = l.text; last = l.last }

-- ---- a path more

put_named : (puts drops : List Text) (path : Text) → drops ≡ [] → (puts ++ path ∷ []) ++ drops ≡ (puts ++ drops) ++ path ∷ []
put_named puts drops path none =
    ap (λ (t : List Text). (puts ++ path ∷ []) ++ t) none ∙ (append-nil (puts ++ path ∷ [])
    ∙ (ap (λ (t : List Text). t ++ path ∷ []) (sym (append-nil puts)) ∙ ap (λ (t : List Text). (puts ++ t) ++ path ∷ []) (sym none)))

drop_named : (puts drops : List Text) (path : Text) → puts ++ (drops ++ path ∷ []) ≡ (puts ++ drops) ++ path ∷ []
drop_named puts drops path = sym (append_assoc puts drops (path ∷ []))

-- the last path of a plan may be added to those before it
pub can_add : (root : Text) (old new : JournalPlan) (path : Text) → paths_of new ≡ paths_of old ++ path ∷ [] → IsJournalPlan root new → (¬ Contains (paths_of old) path) × (is_service root path ≡ false) × (length (paths_of old) < 16400)
can_add root old new path is good = (
  (λ (k, lt, same). subst (AllPairs (λ (a b : Text). a ≢ b)) is good.differ k (length (paths_of old)) path lt (omega (arith, long)) (get_or_append_left (paths_of old) (path ∷ []) path k lt ∙ (same ∙ sym seam))),
  subst (λ (p : Text). is_service root p ≡ false) seam (subst (All (λ (p : Text). is_service root p ≡ false)) is good.plain (length (paths_of old)) path (omega (arith, long))),
  (let few = good.few in omega (arith, few, long, ap length is)),
)
  where
    long : length (paths_of old ++ path ∷ []) ≡ length (paths_of old) + 1
    long = length-append (paths_of old) (path ∷ [])

    seam : get_or (paths_of old ++ path ∷ []) (length (paths_of old)) path ≡ path
    seam = get_or_at (paths_of old) path [] path (length (paths_of old)) refl

last_path : (P : Text → Type 0) (xs : List Text) (path : Text) → All P (xs ++ path ∷ []) → P path
last_path P xs path h = subst P (get_or_at xs path [] path (length xs) refl) (h (length xs) path (omega (arith, length-append xs (path ∷ []))))

-- a refusal contradicts that
refused : (root : Text) (old : JournalPlan) (path : Text) (fault : ChangeAddFault) → MayAdd root old path {T = Unit {0}} (Err fault) → fault_of_step fault ≡ Bad
    → (¬ Contains (paths_of old) path) × (is_service root path ≡ false) × (length (paths_of old) < 16400) → ⊥
refused root old path TwoForOne may bad can = can.0 may
refused root old path Service may bad can = true≢false (sym may.1 ∙ can.1)
refused root old path Long may bad can = (let most = may.2 in let room = can.2 in absurd (omega (arith, most, room)))
refused root old path NoRoom may bad can = cc

pub put_refused : (root : Text) (old : JournalPlan) (lent path : Text) (fault : ChangeAddFault) → MayAdd root old lent {T = Unit {0}} (Err fault) → lent ≡ path → fault_of_step fault ≡ Bad → old.drops ≡ [] → ¬ IsJournalPlan root (with_put old path)
put_refused root old lent path fault may same bad none good =
    refused root old path fault (subst (λ (p : Text). MayAdd root old p {T = Unit {0}} (Err fault)) same may) bad (can_add root old (with_put old path) path (put_named old.puts old.drops path none) good)

pub drop_refused : (root : Text) (old : JournalPlan) (lent path : Text) (fault : ChangeAddFault) → MayAdd root old lent {T = Unit {0}} (Err fault) → lent ≡ path → fault_of_step fault ≡ Bad → ¬ IsJournalPlan root (with_drop old path)
drop_refused root old lent path fault may same bad good =
    refused root old path fault (subst (λ (p : Text). MayAdd root old p {T = Unit {0}} (Err fault)) same may) bad (can_add root old (with_drop old path) path (drop_named old.puts old.drops path) good)

-- ---- what a change asks for, by what it puts

paths_are : (puts : List Put) → map (λ (put : Put). put.path) puts ≡ map (λ (put : Text × Text). put.0) (contents_of puts)
paths_are [] = refl
paths_are (put ∷ puts) = ap (λ (t : List Text). put.path ∷ t) (paths_are puts)

one_more : (xs : List (Text × Text)) (x : Text × Text) → map (λ (put : Text × Text). put.0) (xs ++ x ∷ []) ≡ map (λ (put : Text × Text). put.0) xs ++ x.0 ∷ []
one_more [] x = refl
one_more (y ∷ xs) x = ap (λ (t : List Text). y.0 ∷ t) (one_more xs x)

pub put_made : (old new : Change) (lent path bytes : Text) → puts_in new ≡ puts_in old ++ (lent, bytes) ∷ [] → new.drops.items ≡ old.drops.items → lent ≡ path → plan_in new ≡ with_put (plan_in old) path
put_made old new lent path bytes added drops same =
    let was = sym (paths_are old.puts.items) in
    let puts = paths_are new.puts.items ∙ (ap (map (λ (put : Text × Text). put.0)) added ∙ (one_more (contents_of old.puts.items) (lent, bytes) ∙ (λ i. was i ++ same i ∷ []))) in
    λ i. record { puts = puts i; drops = drops i }

asks_nothing : (change : Change) → puts_in change ≡ [] → change.drops.items ≡ [] → ◌≡◌ {A = JournalPlan} (plan_in change) (record { puts = []; drops = [] })
asks_nothing change none drops =
    let puts = paths_are change.puts.items ∙ ap (map (λ (put : Text × Text). put.0)) none in
    λ i. record { puts = puts i; drops = drops i }

-- ---- a line taken

pub step_begun : (old new : JournalPlan) (line after : Text) → IsStep old line new → journal_start new after ≡ journal_start old (line ++ 10 ∷ after)
step_begun old new line after (inl (path, is, none, made)) =
    ap (λ (p : JournalPlan). journal_start p after) made
    ∙ (ap (λ (t : Text). codes "journal 1\n" ++ t) (puts_push old.puts path (drop_lines old.drops after)
    ∙ (ap (λ (t : List Text). put_lines old.puts (codes "put\t" ++ (path ++ 10 ∷ drop_lines t after))) none
    ∙ (ap (λ (t : List Text). put_lines old.puts (drop_lines t (codes "put\t" ++ (path ++ 10 ∷ after)))) (sym none)
    ∙ ap (λ (t : Text). put_lines old.puts (drop_lines old.drops (t ++ 10 ∷ after))) (sym is)))))
step_begun old new line after (inr (path, is, made)) =
    ap (λ (p : JournalPlan). journal_start p after) made
    ∙ ap (λ (t : Text). codes "journal 1\n" ++ put_lines old.puts t) (drops_push old.drops path after ∙ ap (λ (t : Text). drop_lines old.drops (t ++ 10 ∷ after)) (sym is))

-- the loop goes on
pub goes_on : (old new start : JournalPlan) (rest line after text : Text) → journal_start old rest ≡ journal_start start text → cut_at 10 rest ≡ Some (line, after) → IsStep old line new → journal_start new after ≡ journal_start start text
goes_on old new start rest line after text so_far cut step = step_begun old new line after step ∙ (ap (journal_start old) (sym (cut_is 10 rest line after cut)) ∙ so_far)

-- the last line
pub ends : (old start : JournalPlan) (rest line after text : Text) → journal_start old rest ≡ journal_start start text → cut_at 10 rest ≡ Some (line, after) → line ≡ codes "end" → after ≡ [] → journal_text old ≡ journal_start start text
ends old start rest line after text so_far cut is none = ap (journal_start old) (sym (cut_is 10 rest line after cut ∙ (λ i. is i ++ 10 ∷ none i))) ∙ so_far

-- ---- a plan's text has a good line next

cut_line : (line rest : Text) → Lacks 10 line → cut_at 10 (line ++ 10 ∷ rest) ≡ Some (line, rest)
cut_line [] rest h = refl
cut_line (b ∷ line) rest h =
    ap (λ t. cond t (Some ([], line ++ 10 ∷ rest)) (with_first b (cut_at 10 (line ++ 10 ∷ rest)))) (ne_eqb b 10 (All-head (λ b. b ≢ 10) b line h))
    ∙ ap (with_first b) (cut_line line rest (All-tail (λ b. b ≢ 10) b line h))

cut_put : (path rest : Text) → IsFilePath path → cut_at 10 (codes "put\t" ++ (path ++ 10 ∷ rest)) ≡ Some (codes "put\t" ++ path, rest)
cut_put path rest good = ap (λ (x : Option (Text × Text)). with_first 112 (with_first 117 (with_first 116 (with_first 9 x)))) (cut_line path rest (no_feed path good))

cut_drop : (path rest : Text) → IsFilePath path → cut_at 10 (codes "drop\t" ++ (path ++ 10 ∷ rest)) ≡ Some (codes "drop\t" ++ path, rest)
cut_drop path rest good = ap (λ (x : Option (Text × Text)). with_first 100 (with_first 114 (with_first 111 (with_first 112 (with_first 9 x))))) (cut_line path rest (no_feed path good))

-- a plan without its last paths
part_of_plan : (root : Text) (new plan : JournalPlan) (more : List Text) → paths_of plan ≡ paths_of new ++ more → IsJournalPlan root plan → IsJournalPlan root new
part_of_plan root new plan more is good = record {
  paths = All-left IsFilePath (paths_of new) more (subst (All IsFilePath) is good.paths);
  texts = All-left (λ path. IsTrue (is_utf8 path)) (paths_of new) more (subst (All (λ path. IsTrue (is_utf8 path))) is good.texts);
  plain = All-left (λ path. is_service root path ≡ false) (paths_of new) more (subst (All (λ path. is_service root path ≡ false)) is good.plain);
  differ = λ i j d lt inside same. subst (AllPairs (λ (a b : Text). a ≢ b)) is good.differ i j d lt (omega (arith, inside, long))
      (get_or_append_left (paths_of new) more d i (omega (arith, lt, inside)) ∙ (same ∙ sym (get_or_append_left (paths_of new) more d j inside)));
  few = (let few = good.few in omega (arith, few, long, ap length is));
}
  where
    long : length (paths_of new ++ more) ≡ length (paths_of new) + length more
    long = length-append (paths_of new) more

-- the next line adds a path, or it is the last
abbrev pub Next : Text → JournalPlan → Text → Text → Type 0
Next root old line after = ((new : JournalPlan) × IsStep old line new × IsJournalPlan root new) ⊎ ((line ≡ codes "end") × (after ≡ []))

no_drops : (drops : List Text) (z : Text) (zs : List Text) → (0 < length drops → (z ∷ zs) ≡ []) → drops ≡ []
no_drops [] z zs last = refl
no_drops (d ∷ drops) z zs last = absurd (omega (arith, ap length (last (omega arith))))

puts_next : (a d ws zs : List Text) (z : Text) → d ≡ [] → (a ++ z ∷ zs) ++ (d ++ ws) ≡ ((a ++ z ∷ []) ++ d) ++ (zs ++ ws)
puts_next a d ws zs z none =
    ap (λ (t : List Text). (a ++ z ∷ zs) ++ (t ++ ws)) none ∙ (append_assoc a (z ∷ zs) ws ∙ (sym (append_assoc a (z ∷ []) (zs ++ ws))
    ∙ (ap (λ (t : List Text). t ++ (zs ++ ws)) (sym (append-nil (a ++ z ∷ []))) ∙ ap (λ (t : List Text). ((a ++ z ∷ []) ++ t) ++ (zs ++ ws)) (sym none))))

drops_next : (a d ws : List Text) (w : Text) → (a ++ []) ++ (d ++ w ∷ ws) ≡ (a ++ (d ++ w ∷ [])) ++ ws
drops_next a d ws w =
    ap (λ (t : List Text). t ++ (d ++ w ∷ ws)) (append-nil a) ∙ (ap (λ (t : List Text). a ++ t) (sym (append_assoc d (w ∷ []) ws)) ∙ sym (append_assoc a (d ++ w ∷ []) ws))

next_by : (root : Text) (old plan : JournalPlan) (rest line after : Text) (zs ws : List Text) → IsJournalPlan root plan → plan.puts ≡ old.puts ++ zs → plan.drops ≡ old.drops ++ ws → (0 < length old.drops → zs ≡ [])
    → rest ≡ lines_of zs ws → cut_at 10 rest ≡ Some (line, after) → Next root old line after
next_by root old plan rest line after (z ∷ zs) ws good puts drops last text cut =
    let none = no_drops old.drops z zs last in
    let all : paths_of plan ≡ paths_of (with_put old z) ++ (zs ++ ws) = (λ i. puts i ++ drops i) ∙ puts_next old.puts old.drops ws zs z none in
    let part = part_of_plan root (with_put old z) plan (zs ++ ws) all good in
    let file = last_path IsFilePath (paths_of old) z (subst (All IsFilePath) (put_named old.puts old.drops z none) part.paths) in
    let (is, _) = both (codes "put\t" ++ z) (lines_of zs ws) line after (sym (ap (cut_at 10) text ∙ cut_put z (lines_of zs ws) file) ∙ cut) in
    inl (with_put old z, inl (z, sym is, none, refl), part)
next_by root old plan rest line after [] (w ∷ ws) good puts drops last text cut =
    let all : paths_of plan ≡ paths_of (with_drop old w) ++ ws = (λ i. puts i ++ drops i) ∙ drops_next old.puts old.drops ws w in
    let part = part_of_plan root (with_drop old w) plan ws all good in
    let file = last_path IsFilePath (paths_of old) w (subst (All IsFilePath) (drop_named old.puts old.drops w) part.paths) in
    let (is, _) = both (codes "drop\t" ++ w) (lines_of [] ws) line after (sym (ap (cut_at 10) text ∙ cut_drop w (lines_of [] ws) file) ∙ cut) in
    inl (with_drop old w, inr (w, sym is, refl), part)
next_by root old plan rest line after [] [] good puts drops last text cut = (let (is, none) = both (codes "end") [] line after (sym (ap (cut_at 10) text) ∙ cut) in inr (sym is, sym none))

pub next_is : (root : Text) (old plan : JournalPlan) (rest line after : Text) → IsJournalPlan root old → IsJournalPlan root plan → journal_start old rest ≡ journal_text plan → cut_at 10 rest ≡ Some (line, after) → Next root old line after
next_is root old plan rest line after so_far good e cut =
    let here : put_lines old.puts (drop_lines old.drops rest) ≡ lines_of plan.puts plan.drops = cc in
    let l = left_of old.puts old.drops plan.puts plan.drops rest so_far.paths good.paths here in
    next_by root old plan rest line after l.more_puts l.more_drops good l.puts l.drops l.last l.text cut

-- the text of a plan is not broken off
has_line : (rest : Text) (zs ws : List Text) → All IsFilePath zs → All IsFilePath ws → rest ≡ lines_of zs ws → cut_at 10 rest ≢ None
has_line rest (z ∷ zs) ws h k text none = (let some = sym (ap (cut_at 10) text ∙ cut_put z (lines_of zs ws) (All-head IsFilePath z zs h)) ∙ none in cc)
has_line rest [] (w ∷ ws) h k text none = (let some = sym (ap (cut_at 10) text ∙ cut_drop w (lines_of [] ws) (All-head IsFilePath w ws k)) ∙ none in cc)
has_line rest [] [] h k text none = (let some = sym (ap (cut_at 10) text) ∙ none in cc)

-- ---- texts of no plan

behind_these : (xs zs ys : List Text) → ys ≡ xs ++ zs → All IsFilePath ys → All IsFilePath zs
behind_these xs zs ys is h = All-right IsFilePath xs zs (subst (All IsFilePath) is h)

-- a text that is broken off
pub no_end : (root : Text) (old : JournalPlan) (rest : Text) → IsJournalPlan root old → cut_at 10 rest ≡ None → IsBadText root (journal_start old rest)
no_end root old rest so_far none plan good e =
    let here : put_lines old.puts (drop_lines old.drops rest) ≡ lines_of plan.puts plan.drops = cc in
    let l = left_of old.puts old.drops plan.puts plan.drops rest so_far.paths good.paths here in
    let puts = behind_these old.puts l.more_puts plan.puts l.puts (All-left IsFilePath plan.puts plan.drops good.paths) in
    let drops = behind_these old.drops l.more_drops plan.drops l.drops (All-right IsFilePath plan.puts plan.drops good.paths) in
    has_line rest l.more_puts l.more_drops puts drops l.text none

-- a line that adds nothing, and is not the last
pub no_step : (root : Text) (old : JournalPlan) (rest line after : Text) → IsJournalPlan root old → cut_at 10 rest ≡ Some (line, after) → line ≢ codes "end" → ((new : JournalPlan) → IsStep old line new → ¬ IsJournalPlan root new) → IsBadText root (journal_start old rest)
no_step root old rest line after so_far cut other bad plan good e = elim (next_is root old plan rest line after so_far good e cut) [
  | inl (new, step, part) ↦ bad new step part
  | inr (is, none) ↦ other is
]

step_goes_on : (old new : JournalPlan) (line : Text) → IsStep old line new → line ≢ codes "end"
step_goes_on old new line (inl (path, is, none, made)) e = other_first (codes "put\t" ++ path) (codes "end") (λ e. absurd (omega (arith, e))) (sym is ∙ e)
step_goes_on old new line (inr (path, is, made)) e = other_first (codes "drop\t" ++ path) (codes "end") (λ e. absurd (omega (arith, e))) (sym is ∙ e)

-- bytes behind the last line
pub goes_past : (root : Text) (old : JournalPlan) (rest line after : Text) → IsJournalPlan root old → cut_at 10 rest ≡ Some (line, after) → line ≡ codes "end" → length after ≢ 0 → IsBadText root (journal_start old rest)
goes_past root old rest line after so_far cut is some plan good e = elim (next_is root old plan rest line after so_far good e cut) [
  | inl (new, step, part) ↦ step_goes_on old new line step is
  | inr (_, none) ↦ some (ap length none)
]

-- the same of the whole text and its root
pub bad_whole : (root start : Text) (text whole : Text) → root ≡ start → text ≡ whole → IsBadText root text → IsBadText start whole
bad_whole root start text whole same is bad = subst (λ (r : Text). IsBadText r whole) same (subst (IsBadText root) is bad)

pub nothing : (text : Text) → length text ≡ 0 → text ≡ []
nothing [] e = refl
nothing (b ∷ text) e = absurd (omega arith)

-- before all lines but the first
pub starts : (change : Change) (lines text : Text) → puts_in change ≡ [] → change.drops.items ≡ [] → text ≡ codes "journal 1\n" ++ lines → journal_start (plan_in change) lines ≡ text
starts change lines text none drops is = ap (λ (p : JournalPlan). journal_start p lines) (asks_nothing change none drops) ∙ sym is
