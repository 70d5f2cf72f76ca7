-- What a step more makes of a change.
use Rattle.std.proofs.Common.{cond, ◌≡◌, ◌↔◌, ◌⊎◌, inl, inr, ℕ, zero, suc, ◌+◌, ◌-◌, ◌<◌, ◌≤◌, Bool, true, false, ◌||◌, List, [], ◌∷◌, ◌++◌, length, take, drop, get_or, codes, IsTrue, Err, All, Contains, bytes_eq, refl, ap, sym, ◌∙◌, subst, arith, append_assoc, length-append, take_at, drop_at}
use Rattle.std.specs.Prelude.{◌≢◌, AllPairs}
use Rattle.std.specs.Str.{is_utf8}
use Rattle.std.specs.Ordering.{nat_cmp}
use Rattle.std.specs.Cmp.Lexicographic.{slice_cmp}
use Rattle.std.specs.BTreeSet.{BTreeSet, contains, Updates}
use Rattle.std.proofs.lemmas.Map.Text.{is_eq-slice_cmp}
use Rattle.std.proofs.lemmas.Bool.{false≢true}
use Rattle.std.proofs.lemmas.List.{map-append, append-nil, get_or_default}
use Rattle.std.proofs.lemmas.List.Elements.{All-cons, All-head, All-tail, Contains-append_left, Contains-append_right, Contains-append_cases}
use Rattle.std.proofs.lemmas.List.Kept.{AllPairs-cons}
use Rattle.std.proofs.lemmas.Slice.Eq.{bytes_eq-Decides}
use Rattle.gopass_base.specs.Text.{Text, is_among}
use Rattle.gopass_base.proofs.ListLemmas.{here, later, first_or}
use Rattle.gopass_base.specs.Paths.{IsFilePath}
use Rattle.pending_journal.specs.Service.{is_service}
use Rattle.pending_journal.specs.Journal.{JournalPlan, IsJournalPlan, paths_of, put_lines, drop_lines, stage_path}
use Rattle.pending_journal.specs.Built.{IsBuilt, ArePaths, plan_by}
use Rattle.pending_journal.specs.Change.{contents_of, MayAdd}
use Rattle.pending_journal.specs.declared.change.ChangeAddFault.{ChangeAddFault}
use Rattle.pending_journal.specs.declared.change.ChangeAddFault.TheVariants.{TwoForOne, Service, Long, NoMemory}
use Rattle.pending_journal.specs.declared.put.Put.{Put}

-- ---- a step for a path

first_found : (b : Bool) (x : Text) (xs : List Text) (p : Text) (more : Bool) → ((b ≡ true) → x ≡ p) × (x ≡ p → b ≡ true) → IsTrue more ↔ Contains xs p → IsTrue (b || more) ↔ Contains (x ∷ xs) p
first_found true x xs p more same rest = (λ t. subst (Contains (x ∷ xs)) (same.0 refl) (here x xs), λ has. refl)
first_found false x xs p more same rest = (
  λ t. later x xs p (rest.0 t),
  λ has. elim (first_or x xs p has) [
    | inl is ↦ absurd (false≢true (same.1 is))
    | inr more ↦ rest.1 more
  ],
)

pub found_among : (xs : List Text) (p : Text) → IsTrue (is_among xs p) ↔ Contains xs p
found_among [] p = (λ t. absurd (cc), λ (k, lt, is). absurd (omega (arith, lt)))
found_among (x ∷ xs) p = first_found (bytes_eq x p) x xs p (is_among xs p) (bytes_eq-Decides x p) (found_among xs p)

-- the paths kept are those of the steps
pub step_named : (paths : BTreeSet Text) (puts : List Put) (drops : List Text) (p : Text) → ArePaths paths puts drops → IsTrue (contains (slice_cmp nat_cmp) paths p) ↔ Contains (paths_of (plan_by puts drops)) p
step_named paths puts drops p is =
    let found = found_among (paths_of (plan_by puts drops)) p in
    (λ t. found.0 (sym (is p) ∙ t), λ has. is p ∙ found.1 has)

-- one path more
past : (a b c : Bool) → a || cond b true c ≡ cond b true (a || c)
past true true c = refl
past true false c = refl
past false true c = refl
past false false c = refl

here_first : (b c : Bool) → b || c ≡ cond b true c
here_first true c = refl
here_first false c = refl

among_more : (xs ys : List Text) (p q : Text) → is_among (xs ++ p ∷ ys) q ≡ cond (bytes_eq p q) true (is_among (xs ++ ys) q)
among_more [] ys p q = here_first (bytes_eq p q) (is_among ys q)
among_more (x ∷ xs) ys p q = ap (λ t. bytes_eq x q || t) (among_more xs ys p q) ∙ past (bytes_eq x q) (bytes_eq p q) (is_among (xs ++ ys) q)

path_more : (paths now : BTreeSet Text) (old new xs ys : List Text) (p : Text) → old ≡ xs ++ ys → new ≡ xs ++ p ∷ ys → Updates (slice_cmp nat_cmp) paths now p true
    → ((q : Text) → contains (slice_cmp nat_cmp) paths q ≡ is_among old q) → (q : Text) → contains (slice_cmp nat_cmp) now q ≡ is_among new q
path_more paths now old new xs ys p was is more so q =
    more.0 q
    ∙ (ap (λ t. cond t true (contains (slice_cmp nat_cmp) paths q)) (is_eq-slice_cmp p q)
    ∙ (ap (λ t. cond (bytes_eq p q) true t) (so q ∙ ap (λ (l : List Text). is_among l q) was)
    ∙ (sym (among_more xs ys p q) ∙ ap (λ (l : List Text). is_among l q) (sym is))))

pub paths_put : (paths now : BTreeSet Text) (puts puts' : List Put) (drops : List Text) (put : Put) → puts' ≡ puts ++ put ∷ [] → Updates (slice_cmp nat_cmp) paths now put.path true → ArePaths paths puts drops → ArePaths now puts' drops
paths_put paths now puts puts' drops put pushed more is =
    let grown : (plan_by puts' drops).puts ≡ (plan_by puts drops).puts ++ put.path ∷ [] = ap (λ (l : List Put). (plan_by l drops).puts) pushed ∙ map-append (λ (one : Put). one.path) puts (put ∷ []) in
    path_more paths now (paths_of (plan_by puts drops)) (paths_of (plan_by puts' drops)) (plan_by puts drops).puts drops put.path refl
    (ap (λ (l : List Text). l ++ drops) grown ∙ append_assoc (plan_by puts drops).puts (put.path ∷ []) drops) more is

pub paths_drop : (paths now : BTreeSet Text) (puts : List Put) (drops drops' : List Text) (p : Text) → drops' ≡ drops ++ p ∷ [] → Updates (slice_cmp nat_cmp) paths now p true → ArePaths paths puts drops → ArePaths now puts drops'
paths_drop paths now puts drops drops' p pushed more is =
    let ps = (plan_by puts drops).puts in
    path_more paths now (paths_of (plan_by puts drops)) (paths_of (plan_by puts drops')) (paths_of (plan_by puts drops)) [] p (sym (append-nil (paths_of (plan_by puts drops))))
    (ap (λ (l : List Text). ps ++ l) pushed ∙ sym (append_assoc ps drops (p ∷ []))) more is

-- ---- a path more among those that are named

among_insert : (xs ys : List Text) (p q : Text) → Contains (xs ++ p ∷ ys) q → (p ≡ q) ⊎ Contains (xs ++ ys) q
among_insert xs ys p q has = elim (Contains-append_cases xs (p ∷ ys) q has) [
  | inl first ↦ inr (Contains-append_left xs ys q first)
  | inr second ↦ elim (first_or p ys q second) [
    | inl is ↦ inl is
    | inr more ↦ inr (Contains-append_right xs ys q more)
  ]
]

differ_tail : (x : Text) (xs : List Text) → AllPairs (λ (a b : Text). a ≢ b) (x ∷ xs) → AllPairs (λ (a b : Text). a ≢ b) xs
differ_tail x xs h i j d lt short = h (suc i) (suc j) d (omega (arith, lt)) (omega (arith, short))

differ_first : (x : Text) (xs : List Text) → AllPairs (λ (a b : Text). a ≢ b) (x ∷ xs) → ¬ Contains xs x
differ_first x xs h (k, lt, is) = h 0 (suc k) x (omega arith) (omega (arith, lt)) (sym is)

differ_cons : (x : Text) (xs : List Text) → (¬ Contains xs x) → AllPairs (λ (a b : Text). a ≢ b) xs → AllPairs (λ (a b : Text). a ≢ b) (x ∷ xs)
differ_cons x xs none h = AllPairs-cons (λ (a b : Text). a ≢ b) x xs (λ k d lt e. none (k, lt, sym (e ∙ get_or_default xs k d x lt))) h

pub differ_insert : (xs ys : List Text) (p : Text) → (¬ Contains (xs ++ ys) p) → AllPairs (λ (a b : Text). a ≢ b) (xs ++ ys) → AllPairs (λ (a b : Text). a ≢ b) (xs ++ p ∷ ys)
differ_insert [] ys p none h = differ_cons p ys none h
differ_insert (x ∷ xs) ys p none h =
    differ_cons x (xs ++ p ∷ ys)
    (λ has. elim (among_insert xs ys p x has) [
      | inl is ↦ none (subst (Contains (x ∷ xs ++ ys)) (sym is) (here x (xs ++ ys)))
      | inr more ↦ differ_first x (xs ++ ys) h more
    ])
    (differ_insert xs ys p (λ has. none (later x (xs ++ ys) p has)) (differ_tail x (xs ++ ys) h))

pub all_insert : (P : Text → Type 0) (xs ys : List Text) (p : Text) → P p → All P (xs ++ ys) → All P (xs ++ p ∷ ys)
all_insert P [] ys p holds h = All-cons P p ys holds h
all_insert P (x ∷ xs) ys p holds h = All-cons P x (xs ++ p ∷ ys) (All-head P x (xs ++ ys) h) (all_insert P xs ys p holds (All-tail P x (xs ++ ys) h))

-- the path of a file that may be added
pub record IsNew (root : Text) (plan : JournalPlan) (path : Text) : Type 0 where
  pub file : IsFilePath path
  pub text : IsTrue (is_utf8 path)
  pub apart : ¬ Contains (paths_of plan) path
  pub plain : is_service root path ≡ false
  pub room : length (paths_of plan) < 16400

-- a plan that names it too
pub plan_more : (root : Text) (old new : JournalPlan) (xs ys : List Text) (p : Text) → paths_of old ≡ xs ++ ys → paths_of new ≡ xs ++ p ∷ ys → IsNew root old p → IsJournalPlan root old → IsJournalPlan root new
plan_more root old new xs ys p was is add plan = record {
  paths = over IsFilePath add.file plan.paths;
  texts = over (λ path. IsTrue (is_utf8 path)) add.text plan.texts;
  plain = over (λ path. is_service root path ≡ false) add.plain plan.plain;
  differ = subst (AllPairs (λ (a b : Text). a ≢ b)) (sym is) (differ_insert xs ys p (subst (λ (l : List Text). ¬ Contains l p) was add.apart) (subst (AllPairs (λ (a b : Text). a ≢ b)) was plan.differ));
  few = few add.room;
}
  where
    over : (P : Text → Type 0) → P p → All P (paths_of old) → All P (paths_of new)
    over P holds all = subst (All P) (sym is) (all_insert P xs ys p holds (subst (All P) was all))

    few : length (paths_of old) < 16400 → length (paths_of new) ≤ 16400
    few room = omega (arith, room, ap length was, ap length is, length-append xs ys, length-append xs (p ∷ ys))

-- ---- a line more in the text

drops_end : (ds : List Text) (r : Text) → drop_lines ds r ≡ drop_lines ds [] ++ r
drops_end [] r = refl
drops_end (p ∷ ds) r = ap (λ (l : Text). codes "drop\t" ++ (p ++ 10 ∷ l)) (drops_end ds r) ∙ ap (λ (l : Text). codes "drop\t" ++ l) (sym (append_assoc p (10 ∷ drop_lines ds []) r))

puts_before : (ps : List Text) (x r : Text) → put_lines ps (x ++ r) ≡ put_lines ps x ++ r
puts_before [] x r = refl
puts_before (p ∷ ps) x r = ap (λ (l : Text). codes "put\t" ++ (p ++ 10 ∷ l)) (puts_before ps x r) ∙ ap (λ (l : Text). codes "put\t" ++ l) (sym (append_assoc p (10 ∷ put_lines ps x) r))

pub drops_push : (ds : List Text) (p r : Text) → drop_lines (ds ++ p ∷ []) r ≡ drop_lines ds (codes "drop\t" ++ (p ++ 10 ∷ r))
drops_push [] p r = refl
drops_push (d ∷ ds) p r = ap (λ (l : Text). codes "drop\t" ++ (d ++ 10 ∷ l)) (drops_push ds p r)

pub puts_push : (ps : List Text) (p r : Text) → put_lines (ps ++ p ∷ []) r ≡ put_lines ps (codes "put\t" ++ (p ++ 10 ∷ r))
puts_push [] p r = refl
puts_push (d ∷ ps) p r = ap (λ (l : Text). codes "put\t" ++ (d ++ 10 ∷ l)) (puts_push ps p r)

-- the first line and the lines of the puts
abbrev pub puts_text : List Text → Text
puts_text ps = codes "journal 1\n" ++ put_lines ps []

-- all lines but the last
abbrev pub steps_text : List Text → List Text → Text
steps_text ps ds = codes "journal 1\n" ++ put_lines ps (drop_lines ds [])

text_of_puts : (ps : List Text) (r : Text) → codes "journal 1\n" ++ put_lines ps r ≡ puts_text ps ++ r
text_of_puts ps r = ap (λ (l : Text). codes "journal 1\n" ++ l) (puts_before ps [] r)

text_of_steps : (ps ds : List Text) (r : Text) → codes "journal 1\n" ++ put_lines ps (drop_lines ds r) ≡ steps_text ps ds ++ r
text_of_steps ps ds r = ap (λ (l : Text). codes "journal 1\n" ++ l) (ap (put_lines ps) (drops_end ds r) ∙ puts_before ps (drop_lines ds []) r)

-- a text that is cut where its front ends
inserted : (more : Text → Text) (text front back : Text) (at : ℕ) → text ≡ front ++ back → length front ≡ at → take at text ++ more (drop at text) ≡ front ++ more back
inserted more text front back at whole place =
    ap (λ (l : Text). l ++ more (drop at text)) (ap (take at) whole ∙ take_at front back at place)
    ∙ ap (λ (l : Text). front ++ more l) (ap (drop at) whole ∙ drop_at front back at place)

abbrev pub put_line : Text → Text → Text
put_line path rest = codes "put\t" ++ (path ++ 10 ∷ rest)

abbrev pub drop_line : Text → Text → Text
drop_line path rest = codes "drop\t" ++ (path ++ 10 ∷ rest)

text_put : (ps ds : List Text) (p text : Text) (at : ℕ) → text ≡ codes "journal 1\n" ++ put_lines ps (drop_lines ds (codes "end\n")) → at ≡ length (puts_text ps)
    → take at text ++ put_line p (drop at text) ≡ codes "journal 1\n" ++ put_lines (ps ++ p ∷ []) (drop_lines ds (codes "end\n"))
text_put ps ds p text at whole place =
    let back = drop_lines ds (codes "end\n") in
    inserted (put_line p) text (puts_text ps) back at (whole ∙ text_of_puts ps back) (sym place)
    ∙ sym (ap (λ (l : Text). codes "journal 1\n" ++ l) (puts_push ps p back) ∙ text_of_puts ps (put_line p back))

end_put : (ps : List Text) (p : Text) → length (puts_text (ps ++ p ∷ [])) ≡ length (puts_text ps) + (length p + 5)
end_put ps p =
    let line = put_line p [] in
    let whole : puts_text (ps ++ p ∷ []) ≡ puts_text ps ++ line = ap (λ (l : Text). codes "journal 1\n" ++ l) (puts_push ps p []) ∙ text_of_puts ps line in
    omega (arith, ap length whole, length-append (puts_text ps) line, length-append p (10 ∷ []))

text_drop : (ps ds : List Text) (p text : Text) (at : ℕ) → text ≡ codes "journal 1\n" ++ put_lines ps (drop_lines ds (codes "end\n")) → at ≡ length text - 4
    → take at text ++ drop_line p (drop at text) ≡ codes "journal 1\n" ++ put_lines ps (drop_lines (ds ++ p ∷ []) (codes "end\n"))
text_drop ps ds p text at whole place =
    let end = codes "end\n" in
    let front = steps_text ps ds in
    let cut : text ≡ front ++ end = whole ∙ text_of_steps ps ds end in
    inserted (drop_line p) text front end at cut (omega (arith, place, ap length cut, length-append front end))
    ∙ sym (ap (λ (l : Text). codes "journal 1\n" ++ put_lines ps l) (drops_push ds p end) ∙ text_of_steps ps ds (drop_line p end))

-- ---- what a change keeps

pub contents_push : (puts : List Put) (put : Put) → contents_of (puts ++ put ∷ []) ≡ contents_of puts ++ (put.path, put.bytes.items) ∷ []
contents_push [] put = refl
contents_push (first ∷ puts) put = ap (λ (l : List (Text × Text)). (first.path, first.bytes.items) ∷ l) (contents_push puts put)

stages_push : (stage : ℕ → Text) (puts : List Put) (put : Put) → ((i : ℕ) (d : Put) → i < length puts → (get_or puts i d).staged ≡ stage i) → put.staged ≡ stage (length puts)
    → (i : ℕ) (d : Put) → i < length (puts ++ put ∷ []) → (get_or (puts ++ put ∷ []) i d).staged ≡ stage i
stages_push stage [] put each last zero d lt = last
stages_push stage [] put each last (suc i) d lt = absurd (omega (arith, lt))
stages_push stage (first ∷ puts) put each last zero d lt = each 0 d (omega arith)
stages_push stage (first ∷ puts) put each last (suc i) d lt = stages_push (λ k. stage (suc k)) puts put (λ j e below. each (suc j) e (omega (arith, below))) last i d (omega (arith, lt))

module _ (root journal fresh text : Text) (puts_end : ℕ) (puts : List Put) (drops : List Text) (old : IsBuilt root journal fresh text puts_end puts drops) where
  abbrev ps : List Text
  ps = (plan_by puts drops).puts

  pub puts_inside : puts_end ≤ length text
  puts_inside = omega (arith, old.end_is, ap length (old.text_is ∙ text_of_puts ps (drop_lines drops (codes "end\n"))), length-append (puts_text ps) (drop_lines drops (codes "end\n")))

  pub built_put : (put : Put) (text' : Text) (end' : ℕ) (puts' : List Put) → IsNew root (plan_by puts drops) put.path → text' ≡ take puts_end text ++ put_line put.path (drop puts_end text)
      → end' ≡ puts_end + (length text' - length text) → puts' ≡ puts ++ put ∷ [] → put.staged ≡ stage_path root (length puts) → IsBuilt root journal fresh text' end' puts' drops
  built_put put text' end' puts' add made place pushed staged =
      let p = put.path in
      let back = drop_lines drops (codes "end\n") in
      let grown : (plan_by puts' drops).puts ≡ ps ++ p ∷ [] = ap (λ (l : List Put). (plan_by l drops).puts) pushed ∙ map-append (λ (one : Put). one.path) puts (put ∷ []) in
      let whole : text' ≡ codes "journal 1\n" ++ put_lines (ps ++ p ∷ []) back = made ∙ text_put ps drops p text puts_end old.text_is old.end_is in
      let before = ap length (old.text_is ∙ text_of_puts ps back) in
      let after = ap length (whole ∙ text_of_puts (ps ++ p ∷ []) back) in
      record {
        journal_is = old.journal_is;
        fresh_is = old.fresh_is;
        text_is = whole ∙ ap (λ (l : List Text). codes "journal 1\n" ++ put_lines l back) (sym grown);
        end_is =
            omega (arith, place, old.end_is, before, after, end_put ps p, length-append (puts_text ps) back, length-append (puts_text (ps ++ p ∷ [])) back)
            ∙ ap (λ (l : List Text). length (puts_text l)) (sym grown);
        plan =
            plan_more root (plan_by puts drops) (plan_by puts' drops) ps drops p refl
            (ap (λ (l : List Text). l ++ drops) grown ∙ append_assoc ps (p ∷ []) drops) add old.plan;
        staged = subst (λ (l : List Put). (i : ℕ) (d : Put) → i < length l → (get_or l i d).staged ≡ stage_path root i) (sym pushed) (stages_push (stage_path root) puts put old.staged staged);
      }

  pub built_drop : (p text' : Text) (drops' : List Text) → IsNew root (plan_by puts drops) p → text' ≡ take (length text - 4) text ++ drop_line p (drop (length text - 4) text)
      → drops' ≡ drops ++ p ∷ [] → IsBuilt root journal fresh text' puts_end puts drops'
  built_drop p text' drops' add made pushed = record {
    journal_is = old.journal_is;
    fresh_is = old.fresh_is;
    text_is = made ∙ text_drop ps drops p text (length text - 4) old.text_is refl ∙ ap (λ (l : List Text). codes "journal 1\n" ++ put_lines ps (drop_lines l (codes "end\n"))) (sym pushed);
    end_is = old.end_is;
    plan =
        plan_more root (plan_by puts drops) (plan_by puts drops') (paths_of (plan_by puts drops)) [] p (sym (append-nil (paths_of (plan_by puts drops))))
        (ap (λ (l : List Text). ps ++ l) pushed ∙ sym (append_assoc ps drops (p ∷ []))) add old.plan;
    staged = old.staged;
  }

-- the first step is refused for a path of the vault's own and for want of memory alone
pub first_step : (root : Text) (puts : List Put) (drops : List Text) (path : Text) (fault : ChangeAddFault) → contents_of puts ≡ [] → drops ≡ [] → is_service root path ≡ false
    → MayAdd root (plan_by puts drops) path {T = Unit {0}} (Err fault) → fault ≡ NoMemory
first_step root (p ∷ puts) drops path fault none _ plain may = absurd (cc)
first_step root [] (d ∷ drops) path fault _ none plain may = absurd (cc)
first_step root [] [] path TwoForOne _ _ plain (k, lt, is) = absurd (omega (arith, lt))
first_step root [] [] path Service _ _ plain may = absurd (false≢true (sym plain ∙ may.1))
first_step root [] [] path Long _ _ plain may = absurd (omega (arith, may.2))
first_step root [] [] path NoMemory _ _ plain may = refl
