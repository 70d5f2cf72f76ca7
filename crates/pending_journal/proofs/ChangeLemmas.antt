-- The steps of a change.
use Rattle.std.proofs.Common.{◌≡◌, ◌≢◌, ◌⊎◌, inl, inr, ℕ, zero, suc, ◌+◌, ◌<◌, true, false, ◌||◌, if◌then◌else◌, List, [], ◌∷◌, ◌++◌, length, map, get_or, Option, None, Some, refl, sym, ◌∙◌, ap, subst, bytes_eq, arith}
use Rattle.std.specs.Option.{option_or}
use Rattle.std.proofs.lemmas.Bool.{cases_order, false≢true}
use Rattle.std.proofs.lemmas.List.{get_or_default}
use Rattle.gopass_base.specs.Text.{Text, is_among}
use Rattle.disk_model.specs.Files.{Files, put, moved}
use Rattle.disk_model.proofs.FileLemmas.{cases_path, same_path, other_path, put_here, put_apart, moved_none, moved_some, moved_apart, moved_from, moved_none_stays, put_none_stays, cases_file}
use Rattle.pending_journal.specs.Service.{is_service, journal_path, fresh_path}
use Rattle.pending_journal.specs.Journal.{stage_path}
use Rattle.pending_journal.specs.Redo.{Move, moves_from, source_of, brought, redone_by, redone}
use Rattle.pending_journal.specs.declared.put.Put.{Put}
use Rattle.pending_journal.specs.declared.change.Change.{Change}
use Rattle.pending_journal.specs.Built.{IsBuilt}
use Rattle.pending_journal.specs.Change.{plan_in, contents_of, put_at}
use Rattle.pending_journal.specs.Carrying.{IsOfPlan, IsStaged, IsFetched, IsRemoved, IsSameBut}
use Rattle.pending_journal.proofs.ServiceLemmas.{service_journal, stage_service, stage_not_journal, stage_not_fresh, stage_one}
use Rattle.pending_journal.proofs.RedoLemmas.{apart, redone_same}

-- the moves of the puts
abbrev pub moves_of : List Put → List Move
moves_of [] = []
moves_of (put ∷ puts) = (put.staged, put.path) ∷ moves_of puts

numbered : (root : Text) (puts : List Put) (i : ℕ) → ((j : ℕ) (d : Put) → j < length puts → (get_or puts j d).staged ≡ stage_path root (i + j)) → moves_from root i (map (λ (put : Put). put.path) puts) ≡ moves_of puts
numbered root [] i so = refl
numbered root (p ∷ puts) i so =
    let first : stage_path root i ≡ p.staged = sym (so 0 p (omega arith) ∙ ap (stage_path root) (omega arith)) in
    let rest = numbered root puts (i + 1) (λ j d lt. so (suc j) d (omega (arith, lt)) ∙ ap (stage_path root) (omega arith)) in
    λ k. (first k, p.path) ∷ rest k

-- what is named by a plan, by index
pub at_put : (puts : List Put) (drops : List Text) (i : ℕ) (d : Put) (e : Text) → i < length puts → get_or (map (λ (put : Put). put.path) puts ++ drops) i e ≡ (get_or puts i d).path
at_put [] drops i d e lt = absurd (omega (arith, lt))
at_put (p ∷ puts) drops zero d e lt = refl
at_put (p ∷ puts) drops (suc i) d e lt = at_put puts drops i d e (omega (arith, lt))

pub at_drop : (puts : List Put) (drops : List Text) (i k : ℕ) (e : Text) → k ≡ length puts + i → get_or (map (λ (put : Put). put.path) puts ++ drops) k e ≡ get_or drops i e
at_drop [] drops i k e is = ap (λ n. get_or drops n e) (omega (arith, is))
at_drop (p ∷ puts) drops i zero e is = absurd (omega (arith, is))
at_drop (p ∷ puts) drops i (suc k) e is = at_drop puts drops i k e (omega (arith, is))

pub length-named : (puts : List Put) (drops : List Text) → length (map (λ (put : Put). put.path) puts ++ drops) ≡ length puts + length drops
length-named [] drops = omega arith
length-named (p ∷ puts) drops = omega (arith, length-named puts drops)

-- no put is for the path
pub record Misses (puts : List Put) (q : Text) : Type 0 where
  pub source : source_of (moves_of puts) q ≡ None
  pub bytes : (here : Option (Text)) → put_at (contents_of puts) q here ≡ here

-- the first put for the path
pub record Finds (puts : List Put) (q : Text) : Type 0 where
  pub i : ℕ
  pub put : Put
  pub below : i < length puts
  pub at : (d : Put) → get_or puts i d ≡ put
  pub path : put.path ≡ q
  pub source : source_of (moves_of puts) q ≡ Some put.staged
  pub bytes : (here : Option (Text)) → put_at (contents_of puts) q here ≡ Some put.bytes.items

pub find : (puts : List Put) (q : Text) → Misses puts q ⊎ Finds puts q
find [] q = inl (record { source = refl; bytes = λ here. refl })
find (p ∷ puts) q = elim (cases_path p.path q) [
  | inl is ↦
      let hit : bytes_eq p.path q ≡ true = ap (λ (r : Text). bytes_eq p.path r) (sym is) ∙ same_path p.path in
      inr (record {
        i = 0;
        put = p;
        below = omega arith;
        at = λ d. refl;
        path = is;
        source = ap (λ b. if b then (Some p.staged) else (source_of (moves_of puts) q)) hit;
        bytes = λ here. ap (λ b. if b then (Some p.bytes.items) else (put_at (contents_of puts) q here)) hit;
      })
  | inr isnt ↦
      let miss = other_path p.path q isnt in
      elim (find puts q) [
        | inl f ↦ inl (record {
          source = ap (λ b. if b then (Some p.staged) else (source_of (moves_of puts) q)) miss ∙ f.source;
          bytes = λ here. ap (λ b. if b then (Some p.bytes.items) else (put_at (contents_of puts) q here)) miss ∙ f.bytes here;
        })
        | inr f ↦ inr (record {
          i = suc f.i;
          put = f.put;
          below = omega (arith, f.below);
          at = f.at;
          path = f.path;
          source = ap (λ b. if b then (Some p.staged) else (source_of (moves_of puts) q)) miss ∙ f.source;
          bytes = λ here. ap (λ b. if b then (Some p.bytes.items) else (put_at (contents_of puts) q here)) miss ∙ f.bytes here;
        })
      ]
]

pub among_at : (ps : List Text) (i : ℕ) (d : Text) → i < length ps → is_among ps (get_or ps i d) ≡ true
among_at [] i d lt = absurd (omega arith)
among_at (p ∷ ps) zero d lt = ap (λ b. b || is_among ps p) (same_path p)
among_at (p ∷ ps) (suc i) d lt = elim (bytes_eq p (get_or ps i d)) as (λ b. (b || is_among ps (get_or ps i d)) ≡ true) [
  | true ↦ refl
  | false ↦ among_at ps i d (omega arith)
]

pub place_of : (ps : List Text) (q : Text) → is_among ps q ≡ true → (i : ℕ) × (i < length ps) × ((d : Text) → get_or ps i d ≡ q)
place_of [] q is = absurd (false≢true is)
place_of (p ∷ ps) q is = elim (cases_path p q) [
  | inl e ↦ (0, omega arith, λ d. e)
  | inr isnt ↦
      let rest = place_of ps q (sym (ap (λ b. b || is_among ps q) (other_path p q isnt)) ∙ is) in
      (suc rest.0, omega (arith, rest.1), rest.2)
]

no_some : {p : Text} → Some p ≡ None → ⊥
no_some e = cc

miss_first : (p : Put) (puts : List Put) (q : Text) → source_of (moves_of (p ∷ puts)) q ≡ None → p.path ≢ q
miss_first p puts q none e = no_some (sym (ap (λ b. if b then Some p.staged else source_of (moves_of puts) q) (ap (λ r. bytes_eq p.path r) (sym e) ∙ same_path p.path)) ∙ none)

-- a path that misses differs from each
missed : (puts : List Put) (q : Text) → source_of (moves_of puts) q ≡ None → (i : ℕ) (d : Put) → i < length puts → (get_or puts i d).path ≢ q
missed [] q none i d lt e = absurd (omega (arith, lt))
missed (p ∷ puts) q none zero d lt e = miss_first p puts q none e
missed (p ∷ puts) q none (suc i) d lt e = missed puts q (sym (ap (λ b. if b then Some p.staged else source_of (moves_of puts) q) (other_path p.path q (miss_first p puts q none))) ∙ none) i d (omega (arith, lt)) e

-- a put, staged at a place of its own
pub record IsPut (root : Text) (moves : List Move) (put : Put) : Type 0 where
  pub staged : is_service root put.staged ≡ true
  pub not_journal : put.staged ≢ journal_path root
  pub not_fresh : put.staged ≢ fresh_path root
  pub path : is_service root put.path ≡ false
  pub source : source_of moves put.path ≡ Some put.staged

module _ (root : Text) (change : Change) (ok : IsBuilt root change.journal change.fresh change.text.items change.puts_end change.puts.items change.drops.items) where
  abbrev puts : List Put
  puts = change.puts.items

  pub few_puts : (i : ℕ) → i < length puts → i < 100000
  few_puts i lt = omega (arith, lt, ok.plan.few, length-named puts change.drops.items)

  pub plan_moves : moves_from root 0 (plan_in change).puts ≡ moves_of puts
  plan_moves = numbered root puts 0 (λ j d lt. ok.staged j d lt ∙ ap (stage_path root) (omega arith))

  pub redone_is : (m : Files) → redone root (plan_in change) m ≡ redone_by root (moves_of puts) change.drops.items m
  redone_is m = ap (λ (moves : List Move). redone_by root moves change.drops.items m) plan_moves

  pub stages_differ : (i j : ℕ) (d e : Put) → i < j → j < length puts → (get_or puts i d).staged ≢ (get_or puts j e).staged
  stages_differ i j d e lt lt' same = absurd (omega (arith, lt, stage_one root i j (few_puts i (omega (arith, lt, lt'))) (few_puts j lt') (sym (ok.staged i d (omega (arith, lt, lt'))) ∙ same ∙ ok.staged j e lt')))

  pub plain_put : (i : ℕ) (d : Put) → i < length puts → is_service root (get_or puts i d).path ≡ false
  plain_put i d lt = ap (is_service root) (sym (at_put puts change.drops.items i d d.path lt)) ∙ ok.plan.plain i d.path (omega (arith, lt, length-named puts change.drops.items))

  pub plain_drop : (i : ℕ) (d : Text) → i < length change.drops.items → is_service root (get_or change.drops.items i d) ≡ false
  plain_drop i d lt = ap (is_service root) (sym (at_drop puts change.drops.items i (length puts + i) d refl)) ∙ ok.plan.plain (length puts + i) d (omega (arith, lt, length-named puts change.drops.items))

  paths_differ : (i j : ℕ) (d : Put) → i < j → j < length puts → (get_or puts i d).path ≢ (get_or puts j d).path
  paths_differ i j d lt lt' same = ok.plan.differ i j d.path lt (omega (arith, lt', length-named puts change.drops.items))
      (at_put puts change.drops.items i d d.path (omega (arith, lt, lt')) ∙ same ∙ sym (at_put puts change.drops.items j d d.path lt'))

  one_path : (i j : ℕ) (d : Put) → i < length puts → j < length puts → (get_or puts i d).path ≡ (get_or puts j d).path → i ≡ j
  one_path i j d lt lt' same = elim (cases_order i j) [
    | inl is ↦ is
    | inr (inl below) ↦ absurd (paths_differ i j d below lt' same)
    | inr (inr above) ↦ absurd (paths_differ j i d above lt (sym same))
  ]

  source_is : (i : ℕ) (d : Put) → i < length puts → source_of (moves_of puts) (get_or puts i d).path ≡ Some (get_or puts i d).staged
  source_is i d lt = elim (find puts (get_or puts i d).path) [
    | inl f ↦ absurd (missed puts (get_or puts i d).path f.source i d lt refl)
    | inr f ↦
        let same : i ≡ f.i = one_path i f.i d lt f.below (sym f.path ∙ ap (λ (p : Put). p.path) (sym (f.at d))) in
        f.source ∙ ap (λ (p : Put). Some p.staged) (sym (f.at d) ∙ ap (λ k. get_or puts k d) (sym same))
  ]

  pub is_put : (i : ℕ) (d : Put) → i < length puts → IsPut root (moves_of puts) (get_or puts i d)
  is_put i d lt = record {
    staged = ap (is_service root) (ok.staged i d lt) ∙ stage_service root i;
    not_journal = λ e. stage_not_journal root i (sym (ok.staged i d lt) ∙ e);
    not_fresh = λ e. stage_not_fresh root i (sym (ok.staged i d lt) ∙ e);
    path = plain_put i d lt;
    source = source_is i d lt;
  }

  pub same_stage : (i j : ℕ) (d e : Put) → i < length puts → j < length puts → (get_or puts i d).staged ≡ (get_or puts j e).staged → i ≡ j
  same_stage i j d e lt lt' same = elim (cases_order i j) [
    | inl is ↦ is
    | inr (inl below) ↦ absurd (stages_differ i j d e below lt' same)
    | inr (inr above) ↦ absurd (stages_differ j i e d above lt (sym same))
  ]

  -- a put that is found keeps the rules of the change
  pub found_is : (q : Text) (f : Finds puts q) → IsPut root (moves_of puts) f.put
  found_is q f = subst (IsPut root (moves_of puts)) (f.at f.put) (is_put f.i f.put f.below)

  -- a rename of the plan
  pub move_step : (i : ℕ) (d : Put) → i < length puts → (m : Files) → IsOfPlan root (plan_in change) m (moved (get_or puts i d).staged (get_or puts i d).path m)
  move_step i d lt m =
      let the_put = is_put i d lt in
      let a = (get_or puts i d).staged in
      let b = (get_or puts i d).path in
      let not_journal : b ≢ journal_path root = λ e. apart root (journal_path root) b (service_journal root) the_put.path (sym e) in
      record {
        journal = moved_apart a b m (journal_path root) the_put.not_journal not_journal;
        redone = redone_is (moved a b m) ∙ redone_same root (moves_of puts) change.drops.items m (moved a b m) (each i d lt m) ∙ sym (redone_is m);
      }
    where
      each : (i : ℕ) (d : Put) → i < length puts → (m : Files) (q : Text) → is_service root q ≡ false → is_among change.drops.items q ≡ false
          → brought (moved (get_or puts i d).staged (get_or puts i d).path m) (source_of (moves_of puts) q) (moved (get_or puts i d).staged (get_or puts i d).path m q) ≡ brought m (source_of (moves_of puts) q) (m q)
      each i d lt m q plain kept =
          let the_put = is_put i d lt in
          let a = (get_or puts i d).staged in
          let b = (get_or puts i d).path in
          let b_a : b ≢ a = λ e. apart root a b the_put.staged the_put.path (sym e) in
          let a_q : a ≢ q = apart root a q the_put.staged plain in
          elim (cases_path b q) [
            | inl is ↦ subst (λ (r : Text). brought (moved a b m) (source_of (moves_of puts) r) (moved a b m r) ≡ brought m (source_of (moves_of puts) r) (m r)) is
                (ap (λ s. brought (moved a b m) s (moved a b m b)) the_put.source
                ∙ ap (λ f. option_or f (moved a b m b)) (moved_from a b m b_a)
                ∙ elim (cases_file (m a)) [
                  | inl none ↦ ap (λ (f : Files). f b) (moved_none a b m none) ∙ ap (λ f. option_or f (m b)) (sym none)
                  | inr (v, some) ↦ ap (λ (f : Files). f b) (moved_some a b m v some) ∙ put_here (put m a None) b (Some v) ∙ ap (λ f. option_or f (m b)) (sym some)
                ]
                ∙ ap (λ s. brought m s (m b)) (sym the_put.source))
            | inr isnt ↦
                let here : moved a b m q ≡ m q = moved_apart a b m q a_q isnt in
                elim (find puts q) [
                  | inl f ↦ ap (λ s. brought (moved a b m) s (moved a b m q)) f.source ∙ here ∙ ap (λ s. brought m s (m q)) (sym f.source)
                  | inr f ↦
                      let found = found_is q f in
                      let s = f.put.staged in
                      let a_s : a ≢ s = λ e. isnt (ap (λ (p : Put). p.path) (ap (λ k. get_or puts k d) (same_stage i f.i d d lt f.below (e ∙ ap (λ (p : Put). p.staged) (sym (f.at d)))) ∙ f.at d) ∙ f.path) in
                      let b_s : b ≢ s = λ e. apart root s b found.staged the_put.path (sym e) in
                      ap (λ t. brought (moved a b m) t (moved a b m q)) f.source
                      ∙ ap (λ g. option_or g (moved a b m q)) (moved_apart a b m s a_s b_s)
                      ∙ ap (λ g. option_or (m s) g) here
                      ∙ ap (λ t. brought m t (m q)) (sym f.source)
                ]
          ]

  -- no path of the vault's own is dropped
  pub not_dropped : (q : Text) → is_service root q ≡ true → is_among change.drops.items q ≡ false
  not_dropped q own = elim (is_among change.drops.items q) as (λ b. is_among change.drops.items q ≡ b → is_among change.drops.items q ≡ false) [
    | true ↦ λ is. (let (i, lt, at) = place_of change.drops.items q is in absurd (apart root q (get_or change.drops.items i q) own (plain_drop i q lt) (sym (at q))))
    | false ↦ λ is. is
  ] refl

  -- files that differ in dropped paths only
  pub drops_kept : (m n : Files) → IsSameBut change.drops.items m n → IsOfPlan root (plan_in change) m n
  drops_kept m n but = record {
    journal = but (journal_path root) (not_dropped (journal_path root) (service_journal root));
    redone = redone_is n ∙ redone_same root (moves_of puts) change.drops.items m n each ∙ sym (redone_is m);
  }
    where
      each : (q : Text) → is_service root q ≡ false → is_among change.drops.items q ≡ false
          → brought n (source_of (moves_of puts) q) (n q) ≡ brought m (source_of (moves_of puts) q) (m q)
      each q plain kept = elim (find puts q) [
        | inl f ↦ ap (λ s. brought n s (n q)) f.source ∙ but q kept ∙ ap (λ s. brought m s (m q)) (sym f.source)
        | inr f ↦
            let s = f.put.staged in
            ap (λ t. brought n t (n q)) f.source
            ∙ ap (λ g. option_or g (n q)) (but s (not_dropped s (found_is q f).staged))
            ∙ ap (λ g. option_or (m s) g) (but q kept)
            ∙ ap (λ t. brought m t (m q)) (sym f.source)
      ]

  pub staged_more : (i : ℕ) (d : Put) → i < length puts → (before files : Files) → IsStaged change i before files → IsStaged change (i + 1) before (put files (get_or puts i d).staged (Some (get_or puts i d).bytes.items))
  staged_more i d lt before files so = record {
    those = λ j e below. elim (cases_order j i) [
      | inl is ↦ subst (λ k. put files (get_or puts i d).staged (Some (get_or puts i d).bytes.items) (get_or puts k e).staged ≡ Some (get_or puts k e).bytes.items) (sym is) (here e)
      | inr (inl less) ↦ put_apart files (get_or puts i d).staged (get_or puts j e).staged _ (λ same. stages_differ j i e d less lt (sym same)) ∙ so.those j e less
      | inr (inr more) ↦ absurd (omega arith)
    ];
    rest = λ q other. put_apart files (get_or puts i d).staged q _ (other i d lt) ∙ so.rest q other;
  }
    where
      here : (e : Put) → put files (get_or puts i d).staged (Some (get_or puts i d).bytes.items) (get_or puts i e).staged ≡ Some (get_or puts i e).bytes.items
      here e = subst (λ (p : Put). put files (get_or puts i d).staged (Some (get_or puts i d).bytes.items) p.staged ≡ Some p.bytes.items) (get_or_default puts i d e lt) (put_here files (get_or puts i d).staged _)

  -- no stage is a path
  no_stage : (i j : ℕ) (d e : Put) → i < length puts → j < length puts → (get_or puts j e).path ≢ (get_or puts i d).staged
  no_stage i j d e lt lt' same = apart root (get_or puts i d).staged (get_or puts j e).path (is_put i d lt).staged (is_put j e lt').path (sym same)

  pub fetched_more : (i : ℕ) (d : Put) → i < length puts → (before files : Files) → IsFetched change i before files → IsFetched change (i + 1) before (moved (get_or puts i d).staged (get_or puts i d).path files)
  fetched_more i d lt before files so = record {
    gone = λ j e below. elim (cases_order j i) [
      | inl is ↦ subst (λ k. moved (get_or puts i d).staged (get_or puts i d).path files (get_or puts k e).staged ≡ None) (sym is) (here e)
      | inr (inl less) ↦ moved_none_stays (get_or puts i d).staged (get_or puts i d).path files (get_or puts j e).staged (no_stage j i e d (omega arith) lt) (so.gone j e less)
      | inr (inr more) ↦ absurd (omega arith)
    ];
    none = λ q other none. moved_none_stays (get_or puts i d).staged (get_or puts i d).path files q (other i d lt) (so.none q other none);
    rest = λ q away clear. moved_apart (get_or puts i d).staged (get_or puts i d).path files q (clear i d lt) (away i d lt) ∙ so.rest q away clear;
  }
    where
      here : (e : Put) → moved (get_or puts i d).staged (get_or puts i d).path files (get_or puts i e).staged ≡ None
      here e = subst (λ (p : Put). moved (get_or puts i d).staged (get_or puts i d).path files p.staged ≡ None) (get_or_default puts i d e lt) (moved_from (get_or puts i d).staged (get_or puts i d).path files (no_stage i i d d lt lt))

-- a path more is removed
pub removed_more : (paths : List Text) (i : ℕ) (p : Text) → p ≡ get_or paths i p → i < length paths → (before old new : Files) → IsRemoved paths i before old → new ≡ put old p None → IsRemoved paths (i + 1) before new
removed_more paths i p is lt before old new so made = subst (IsRemoved paths (i + 1) before) (sym made) (record {
  gone = λ j e below. elim (cases_order j i) [
    | inl same ↦ subst (λ (q : Text). put old p None q ≡ None) (is ∙ get_or_default paths i p e lt ∙ ap (λ k. get_or paths k e) (sym same)) (put_here old p None)
    | inr (inl less) ↦ put_none_stays old p (get_or paths j e) (so.gone j e less)
    | inr (inr more) ↦ absurd (omega arith)
  ];
  none = λ q none. put_none_stays old p q (so.none q none);
  rest = λ q other. put_apart old p q None (λ e. false≢true (sym other ∙ ap (is_among paths) (sym e ∙ is) ∙ among_at paths i p lt)) ∙ so.rest q other;
})
