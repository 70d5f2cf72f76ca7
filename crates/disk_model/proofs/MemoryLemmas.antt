-- What a call leaves of a disk in memory, and what that means.
use Rattle.std.proofs.Common.{◌≡◌, ◌⊎◌, inl, inr, ℕ, ◌+◌, ◌≤◌, ◌<◌, Bool, true, false, List, [], ◌∷◌, ◌++◌, Result, Ok, Err, OnOk, OnErr, sym, ◌∙◌, ap, subst, arith}
use Rattle.std.specs.Prelude.{IfOk, MatchResult}
use Rattle.std.proofs.Math.Nat.{min-eq_left, min-le_right, le-min}
use Rattle.std.proofs.lemmas.Bool.{false≢true, cases_lt}
use Rattle.gopass_base.specs.Faults.{counted}
use Rattle.gopass_base.specs.Calls.{Calls, next_calls}
use Rattle.disk_model.specs.Files.{Files}
use Rattle.disk_model.specs.Disk.{View, Elapses, Rests, Steps, IsMade, Syncs, Only, Stay, IsDurable}
use Rattle.disk_model.specs.Entries.{files_of}
use Rattle.disk_model.specs.Acts.{Act, Write, Rename, Remove, Sync, before, made, entries_made, files_after, entries_after, CrashMakes, Next, Images, act_of}
use Rattle.disk_model.specs.Memory.{MemoryDisk, acts_of, view_of, view_sound, rested, did, IsRecorded}
use Rattle.disk_model.specs.declared.act.Act.{Act as Held}
use Rattle.disk_model.proofs.ActLemmas.{after_files, made_rises, files_push, entries_push, images_push, before_same, before_more, past_later, past_push, past_before}

counted_later : (n : ℕ) → n ≤ 18446744073709551615 → n ≤ counted n
counted_later n le = le-min (omega arith) le

counted_more : (n : ℕ) → n < 18446744073709551615 → counted n ≡ n + 1
counted_more n lt = min-eq_left (omega arith)

counted_bound : (n : ℕ) → counted n ≤ 18446744073709551615
counted_bound n = min-le_right (n + 1) 18446744073709551615

abbrev pub is_sync : Act → Bool
is_sync (Write path bytes) = false
is_sync (Rename from to) = false
is_sync (Remove path) = false
is_sync Sync = true

next_split : (e : Act) (f : Files) (I : Files → Type 0) → is_sync e ≡ false → (n : Files) → Next e f I n → I n ⊎ ((m : Files) × I m × CrashMakes e m n)
next_split (Write path bytes) f I is n im = im
next_split (Rename from to) f I is n im = im
next_split (Remove path) f I is n im = im
next_split Sync f I is n im = absurd (false≢true (sym is))

next_join : (e : Act) (f : Files) (I : Files → Type 0) → is_sync e ≡ false → (n : Files) → I n ⊎ ((m : Files) × I m × CrashMakes e m n) → Next e f I n
next_join (Write path bytes) f I is n im = im
next_join (Rename from to) f I is n im = im
next_join (Remove path) f I is n im = im
next_join Sync f I is n im = absurd (false≢true (sym is))

-- its files are those of its list
pub view_files : (disk : MemoryDisk) → IsRecorded disk → (view_of disk).files ≡ files_of disk.entries
view_files disk r = sym (after_files (acts_of disk) disk.start) ∙ ap files_of (sym r.entries)

pub shown_files : (held disk : MemoryDisk) → held ≡ disk → IsRecorded held → (view_of disk).files ≡ files_of disk.entries
shown_files held disk same r = subst (λ (d : MemoryDisk). (view_of d).files ≡ files_of d.entries) same (view_files held r)

-- a disk that did nothing yet holds its files, and a crash leaves nothing else
pub stands_new : (disk : MemoryDisk) → disk.start ≡ disk.entries → disk.log ≡ [] → IsDurable (files_of disk.entries) (view_of disk)
stands_new disk start log =
    let none : acts_of disk ≡ [] = ap (before disk.calls.made) log in
    record {
      files = ap (λ (es : List Act). files_after es (files_of disk.start)) none ∙ ap files_of start;
      only = λ m im. subst (λ (es : List Act). Images (files_of disk.start) es m) none im ∙ ap files_of start;
    }

-- ---- a call that changed nothing

module _ (disk : MemoryDisk) (r : IsRecorded disk) where
  abbrev start : Files
  start = files_of disk.start

  abbrev now : ℕ
  now = disk.calls.made

  later : now ≤ counted now
  later = counted_later now r.bound

  same_acts : (k : ℕ) → now ≤ k → before k disk.log ≡ acts_of disk
  same_acts k le = past_before k now disk.log le r.past

  pub rests_of : Rests (view_of disk) (view_of (rested disk))
  rests_of = record {
    time = record {
      later = later;
      only = λ t m le left. only_of t m left;
      keeps = λ t m le (k, after, most, im). (k, after, omega (arith, later, most), im);
    };
    files = ap (λ (es : List Act). files_after es start) (same_acts (counted now) later);
    only = λ m im. subst (λ (es : List Act). Images start es m) (same_acts (counted now) later) im;
    keeps = λ m im. subst (λ (es : List Act). Images start es m) (sym (same_acts (counted now) later)) im;
  }
    where
      only_of : (t : ℕ) (m : Files) → (view_of (rested disk)).left_since t m → (view_of disk).left_since t m ⊎ (view_of (rested disk)).images m
      only_of t m (k, after, most, im) = elim (cases_lt now k) [
        | inr le ↦ inl (k, after, le, im)
        | inl lt ↦ inr (subst (λ (es : List Act). Images start es m) (same_acts k (omega arith) ∙ sym (same_acts (counted now) later)) im)
      ]

  pub recorded_rested : IsRecorded (rested disk)
  recorded_rested = record {
    bound = counted_bound now;
    past = past_later (counted now) now disk.log later r.past;
    start = r.start;
    rising = r.rising;
    entries = r.entries ∙ ap (λ (es : List Act). entries_after es disk.start) (sym (same_acts (counted now) later));
  }

  -- ---- a call that did something

  module _ (e : Act) (lt : now < 18446744073709551615) where
    more : counted now ≡ now + 1
    more = counted_more now lt

    pub did_acts : acts_of (did e disk) ≡ acts_of disk ++ e ∷ []
    did_acts = before_more (counted now) now disk.log e (omega (arith, more)) ∙ ap (λ (es : List Act). es ++ e ∷ []) (same_acts (counted now) later)

    did_elapses : Elapses (view_of disk) (view_of (did e disk))
    did_elapses = record {
      later = later;
      only = λ t m le left. only_of t m left;
      keeps = λ t m le (k, after, most, im). (k, after, omega (arith, later, most), subst (λ (es : List Act). Images start es m) (sym (before_same k now disk.log e most)) im);
    }
      where
        only_of : (t : ℕ) (m : Files) → (view_of (did e disk)).left_since t m → (view_of disk).left_since t m ⊎ (view_of (did e disk)).images m
        only_of t m (k, after, most, im) = elim (cases_lt now k) [
          | inr le ↦ inl (k, after, le, subst (λ (es : List Act). Images start es m) (before_same k now disk.log e le) im)
          | inl more_than ↦ (
              let last : k ≡ counted now = omega (arith, more, most, more_than) in
              inr (subst (λ (n : ℕ). Images start (before n (disk.log ++ (now, e) ∷ [])) m) last im)
              )
        ]

    did_images : (n : Files) → ◌≡◌ {A = Type 0} ((view_of (did e disk)).images n) (Next e (view_of disk).files (view_of disk).images n)
    did_images n = ap (λ (es : List Act). Images start es n) did_acts ∙ ap (λ (P : Files → Type 0). P n) (images_push (acts_of disk) e start (λ m. m ≡ start))

    pub did_steps : is_sync e ≡ false → Steps (CrashMakes e) (view_of disk) (view_of (did e disk))
    did_steps step = record {
      time = did_elapses;
      only = λ n im. next_split e (view_of disk).files (view_of disk).images step n (subst (λ (P : Type 0). P) (did_images n) im);
      keeps = λ m im. subst (λ (P : Type 0). P) (sym (did_images m)) (next_join e (view_of disk).files (view_of disk).images step m (inl im));
    }

    pub did_files : (view_of (did e disk)).files ≡ made e (view_of disk).files
    did_files = ap (λ (es : List Act). files_after es start) did_acts ∙ files_push (acts_of disk) e start

    pub did_made : is_sync e ≡ false → IsMade (CrashMakes e) (made e (view_of disk).files) (view_of disk) (view_of (did e disk))
    did_made step = record {
      files = did_files;
      all = λ m n im does. subst (λ (P : Type 0). P) (sym (did_images n)) (next_join e (view_of disk).files (view_of disk).images step n (inr (m, im, does)));
    }

    pub recorded_did : IsRecorded (did e disk)
    recorded_did = record {
      bound = counted_bound now;
      past = past_push (counted now) now disk.log e (omega (arith, more)) (past_later (counted now) now disk.log later r.past);
      start = r.start;
      rising = made_rises e disk.entries r.rising;
      entries = ap (entries_made e) r.entries ∙ (sym (entries_push (acts_of disk) e disk.start) ∙ ap (λ (es : List Act). entries_after es disk.start) (sym did_acts));
    }

  module _ (lt : now < 18446744073709551615) where
    pub sync_only : Only (view_of disk).files (view_of (did Sync disk))
    sync_only m im = subst (λ (P : Type 0). P) (did_images Sync lt m) im

    pub did_syncs : Syncs (view_of disk) (view_of (did Sync disk))
    did_syncs = record {
      time = did_elapses Sync lt;
      files = did_files Sync lt;
      only = λ m im. subst (view_of disk).images (sym (sync_only m im)) (view_sound disk).now;
    }

-- ---- by what the call answers

abbrev pub with_calls : MemoryDisk → Calls → MemoryDisk
with_calls disk calls = record disk { calls = calls }

pub rests_by : (old held : MemoryDisk) (calls : Calls) → held ≡ old → IsRecorded held → calls ≡ next_calls held.calls → Rests (view_of old) (view_of (with_calls held calls))
rests_by old held calls same r is = subst (λ (d : MemoryDisk). Rests (view_of d) (view_of (with_calls held calls))) same (subst (λ (k : Calls). Rests (view_of held) (view_of (with_calls held k))) (sym is) (rests_of held r))

pub recorded_by : (held : MemoryDisk) (calls : Calls) → IsRecorded held → calls ≡ next_calls held.calls → IsRecorded (with_calls held calls)
recorded_by held calls r is = subst (λ (k : Calls). IsRecorded (with_calls held k)) (sym is) (recorded_rested held r)

pub did_by : {T E F : Type 0} (r : Result T E) (given : Result Held F) (e : Act) (old new : MemoryDisk)
    → OnOk r (MatchResult given (λ x. new ≡ did (act_of x) old) (λ _. ⊥)) → IfOk given (λ x. act_of x ≡ e) → OnOk r (new ≡ did e old)
did_by (Ok x) (Ok g) e old new is same = is ∙ ap (λ (d : Act). did d old) same
did_by (Ok x) (Err g) e old new is same = absurd is
did_by (Err x) g e old new is same = tt

steps_rested : (step : Files → Files → Type 0) (old new : View) → Rests old new → Steps step old new
steps_rested step old new s = record { time = s.time; only = λ n im. inl (s.only n im); keeps = s.keeps }

pub steps_by : {T E : Type 0} (r : Result T E) (e : Act) (old new : MemoryDisk) → is_sync e ≡ false → IsRecorded old
    → OnOk r (old.calls.made < 18446744073709551615) → OnOk r (new ≡ did e old) → OnErr r (new ≡ rested old) → Steps (CrashMakes e) (view_of old) (view_of new)
steps_by (Ok x) e old new step rec lt is un = subst (λ (d : MemoryDisk). Steps (CrashMakes e) (view_of old) (view_of d)) (sym is) (did_steps old rec e lt step)
steps_by (Err x) e old new step rec lt is un = subst (λ (d : MemoryDisk). Steps (CrashMakes e) (view_of old) (view_of d)) (sym un) (steps_rested (CrashMakes e) (view_of old) (view_of (rested old)) (rests_of old rec))

pub made_by : {T E : Type 0} (r : Result T E) (e : Act) (old new : MemoryDisk) → is_sync e ≡ false → IsRecorded old
    → OnOk r (old.calls.made < 18446744073709551615) → OnOk r (new ≡ did e old) → OnOk r (Unit {0} → IsMade (CrashMakes e) (made e (view_of old).files) (view_of old) (view_of new))
made_by (Ok x) e old new step rec lt is = λ told. subst (λ (d : MemoryDisk). IsMade (CrashMakes e) (made e (view_of old).files) (view_of old) (view_of d)) (sym is) (did_made old rec e lt step)
made_by (Err x) e old new step rec lt is = tt

syncs_rested : (old new : View) → Rests old new → Syncs old new
syncs_rested old new s = record { time = s.time; files = s.files; only = s.only }

pub syncs_by : {T E : Type 0} (r : Result T E) (old new : MemoryDisk) → IsRecorded old
    → OnOk r (old.calls.made < 18446744073709551615) → OnOk r (new ≡ did Sync old) → OnErr r (new ≡ rested old) → Syncs (view_of old) (view_of new)
syncs_by (Ok x) old new rec lt is un = subst (λ (d : MemoryDisk). Syncs (view_of old) (view_of d)) (sym is) (did_syncs old rec lt)
syncs_by (Err x) old new rec lt is un = subst (λ (d : MemoryDisk). Syncs (view_of old) (view_of d)) (sym un) (syncs_rested (view_of old) (view_of (rested old)) (rests_of old rec))

pub only_by : {T E : Type 0} (r : Result T E) (old new : MemoryDisk) → IsRecorded old
    → OnOk r (old.calls.made < 18446744073709551615) → OnOk r (new ≡ did Sync old) → OnOk r (Unit {0} → Only (view_of old).files (view_of new))
only_by (Ok x) old new rec lt is = λ told. subst (λ (d : MemoryDisk). Only (view_of old).files (view_of d)) (sym is) (sync_only old rec lt)
only_by (Err x) old new rec lt is = tt

pub stay_by : {T E : Type 0} (r : Result T E) (old new : MemoryDisk) → IsRecorded old → OnErr r (new ≡ rested old) → OnErr r (Unit {0} → Stay (view_of old) (view_of new))
stay_by (Ok x) old new rec un = tt
stay_by (Err x) old new rec un = λ told. subst (λ (d : MemoryDisk). Stay (view_of old) (view_of d)) (sym un) (rests_of old rec).keeps
