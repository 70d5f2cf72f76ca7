-- What a crash leaves is one of the images.
use Rattle.std.proofs.Common.{◌≡◌, ◌⊎◌, ◌/◌, ◌+◌, ◌<◌, inl, inr, ℕ, get_or, drop, Bool, true, false, List, [], ◌∷◌, if◌then◌else◌, length, take, refl, sym, ◌∙◌, ap, subst}
use Rattle.std.proofs.Math.Dec.{ltb}
use Rattle.std.proofs.lemmas.List.{drop_more}
use Rattle.disk_model.specs.Files.{Files}
use Rattle.disk_model.specs.Entries.{Entries, files_of, is_rising}
use Rattle.disk_model.specs.Acts.{Act, Write, Rename, Remove, Sync, made, entries_made, CrashMakes, Next, ImagesAfter, Images, before, act_of, log_of}
use Rattle.disk_model.specs.declared.act.Act.{Act as Held}
use Rattle.disk_model.specs.Crashes.{Replay, torn, left_by, replay_one, replay_all, replay_start, picked}
use Rattle.disk_model.specs.declared.crash.Pick.{Pick}
use Rattle.disk_model.specs.declared.crash.Pick.TheVariants as pick
use Rattle.disk_model.proofs.ActLemmas.{made_files, made_rises}
use Rattle.disk_model.proofs.MemoryLemmas.{is_sync}

left_rises : (p : Pick) (odd : Bool) (e : Act) (left : Entries) → is_rising left ≡ true → is_rising (left_by p odd e left) ≡ true
left_rises pick.None odd e left up = up
left_rises pick.All odd e left up = made_rises e left up
left_rises pick.Even true e left up = made_rises e left up
left_rises pick.Even false e left up = up
left_rises pick.Torn odd e left up = made_rises (torn e) left up

-- both lists of a reading are in rising order
pub record Rises (r : Replay) : Type 0 where
  pub of_files : is_rising r.files ≡ true
  pub of_left : is_rising r.left ≡ true

pub read_rises : (p : Pick) (e : Act) (r : Replay) → Rises r → Rises (replay_one p e r)
read_rises p (Write path bytes) r up = record { of_files = made_rises (Write path bytes) r.files up.of_files; of_left = left_rises p r.is_odd (Write path bytes) r.left up.of_left }
read_rises p (Rename from to) r up = record { of_files = made_rises (Rename from to) r.files up.of_files; of_left = left_rises p r.is_odd (Rename from to) r.left up.of_left }
read_rises p (Remove path) r up = record { of_files = made_rises (Remove path) r.files up.of_files; of_left = left_rises p r.is_odd (Remove path) r.left up.of_left }
read_rises p Sync r up = record { of_files = up.of_files; of_left = up.of_files }

pub rises_if : (b : Bool) (p : Pick) (e : Act) (r : Replay) → Rises r → Rises (if b then replay_one p e r else r)
rises_if true p e r up = read_rises p e r up
rises_if false p e r up = up

all_rises : (p : Pick) (es : List Act) (r : Replay) → Rises r → Rises (replay_all p es r)
all_rises p [] r up = up
all_rises p (e ∷ es) r up = all_rises p es (replay_one p e r) (read_rises p e r up)

pub picked_rises : (p : Pick) (start : Entries) (es : List Act) → is_rising start ≡ true → is_rising (picked p start es) ≡ true
picked_rises p start es up = (all_rises p es (replay_start start) (record { of_files = up; of_left = up })).of_left

-- ---- one act more is read

read_if : (p : Pick) (b : Bool) (e : Act) (es : List Act) (r : Replay) → replay_all p (if b then e ∷ es else es) r ≡ replay_all p es (if b then replay_one p e r else r)
read_if p true e es r = refl
read_if p false e es r = refl

module _ (p : Pick) (moment : ℕ) (log : List (ℕ × Held)) (i : ℕ) (item : ℕ × Held) (lt : i < length log) (is : item ≡ get_or log i item) where
  pub read_more : (r new whole : Replay) → new ≡ (if ltb item.0 moment then replay_one p (act_of item.1) r else r)
      → replay_all p (before moment (log_of (drop i log))) r ≡ whole → replay_all p (before moment (log_of (drop (i + 1) log))) new ≡ whole
  read_more r new whole read so_far =
      let rest : List Act = before moment (log_of (drop (i + 1) log)) in
      let here : drop i log ≡ item ∷ drop (i + 1) log = drop_more log i item lt ∙ ap (λ x. x ∷ drop (i + 1) log) (sym is) in
      ap (replay_all p rest) read ∙ sym (read_if p (ltb item.0 moment) (act_of item.1) rest r) ∙ sym (ap (λ l. replay_all p (before moment (log_of l)) r) here) ∙ so_far

-- ---- the images

module _ (I : Files → Type 0) (left : Entries) (im : I (files_of left)) where
  -- the step is made, or a write with other bytes
  whole : (e : Act) → is_sync e ≡ false → I (files_of (entries_made e left)) ⊎ ((m : Files) × I m × CrashMakes e m (files_of (entries_made e left)))
  whole (Write path bytes) step = inr (files_of left, im, (bytes, made_files (Write path bytes) left))
  whole (Rename from to) step = inr (files_of left, im, made_files (Rename from to) left)
  whole (Remove path) step = inr (files_of left, im, made_files (Remove path) left)
  whole Sync step = inl im

  cut : (e : Act) → is_sync e ≡ false → I (files_of (entries_made (torn e) left)) ⊎ ((m : Files) × I m × CrashMakes e m (files_of (entries_made (torn e) left)))
  cut (Write path bytes) step = inr (files_of left, im, (take (length bytes / 2) bytes, made_files (torn (Write path bytes)) left))
  cut (Rename from to) step = inr (files_of left, im, made_files (Rename from to) left)
  cut (Remove path) step = inr (files_of left, im, made_files (Remove path) left)
  cut Sync step = inl im

  left_image : (p : Pick) (odd : Bool) (e : Act) → is_sync e ≡ false → I (files_of (left_by p odd e left)) ⊎ ((m : Files) × I m × CrashMakes e m (files_of (left_by p odd e left)))
  left_image pick.None odd e step = inl im
  left_image pick.All odd e step = whole e step
  left_image pick.Even true e step = whole e step
  left_image pick.Even false e step = inl im
  left_image pick.Torn odd e step = cut e step

read_image : (p : Pick) (e : Act) (r : Replay) (I : Files → Type 0) → I (files_of r.left) → Next e (files_of r.files) I (files_of (replay_one p e r).left)
read_image p (Write path bytes) r I im = left_image I r.left im p r.is_odd (Write path bytes) refl
read_image p (Rename from to) r I im = left_image I r.left im p r.is_odd (Rename from to) refl
read_image p (Remove path) r I im = left_image I r.left im p r.is_odd (Remove path) refl
read_image p Sync r I im = refl

read_files : (p : Pick) (e : Act) (r : Replay) → files_of (replay_one p e r).files ≡ made e (files_of r.files)
read_files p (Write path bytes) r = made_files (Write path bytes) r.files
read_files p (Rename from to) r = made_files (Rename from to) r.files
read_files p (Remove path) r = made_files (Remove path) r.files
read_files p Sync r = refl

all_image : (p : Pick) (es : List Act) (r : Replay) (I : Files → Type 0) → I (files_of r.left) → ImagesAfter es (files_of r.files) I (files_of (replay_all p es r).left)
all_image p [] r I im = im
all_image p (e ∷ es) r I im =
    subst (λ (f : Files). ImagesAfter es f (Next e (files_of r.files) I) (files_of (replay_all p es (replay_one p e r)).left)) (read_files p e r)
    (all_image p es (replay_one p e r) (Next e (files_of r.files) I) (read_image p e r I im))

pub picked_image : (p : Pick) (start : Entries) (es : List Act) → Images (files_of start) es (files_of (picked p start es))
picked_image p start es = all_image p es (replay_start start) (λ m. m ≡ files_of start) refl
