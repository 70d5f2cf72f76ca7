-- What a disk means at a moment, and from one moment to the next.
use Rattle.std.specs.Prelude.{◌≡◌, ◌⊎◌, ℕ, ◌≤◌, ◌+◌, ◌-◌, ◌^◌, min, Bool}
use Rattle.disk_model.specs.Files.{Files}

-- what a disk shows at a moment: its files, and the images, which are what a crash now may leave.
-- `left_since t` has what a crash at the moment t or at a later one may have left
pub record View : Type 1 where
  pub files : Files
  pub images : Files → Type 0
  pub moment : ℕ
  pub left_since : ℕ → Files → Type 0

-- a disk: whether it tells its content, what it shows, how often a call failed and how often it was asked, for how much its
-- readings and listings asked, which is the sum of their limits, and whether the lock is had. Counts stand at their last value
pub record DiskMeaning (D : Type 0) : Type 1 where
  pub tells : Type 0
  pub view : D → View
  pub faults : D → ℕ
  pub calls : D → ℕ
  pub asked : D → ℕ
  pub held : D → Bool

-- what holds at every moment: the files are one of the images, each image is among what a crash since any moment up to
-- now may have left, and since now that is nothing else
pub record IsSound (disk : View) : Type 0 where
  pub now : disk.images disk.files
  pub counts_now : (t : ℕ) (m : Files) → t ≤ disk.moment → disk.images m → disk.left_since t m
  pub only_now : (m : Files) → disk.left_since disk.moment m → disk.images m

-- time goes on: what was left stays so, and nothing is added but the images of now
pub record Elapses (old new : View) : Type 0 where
  pub later : old.moment ≤ new.moment
  pub only : (t : ℕ) (m : Files) → t ≤ old.moment → new.left_since t m → old.left_since t m ⊎ new.images m
  pub keeps : (t : ℕ) (m : Files) → t ≤ old.moment → old.left_since t m → new.left_since t m

-- nothing changes but the time
pub record Rests (old new : View) : Type 0 where
  pub time : Elapses old new
  pub files : new.files ≡ old.files
  pub only : (m : Files) → new.images m → old.images m
  pub keeps : (m : Files) → old.images m → new.images m

-- each earlier image stays, and every other is one that the step makes of an earlier one
pub record Steps (step : Files → Files → Type 0) (old new : View) : Type 0 where
  pub time : Elapses old new
  pub only : (n : Files) → new.images n → old.images n ⊎ ((m : Files) × old.images m × step m n)
  pub keeps : (m : Files) → old.images m → new.images m

-- the step is made: these are the files, and each image with the step made is one
pub record IsMade (step : Files → Files → Type 0) (made : Files) (old new : View) : Type 0 where
  pub files : new.files ≡ made
  pub all : (m n : Files) → old.images m → step m n → new.images n

-- a sync, whatever it answers, changes no file and brings no image
pub record Syncs (old new : View) : Type 0 where
  pub time : Elapses old new
  pub files : new.files ≡ old.files
  pub only : (m : Files) → new.images m → old.images m

-- the sum with one limit more
abbrev pub with_limit : ℕ → ℕ → ℕ
with_limit limit asked = min (asked + limit) (2 ^ 128 - 1)

-- what was asked in calls, by the sums before and now: their limits come to no more than `most`
abbrev pub AsksUpTo : (most before now : ℕ) → Type 0
AsksUpTo most before now = now ≤ before + most

-- these files are the only image
abbrev pub Only : Files → View → Type 0
Only files disk = (m : Files) → disk.images m → m ≡ files

-- each image stays one
abbrev pub Stay : View → View → Type 0
Stay old new = (m : Files) → old.images m → new.images m

-- the disk holds these files, and a crash leaves nothing else
pub record IsDurable (content : Files) (disk : View) : Type 0 where
  pub files : disk.files ≡ content
  pub only : Only content disk
