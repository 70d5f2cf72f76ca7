-- What a crash may leave during a run of calls.
use Rattle.std.specs.Prelude.{◌⊎◌, ℕ, ◌≤◌}
use Rattle.disk_model.specs.Files.{Files}
use Rattle.disk_model.specs.Disk.{View}

-- it comes of an image of the disk by R
abbrev pub ComesBy : (Files → Files → Type 0) → View → Files → Type 0
ComesBy R disk n = (m : Files) × disk.images m × R m n

-- each image at the end comes of one from the start by R, and so does what a crash at any moment of the run may leave that
-- was not left before
pub record Runs (R : Files → Files → Type 0) (old new : View) : Type 0 where
  pub later : old.moment ≤ new.moment
  pub now : (n : Files) → new.images n → ComesBy R old n
  pub during : (t : ℕ) (n : Files) → t ≤ old.moment → new.left_since t n → old.left_since t n ⊎ ComesBy R old n

-- each image at the end has P, and so has what a crash at any moment of the run may leave that was not left before
pub record Leaves (P : Files → Type 0) (old new : View) : Type 0 where
  pub later : old.moment ≤ new.moment
  pub now : (n : Files) → new.images n → P n
  pub during : (t : ℕ) (n : Files) → t ≤ old.moment → new.left_since t n → old.left_since t n ⊎ P n
