-- What the calls of a disk answer.
use Rattle.std.specs.Prelude.{◌≡◌, ℕ, ◌<◌, ◌≤◌, length, ⊤, Option, None, Some}
use Rattle.gopass_base.specs.Text.{Text}
use Rattle.disk_model.specs.declared.disk.Got.{Got}
use Rattle.disk_model.specs.declared.disk.Got.TheVariants.{Absent, Bytes, Long}

-- what a read of at most `max` bytes gives of a file, where there is one
abbrev pub Reads : Option Text → ℕ → Got → Type 0
Reads file max Absent = file ≡ None
Reads file max (Bytes bytes) = file ≡ Some bytes.items
Reads file max Long = (bytes : Text) × (file ≡ Some bytes) × (max < length bytes)

-- no more bytes are given than were asked for
abbrev pub IsWithin : ℕ → Got → Type 0
IsWithin max Absent = ⊤
IsWithin max (Bytes bytes) = length bytes.items ≤ max
IsWithin max Long = ⊤
