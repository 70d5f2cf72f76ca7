-- What is read of a source: all of it, or a line.
use Rattle.std.specs.Prelude.{ℕ, ◌+◌, ◌≡◌, ◌⊎◌, ◌<◌, ◌≤◌, ◌++◌, ◌∷◌, [], min, length, take, drop, Result, Ok, Err, Vec}
use Rattle.gopass_base.specs.Text.{Text}
use Rattle.gopass_base.specs.Lines.{Lacks, before_byte}
use Rattle.io_ports.specs.Source.{Came, Grew, GrewUpTo}
use Rattle.io_ports.specs.declared.input.InputFault.{InputFault}
use Rattle.io_ports.specs.declared.input.InputFault.TheVariants.{Failed, Long, NoMemory}

-- some bytes came, at most so many
abbrev pub CameSome : ℕ → Text → Text → Type 0
CameSome most before after = (bytes : Text) × (length bytes ≤ most) × Came bytes before after

-- what is read of all that is left, which is at most `max` bytes; of more just one byte beyond them comes
abbrev pub ReadsAll : {Z : Type 0} → ℕ → Result (Vec ℕ Z) InputFault → Text → Text → Type 0
ReadsAll max (Ok bytes) before after = (bytes.items ≡ before) × (length before ≤ max) × (after ≡ [])
ReadsAll max (Err Long) before after = (max < length before) × (after ≡ drop (max + 1) before)
ReadsAll max (Err Failed) before after = CameSome max before after
ReadsAll max (Err NoMemory) before after = CameSome max before after

-- what the first line of a text says: the bytes before the first LF, or all where there is none
abbrev pub content_of : Text → Text
content_of text = before_byte 10 text

-- the first line of a text, which has one byte behind what it says where the text has one there, and what stands behind it
abbrev pub first_line : Text → Text × Text
first_line text = (take (length (content_of text) + 1) text, drop (length (content_of text) + 1) text)

-- a line stands first in a text, and this behind it: it ends with its one LF, or has none where nothing is behind it
pub record StandsFirst (line rest text : Text) : Type 0 where
  pub whole : text ≡ line ++ rest
  pub ends : ((says : Text) × Lacks 10 says × (line ≡ says ++ 10 ∷ [])) ⊎ (Lacks 10 line × (rest ≡ []))

-- one line, which says at most `max` bytes
pub record IsLine (max : ℕ) (line : Text) : Type 0 where
  pub one : first_line line ≡ (line, [])
  pub short : length (content_of line) ≤ max

-- what is read of a line, which says at most `max` bytes; nothing behind the line comes, and of a longer one just one byte beyond them
abbrev pub ReadsLine : {Z : Type 0} → ℕ → Result (Vec ℕ Z) InputFault → Text → Text → Type 0
ReadsLine max (Ok line) before after = (first_line before ≡ (line.items, after)) × (length (content_of before) ≤ max)
ReadsLine max (Err Long) before after = (max < length (content_of before)) × (after ≡ drop (max + 1) before)
ReadsLine max (Err Failed) before after = CameSome (min max (length (content_of before))) before after
ReadsLine max (Err NoMemory) before after = CameSome (min (max + 1) (length (first_line before).0)) before after

-- how many bytes came, told or not: those that were read; one beyond `max` where there are more
abbrev pub ReadsCount : {Z : Type 0} → ℕ → Result (Vec ℕ Z) InputFault → (before now : ℕ) → Type 0
ReadsCount max (Ok bytes) before now = Grew (length bytes.items) before now
ReadsCount max (Err Long) before now = Grew (max + 1) before now
ReadsCount max (Err Failed) before now = GrewUpTo max before now
ReadsCount max (Err NoMemory) before now = GrewUpTo (max + 1) before now
