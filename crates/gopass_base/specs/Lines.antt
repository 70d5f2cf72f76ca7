-- Cutting bytes at a byte, and the lines of a text.
use Rattle.std.specs.Prelude.{◌≡◌, ◌≢◌, ◌==◌, ℕ, List, [], ◌∷◌, ◌++◌, All, Option, Some, None, if◌then◌else◌}
use Rattle.std.specs.List.{slice_split}
use Rattle.gopass_base.specs.Text.{Text}

-- the byte is not in the text
abbrev pub Lacks : ℕ → Text → Type 0
Lacks byte text = All (λ b. b ≢ byte) text

-- the text is cut at the first such byte
abbrev pub IsCut : ℕ → Text → Text → Text → Type 0
IsCut byte text front rest = (text ≡ front ++ byte ∷ rest) × Lacks byte front

-- a byte more before the cut
abbrev pub with_first : ℕ → Option (Text × Text) → Option (Text × Text)
with_first b None = None
with_first b (Some cut) = Some (b ∷ cut.0, cut.1)

-- the same computed: the bytes before the first c, and those behind it
abbrev pub cut_at : ℕ → Text → Option (Text × Text)
cut_at c [] = None
cut_at c (b ∷ bs) = if b == c then Some ([], bs) else with_first b (cut_at c bs)

-- the lines of a text, each ended by an LF, and last what stands behind the last LF
abbrev pub pieces_of : Text → List Text
pieces_of text = slice_split (λ b. b == 10) text

abbrev pub front_or : Option (Text × Text) → Text → Text
front_or None text = text
front_or (Some cut) text = cut.0

-- a text up to the first such byte, or all of it where it has none
abbrev pub before_byte : ℕ → Text → Text
before_byte byte text = front_or (cut_at byte text) text
