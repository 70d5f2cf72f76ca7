-- Why a text is no name, and where.
use Rattle.std.specs.Prelude.{◌≡◌, ◌==◌, ℕ, ◌+◌, ◌<◌, ◌≤◌, Bool, true, ◌&&◌, not, List, [], ◌∷◌, length, take, slice_index_or, IsTrue, All}
use Rattle.gopass_base.specs.Text.{Text, IsPrintable}
use Rattle.gopass_base.specs.Parts.{parts, IsHidden, IsSealedName}
use Rattle.mount_table.specs.Names.{IsNamePart}
use Rattle.mount_table.specs.declared.name.NameKind.{NameKind}
use Rattle.mount_table.specs.declared.name.NameKind.TheVariants.{Empty, Dots, Control, LongPart, LongName, ManyParts, FolderGpg}
use Rattle.mount_table.specs.declared.name.BadName.{BadName}

-- the part of this number, counted from 0, fails in this way, and in none of those above it
abbrev pub Fails : ℕ → Bool → Text → NameKind → Type 0
Fails number is_folder part ManyParts = 16 ≤ number
Fails number is_folder part Empty = (number < 16) × (length part ≡ 0)
Fails number is_folder part Dots = (number < 16) × IsHidden part
Fails number is_folder part Control = (number < 16) × (1 ≤ length part) × ¬ IsHidden part × ¬ All IsPrintable part
Fails number is_folder part LongPart = (number < 16) × ¬ IsHidden part × All IsPrintable part × (100 < length part)
Fails number is_folder part FolderGpg = (number < 16) × IsNamePart part × IsTrue is_folder × IsSealedName part
Fails number is_folder part LongName = ⊥

-- it fails in no way
pub record IsGood (number : ℕ) (is_folder : Bool) (part : Text) : Type 0 where
  pub few : number < 16
  pub named : IsNamePart part
  pub above : IsTrue is_folder → ¬ IsSealedName part

-- whether the k-th part is a folder: each part of a folder is, and each but the last of the name of a secret
abbrev pub is_folder : Bool → List Text → ℕ → Bool
is_folder is_secret texts k = not (is_secret && (k + 1 == length texts))

-- the k-th part, counted from 0
abbrev pub part_at : List Text → ℕ → Text
part_at texts k = slice_index_or texts k []

-- the k-th part fails in no way
abbrev pub IsGoodAt : Bool → List Text → ℕ → Type 0
IsGoodAt is_secret texts k = IsGood k (is_folder is_secret texts k) (part_at texts k)

-- no part fails
abbrev pub AreGood : Bool → List Text → Type 0
AreGood is_secret texts = (k : ℕ) → k < length texts → IsGoodAt is_secret texts k

-- the bytes of the parts, each with the slash behind it
abbrev pub span : List Text → ℕ
span [] = 0
span (part ∷ texts) = length part + 1 + span texts

-- where the k-th part begins: behind the parts before it
abbrev pub start_of : List Text → ℕ → ℕ
start_of texts k = span (take k texts)

-- the part of this number fails, none before it does, and the place is where it begins
pub record IsFirstFault (is_secret : Bool) (texts : List Text) (bad : BadName) : Type 0 where
  pub number : ℕ
  pub inside : number < length texts
  pub fails : Fails number (is_folder is_secret texts number) (part_at texts number) bad.kind
  pub before : (k : ℕ) → k < number → IsGoodAt is_secret texts k
  pub place : bad.at ≡ start_of texts number

-- a text of more than 400 bytes is too long at its byte 400; a shorter one fails at the first part that fails
pub record IsFault (is_secret : Bool) (text : Text) (bad : BadName) : Type 0 where
  pub long : 400 < length text → bad ≡ record { at = 400; kind = LongName }
  pub first : length text ≤ 400 → IsFirstFault is_secret (parts text) bad

-- why a text is not the name of a secret
abbrev pub IsNameFault : Text → BadName → Type 0
IsNameFault text bad = IsFault true text bad
