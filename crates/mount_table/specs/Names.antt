-- Names of secrets are texts of parts, with a slash between them.
use Rattle.std.specs.Prelude.{◌-◌, ◌≤◌, List, length, take, All}
use Rattle.gopass_base.specs.Text.{Text, IsPrintable}
use Rattle.gopass_base.specs.Parts.{parts, IsHidden, IsSealedName}

-- a part of a name: 1 to 100 printable bytes, the first of which is no dot
pub record IsNamePart (part : Text) : Type 0 where
  pub some : 1 ≤ length part
  pub short : length part ≤ 100
  pub plain : ¬ IsHidden part
  pub printable : All IsPrintable part

-- all parts but the last
abbrev pub folders : List Text → List Text
folders texts = take (length texts - 1) texts

-- a name: at most 400 bytes, at most 16 parts, and no folder that looks like a file
pub record IsName (text : Text) : Type 0 where
  pub short : length text ≤ 400
  pub few : length (parts text) ≤ 16
  pub each : All IsNamePart (parts text)
  pub above : All (λ part. ¬ IsSealedName part) (folders (parts text))
