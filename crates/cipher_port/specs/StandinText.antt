-- The text of the stand-in for a sealed file.
use Rattle.std.specs.Prelude.{◌≡◌, ◌≤◌, ◌++◌, length, codes}
use Rattle.std.specs.List.{flat_map}
use Rattle.hex.specs.Hex.{IsBytes, encode_lower}
use Rattle.gopass_base.specs.Text.{Text}
use Rattle.recipient_files.specs.Ids.{IsRecipients}
use Rattle.cipher_port.specs.Limits.{most_body}
use Rattle.cipher_port.specs.Tool.{Content}

-- the line of a recipient
abbrev pub to_line : Text → Text
to_line id = codes "to " ++ id ++ codes "\n"

-- a header, a line for each id, the body in lower-case hexadecimal, and an end
abbrev pub standin_text : Content → Text
standin_text c = codes "gopass-standin 1\n" ++ flat_map to_line c.to ++ codes "body " ++ encode_lower c.body ++ codes "\nend\n"

-- the bytes are the text of this content, for 1 to 64 ids in rising order and a body within its limit
pub record IsStandinText (c : Content) (bytes : Text) : Type 0 where
  pub to : IsRecipients c.to
  pub body : length c.body ≤ most_body
  pub each : IsBytes c.body
  pub text : bytes ≡ standin_text c
