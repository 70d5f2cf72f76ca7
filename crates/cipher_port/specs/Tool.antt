-- What a cipher tool means: which bytes open to what, and for whom it seals and opens.
use Rattle.std.specs.Prelude.{◌≡◌, ℕ, ◌<◌, ◌≤◌, Bool, true, false, not, length, position, Option, None, Some, Result, Ok, Err, Vec}
use Rattle.std.specs.List.{list_any}
use Rattle.gopass_base.specs.Text.{Text, is_among}
use Rattle.recipient_files.specs.Ids.{Ids, IsRecipients}
use Rattle.cipher_port.specs.Limits.{most_body, most_sealed}
use Rattle.cipher_port.specs.declared.cipher.SealFault.{SealFault}
use Rattle.cipher_port.specs.declared.cipher.SealFault.TheVariants as seal
use Rattle.cipher_port.specs.declared.cipher.WhomFault.{WhomFault}
use Rattle.cipher_port.specs.declared.cipher.WhomFault.TheVariants as whom
use Rattle.cipher_port.specs.declared.cipher.UnsealFault.{UnsealFault}
use Rattle.cipher_port.specs.declared.cipher.UnsealFault.TheVariants.{NoKey, NotSealed, Failed, NoMemory}

-- what sealed bytes are made of: for whom, and which body
pub record Content : Type 0 where
  pub to : Ids
  pub body : Text

-- the content with these recipients and this body
abbrev pub made_of : Ids → Text → Content
made_of ids body = record { to = ids; body = body }

-- what is made of bytes, or nothing where they are not sealed
abbrev pub Opens : Type 0
Opens = Text → Option Content

-- the ids that a tool can seal for, and those that it has the keys of
pub record Ring : Type 0 where
  pub known : Ids
  pub held : Ids

-- a tool: whether it tells what it does, what bytes open to, its ring, how often it was called, and how often a call failed
pub record ToolMeaning (C : Type 0) : Type 1 where
  pub tells : Type 0
  pub opens : Opens
  pub ring : C → Ring
  pub calls : C → ℕ
  pub faults : C → ℕ

-- the place of the first id that the tool cannot seal for
abbrev pub first_unknown : Ring → Ids → Option ℕ
first_unknown ring ids = position (λ id. not (is_among ring.known id)) ids

-- whether the tool has the key of one of the ids
abbrev pub has_key_of : Ring → Ids → Bool
has_key_of ring ids = list_any (is_among ring.held) ids

-- bytes past the limit open to nothing, and what is opened keeps its limits
pub record IsSealing (bytes : Text) (content : Option Content) : Type 0 where
  pub long : most_sealed < length bytes → content ≡ None
  pub each : (c : Content) → content ≡ Some c → IsRecipients c.to × (length c.body ≤ most_body)

-- what `seal` answers: bytes that open to just these ids and this body, and `UnknownId` with the place of the first id
-- that is not known; a failed call and want of memory may stand for both
abbrev pub Seals : {A : Type 0} → Opens → Ring → Content → Result (Vec ℕ A) SealFault → Type 0
Seals opens ring content (Ok sealed) = (opens sealed.items ≡ Some content) × (first_unknown ring content.to ≡ None)
Seals opens ring content (Err (seal.UnknownId place)) = first_unknown ring content.to ≡ Some place
Seals opens ring content (Err seal.Failed) = Unit {0}
Seals opens ring content (Err seal.NoMemory) = Unit {0}

-- what `whom` answers of bytes with this content: its ids, and `NotSealed` where there is no content; a failed call and
-- want of memory may stand for both
abbrev pub TellsIds : Option Content → Result Ids WhomFault → Type 0
TellsIds content (Ok ids) = (c : Content) × (content ≡ Some c) × (c.to ≡ ids)
TellsIds content (Err whom.NotSealed) = content ≡ None
TellsIds content (Err whom.Failed) = Unit {0}
TellsIds content (Err whom.NoMemory) = Unit {0}

-- what `open` answers of bytes with this content: the body where a key is held, `NoKey` where none is, `NotSealed`
-- where there is no content; a failed call and want of memory may stand for each of these
abbrev pub Unseals : {A : Type 0} → Option Content → Ring → Result (Vec ℕ A) UnsealFault → Type 0
Unseals content ring (Ok body) = (c : Content) × (content ≡ Some c) × (c.body ≡ body.items) × (has_key_of ring c.to ≡ true)
Unseals content ring (Err NoKey) = (c : Content) × (content ≡ Some c) × (has_key_of ring c.to ≡ false)
Unseals content ring (Err NotSealed) = content ≡ None
Unseals content ring (Err Failed) = Unit {0}
Unseals content ring (Err NoMemory) = Unit {0}
