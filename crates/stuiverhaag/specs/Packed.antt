-- What a call from C returns: one number of 64 bits. Bits 0 to 7 are document 01's number, and each other part begins at a bit of its own.
-- After a refusal all other bits are zero, but for the field.
use Rattle.std.specs.Prelude.{ℕ, ◌+◌, ◌*◌, ◌≤◌, eqb}
use Rattle.octets.specs.Bytes.{pick}
use Rattle.parts.specs.Originator.{originator_number}
use Rattle.parts.specs.declared.Body.{Body}
use Rattle.header.specs.declared.Read.{Read}
use Rattle.header.specs.declared.Written.{Written}
use Rattle.outputs.specs.declared.TextAudio.{TextAudio}
use Rattle.convert.specs.declared.Headed.{Headed}
use Rattle.board.specs.declared.Handed.{Handed}
use Rattle.offers.specs.declared.Offered.{Offered}

-- ---- what a bit counts

abbrev pub bit8 : ℕ
bit8 = 256

abbrev pub bit16 : ℕ
bit16 = 65536

abbrev pub bit24 : ℕ
bit24 = 16777216

abbrev pub bit28 : ℕ
bit28 = 268435456

abbrev pub bit32 : ℕ
bit32 = 4294967296

abbrev pub bit48 : ℕ
bit48 = 281474976710656

abbrev pub bit55 : ℕ
bit55 = 36028797018963968

-- ---- header and must-carry

-- 8 field, 16 the header's length, 28 carry
abbrev pub packed_headed : Headed → ℕ
packed_headed c = c.number + c.field * bit8 + c.header * bit16 + pick c.carry bit28 0

-- what its bits hold
pub record NarrowHeaded (c : Headed) : Type 0 where
  pub number : c.number ≤ 255
  pub field : c.field ≤ 255
  pub header : c.header ≤ 255

-- ---- text and audio, of the Canadian mode too

-- 8 field, 24 audio, 32 the uri's length, 48 the text's length
abbrev pub packed_text : TextAudio → ℕ
packed_text t = t.number + t.field * bit8 + t.audio * bit24 + t.uri * bit32 + t.text * bit48

-- what its bits hold
pub record NarrowText (t : TextAudio) : Type 0 where
  pub number : t.number ≤ 255
  pub field : t.field ≤ 255
  pub audio : t.audio ≤ 15
  pub uri : t.uri ≤ 65535
  pub text : t.text ≤ 65535

-- ---- reading a header

-- 8 originator, 16 locations, 24 hour, 32 period in minutes, 48 minute, 55 day
abbrev pub packed_body : Body → ℕ
packed_body b = originator_number b.originator * bit8 + b.count * bit16 + b.hour * bit24 + b.period * bit32 + b.minute * bit48 + b.day * bit55

-- what its bits hold
pub record NarrowBody (b : Body) : Type 0 where
  pub originator : originator_number b.originator ≤ 255
  pub count : b.count ≤ 255
  pub hour : b.hour ≤ 255
  pub period : b.period ≤ 65535
  pub minute : b.minute ≤ 127
  pub day : b.day ≤ 511

unfoldable pub packed_read : Read → ℕ
packed_read r = pick (eqb r.number 0) (packed_body r.parts.body) r.number

-- ---- writing one

-- 16 the header's length
unfoldable pub packed_written : Written → ℕ
packed_written w = w.number + w.len * bit16

-- ---- a board

-- an offer: 8 field, 16 how many records were added
abbrev pub packed_offered : Offered → ℕ
packed_offered o = o.number + o.field * bit8 + o.added * bit16

-- a hand-out: 16 the index
abbrev pub packed_handed : Handed → ℕ
packed_handed h = h.number + h.index * bit16
