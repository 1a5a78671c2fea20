-- The conversion, in two calls: one for header and must-carry, one for text and audio (Outputs of crate outputs). Everything that the first answers and writes.
use Rattle.std.specs.Prelude.{ℕ, Bool, false, List, [], length}
use Rattle.outputs.specs.Outputs.{Outcome}
use Rattle.convert.specs.declared.Headed.{Headed}

-- the header and must-carry
pub record HeaderGiven : Type 0 where
  pub header : List ℕ
  pub carry : Bool

-- no header
abbrev pub no_header : HeaderGiven
no_header = record { header = []; carry = false }

abbrev pub HeaderOutcome : Type 0
HeaderOutcome = Outcome HeaderGiven

-- what the call returns: a length in place of bytes
unfoldable pub header_answer_of : HeaderOutcome → Headed
header_answer_of o = record {
  number = o.number;
  field = o.field;
  header = length o.given.header;
  carry = o.given.carry;
}
