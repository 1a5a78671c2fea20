-- What the program prints for a message.
use Rattle.std.specs.Prelude.{ℕ, List, [], ltb}
use Rattle.octets.specs.Bytes.{pick}
use Rattle.octets.specs.Text.{bytes}
use Rattle.outputs.specs.Outputs.{TextOutcome}
use Rattle.convert.specs.Convert.{HeaderOutcome}
use Rattle.convert.specs.WorkingConvert.{header_call, text_call}
use Rattle.report.specs.Lines.{lines_of}

-- the program uses both calls
pub record BothOutcomes : Type 0 where
  pub headed : HeaderOutcome
  pub worded : TextOutcome

-- with station `BENCH/01`, and lends what they ask for: header 252, text 7,200, uri 1,024
abbrev pub bench_of : (message : List ℕ) → BothOutcomes
bench_of message = record { headed = header_call message (bytes "BENCH/01") 252; worded = text_call message (bytes "BENCH/01") 7200 1024 }

-- both give the same number and field
abbrev pub printed : BothOutcomes → List ℕ
printed o =
    lines_of
    o.headed.number
    o.headed.field
    o.headed.given.header
    o.worded.given.audio
    o.worded.given.uri
    o.headed.given.carry
    o.worded.given.text

-- nothing where less room is lent than 8,704 bytes, which all lines fit
unfoldable pub program_of : (room : ℕ) (message : List ℕ) → List ℕ
program_of room message = pick (ltb room 8704) [] (printed (bench_of message))
