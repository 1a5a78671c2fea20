-- How long what both calls give is, and what the program prints of it.
--     both-fit        at most the lengths that they ask of their outputs
--     program-le      at most the room lent
use Prim.Native.Nat.{ℕ, ◌≤◌}
use mathlib.Core.List.{List, []}
use native.Mathlib.Omega.{arith}
use borrow.Author.Tests.{ltb-false}
use lib.Dec.{ltb}
use lib.ListN.{length}
use Rattle.octets.specs.Text.{bytes}
use Rattle.octets.proofs.Tests.{either_way}
use Rattle.outputs.specs.Outputs.{text_answer_of}
use Rattle.convert.specs.Convert.{header_answer_of}
use Rattle.convert.proofs.Answers.{header-small, text-small}
use Rattle.report.specs.Program.{BothOutcomes, bench_of, printed, program_of}
use Rattle.report.proofs.Lengths.{AtMost, lines-le}

pub record BothFit (o : BothOutcomes) : Type 0 where
  pub header : length o.headed.given.header ≤ 252
  pub text : length o.worded.given.text ≤ 7200
  pub uri : length o.worded.given.uri ≤ 1024

pub both-fit : (message : List ℕ) → BothFit (bench_of message)
unfolding header_answer_of text_answer_of
both-fit message =
    let w = text-small message (bytes "BENCH/01") 7200 1024 in
    record { header = (header-small message (bytes "BENCH/01") 252).header; text = w.text; uri = w.uri }

pub printed-le : (message : List ℕ) → length (printed (bench_of message)) ≤ 8600
printed-le message =
    let f = both-fit message in
    lines-le _ _ _ _ _ _ _ f.header f.uri f.text

pub program-le : (room : ℕ) (message : List ℕ) → length (program_of room message) ≤ room
unfolding program_of
program-le room message =
    either_way (AtMost room) (ltb room 8704) [] (printed (bench_of message))
    (λ e. omega arith)
    (λ e. omega (arith, ltb-false room 8704 e, printed-le message))
