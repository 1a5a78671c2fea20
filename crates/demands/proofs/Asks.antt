-- Nothing is asked of a caller: every function that a user may call takes whatever bytes, lengths and numbers it is lent. Asked is the `requires` of the
-- function's contract as the toolchain reads it, of lifetimes κs and arguments a. A proved function ends and does nothing undefined wherever what it asks is
-- there, which by these theorems is always. One for each function of docs/PROMISES.md, of which a host in C calls
--     host-header-asks-nothing, host-text-asks-nothing, host-canadian-asks-nothing, host-read-asks-nothing, host-write-asks-nothing, host-offer-asks-nothing, host-hand-out-asks-nothing
use Prim.Native.Nat.{ℕ}
use seplogic.Ra.Ura.{Ura}
use base.Logic.{SProp, ent}
use prog.Memory.{Memory}
use prog.Routine.{Routine}
use types.Logic.{Logic}
use contract.Monad.{Fun, top}
use Rattle.clock.proofs.instant.Reads as instant
use Rattle.clock.proofs.period.Reads as period
use Rattle.parts.specs.declared.Parts.{Parts}
use Rattle.header.proofs.read_header.Reads as read-header
use Rattle.header.proofs.read_body.Reads as read-body
use Rattle.header.proofs.write_header.Reads as write-header
use Rattle.header.proofs.write_asked.Reads as write-asked
use Rattle.message.proofs.read.Reads as read
use Rattle.judgement.proofs.judge.Reads as judge
use Rattle.canadian.proofs.convert.Reads as canadian
use Rattle.convert.proofs.header.Reads as header
use Rattle.convert.proofs.text.Reads as text
use Rattle.records.proofs.is_record.Reads as is-record
use Rattle.records.proofs.are_zeros.Reads as are-zeros
use Rattle.board.proofs.is_board.Reads as is-board
use Rattle.board.proofs.filled.Reads as filled
use Rattle.board.proofs.hand_out.Reads as hand-out
use Rattle.board.specs.contracts.list as list
use Rattle.board.proofs.list_rows.Reads as list-rows
use Rattle.offers.proofs.offer.Reads as offer
use Rattle.report.proofs.program.Reads as program
use Rattle.stuiverhaag.proofs.stuiverhaag_header.Reads as host-header
use Rattle.stuiverhaag.proofs.stuiverhaag_text.Reads as host-text
use Rattle.stuiverhaag.proofs.stuiverhaag_canadian.Reads as host-canadian
use Rattle.stuiverhaag.proofs.stuiverhaag_read_header.Reads as host-read
use Rattle.stuiverhaag.proofs.stuiverhaag_write_header.Reads as host-write
use Rattle.stuiverhaag.proofs.stuiverhaag_offer.Reads as host-offer
use Rattle.stuiverhaag.proofs.stuiverhaag_hand_out.Reads as host-hand-out
use Rattle.demands.proofs.Arguments.{Lifetimes, Lent, Output, Outputs, Behind, Slices, Rows, Named}

-- ---- the calls for a host in C

pub host-header-asks-nothing : (κs : Lifetimes 3) (a : Behind 2 (Outputs 1)) → host-header.Asked κs a
host-header-asks-nothing κs a = tt

pub host-text-asks-nothing : (κs : Lifetimes 4) (a : Behind 2 (Outputs 2)) → host-text.Asked κs a
host-text-asks-nothing κs a = tt

pub host-canadian-asks-nothing : (κs : Lifetimes 3) (a : Behind 1 (Outputs 2)) → host-canadian.Asked κs a
host-canadian-asks-nothing κs a = tt

pub host-read-asks-nothing : (κs : Lifetimes 1) (a : Slices 1) → host-read.Asked κs a
host-read-asks-nothing κs a = tt

pub host-write-asks-nothing : (κs : Lifetimes 4) (a : Named) → host-write.Asked κs a
host-write-asks-nothing κs a = tt

pub host-offer-asks-nothing : (κs : Lifetimes 2) (a : Output × Slices 1) → host-offer.Asked κs a
host-offer-asks-nothing κs a = tt

pub host-hand-out-asks-nothing : (κs : Lifetimes 1) (a : Outputs 1) → host-hand-out.Asked κs a
host-hand-out-asks-nothing κs a = tt

-- ---- times and headers

pub instant-asks-nothing : (κs : Lifetimes 1) (a : Slices 1) → instant.Asked κs a
instant-asks-nothing κs a = tt

pub period-asks-nothing : (κs : Lifetimes 0) (a : ℕ × Unit {0}) → period.Asked κs a
period-asks-nothing κs a = tt

pub read-header-asks-nothing : (κs : Lifetimes 1) (a : Slices 1) → read-header.Asked κs a
read-header-asks-nothing κs a = tt

pub read-body-asks-nothing : (κs : Lifetimes 1) (a : Slices 1) → read-body.Asked κs a
read-body-asks-nothing κs a = tt

pub write-header-asks-nothing : (κs : Lifetimes 1) (a : Output × (Parts × Unit {0})) → write-header.Asked κs a
write-header-asks-nothing κs a = tt

pub write-asked-asks-nothing : (κs : Lifetimes 4) (a : Named) → write-asked.Asked κs a
write-asked-asks-nothing κs a = tt

-- ---- messages

pub read-asks-nothing : (κs : Lifetimes 1) (a : Slices 1) → read.Asked κs a
read-asks-nothing κs a = tt

pub judge-asks-nothing : (κs : Lifetimes 1) (a : Slices 1) → judge.Asked κs a
judge-asks-nothing κs a = tt

pub header-asks-nothing : (κs : Lifetimes 3) (a : Behind 2 (Outputs 1)) → header.Asked κs a
header-asks-nothing κs a = tt

pub text-asks-nothing : (κs : Lifetimes 4) (a : Behind 2 (Outputs 2)) → text.Asked κs a
text-asks-nothing κs a = tt

pub canadian-asks-nothing : (κs : Lifetimes 3) (a : Behind 1 (Outputs 2)) → canadian.Asked κs a
canadian-asks-nothing κs a = tt

pub program-asks-nothing : (κs : Lifetimes 2) (a : Behind 1 (Outputs 1)) → program.Asked κs a
program-asks-nothing κs a = tt

-- ---- boards

pub is-record-asks-nothing : (κs : Lifetimes 1) (a : Slices 1) → is-record.Asked κs a
is-record-asks-nothing κs a = tt

pub are-zeros-asks-nothing : (κs : Lifetimes 1) (a : Slices 1) → are-zeros.Asked κs a
are-zeros-asks-nothing κs a = tt

pub is-board-asks-nothing : (κs : Lifetimes 1) (a : Slices 1) → is-board.Asked κs a
is-board-asks-nothing κs a = tt

pub filled-asks-nothing : (κs : Lifetimes 1) (a : Slices 1) → filled.Asked κs a
filled-asks-nothing κs a = tt

pub offer-asks-nothing : (κs : Lifetimes 2) (a : Output × Slices 1) → offer.Asked κs a
offer-asks-nothing κs a = tt

pub hand-out-asks-nothing : (κs : Lifetimes 1) (a : Outputs 1) → hand-out.Asked κs a
hand-out-asks-nothing κs a = tt

-- Asked is not made of a contract with a slice of structs: in any model, what the list's `requires` says follows from whatever a caller has
module _ {M : Type 1} {𝓤 : Ura M} (𝓛 : Logic 𝓤) (mem : Memory → SProp 𝓤) (run : Routine → Fun 𝓤) where
  pub list-asks-nothing : (κs : Lifetimes 2) (a : Lent × (Rows × Unit {0})) (P : SProp 𝓤) → ent 𝓤 P ((list.clauses 𝓛 mem run κs a).requires tt)
  list-asks-nothing κs a P = top 𝓤 P

pub list-rows-asks-nothing : (κs : Lifetimes 1) (a : Lent × (ℕ × Unit {0})) → list-rows.Asked κs a
list-rows-asks-nothing κs a = tt
