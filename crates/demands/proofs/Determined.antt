-- Each promise determines its result: any two results that a function's contract allows for the same arguments are equal, and so is every lent byte and row at
-- exit. The contract is the function's own, as the toolchain reads it: Learnt says what a caller learns of lifetimes κs, arguments a, a result r and the
-- arguments at exit x. One theorem for each function that a user may call, of which these have lent outputs:
--     header-determined, text-determined, canadian-determined, offer-determined, hand-out-determined, list-determined, write-header-determined, program-determined
--     host-header-determined, host-text-determined, host-canadian-determined, host-offer-determined, host-hand-out-determined, host-write-determined    for a host in C
use Prim.Native.Nat.{ℕ}
use mathlib.Core.Path.{◌≡◌, sym, ap₂, ◌∙◌}
use mathlib.Core.Bool.{Bool}
use mathlib.Core.List.{List}
use seplogic.Ra.Ura.{Ura}
use base.Logic.{SProp, ent, sep, via, fst∗, snd∗}
use prog.Memory.{Memory}
use prog.Routine.{Routine}
use types.Logic.{Logic}
use contract.Monad.{Fun, fact, fact_i, fact_use}
use Rattle.std.specs.Prelude.{Option}
use Rattle.clock.proofs.instant.Reads as instant
use Rattle.clock.proofs.period.Reads as period
use Rattle.parts.specs.declared.Parts.{Parts}
use Rattle.header.specs.declared.Read.{Read}
use Rattle.header.specs.declared.BodyRead.{BodyRead}
use Rattle.header.specs.declared.Written.{Written}
use Rattle.header.proofs.read_header.Reads as read-header
use Rattle.header.proofs.read_body.Reads as read-body
use Rattle.header.proofs.write_header.Reads as write-header
use Rattle.header.proofs.write_asked.Reads as write-asked
use Rattle.message.specs.declared.Message.{Message}
use Rattle.message.proofs.read.Reads as read
use Rattle.judgement.specs.declared.Judged.{Judged}
use Rattle.judgement.proofs.judge.Reads as judge
use Rattle.outputs.specs.declared.TextAudio.{TextAudio}
use Rattle.canadian.proofs.convert.Reads as canadian
use Rattle.convert.specs.declared.Headed.{Headed}
use Rattle.convert.proofs.header.Reads as header
use Rattle.convert.proofs.text.Reads as text
use Rattle.records.proofs.is_record.Reads as is-record
use Rattle.records.proofs.are_zeros.Reads as are-zeros
use Rattle.ledger.specs.declared.Row.{Row}
use Rattle.board.specs.declared.Handed.{Handed}
use Rattle.board.specs.declared.Listed.{Listed}
use Rattle.board.specs.declared.Rows as board-rows
use Rattle.board.proofs.is_board.Reads as is-board
use Rattle.board.proofs.filled.Reads as filled
use Rattle.board.proofs.hand_out.Reads as hand-out
use Rattle.board.specs.contracts.list as list
use Rattle.board.proofs.list_rows.Reads as list-rows
use Rattle.offers.specs.declared.Offered.{Offered}
use Rattle.offers.proofs.offer.Reads as offer
use Rattle.report.proofs.program.Reads as program
use Rattle.stuiverhaag.proofs.stuiverhaag_header.Reads as host-header
use Rattle.stuiverhaag.proofs.stuiverhaag_text.Reads as host-text
use Rattle.stuiverhaag.proofs.stuiverhaag_canadian.Reads as host-canadian
use Rattle.stuiverhaag.proofs.stuiverhaag_read_header.Reads as host-read
use Rattle.stuiverhaag.proofs.stuiverhaag_write_header.Reads as host-write
use Rattle.stuiverhaag.proofs.stuiverhaag_offer.Reads as host-offer
use Rattle.stuiverhaag.proofs.stuiverhaag_hand_out.Reads as host-hand-out
use Rattle.demands.proofs.Arguments.{Lifetimes, Lent, Output, Outputs, Behind, Slices, Rows, Named, out_of}
use Rattle.demands.proofs.Ties.{list-is-listing}

-- what equals the same is equal
one : {A : Type 0} {x y z : A} → x ≡ z → y ≡ z → x ≡ y
one p q = p ∙ sym q

-- ---- times and headers

pub instant-determined : (κs : Lifetimes 1) (a x x' : Slices 1) (r r' : Option ℕ) → instant.Learnt κs a r x → instant.Learnt κs a r' x' → r ≡ r'
instant-determined κs a x x' r r' p q = one p q

pub period-determined : (κs : Lifetimes 0) (a x x' : ℕ × Unit {0}) (r r' : ℕ) → period.Learnt κs a r x → period.Learnt κs a r' x' → r ≡ r'
period-determined κs a x x' r r' p q = one p q

pub read-header-determined : (κs : Lifetimes 1) (a x x' : Slices 1) (r r' : Read) → read-header.Learnt κs a r x → read-header.Learnt κs a r' x' → r ≡ r'
read-header-determined κs a x x' r r' p q = one p q

pub read-body-determined : (κs : Lifetimes 1) (a x x' : Slices 1) (r r' : BodyRead) → read-body.Learnt κs a r x → read-body.Learnt κs a r' x' → r ≡ r'
read-body-determined κs a x x' r r' p q = one p q

pub write-header-determined : (κs : Lifetimes 1) (a x x' : Output × (Parts × Unit {0})) (r r' : Written) →
    write-header.Learnt κs a r x → write-header.Learnt κs a r' x' → (r ≡ r') × (x.0.now ≡ x'.0.now)
write-header-determined κs a x x' r r' p q = (one p.0 q.0, one p.1 q.1)

pub write-asked-determined : (κs : Lifetimes 4) (a x x' : Named) (r r' : Written) →
    write-asked.Learnt κs a r x → write-asked.Learnt κs a r' x' → (r ≡ r') × ((out_of x).now ≡ (out_of x').now)
write-asked-determined κs a x x' r r' p q = (one p.0 q.0, one p.1 q.1)

-- ---- messages

pub read-determined : (κs : Lifetimes 1) (a x x' : Slices 1) (r r' : Message) → read.Learnt κs a r x → read.Learnt κs a r' x' → r ≡ r'
read-determined κs a x x' r r' p q = one p q

pub judge-determined : (κs : Lifetimes 1) (a x x' : Slices 1) (r r' : Judged) → judge.Learnt κs a r x → judge.Learnt κs a r' x' → r ≡ r'
judge-determined κs a x x' r r' p q = one p q

-- header, or text and uri, stand behind message and station
pub header-determined : (κs : Lifetimes 3) (a x x' : Behind 2 (Outputs 1)) (r r' : Headed) →
    header.Learnt κs a r x → header.Learnt κs a r' x' → (r ≡ r') × (x.1.1.0.now ≡ x'.1.1.0.now)
header-determined κs a x x' r r' p q = (one p.0 q.0, one p.1 q.1)

pub text-determined : (κs : Lifetimes 4) (a x x' : Behind 2 (Outputs 2)) (r r' : TextAudio) →
    text.Learnt κs a r x → text.Learnt κs a r' x' → (r ≡ r') × ((x.1.1.0.now ≡ x'.1.1.0.now) × (x.1.1.1.0.now ≡ x'.1.1.1.0.now))
text-determined κs a x x' r r' p q = (one p.0 q.0, (one p.1.0 q.1.0, one p.1.1 q.1.1))

pub canadian-determined : (κs : Lifetimes 3) (a x x' : Behind 1 (Outputs 2)) (r r' : TextAudio) → canadian.Learnt κs a r x → canadian.Learnt κs a r' x' →
    (r ≡ r') × ((x.1.0.now ≡ x'.1.0.now) × (x.1.1.0.now ≡ x'.1.1.0.now))
canadian-determined κs a x x' r r' p q = (one p.0 q.0, (one p.1.0 q.1.0, one p.1.1 q.1.1))

-- ---- boards

pub is-record-determined : (κs : Lifetimes 1) (a x x' : Slices 1) (r r' : Bool) → is-record.Learnt κs a r x → is-record.Learnt κs a r' x' → r ≡ r'
is-record-determined κs a x x' r r' p q = one p q

pub are-zeros-determined : (κs : Lifetimes 1) (a x x' : Slices 1) (r r' : Bool) → are-zeros.Learnt κs a r x → are-zeros.Learnt κs a r' x' → r ≡ r'
are-zeros-determined κs a x x' r r' p q = one p q

pub is-board-determined : (κs : Lifetimes 1) (a x x' : Slices 1) (r r' : Bool) → is-board.Learnt κs a r x → is-board.Learnt κs a r' x' → r ≡ r'
is-board-determined κs a x x' r r' p q = one p q

pub filled-determined : (κs : Lifetimes 1) (a x x' : Slices 1) (r r' : ℕ) → filled.Learnt κs a r x → filled.Learnt κs a r' x' → r ≡ r'
filled-determined κs a x x' r r' p q = one p q

pub offer-determined : (κs : Lifetimes 2) (a x x' : Output × Slices 1) (r r' : Offered) →
    offer.Learnt κs a r x → offer.Learnt κs a r' x' → (r ≡ r') × (x.0.now ≡ x'.0.now)
offer-determined κs a x x' r r' p q = (one p.0 q.0, one p.1.0 q.1.0)

pub hand-out-determined : (κs : Lifetimes 1) (a x x' : Outputs 1) (r r' : Handed) →
    hand-out.Learnt κs a r x → hand-out.Learnt κs a r' x' → (r ≡ r') × (x.0.now ≡ x'.0.now)
hand-out-determined κs a x x' r r' p q = (one p.0 q.0, one p.1.0 q.1.0)

-- Learnt is not made of a contract with a slice of structs: what the list's clauses say, in any model, is said of them by themselves
module _ {M : Type 1} {𝓤 : Ura M} (𝓛 : Logic 𝓤) (mem : Memory → SProp 𝓤) (run : Routine → Fun 𝓤) (κs : Lifetimes 2) (a : Lent × (Rows × Unit {0})) where
  abbrev Says : Lent × (Rows × Unit {0}) → Listed → SProp 𝓤
  Says x r = (list.clauses 𝓛 mem run κs a).ensures tt r x

  pub list-determined : (x x' : Lent × (Rows × Unit {0})) (r r' : Listed) →
      ent 𝓤 (sep 𝓤 (Says x r) (Says x' r')) (fact 𝓤 ((r ≡ r') × (x.1.0.now ≡ x'.1.0.now)))
  list-determined x x' r r' =
      fact_use 𝓤 _ (via 𝓤 _ (fst∗ 𝓤 (Says x r) (Says x' r')) (list-is-listing 𝓛 mem run κs a x r)) (λ p.
      fact_use 𝓤 _ (via 𝓤 _ (snd∗ 𝓤 (Says x r) (Says x' r')) (list-is-listing 𝓛 mem run κs a x' r')) (λ q.
      fact_i 𝓤 _ _ (one p.0 q.0, one p.1.0 q.1.0)))

pub list-rows-determined : (κs : Lifetimes 1) (a x x' : Lent × (ℕ × Unit {0})) (r r' : board-rows.Rows) →
    list-rows.Learnt κs a r x → list-rows.Learnt κs a r' x' → r ≡ r'
list-rows-determined κs a x x' r r' p q = ap₂ (λ (l : Listed) (rows : List Row). record { answer = l; rows = rows }) (one p.0 q.0) (one p.1.0 q.1.0)

-- ---- the program's lines

pub program-determined : (κs : Lifetimes 2) (a x x' : Behind 1 (Outputs 1)) (r r' : ℕ) →
    program.Learnt κs a r x → program.Learnt κs a r' x' → (r ≡ r') × (x.1.0.now ≡ x'.1.0.now)
program-determined κs a x x' r r' p q = (one p.0 q.0, one p.1 q.1)

-- ---- the calls for a host in C

pub host-header-determined : (κs : Lifetimes 3) (a x x' : Behind 2 (Outputs 1)) (r r' : ℕ) →
    host-header.Learnt κs a r x → host-header.Learnt κs a r' x' → (r ≡ r') × (x.1.1.0.now ≡ x'.1.1.0.now)
host-header-determined κs a x x' r r' p q = (one p.0 q.0, one p.1 q.1)

pub host-text-determined : (κs : Lifetimes 4) (a x x' : Behind 2 (Outputs 2)) (r r' : ℕ) →
    host-text.Learnt κs a r x → host-text.Learnt κs a r' x' → (r ≡ r') × ((x.1.1.0.now ≡ x'.1.1.0.now) × (x.1.1.1.0.now ≡ x'.1.1.1.0.now))
host-text-determined κs a x x' r r' p q = (one p.0 q.0, (one p.1.0 q.1.0, one p.1.1 q.1.1))

pub host-canadian-determined : (κs : Lifetimes 3) (a x x' : Behind 1 (Outputs 2)) (r r' : ℕ) → host-canadian.Learnt κs a r x → host-canadian.Learnt κs a r' x' →
    (r ≡ r') × ((x.1.0.now ≡ x'.1.0.now) × (x.1.1.0.now ≡ x'.1.1.0.now))
host-canadian-determined κs a x x' r r' p q = (one p.0 q.0, (one p.1.0 q.1.0, one p.1.1 q.1.1))

pub host-read-determined : (κs : Lifetimes 1) (a x x' : Slices 1) (r r' : ℕ) → host-read.Learnt κs a r x → host-read.Learnt κs a r' x' → r ≡ r'
host-read-determined κs a x x' r r' p q = one p q

pub host-write-determined : (κs : Lifetimes 4) (a x x' : Named) (r r' : ℕ) →
    host-write.Learnt κs a r x → host-write.Learnt κs a r' x' → (r ≡ r') × ((out_of x).now ≡ (out_of x').now)
host-write-determined κs a x x' r r' p q = (one p.0 q.0, one p.1 q.1)

pub host-offer-determined : (κs : Lifetimes 2) (a x x' : Output × Slices 1) (r r' : ℕ) →
    host-offer.Learnt κs a r x → host-offer.Learnt κs a r' x' → (r ≡ r') × (x.0.now ≡ x'.0.now)
host-offer-determined κs a x x' r r' p q = (one p.0 q.0, one p.1 q.1)

pub host-hand-out-determined : (κs : Lifetimes 1) (a x x' : Outputs 1) (r r' : ℕ) →
    host-hand-out.Learnt κs a r x → host-hand-out.Learnt κs a r' x' → (r ≡ r') × (x.0.now ≡ x'.0.now)
host-hand-out-determined κs a x x' r r' p q = (one p.0 q.0, one p.1 q.1)
