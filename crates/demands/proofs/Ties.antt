-- What a function's contract allows, answer and lent bytes at exit, is the library's call that the demands speak of. Learnt is the contract as the toolchain
-- reads it: what a caller learns of lifetimes κs, arguments a, a result r and the arguments at exit x.
--     header-is-heading, text-is-texting, canadian-is-canadian, offer-is-offering, hand-out-is-handing, list-is-listing, read-is-reading, write-is-writing    for callers in Rattle
--     host-header-is-heading, host-text-is-texting, host-canadian-is-canadian, host-offer-is-offering, host-hand-out-is-handing, host-read-is-reading, host-write-is-writing    for a host in C
--     program-is-both    the program's lines
use Prim.Native.Nat.{ℕ, ◌≤◌}
use mathlib.Core.Path.{◌≡◌}
use mathlib.Core.List.{List, []}
use lib.Dec.{ltb}
use lib.ListN.{length}
use lib.Seq.{sets}
use seplogic.Ra.Ura.{Ura}
use base.Logic.{SProp, ent, sep, via, fst∗, snd∗}
use prog.Memory.{Memory}
use prog.Routine.{Routine}
use types.Logic.{Logic}
use contract.Monad.{Fun, fact, fact_i, fact_use}
use Rattle.octets.specs.Bytes.{pick}
use Rattle.octets.specs.Text.{bytes}
use Rattle.parts.specs.WorkingAsked.{asked_parts}
use Rattle.parts.specs.declared.Parts.{Parts}
use Rattle.header.specs.declared.Read.{Read}
use Rattle.header.specs.declared.Written.{Written}
use Rattle.header.proofs.read_header.Reads as read-header
use Rattle.header.proofs.write_header.Reads as write-header
use Rattle.header.proofs.write_asked.Reads as write-asked
use Rattle.outputs.specs.Outputs.{TextOutcome, text_answer_of}
use Rattle.outputs.specs.declared.TextAudio.{TextAudio}
use Rattle.canadian.proofs.convert.Reads as canadian
use Rattle.convert.specs.Convert.{HeaderOutcome, header_answer_of}
use Rattle.convert.specs.declared.Headed.{Headed}
use Rattle.convert.proofs.header.Reads as header
use Rattle.convert.proofs.text.Reads as text
use Rattle.board.specs.Calls.{Handing, Listing}
use Rattle.board.specs.WorkingCalls.{blanks}
use Rattle.board.specs.declared.Handed.{Handed}
use Rattle.board.specs.declared.Listed.{Listed}
use Rattle.board.specs.declared.Rows as board-rows
use Rattle.board.proofs.hand_out.Reads as hand-out
use Rattle.board.specs.contracts.list as list
use Rattle.board.proofs.list_rows.Reads as list-rows
use Rattle.offers.specs.Offer.{MessageOffering}
use Rattle.offers.specs.declared.Offered.{Offered}
use Rattle.offers.proofs.offer.Reads as offer
use Rattle.report.specs.Program.{printed, program_of}
use Rattle.report.proofs.program.Reads as program
use Rattle.stuiverhaag.specs.Packed.{packed_headed, packed_text, packed_read, packed_written, packed_offered, packed_handed}
use Rattle.stuiverhaag.proofs.stuiverhaag_header.Reads as host-header
use Rattle.stuiverhaag.proofs.stuiverhaag_text.Reads as host-text
use Rattle.stuiverhaag.proofs.stuiverhaag_canadian.Reads as host-canadian
use Rattle.stuiverhaag.proofs.stuiverhaag_read_header.Reads as host-read
use Rattle.stuiverhaag.proofs.stuiverhaag_write_header.Reads as host-write
use Rattle.stuiverhaag.proofs.stuiverhaag_offer.Reads as host-offer
use Rattle.stuiverhaag.proofs.stuiverhaag_hand_out.Reads as host-hand-out
use Rattle.demands.specs.Calls.{Writing, library}
use Rattle.demands.proofs.Arguments.{Lifetimes, Lent, Output, Outputs, Behind, Slices, Rows, Named, out_of}

-- ---- conversions

-- of a message, for a station, into a header
abbrev headed : Behind 2 (Outputs 1) → HeaderOutcome
headed a = library.heading a.0.now a.1.0.now (length a.1.1.0.now)

-- the output at exit begins with what is given, and is as it was behind it
abbrev FilledHeader : Behind 2 (Outputs 1) → Behind 2 (Outputs 1) → Type 0
FilledHeader a x = x.1.1.0.now ≡ sets a.1.1.0.now 0 (headed a).given.header

pub header-is-heading : (κs : Lifetimes 3) (a x : Behind 2 (Outputs 1)) (r : Headed) → header.Learnt κs a r x → (r ≡ header_answer_of (headed a)) × FilledHeader a x
header-is-heading κs a x r p = p

pub host-header-is-heading : (κs : Lifetimes 3) (a x : Behind 2 (Outputs 1)) (r : ℕ) → host-header.Learnt κs a r x → (r ≡ packed_headed (header_answer_of (headed a))) × FilledHeader a x
host-header-is-heading κs a x r p = p

-- of a message, for a station, into a text and a uri
abbrev worded : Behind 2 (Outputs 2) → TextOutcome
worded a = library.texting a.0.now a.1.0.now (length a.1.1.0.now) (length a.1.1.1.0.now)

abbrev FilledText : Behind 2 (Outputs 2) → Behind 2 (Outputs 2) → Type 0
FilledText a x =
    (x.1.1.0.now ≡ sets a.1.1.0.now 0 (worded a).given.text) × (x.1.1.1.0.now ≡ sets a.1.1.1.0.now 0 (worded a).given.uri)

pub text-is-texting : (κs : Lifetimes 4) (a x : Behind 2 (Outputs 2)) (r : TextAudio) → text.Learnt κs a r x → (r ≡ text_answer_of (worded a)) × FilledText a x
text-is-texting κs a x r p = p

pub host-text-is-texting : (κs : Lifetimes 4) (a x : Behind 2 (Outputs 2)) (r : ℕ) → host-text.Learnt κs a r x → (r ≡ packed_text (text_answer_of (worded a))) × FilledText a x
host-text-is-texting κs a x r p = p

-- of a message in the Canadian mode, into a text and a uri
abbrev in_canada : Behind 1 (Outputs 2) → TextOutcome
in_canada a = library.canadian a.0.now (length a.1.0.now) (length a.1.1.0.now)

abbrev FilledInCanada : Behind 1 (Outputs 2) → Behind 1 (Outputs 2) → Type 0
FilledInCanada a x = (x.1.0.now ≡ sets a.1.0.now 0 (in_canada a).given.text) × (x.1.1.0.now ≡ sets a.1.1.0.now 0 (in_canada a).given.uri)

pub canadian-is-canadian : (κs : Lifetimes 3) (a x : Behind 1 (Outputs 2)) (r : TextAudio) → canadian.Learnt κs a r x → (r ≡ text_answer_of (in_canada a)) × FilledInCanada a x
canadian-is-canadian κs a x r p = p

pub host-canadian-is-canadian : (κs : Lifetimes 3) (a x : Behind 1 (Outputs 2)) (r : ℕ) →
    host-canadian.Learnt κs a r x → (r ≡ packed_text (text_answer_of (in_canada a))) × FilledInCanada a x
host-canadian-is-canadian κs a x r p = p

-- the lines that the program prints: none where less room is lent than 8,704 bytes
abbrev lines_of : Behind 1 (Outputs 1) → List ℕ
lines_of a =
    pick (ltb (length a.1.0.now) 8704) []
    (printed (record { headed = library.heading a.0.now (bytes "BENCH/01") 252; worded = library.texting a.0.now (bytes "BENCH/01") 7200 1024 }))

pub program-is-both : (κs : Lifetimes 2) (a x : Behind 1 (Outputs 1)) (r : ℕ) →
    program.Learnt κs a r x → (r ≡ length (lines_of a)) × (x.1.0.now ≡ sets a.1.0.now 0 (lines_of a))
unfolding program_of
program-is-both κs a x r p = p

-- ---- headers

pub read-is-reading : (κs : Lifetimes 1) (a x : Slices 1) (r : Read) → read-header.Learnt κs a r x → r ≡ library.reading a.0.now
read-is-reading κs a x r p = p

pub host-read-is-reading : (κs : Lifetimes 1) (a x : Slices 1) (r : ℕ) → host-read.Learnt κs a r x → r ≡ packed_read (library.reading a.0.now)
host-read-is-reading κs a x r p = p

pub write-is-writing : (κs : Lifetimes 1) (a x : Output × (Parts × Unit {0})) (r : Written) → write-header.Learnt κs a r x →
    let w = library.writing a.0.now a.1.0 in (r ≡ w.answer) × (x.0.now ≡ w.bytes)
write-is-writing κs a x r p = p

-- the parts that a caller names, written into the output
abbrev named_writing : Named → Writing
named_writing a =
    library.writing (out_of a).now
    (asked_parts a.0 a.1.0.now a.1.1.0.now
    a.1.1.1.0 a.1.1.1.1.0 a.1.1.1.1.1.0 a.1.1.1.1.1.1.0
    a.1.1.1.1.1.1.1.0.now)

pub write-asked-is-writing : (κs : Lifetimes 4) (a x : Named) (r : Written) →
    write-asked.Learnt κs a r x → (r ≡ (named_writing a).answer) × ((out_of x).now ≡ (named_writing a).bytes)
write-asked-is-writing κs a x r p = p

pub host-write-is-writing : (κs : Lifetimes 4) (a x : Named) (r : ℕ) →
    host-write.Learnt κs a r x → (r ≡ packed_written (named_writing a).answer) × ((out_of x).now ≡ (named_writing a).bytes)
host-write-is-writing κs a x r p = p

-- ---- boards

-- of a message to a board
abbrev offered : Output × Slices 1 → MessageOffering
offered a = library.offering a.0.now a.1.0.now

pub offer-is-offering : (κs : Lifetimes 2) (a x : Output × Slices 1) (r : Offered) → offer.Learnt κs a r x → (r ≡ (offered a).answer) × (x.0.now ≡ (offered a).bytes)
offer-is-offering κs a x r p = (p.0, p.1.0)

pub host-offer-is-offering : (κs : Lifetimes 2) (a x : Output × Slices 1) (r : ℕ) →
    host-offer.Learnt κs a r x → (r ≡ packed_offered (offered a).answer) × (x.0.now ≡ (offered a).bytes)
host-offer-is-offering κs a x r p = p

abbrev handed : Outputs 1 → Handing
handed a = library.handing a.0.now

pub hand-out-is-handing : (κs : Lifetimes 1) (a x : Outputs 1) (r : Handed) → hand-out.Learnt κs a r x → (r ≡ (handed a).answer) × (x.0.now ≡ (handed a).bytes)
hand-out-is-handing κs a x r p = (p.0, p.1.0)

pub host-hand-out-is-handing : (κs : Lifetimes 1) (a x : Outputs 1) (r : ℕ) →
    host-hand-out.Learnt κs a r x → (r ≡ packed_handed (handed a).answer) × (x.0.now ≡ (handed a).bytes)
host-hand-out-is-handing κs a x r p = p

-- the three clauses of a promise as one fact
said : {M : Type 1} (𝓤 : Ura M) (a b c : Type 0) → ent 𝓤 (sep 𝓤 (fact 𝓤 a) (sep 𝓤 (fact 𝓤 b) (fact 𝓤 c))) (fact 𝓤 (a × (b × c)))
said 𝓤 a b c =
    let rest = snd∗ 𝓤 (fact 𝓤 a) (sep 𝓤 (fact 𝓤 b) (fact 𝓤 c)) in
    fact_use 𝓤 a (fst∗ 𝓤 (fact 𝓤 a) (sep 𝓤 (fact 𝓤 b) (fact 𝓤 c))) (λ x.
    fact_use 𝓤 b (via 𝓤 _ rest (fst∗ 𝓤 (fact 𝓤 b) (fact 𝓤 c))) (λ y.
    fact_use 𝓤 c (via 𝓤 _ rest (snd∗ 𝓤 (fact 𝓤 b) (fact 𝓤 c))) (λ z. fact_i 𝓤 (a × (b × c)) _ (x, (y, z)))))

-- Learnt is not made of a contract with a slice of structs: what the list's clauses say, in any model, is said of them by themselves
module _ {M : Type 1} {𝓤 : Ura M} (𝓛 : Logic 𝓤) (mem : Memory → SProp 𝓤) (run : Routine → Fun 𝓤) (κs : Lifetimes 2) (a : Lent × (Rows × Unit {0})) where
  abbrev listed : Listing
  listed = library.listing a.0.now (length a.1.0.now)

  pub list-is-listing : (x : Lent × (Rows × Unit {0})) (r : Listed) →
      ent 𝓤 ((list.clauses 𝓛 mem run κs a).ensures tt r x)
      (fact 𝓤 ((r ≡ listed.answer) × ((x.1.0.now ≡ sets a.1.0.now 0 listed.rows) × ((r.number ≤ 17) × (r.count ≤ 170)))))
  list-is-listing x r = said 𝓤 (r ≡ listed.answer) (x.1.0.now ≡ sets a.1.0.now 0 listed.rows) ((r.number ≤ 17) × (r.count ≤ 170))

pub list-rows-is-listing : (κs : Lifetimes 1) (a x : Lent × (ℕ × Unit {0})) (r : board-rows.Rows) → list-rows.Learnt κs a r x →
    let l = library.listing a.0.now a.1.0 in (r.answer ≡ l.answer) × (r.rows ≡ sets blanks 0 l.rows)
list-rows-is-listing κs a x r p = (p.0, p.1.0)
