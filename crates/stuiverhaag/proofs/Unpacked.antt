-- What a host takes out of an answer, part by part as the functions of include/stuiverhaag.h do, is what was answered.
--     header-unpacked, text-unpacked, canadian-unpacked, read-unpacked, write-unpacked, offer-unpacked, hand-out-unpacked    for each call
--     header-alone, text-alone, canadian-alone                                               a refusal is its number and its field
use Prim.Native.Nat.{ℕ, ◌+◌, ◌*◌, ◌/◌, ◌%◌, ◌≤◌}
use mathlib.Core.Bool.{Bool, true, false}
use mathlib.Core.List.{List}
use mathlib.Core.Path.{◌≡◌, refl, ap, ◌∙◌}
use native.Mathlib.Omega.{arith}
use lib.Dec.{leb, eqb}
use lib.ListN.{length}
use Rattle.octets.specs.Bytes.{pick}
use Rattle.parts.specs.Originator.{originator_number}
use Rattle.parts.specs.Parts.{body_ok, station_ok}
use Rattle.parts.specs.declared.Parts.{Parts}
use Rattle.header.proofs.WriteThenRead.{write-small}
use Rattle.header.specs.Header.{parts_in, refusal, header_form, read_of, write_number, write_of}
use Rattle.header.specs.declared.Read.{Read}
use Rattle.header.specs.declared.Written.{Written}
use Rattle.outputs.specs.Outputs.{no_text, TextOutcome, text_answer_of}
use Rattle.outputs.specs.WorkingOutputs.{text_refused}
use Rattle.outputs.specs.declared.TextAudio.{TextAudio}
use Rattle.canadian.specs.WorkingCanadian.{canadian_of}
use Rattle.canadian.proofs.Answers.{canadian-refused}
use Rattle.convert.proofs.Answers.{call-refused}
use Rattle.convert.specs.Convert.{no_header, HeaderOutcome, header_answer_of}
use Rattle.convert.specs.WorkingConvert.{header_call, text_call}
use Rattle.convert.specs.declared.Headed.{Headed}
use Rattle.board.specs.WorkingCalls.{hand_of}
use Rattle.board.specs.declared.Handed.{Handed}
use Rattle.offers.specs.WorkingOffer.{message_offer}
use Rattle.offers.specs.declared.Offered.{Offered}
use Rattle.stuiverhaag.proofs.Packing.{header-narrow, text-narrow, canadian-narrow, read-narrow, offer-narrow, hand-narrow}
use Rattle.stuiverhaag.specs.Packed.{bit8, bit16, bit24, bit28, bit32, bit48, bit55, packed_headed, NarrowHeaded, packed_text, NarrowText, NarrowBody, packed_read, packed_written, packed_offered, packed_handed}

-- ---- header and must-carry

pub record HasHeaded (n : ℕ) (c : Headed) : Type 0 where
  pub number : n % 256 ≡ c.number
  pub field : n / bit8 % 256 ≡ c.field
  pub header : n / bit16 % 256 ≡ c.header
  pub carry : n / bit28 % 16 ≡ pick c.carry 1 0
  -- the parts of text and audio are none
  pub no-audio : n / bit24 % 16 ≡ 0
  pub no-uri : n / bit32 % 65536 ≡ 0
  pub no_text_lem : n / bit48 % 65536 ≡ 0

carried : (b : Bool) → (pick {A = ℕ} b 1 0 ≤ 1) × (pick {A = ℕ} b bit28 0 ≡ pick b 1 0 * bit28)
carried true = (omega arith, refl)
carried false = (omega arith, refl)

has-headed : (c : Headed) → NarrowHeaded c → HasHeaded (packed_headed c) c
has-headed c w =
    let one = (carried c.carry).0 in
    let is = (carried c.carry).1 in
    record { number = omega arith; field = omega arith; header = omega arith; carry = omega arith; no-audio = omega arith; no-uri = omega arith; no_text_lem = omega arith }

pub header-unpacked : (s station : List ℕ) (h : ℕ) → let c = header_answer_of (header_call s station h) in HasHeaded (packed_headed c) c
header-unpacked s station h = has-headed (header_answer_of (header_call s station h)) (header-narrow s station h _ refl)

pub header-alone : (s station : List ℕ) (h : ℕ) → let o = header_call s station h in (o.number ≡ 0 → ⊥) → packed_headed (header_answer_of o) ≡ o.number + o.field * bit8
unfolding header_answer_of header_call
header-alone s station h e = ap (λ (x : HeaderOutcome). packed_headed (header_answer_of x)) (call-refused no_header _ _ s station e) ∙ omega arith

-- ---- text and audio

pub record HasText (n : ℕ) (t : TextAudio) : Type 0 where
  pub number : n % 256 ≡ t.number
  pub field : n / bit8 % 256 ≡ t.field
  pub audio : n / bit24 % 16 ≡ t.audio
  pub uri : n / bit32 % 65536 ≡ t.uri
  pub text : n / bit48 % 65536 ≡ t.text
  -- the parts of header and must-carry are none
  pub no-header : n / bit16 % 256 ≡ 0
  pub no-carry : n / bit28 % 16 ≡ 0

has-text : (t : TextAudio) → NarrowText t → HasText (packed_text t) t
has-text t w =
    record { number = omega arith; field = omega arith; audio = omega arith; uri = omega arith; text = omega arith; no-header = omega arith; no-carry = omega arith }

pub text-unpacked : (s station : List ℕ) (t u : ℕ) → let a = text_answer_of (text_call s station t u) in HasText (packed_text a) a
text-unpacked s station t u = has-text (text_answer_of (text_call s station t u)) (text-narrow s station t u _ refl)

pub canadian-unpacked : (s : List ℕ) (t u : ℕ) → let a = text_answer_of (canadian_of s t u) in HasText (packed_text a) a
canadian-unpacked s t u = has-text (text_answer_of (canadian_of s t u)) (canadian-narrow s t u _ refl)

-- a refusal, of which nothing is given
refusal_is : (o : TextOutcome) → o ≡ text_refused o.number o.field → packed_text (text_answer_of o) ≡ o.number + o.field * bit8
unfolding text_answer_of
refusal_is o e = ap (λ (x : TextOutcome). packed_text (text_answer_of x)) e ∙ omega arith

pub text-alone : (s station : List ℕ) (t u : ℕ) → let o = text_call s station t u in (o.number ≡ 0 → ⊥) → packed_text (text_answer_of o) ≡ o.number + o.field * bit8
unfolding text_call
text-alone s station t u e = refusal_is (text_call s station t u) (call-refused no_text _ _ s station e)

pub canadian-alone : (s : List ℕ) (t u : ℕ) → let o = canadian_of s t u in (o.number ≡ 0 → ⊥) → packed_text (text_answer_of o) ≡ o.number + o.field * bit8
canadian-alone s t u e = refusal_is (canadian_of s t u) (canadian-refused s t u e)

-- ---- a header read

pub record HasRead (n : ℕ) (r : Read) : Type 0 where
  pub number : n % 256 ≡ r.number
  pub originator : n / bit8 % 256 ≡ pick (eqb r.number 0) (originator_number r.parts.body.originator) 0
  pub locations : n / bit16 % 256 ≡ r.parts.body.count
  pub hour : n / bit24 % 256 ≡ r.parts.body.hour
  pub period : n / bit32 % 65536 ≡ r.parts.body.period
  pub minute : n / bit48 % 128 ≡ r.parts.body.minute
  pub day : n / bit55 % 512 ≡ r.parts.body.day

pub read-unpacked : (s : List ℕ) → HasRead (packed_read (read_of s)) (read_of s)
unfolding packed_read read_of
read-unpacked s = go (header_form s) (read-narrow s (read_of s) refl)
  where
    found : Bool → Read
    found b = pick {A = Read} b (record { number = 0; parts = parts_in s }) refusal

    go : (b : Bool) → NarrowBody (found b).parts.body → HasRead (packed_read (found b)) (found b)
    go true w = record { number = omega arith; originator = omega arith; locations = omega arith; hour = omega arith; period = omega arith; minute = omega arith; day = omega arith }
    go false w = record { number = refl; originator = refl; locations = refl; hour = refl; period = refl; minute = refl; day = refl }

-- ---- a header written

pub record HasWritten (n : ℕ) (w : Written) : Type 0 where
  pub number : n % 256 ≡ w.number
  pub len : n / bit16 % 256 ≡ w.len

number_small : (d : List ℕ) (p : Parts) → (write_of d p).number ≤ 17
unfolding write_of write_number
number_small d p = go (leb 252 (length d)) (station_ok p.station) (body_ok p.body)
  where
    go : (a b c : Bool) → pick {A = ℕ} a (pick b (pick c 0 17) 3) 2 ≤ 17
    go false b c = omega arith
    go true false c = omega arith
    go true true false = omega arith
    go true true true = omega arith

pub write-unpacked : (d : List ℕ) (p : Parts) → HasWritten (packed_written (write_of d p)) (write_of d p)
unfolding packed_written
write-unpacked d p =
    let l = write-small d p in
    let n = number_small d p in
    record { number = omega arith; len = omega arith }

-- ---- a board

pub record HasOffered (n : ℕ) (o : Offered) : Type 0 where
  pub number : n % 256 ≡ o.number
  pub field : n / bit8 % 256 ≡ o.field
  pub added : n / bit16 % 65536 ≡ o.added

pub offer-unpacked : (s m : List ℕ) → let o = (message_offer s m).answer in HasOffered (packed_offered o) o
offer-unpacked s m = let w = offer-narrow s m in record { number = omega arith; field = omega arith; added = omega arith }

pub record HasHanded (n : ℕ) (h : Handed) : Type 0 where
  pub number : n % 256 ≡ h.number
  pub index : n / bit16 % 65536 ≡ h.index

pub hand-out-unpacked : (s : List ℕ) → let h = (hand_of s).answer in HasHanded (packed_handed h) h
hand-out-unpacked s = let w = hand-narrow s in record { number = omega arith; index = omega arith }
