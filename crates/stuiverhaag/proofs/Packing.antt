-- The parts of an answer fit their bits, and a refusal is its number alone.
use Prim.Native.Nat.{ℕ, zero, suc, ◌≤◌}
use mathlib.Core.Bool.{Bool, true, false}
use mathlib.Core.List.{List, [], ◌∷◌}
use mathlib.Core.Path.{◌≡◌, refl, sym}
use native.Mathlib.Omega.{arith}
use borrow.Author.Tests.{eq-eqb, ne_eqb}
use lib.Dec.{eqb}
use lib.ListN.{length}
use Rattle.octets.specs.Bytes.{pick}
use Rattle.outputs.specs.Outputs.{text_answer_of}
use Rattle.outputs.specs.declared.TextAudio.{TextAudio}
use Rattle.outputs.proofs.Answers.{SmallText}
use Rattle.canadian.specs.WorkingCanadian.{canadian_of}
use Rattle.canadian.proofs.Answers.{canadian-small}
use Rattle.convert.proofs.Answers.{SmallHeader, header-small, text-small}
use Rattle.convert.specs.WorkingConvert.{header_call, text_call}
use Rattle.convert.specs.Convert.{header_answer_of}
use Rattle.convert.specs.declared.Headed.{Headed}
use Rattle.header.proofs.ReadThenWrite.{read_small}
use Rattle.header.proofs.WriteThenRead.{write-small}
use Rattle.header.specs.Header.{read_of, write_of}
use Rattle.header.specs.declared.Read.{Read}
use Rattle.header.specs.declared.Written.{Written}
use Rattle.stuiverhaag.specs.Packed.{NarrowHeaded, NarrowText, packed_body, NarrowBody, packed_read}
use Rattle.parts.specs.Originator.{originator_number}
use Rattle.parts.specs.declared.Originator.{Originator}
use Rattle.parts.specs.declared.Originator.TheVariants.{Pep, Eas, Wxr, Civ}
use Rattle.parts.specs.declared.Parts.{Parts}
use Rattle.ledger.specs.WorkingBoard.{live, carries, index_of}
use Rattle.board.specs.Rules.{board_of}
use Rattle.board.specs.WorkingRules.{board_ok}
use Rattle.board.specs.WorkingCalls as board
use Rattle.board.specs.declared.Handed.{Handed}
use Rattle.board.proofs.Boards.{board-within, kept-rules}
use Rattle.board.proofs.Answers.{offer-bad, hand-bad}
use Rattle.board.proofs.Keeps.{Offer, offer-is, Hand, hand-is}
use Rattle.offers.specs.WorkingRecords.{records_of}
use Rattle.offers.specs.WorkingOffer.{offer_refused_by, offer_given, message_offer}
use Rattle.offers.specs.declared.Offered.{Offered}
use Rattle.offers.proofs.Offering.{judged-small}

-- ---- header and must-carry

pub header-narrow : (s station : List ℕ) (h : ℕ) (c : Headed) → c ≡ header_answer_of (header_call s station h) → NarrowHeaded c
header-narrow s station h c is = rw is (narrow-header (header-small s station h))
  where
    narrow-header : {c : Headed} → SmallHeader c → NarrowHeaded c
    narrow-header w = record { number = omega arith; field = omega arith; header = omega arith }

-- ---- text and audio

narrow-text : {a : TextAudio} → SmallText a → NarrowText a
narrow-text w = record { number = omega arith; field = omega arith; audio = omega arith; uri = omega arith; text = omega arith }

pub text-narrow : (s station : List ℕ) (t u : ℕ) (a : TextAudio) → a ≡ text_answer_of (text_call s station t u) → NarrowText a
text-narrow s station t u a is = rw is (narrow-text (text-small s station t u))

pub canadian-narrow : (s : List ℕ) (t u : ℕ) (a : TextAudio) → a ≡ text_answer_of (canadian_of s t u) → NarrowText a
canadian-narrow s t u a is = rw is (narrow-text (canadian-small s t u))

-- ---- a header read

number_small : (o : Originator) → originator_number o ≤ 4
number_small Pep = omega arith
number_small Eas = omega arith
number_small Wxr = omega arith
number_small Civ = omega arith

narrow : (s : List ℕ) → NarrowBody (read_of s).parts.body
narrow s =
    let a = read_small s in
    let o = number_small (read_of s).parts.body.originator in
    record { originator = omega arith; count = omega arith; hour = omega arith; period = omega arith; minute = omega arith; day = omega arith }

pub read-narrow : (s : List ℕ) (r : Read) → r ≡ read_of s → NarrowBody r.parts.body
read-narrow s r is = rw is (narrow s)

pub read_taken : (r : Read) → r.number ≡ 0 → packed_body r.parts.body ≡ packed_read r
unfolding packed_read
read_taken r e = sym (rw (eq-eqb r.number 0 e))

pub read-refused : (r : Read) → (r.number ≡ 0 → ⊥) → r.number ≡ packed_read r
unfolding packed_read
read-refused r e = sym (rw (ne_eqb r.number 0 e))

-- ---- a header written

pub write-narrow : (d : List ℕ) (p : Parts) (w : Written) → w ≡ write_of d p → w.len ≤ 252
write-narrow d p w is = rw is (write-small d p)

-- ---- an offer

pub record NarrowOffered (o : Offered) : Type 0 where
  pub number : o.number ≤ 255
  pub field : o.field ≤ 255
  pub added : o.added ≤ 65535

records-narrow : (s : List ℕ) (rs : List (List ℕ)) → NarrowOffered (offer_given (board.offer_of s rs)).answer
records-narrow s rs = go (board_ok s) refl
  where
    by : board_ok s ≡ true → Offer s rs → NarrowOffered (offer_given (board.offer_of s rs)).answer
    by ok (Offer.taken l e) = rw e (record { number = omega arith; field = omega arith; added = omega (arith, l, (kept-rules s ok).high) })
    by ok (Offer.full l e) = rw e (record { number = omega arith; field = omega arith; added = omega arith })

    go : (b : Bool) → board_ok s ≡ b → NarrowOffered (offer_given (board.offer_of s rs)).answer
    go true ok = by ok (offer-is s rs ok)
    go false e = rw (offer-bad s rs e) (record { number = omega arith; field = omega arith; added = omega arith })

pub offer-narrow : (s m : List ℕ) → NarrowOffered (message_offer s m).answer
unfolding message_offer
offer-narrow s m = of (board_ok s) _ _ (judged-small m)
  where
    go : (a b : Bool) (number field : ℕ) → (number ≤ 17) × (field ≤ 7) → NarrowOffered (pick a (pick b (offer_given (board.offer_of s (records_of m))) (offer_refused_by number field s)) (offer_refused_by 1 0 s)).answer
    go false b number field j = record { number = omega arith; field = omega arith; added = omega arith }
    go true false number field j = record { number = omega arith; field = omega arith; added = omega arith }
    go true true number field j = records-narrow s (records_of m)

    of : (a : Bool) (number field : ℕ) → (number ≤ 17) × (field ≤ 7) → NarrowOffered (pick a (pick (eqb number 0) (offer_given (board.offer_of s (records_of m))) (offer_refused_by number field s)) (offer_refused_by 1 0 s)).answer
    of a number field j = go a (eqb number 0) number field j

-- ---- a hand-out

pub record NarrowHanded (h : Handed) : Type 0 where
  pub number : h.number ≤ 255
  pub index : h.index ≤ 65535

index-within : (p : List ℕ → Bool) (h : List ℕ) (l : List (List ℕ)) → index_of p h l ≤ length l
index-within p h [] = omega arith
index-within p h (r ∷ l) = go (carries p h r) (index-within p h l)
  where
    go : (b : Bool) → index_of p h l ≤ length l → pick b zero (suc (index_of p h l)) ≤ suc (length l)
    go true i = omega arith
    go false i = omega arith

pub hand-narrow : (s : List ℕ) → NarrowHanded (board.hand_of s).answer
hand-narrow s = go (board_ok s) refl
  where
    by : board_ok s ≡ true → Hand s → NarrowHanded (board.hand_of s).answer
    by ok (Hand.nothing d e) = rw e (record { number = omega arith; index = omega arith })
    by ok (Hand.full h hs d l e) = rw e (record { number = omega arith; index = omega arith })
    by ok (Hand.given h hs d l e) = rw e (record { number = omega arith; index = omega (arith, index-within (live (board_of s)) h (board_of s), board-within s, (kept-rules s ok).high) })

    go : (b : Bool) → board_ok s ≡ b → NarrowHanded (board.hand_of s).answer
    go true ok = by ok (hand-is s ok)
    go false e = rw (hand-bad s e) (record { number = omega arith; index = omega arith })
