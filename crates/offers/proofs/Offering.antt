-- What an offer answers.
--     offer-board, offer-message     a board, then a message, that is refused
--     offer-given                    the records of a message that answers 0, as they stand in a batch
use Prim.Native.Nat.{ℕ, ◌+◌, ◌*◌, ◌≤◌}
use mathlib.Core.Path.{◌≡◌, refl, sym, ap, ap₂, ◌∙◌}
use mathlib.Core.Bool.{Bool, true, false}
use mathlib.Core.List.{List}
use native.Mathlib.Omega.{arith}
use borrow.Author.Tests.{eq-eqb, ne_eqb}
use lib.Dec.{eqb}
use lib.ListN.{length, drop, replicate, length-replicate}
use lib.Seq.{sets-eq}
use Rattle.octets.specs.Bytes.{pick, every}
use Rattle.judgement.specs.WorkingJudged.{judged_of}
use Rattle.judgement.proofs.Answers.{number_small, field-small}
use Rattle.judgement.specs.declared.Judged.{Judged}
use Rattle.records.specs.Record.{record_ok}
use Rattle.records.proofs.Records.{record-long}
use Rattle.ledger.specs.Sorted.{In}
use Rattle.ledger.specs.WorkingBoard.{records}
use Rattle.ledger.proofs.Sorts.{every_in}
use Rattle.slots.specs.Slots.{recs}
use Rattle.slots.specs.WorkingSlots.{flat}
use Rattle.slots.proofs.Records.{recs-flat, flat-length}
use Rattle.board.specs.WorkingRules.{board_ok}
use Rattle.board.specs.declared.Added.{Added}
use Rattle.board.specs.WorkingCalls as board
use Rattle.board.proofs.Answers.{offer-bad}
use Rattle.offers.specs.WorkingRecords.{alert_by, records_of}
use Rattle.offers.specs.Offer.{MessageOffering}
use Rattle.offers.specs.WorkingOffer.{offer_refused_by, offer_given, message_offer}
use Rattle.offers.specs.declared.Offered.{Offered}
use Rattle.offers.proofs.Taken.{records-ok, records-few}
use Rattle.offers.proofs.Putting.{Put}

module _ (s message : List ℕ) where
  pub offer-board : board_ok s ≡ false → message_offer s message ≡ offer_refused_by 1 0 s
  unfolding message_offer
  offer-board e = rw e

  pub offer-message : board_ok s ≡ true → ((judged_of message).number ≡ 0 → ⊥) → message_offer s message ≡ offer_refused_by (judged_of message).number (judged_of message).field s
  unfolding message_offer
  offer-message e n = let q = ne_eqb (judged_of message).number 0 n in rw (e, q)

  -- an offer of the records asks 1 itself
  pub offer-zero : (judged_of message).number ≡ 0 → message_offer s message ≡ offer_given (board.offer_of s (records_of message))
  unfolding message_offer
  offer-zero z = go (board_ok s) refl
    where
      go : (b : Bool) → board_ok s ≡ b → pick b (pick (eqb (judged_of message).number 0) (offer_given (board.offer_of s (records_of message))) (offer_refused_by (judged_of message).number (judged_of message).field s)) (offer_refused_by 1 0 s) ≡ offer_given (board.offer_of s (records_of message))
      go true e = let q = eq-eqb (judged_of message).number 0 z in rw q
      go false e = sym (ap offer_given (offer-bad s (records_of message) e))

-- whatever a message is answered, its number and field are small
pub judged-small : (s : List ℕ) → ((judged_of s).number ≤ 17) × ((judged_of s).field ≤ 7)
judged-small s = (omega (arith, number_small s), field-small s)

-- ---- the batch

-- the records that were put into 17 empty ones are there
batch-back : (rs : List (List ℕ)) (n : ℕ) (x : List ℕ) → every record_ok rs ≡ true → length rs ≤ 17 → Put (replicate 6528 0) rs n x → (n * 384 ≤ length x) × (recs n x ≡ rs)
batch-back rs n x ok few p =
    let long : (r : List ℕ) → In r rs → length r ≡ 384 = λ r i. record-long r (every_in record_ok rs ok r i) in
    let l = flat-length rs long in
    let d = length-replicate {A = ℕ} 6528 0 in
    let fits : 0 + length (flat rs) ≤ length (replicate {A = ℕ} 6528 0) = omega arith in
    let e = p.1 ∙ sets-eq (flat rs) (replicate 6528 0) 0 fits in
    let m = p.0 in (
      omega (arith, ap length p.1 ∙ lib.Seq.length-sets (replicate {A = ℕ} 6528 0) 0 (flat rs)),
      ap₂ recs m e ∙ recs-flat rs (drop (0 + length (flat rs)) (replicate 6528 0)) long,
    )

module _ (message : List ℕ) (j : Judged) (e : j ≡ judged_of message) (z : j.number ≡ 0) where
  zero : (judged_of message).number ≡ 0
  zero = sym (ap (λ (x : Judged). x.number) e) ∙ z

  pub records-are : records (alert_by message j) ≡ records_of message
  unfolding records_of
  records-are = let q = eq-eqb (judged_of message).number 0 zero in ap (λ (x : Judged). records (alert_by message x)) e ∙ sym (rw q)

  module _ (n : ℕ) (x : List ℕ) (p : Put (replicate 6528 0) (records (alert_by message j)) n x) where
    back : (n * 384 ≤ length x) × (recs n x ≡ records_of message)
    back = batch-back (records_of message) n x (records-ok message) (records-few message) (rw records-are at p)

    pub batch-long : n * 384 ≤ length x
    batch-long = back.0

    pub offer-given : (s y : List ℕ) (a : Added) → a ≡ (board.offer_of s (recs n x)).answer → y ≡ (board.offer_of s (recs n x)).bytes →
        (◌≡◌ {A = Offered} (record { number = a.number; field = 0; added = a.added }) (message_offer s message).answer) × (y ≡ (message_offer s message).bytes)
    offer-given s y a f g =
        let q = ap (board.offer_of s) back.1 in
        let o = sym (offer-zero s message zero) in (
          ap (λ (b : Added). record { number = b.number; field = 0; added = b.added }) (f ∙ ap (λ (r : board.Offering). r.answer) q) ∙ ap (λ (r : MessageOffering). r.answer) o,
          g ∙ ap (λ (r : board.Offering). r.bytes) q ∙ ap (λ (r : MessageOffering). r.bytes) o,
        )
