-- Demand 1 of the calls on a board: its number is the lowest that applies, and a refusal changes nothing.
--     offer-numbered, offer-field, offer-refused
--     hand-out-numbered, hand-out-refused
--     list-numbered, list-refused
use Prim.Native.Nat.{ℕ, ◌≤◌}
use mathlib.Core.Bool.{Bool, true, false, not}
use mathlib.Core.Path.{◌≡◌, refl, sym, ap, ◌∙◌}
use mathlib.Core.List.{List, [], ◌∷◌, ◌++◌}
use native.Mathlib.Omega.{arith}
use borrow.Author.Tests.{ne_eqb, lt-ltb, le-ltb}
use lib.Dec.{eqb, ltb}
use lib.ListN.{length}
use Rattle.octets.specs.Bytes.{pick, every}
use Rattle.octets.proofs.Tests.{passed_over}
use Rattle.judgement.specs.WorkingJudged.{judged_of}
use Rattle.board.specs.Rules.{board_of}
use Rattle.board.specs.Calls as calls
use Rattle.board.specs.WorkingCalls as working-calls
use Rattle.board.specs.declared.Handed as board
use Rattle.offers.specs.Offer.{MessageOffering}
use Rattle.offers.specs.WorkingOffer.{message_offer}
use Rattle.offers.specs.declared.Offered as offer
use Rattle.told.specs.Values.{is_none}
use Rattle.demands.specs.Calls.{library}
use Rattle.demands.specs.Board.{due_headers}
use Rattle.demands.specs.Numbers.{NumberRow, row, lowest_in, Numbered, field_beside, taken_rows, is_board, empties_in, offer_rows, hand_out_rows, list_rows}
use Rattle.demands.proofs.Messages.{judged-number, judged-field}
use Rattle.demands.proofs.Rows.{lowest-append, numbered}
use Rattle.demands.proofs.Outcomes.{news_of, Offered, offered, offer-cases, Handed, handed, hand-out-cases, Listed, listed}

-- ---- an offer

module _ (b s : List ℕ) where
  -- 15, the last that it asks
  abbrev last : List NumberRow
  last = row 15 (ltb (empties_in b) (news_of b s)) ∷ []

  board-asked : (ok : Bool) → is_board b ≡ ok → lowest_in (offer_rows b s) ≡ lowest_in (row 1 (not ok) ∷ (taken_rows s ++ last))
  board-asked ok e = ap (λ (t : Bool). lowest_in (row 1 (not t) ∷ (taken_rows s ++ last))) e

  -- where the message is answered n
  message-asked : (n : ℕ) → is_board b ≡ true → (judged_of s).number ≡ n → lowest_in (offer_rows b s) ≡ pick (eqb n 0) (lowest_in last) n
  unfolding lowest_in every
  message-asked n ok e =
      board-asked true ok
      ∙ lowest-append (taken_rows s) last refl
      ∙ ap (λ (k : ℕ). pick (eqb k 0) (lowest_in last) k) (sym (judged-number s) ∙ e)

  offer-number : Offered b s → (library.offering b s).answer.number ≡ lowest_in (offer_rows b s)
  unfolding lowest_in
  offer-number (Offered.bad ok e) = ap (λ (o : MessageOffering). o.answer.number) e ∙ sym (board-asked false ok)
  offer-number (Offered.unfit ok n e) =
      ap (λ (o : MessageOffering). o.answer.number) e
      ∙ sym (message-asked (judged_of s).number ok refl ∙ passed_over (eqb (judged_of s).number 0) _ _ (ne_eqb (judged_of s).number 0 n))
  offer-number (Offered.full ok z l e) =
      ap (λ (o : MessageOffering). o.answer.number) e
      ∙ sym (message-asked 0 ok z ∙ ap (λ (t : Bool). lowest_in (row 15 t ∷ [])) (lt-ltb (empties_in b) (news_of b s) l))
  offer-number (Offered.taken t) =
      ap (λ (a : offer.Offered). a.number) t.answer
      ∙ sym (message-asked 0 t.is-board t.judged ∙ ap (λ (t : Bool). lowest_in (row 15 t ∷ [])) (le-ltb (empties_in b) (news_of b s) t.room))

  pub offer-numbered : Numbered (library.offering b s).answer.number (offer_rows b s)
  unfolding every
  offer-numbered = numbered _ (offer_rows b s) refl (offer-number (offered b s))

  pub offer-field : (library.offering b s).answer.field ≡ field_beside (library.offering b s).answer.number s
  offer-field = go (offered b s)
    where
      go : Offered b s → (message_offer b s).answer.field ≡ field_beside (message_offer b s).answer.number s
      go (Offered.bad ok e) = rw e
      go (Offered.unfit ok n e) = rw e (judged-field s)
      go (Offered.full ok z l e) = rw e
      go (Offered.taken t) = rw t.answer

  pub offer-refused : ((library.offering b s).answer.number ≡ 0 → ⊥) → ((library.offering b s).answer.added ≡ 0) × ((library.offering b s).bytes ≡ b)
  offer-refused = offer-cases b s (λ (o : MessageOffering). (o.answer.number ≡ 0 → ⊥) → (o.answer.added ≡ 0) × (o.bytes ≡ b))
      (λ n f k r. (refl, refl))
      (λ t r. absurd (r (ap (λ (a : offer.Offered). a.number) t.answer)))

-- ---- a hand-out

module _ (b : List ℕ) where
  hand-out-asked : (ok : Bool) (d : List (List ℕ)) (full : Bool) → is_board b ≡ ok → due_headers (board_of b) ≡ d → ltb (empties_in b) 1 ≡ full →
      lowest_in (hand_out_rows b) ≡ lowest_in (row 1 (not ok) ∷ row 16 (is_none d) ∷ row 15 full ∷ [])
  hand-out-asked ok d full p q r = rw (p, q, r)

  hand-out-number : Handed b → (library.handing b).answer.number ≡ lowest_in (hand_out_rows b)
  unfolding lowest_in
  hand-out-number (Handed.bad ok e) = ap (λ (o : calls.Handing). o.answer.number) e ∙ sym (hand-out-asked false _ _ ok refl refl)
  hand-out-number (Handed.nothing ok d e) = ap (λ (o : calls.Handing). o.answer.number) e ∙ sym (hand-out-asked true [] _ ok d refl)
  hand-out-number (Handed.full ok h hs d l e) =
      ap (λ (o : calls.Handing). o.answer.number) e ∙ sym (hand-out-asked true (h ∷ hs) true ok d (lt-ltb (empties_in b) 1 (omega arith)))
  hand-out-number (Handed.handing g) =
      let room : 1 ≤ empties_in b = omega (arith, g.room) in
      ap (λ (a : board.Handed). a.number) g.answer
      ∙ sym (hand-out-asked true (g.first ∷ g.others) false g.is-board g.due-are (le-ltb (empties_in b) 1 room))

  pub hand-out-numbered : Numbered (library.handing b).answer.number (hand_out_rows b)
  unfolding every
  hand-out-numbered = numbered _ (hand_out_rows b) refl (hand-out-number (handed b))

  pub hand-out-refused : ((library.handing b).answer.number ≡ 0 → ⊥) → ((library.handing b).answer.index ≡ 0) × ((library.handing b).bytes ≡ b)
  hand-out-refused = hand-out-cases b (λ (o : calls.Handing). (o.answer.number ≡ 0 → ⊥) → (o.answer.index ≡ 0) × (o.bytes ≡ b))
      (λ n k r. (refl, refl))
      (λ g r. absurd (r (ap (λ (a : board.Handed). a.number) g.answer)))

-- ---- the list, with so many rows lent

module _ (b : List ℕ) (rows : ℕ) where
  list-asked : (ok short : Bool) → is_board b ≡ ok → ltb rows (length (due_headers (board_of b))) ≡ short →
      lowest_in (list_rows b rows) ≡ lowest_in (row 1 (not ok) ∷ row 2 short ∷ [])
  list-asked ok short p q = rw (p, q)

  list-number : Listed b rows → (library.listing b rows).answer.number ≡ lowest_in (list_rows b rows)
  unfolding lowest_in
  list-number (Listed.bad ok e) = ap (λ (o : calls.Listing). o.answer.number) e ∙ sym (list-asked false _ ok refl)
  list-number (Listed.short ok l e) =
      ap (λ (o : calls.Listing). o.answer.number) e ∙ sym (list-asked true true ok (lt-ltb rows (length (due_headers (board_of b))) l))
  list-number (Listed.listing ok l e) =
      ap (λ (o : calls.Listing). o.answer.number) e ∙ sym (list-asked true false ok (le-ltb rows (length (due_headers (board_of b))) l))

  pub list-numbered : Numbered (library.listing b rows).answer.number (list_rows b rows)
  unfolding every
  list-numbered = numbered _ (list_rows b rows) refl (list-number (listed b rows))

  pub list-refused : ((library.listing b rows).answer.number ≡ 0 → ⊥) → ((library.listing b rows).answer.count ≡ 0) × ((library.listing b rows).rows ≡ [])
  list-refused n = go (listed b rows)
    where
      go : Listed b rows → ((working-calls.list_of b rows).answer.count ≡ 0) × ((working-calls.list_of b rows).rows ≡ [])
      go (Listed.bad _ e) = (ap (λ (o : calls.Listing). o.answer.count) e, ap (λ (o : calls.Listing). o.rows) e)
      go (Listed.short _ _ e) = (ap (λ (o : calls.Listing). o.answer.count) e, ap (λ (o : calls.Listing). o.rows) e)
      go (Listed.listing _ _ e) = absurd (n (ap (λ (o : calls.Listing). o.answer.number) e))
