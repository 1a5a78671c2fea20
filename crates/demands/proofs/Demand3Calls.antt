-- Demand 3 of one call on a board.
--     takes-is                                                       a message that none of 4 to 14 refuses is judged with 0
--     offer-keeps, offer-adds, added-is-growth, taken-exactly        an offer
--     hand-out-keeps, hand-out-adds, hand-out-index                  a hand-out
--     list-rows                                                      the list
use Prim.Native.Nat.{ℕ, ◌+◌}
use mathlib.Core.Bool.{true, true≢false}
use mathlib.Core.Path.{◌≡◌, refl, sym, ap, ◌∙◌}
use mathlib.Core.Logic.{◌↔◌}
use mathlib.Core.List.{List, map}
use native.Mathlib.Nat.{add-zero}
use native.Mathlib.Omega.{arith}
use lib.ListN.{length}
use Rattle.octets.specs.Bytes.{every}
use Rattle.judgement.specs.WorkingJudged.{judged_of}
use Rattle.records.specs.Record.{aired}
use Rattle.ledger.specs.Sorted.{insert, insert_all}
use Rattle.board.specs.Rules.{board_of}
use Rattle.board.specs.Calls as calls
use Rattle.board.specs.WorkingCalls as working-calls
use Rattle.board.specs.declared.Handed as board
use Rattle.board.proofs.Boards.{kept-rules}
use Rattle.offers.specs.Offer.{MessageOffering}
use Rattle.offers.specs.WorkingOffer.{message_offer}
use Rattle.offers.specs.declared.Offered as offer
use Rattle.told.specs.Values.{first_value}
use Rattle.demands.specs.Calls.{library}
use Rattle.demands.specs.Board.{message_records, due_headers, makes_due, first_index, row_of}
use Rattle.demands.specs.Numbers.{taken_rows, is_board}
use Rattle.demands.specs.Runs.{Takes}
use Rattle.demands.proofs.Messages.{judged-number}
use Rattle.demands.proofs.Rows.{none-lowest}
use Rattle.demands.proofs.BoardRules.{board-same, adds-new}
use Rattle.demands.proofs.Outcomes.{Offered, offered, offer-cases, hand-out-cases, rows_on, Listed, listed}

pub takes-is : (m : List ℕ) → Takes m ↔ ((judged_of m).number ≡ 0)
unfolding every
takes-is m = let n = none-lowest (taken_rows m) refl in (λ t. judged-number m ∙ n.1 t, λ z. n.0 (sym (judged-number m) ∙ z))

-- ---- an offer

module _ (b m : List ℕ) where
  pub offer-keeps : is_board b ≡ true → (is_board (library.offering b m).bytes ≡ true) × (length (library.offering b m).bytes ≡ length b)
  offer-keeps ok = offer-cases b m (λ (o : MessageOffering). (is_board o.bytes ≡ true) × (length o.bytes ≡ length b))
      (λ n f k. (ok, refl))
      (λ t. (t.left.keeps, t.left.long))

  pub offer-adds : (library.offering b m).answer.number ≡ 0 → board_of (library.offering b m).bytes ≡ insert_all (message_records m) (board_of b)
  offer-adds = offer-cases b m (λ (o : MessageOffering). o.answer.number ≡ 0 → board_of o.bytes ≡ insert_all (message_records m) (board_of b))
      (λ n f k z. absurd (k z))
      (λ t z. t.left.holds)

  pub added-is-growth : length (board_of (library.offering b m).bytes) ≡ length (board_of b) + (library.offering b m).answer.added
  added-is-growth = offer-cases b m (λ (o : MessageOffering). length (board_of o.bytes) ≡ length (board_of b) + o.answer.added)
      (λ n f k. sym (add-zero (length (board_of b))))
      (λ t.
      ap length t.left.holds
      ∙ adds-new (message_records m) (board_of b) (board_of b) (kept-rules b (sym (board-same b) ∙ t.is-board)).order (λ y. (λ i. i, λ i. i))
      ∙ sym (ap (λ (a : offer.Offered). length (board_of b) + a.added) t.answer))

  pub taken-exactly : is_board b ≡ true → ((library.offering b m).answer.number ≡ 15 → ⊥) → ((library.offering b m).answer.number ≡ 0) ↔ Takes m
  taken-exactly ok n = (
    offer-cases b m (λ (o : MessageOffering). o.answer.number ≡ 0 → Takes m) (λ n f k z. absurd (k z)) (λ t z. (takes-is m).1 t.judged),
    λ t. from t (offered b m),
  )
    where
      from : Takes m → Offered b m → (message_offer b m).answer.number ≡ 0
      from t (Offered.bad f e) = absurd (true≢false (sym ok ∙ f))
      from t (Offered.unfit _ k e) = absurd (k ((takes-is m).0 t))
      from t (Offered.full _ _ _ e) = absurd (n (ap (λ (o : MessageOffering). o.answer.number) e))
      from t (Offered.taken x) = ap (λ (a : offer.Offered). a.number) x.answer

-- ---- a hand-out

module _ (b : List ℕ) where
  pub hand-out-keeps : is_board b ≡ true → (is_board (library.handing b).bytes ≡ true) × (length (library.handing b).bytes ≡ length b)
  hand-out-keeps ok = hand-out-cases b (λ (o : calls.Handing). (is_board o.bytes ≡ true) × (length o.bytes ≡ length b))
      (λ n k. (ok, refl))
      (λ g. (g.left.keeps, g.left.long))

  -- the first due header
  abbrev first : List ℕ
  first = first_value (due_headers (board_of b))

  pub hand-out-adds : (library.handing b).answer.number ≡ 0 → board_of (library.handing b).bytes ≡ insert (aired (first_value (due_headers (board_of b)))) (board_of b)
  hand-out-adds = hand-out-cases b (λ (o : calls.Handing). o.answer.number ≡ 0 → board_of o.bytes ≡ insert (aired first) (board_of b))
      (λ n k z. absurd (k z))
      (λ g z. g.left.holds ∙ ap (λ (d : List (List ℕ)). insert (aired (first_value d)) (board_of b)) (sym g.due-are))

  pub hand-out-index : (library.handing b).answer.number ≡ 0 →
      (library.handing b).answer.index ≡ first_index (makes_due (board_of b) (first_value (due_headers (board_of b)))) (board_of b)
  hand-out-index = hand-out-cases b (λ (o : calls.Handing). o.answer.number ≡ 0 → o.answer.index ≡ first_index (makes_due (board_of b) first) (board_of b))
      (λ n k z. absurd (k z))
      (λ g z.
      ap (λ (a : board.Handed). a.index) g.answer
      ∙ ap (λ (d : List (List ℕ)). first_index (makes_due (board_of b) (first_value d)) (board_of b)) (sym g.due-are))

-- ---- the list

pub list-rows : (b : List ℕ) (rows : ℕ) → (library.listing b rows).answer.number ≡ 0 →
    ((library.listing b rows).rows ≡ map (row_of (board_of b)) (due_headers (board_of b))) × ((library.listing b rows).answer.count ≡ length (due_headers (board_of b)))
list-rows b rows z = go (listed b rows)
  where
    go : Listed b rows → ((working-calls.list_of b rows).rows ≡ rows_on b) × ((working-calls.list_of b rows).answer.count ≡ length (due_headers (board_of b)))
    go (Listed.bad _ e) = absurd (let q : 1 ≡ 0 = sym (ap (λ (o : calls.Listing). o.answer.number) e) ∙ z in omega arith)
    go (Listed.short _ _ e) = absurd (let q : 2 ≡ 0 = sym (ap (λ (o : calls.Listing). o.answer.number) e) ∙ z in omega arith)
    go (Listed.listing _ _ e) = (ap (λ (o : calls.Listing). o.rows) e, ap (λ (o : calls.Listing). o.answer.count) e)
