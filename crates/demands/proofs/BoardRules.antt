-- The rules of a board, and how much it holds, as document 01 counts them in records, and as the library does in bytes.
--     board-same      a board is one for the demands exactly if it is one for the library
--     adds-new        an insertion of records adds those that are new
use Prim.Native.Nat.{ℕ, ◌+◌, ◌/◌, ◌%◌}
use mathlib.Core.Bool.{Bool, true, false, not}
use mathlib.Core.Path.{◌≡◌, refl, sym, ap, ◌∙◌}
use mathlib.Core.Logic.{inl, inr, ⊎_elim, ◌↔◌}
use mathlib.Core.List.{List, [], ◌∷◌}
use native.Mathlib.Nat.{add-zero}
use native.Mathlib.Omega.{arith}
use borrow.Author.Tests.{eqb-true}
use lib.ListN.{length}
use Rattle.octets.specs.Bytes.{pick}
use Rattle.octets.proofs.Tests.{each_of, every_of, between-low, between-high, between_is}
use Rattle.ledger.specs.Sorted.{In, has, Sorted, insert, insert_all}
use Rattle.ledger.proofs.Sorts.{in_insert, insert-sorted, insert-held, insert-new, has_in, has-not}
use Rattle.board.specs.WorkingRules.{board_tests, board_ok}
use Rattle.demands.specs.Board.{new_to}
use Rattle.demands.specs.Numbers.{is_board}
use Rattle.demands.proofs.Members.{both}

pub board-same : (b : List ℕ) → is_board b ≡ board_ok b
unfolding board_ok
board-same b = both (is_board b) (board_ok b)
    (λ e. let w = each_of _ e in
    let low = between-low 1 170 (length b / 384) w.0 in
    let high = between-high 1 170 (length b / 384) w.0 in
    let whole = eqb-true (length b % 384) 0 w.1.0 in
    every_of (board_tests b) (between_is 384 65280 (length b) (omega arith) (omega arith), w.1))
    (λ e. let w = each_of (board_tests b) e in
    let low = between-low 384 65280 (length b) w.0 in
    let high = between-high 384 65280 (length b) w.0 in
    every_of _ (between_is 1 170 (length b / 384) (omega arith) (omega arith), w.1))

-- ---- what an insertion adds

-- l in order, and l' with the same members
pub adds-new : (rs l l' : List (List ℕ)) → Sorted l → ((y : List ℕ) → In y l' ↔ In y l) → length (insert_all rs l) ≡ length l + length (new_to l' rs)
adds-new [] l l' s m = sym (add-zero (length l))
adds-new (r ∷ rs) l l' s m = go (has r l') refl (adds-new rs)
  where
    go : (t : Bool) → has r l' ≡ t
        → ((l l' : List (List ℕ)) → Sorted l → ((y : List ℕ) → In y l' ↔ In y l) → length (insert_all rs l) ≡ length l + length (new_to l' rs))
        → length (insert_all rs (insert r l)) ≡ length l + length (pick t (new_to l' rs) (r ∷ new_to (r ∷ l') rs))
    go true e ih = ap (λ (x : List (List ℕ)). length (insert_all rs x)) (insert-held r l s ((m r).0 ((has_in r l').0 e))) ∙ ih l l' s m
    go false e ih =
        omega (
          arith,
          insert-new r l (λ i. (has-not r l').0 (ap not e) ((m r).1 i)),
          ih (insert r l) (r ∷ l') (insert-sorted r l s) (λ y. (
            λ i. (in_insert y r l).1 (⊎_elim inl (λ k. inr ((m y).0 k)) i),
            λ i. ⊎_elim inl (λ k. inr ((m y).1 k)) ((in_insert y r l).0 i),
          )),
        )
