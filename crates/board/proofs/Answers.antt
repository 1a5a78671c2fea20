-- What an offer, a hand-out and the list answer, from what the code has found.
--     best-of-marked, rows-of-marked              the best and the rows of marked records
--     offer-bad, offer-full, offer-taken, ..      an offer of records
--     hand-bad, hand-none, hand-full, hand-given  a hand-out
--     list-bad, list-short, list-given            the list
--     finds-none, finds-rows                      what is found for it
--     list_counts, list-within, list-lent         its rows are as many as it says, and fit; more than 170 lent are as good as 170
use Prim.Native.Nat.{ℕ, suc, ◌+◌, ◌*◌, ◌-◌, ◌≤◌, ◌<◌}
use mathlib.Core.Bool.{Bool, true, false}
use mathlib.Core.Path.{◌≡◌, refl, sym, ap, ap₂, ◌∙◌, subst}
use mathlib.Core.Logic.{inl}
use mathlib.Core.List.{List, [], ◌∷◌, ◌++◌}
use native.Mathlib.Omega.{arith}
use lib.Dec.{leb}
use lib.ListN.{length, take, drop, length-map}
use borrow.Author.Tests.{le-leb, lt-leb, leb-true}
use Rattle.octets.specs.Bytes.{pick}
use Rattle.octets.proofs.Tests.{picked, passed_over}
use Rattle.records.specs.Record.{carried, aired}
use Rattle.ledger.specs.declared.Row.{Row}
use Rattle.ledger.specs.Sorted.{In, Sorted, insert, insert_all}
use Rattle.ledger.specs.WorkingBoard.{live, ordered, due, index_of, row_of, rows_of}
use Rattle.ledger.specs.WorkingScan.{after, best_of}
use Rattle.ledger.proofs.Sorts.{insert-new, insert-length, insert_all-grows}
use Rattle.ledger.proofs.Dues.{in-due}
use Rattle.slots.specs.WorkingSlots.{rec, flat}
use Rattle.slots.specs.Slots.{recs}
use Rattle.board.specs.declared.Listed.{Listed}
use Rattle.board.specs.declared.Rows.{Rows}
use Rattle.board.specs.Rules.{board_of}
use Rattle.board.specs.WorkingRules.{board_ok, encode, added}
use Rattle.board.specs.WorkingCalls.{offer_refused, offer_to, offer_of, hand_refused, hand_to, hand_of, list_refused, list_to, list_of}
use Rattle.board.specs.Calls.{Listing}
use Rattle.board.proofs.Boards.{board-recs, board-within, kept-rules, encoded}
use Rattle.board.proofs.Finds.{Found, none, found, find, start-due, due-most}

-- ---- what is found for the first k records of b, where they are the first n of s

module _ (k n : ℕ) (b s : List ℕ) where
  pub best-of-marked : (j : ℕ) → k ≡ n → b ≡ s → j ≡ best_of k (after (recs k b) []) (recs k b) → j ≡ best_of n (after (recs n s) []) (recs n s)
  best-of-marked j e f h = h ∙ ap₂ (λ (x : ℕ) (y : List ℕ). best_of x (after (recs x y) []) (recs x y)) e f

  pub rows-of-marked : k ≡ n → b ≡ s → rows_of (recs k b) ≡ rows_of (recs n s)
  rows-of-marked e f = ap₂ (λ (x : ℕ) (y : List ℕ). rows_of (recs x y)) e f

-- ---- an offer

pub offer-bad : (s : List ℕ) (rs : List (List ℕ)) → board_ok s ≡ false → offer_of s rs ≡ offer_refused 1 s
unfolding offer_of
offer-bad s rs e = passed_over (board_ok s) (offer_to s (board_of s) (insert_all rs (board_of s))) (offer_refused 1 s) e

-- of a board with n filled records that keeps the rules
module _ (s : List ℕ) (rs : List (List ℕ)) (n : ℕ) (is : n ≡ length (board_of s)) (ok : board_ok s ≡ true) where
  pub offer-to : offer_of s rs ≡ offer_to s (board_of s) (insert_all rs (board_of s))
  unfolding offer_of
  offer-to = picked (board_ok s) (offer_to s (board_of s) (insert_all rs (board_of s))) (offer_refused 1 s) ok

  grown : (k : ℕ) → k + n ≡ length (insert_all rs (recs n s)) → k + length (board_of s) ≡ length (insert_all rs (board_of s))
  grown k e = ap (λ (m : ℕ). k + m) (sym is) ∙ e ∙ ap (λ (b : List (List ℕ)). length (insert_all rs b)) (board-recs s n is)

  pub filled-sorted : Sorted (recs n s)
  filled-sorted = subst Sorted (sym (board-recs s n is)) (kept-rules s ok).order

  pub offer-full : (k : ℕ) → k + n ≡ length (insert_all rs (recs n s)) → length s < (n + k) * 384 → offer_of s rs ≡ offer_refused 15 s
  offer-full k e h = offer-to ∙ passed_over (leb (length (insert_all rs (board_of s)) * 384) (length s)) _ (offer_refused 15 s) (lt-leb (length (insert_all rs (board_of s)) * 384) (length s) (omega (arith, grown k e)))

  pub offer-taken : (k : ℕ) (s' : List ℕ) (j : ℕ) → k + n ≡ length (insert_all rs (recs n s)) → (n + k) * 384 ≤ length s
      → j ≡ length (insert_all rs (recs n s)) → s' ≡ flat (insert_all rs (recs n s)) ++ drop (j * 384) s
      → offer_of s rs ≡ record { answer = record { number = 0; added = k }; bytes = s' }
  offer-taken k s' j e h ej es =
      offer-to
      ∙ picked (leb (length (insert_all rs (board_of s)) * 384) (length s)) _ (offer_refused 15 s) (le-leb (length (insert_all rs (board_of s)) * 384) (length s) (omega (arith, grown k e)))
      ∙ ap₂ (λ (a : ℕ) (x : List ℕ). record { answer = record { number = 0; added = a }; bytes = x }) count (sym bytes)
    where
      count : length (insert_all rs (board_of s)) - length (board_of s) ≡ k
      count = omega (arith, grown k e)

      bytes : s' ≡ encode (length s) (insert_all rs (board_of s))
      bytes =
          es
          ∙ ap (λ (m : ℕ). flat (insert_all rs (recs n s)) ++ drop (m * 384) s) ej
          ∙ ap (λ (b : List (List ℕ)). flat (insert_all rs b) ++ drop (length (insert_all rs b) * 384) s) (board-recs s n is)
          ∙ encoded s (insert_all rs (board_of s)) ok (insert_all-grows rs (board_of s))

-- no board has room for more
pub offer-most : (s : List ℕ) (n : ℕ) → board_ok s ≡ true → (k : ℕ) → (n + k) * 384 ≤ length s → k ≤ 170
offer-most s n ok k h = omega (arith, (kept-rules s ok).high)

-- ---- a hand-out

pub hand-bad : (s : List ℕ) → board_ok s ≡ false → hand_of s ≡ hand_refused 1 s
unfolding hand_of
hand-bad s e = passed_over (board_ok s) (hand_to s (board_of s) (due (board_of s))) (hand_refused 1 s) e

module _ (s : List ℕ) (n : ℕ) (is : n ≡ length (board_of s)) (ok : board_ok s ≡ true) where
  pub filled_within : n * 384 ≤ length s
  filled_within = omega (arith, board-within s)

  pub filled-most : n ≤ 170
  filled-most = omega (arith, board-within s, (kept-rules s ok).high)

  pub hand-to : (d : List (List ℕ)) → due (board_of s) ≡ d → hand_of s ≡ hand_to s (board_of s) d
  unfolding hand_of
  hand-to d e = picked (board_ok s) (hand_to s (board_of s) (due (board_of s))) (hand_refused 1 s) ok ∙ ap (hand_to s (board_of s)) e

  -- the scan answered j
  module _ (j : ℕ) (so : j ≡ best_of n (after (recs n s) []) (recs n s)) where
    first-due : (d : List (List ℕ)) → ordered (after (recs n s) []) (recs n s) ≡ d → due (board_of s) ≡ d
    first-due d f = ap due (sym (board-recs s n is)) ∙ sym (start-due n s filled_within) ∙ f

    pub hand-none : j ≡ n → hand_of s ≡ hand_refused 16 s
    hand-none e = go (find n s [] j so)
      where
        go : Found n s [] j → hand_of s ≡ hand_refused 16 s
        go (none f z) = hand-to [] (first-due [] f)
        go (found h hs f lt c x) = absurd (omega arith)

    pub hand-within : (j ≡ n → ⊥) → j < n
    hand-within q = go (find n s [] j so)
      where
        go : Found n s [] j → j < n
        go (none f z) = absurd (q z)
        go (found h hs f lt c x) = lt

    -- of the first due header h
    module _ (h : List ℕ) (hs : List (List ℕ)) (f : due (board_of s) ≡ h ∷ hs) where
      one_more : length (insert (aired h) (board_of s)) ≡ suc n
      one_more = insert-new (aired h) (board_of s) ((in-due (board_of s) h).0 (subst (In h) (sym f) (inl refl))).not-aired ∙ ap suc (sym is)

      full-of : length s < (n + 1) * 384 → hand_of s ≡ hand_refused 15 s
      full-of q = hand-to (h ∷ hs) f ∙ passed_over (leb (length (insert (aired h) (board_of s)) * 384) (length s)) _ (hand_refused 15 s) (lt-leb (length (insert (aired h) (board_of s)) * 384) (length s) (omega (arith, one_more)))

      given-of : (s' : List ℕ) → (n + 1) * 384 ≤ length s → carried (rec j s) ≡ h → j ≡ index_of (live (board_of s)) h (board_of s) → s' ≡ added s n (aired (carried (rec j s)))
          → hand_of s ≡ record { answer = record { number = 0; index = j }; bytes = s' }
      given-of s' room c x e =
          hand-to (h ∷ hs) f
          ∙ picked (leb (length (insert (aired h) (board_of s)) * 384) (length s)) _ (hand_refused 15 s) (le-leb (length (insert (aired h) (board_of s)) * 384) (length s) (omega (arith, one_more)))
          ∙ ap₂ (λ (a : ℕ) (y : List ℕ). record { answer = record { number = 0; index = a }; bytes = y }) (sym x) (sym bytes)
        where
          bytes : s' ≡ encode (length s) (insert (aired h) (board_of s))
          bytes =
              e
              ∙ ap₂ (λ (y : List ℕ) (b : List (List ℕ)). flat (insert (aired y) b) ++ drop (length (insert (aired y) b) * 384) s) c (board-recs s n is)
              ∙ encoded s (insert (aired h) (board_of s)) ok (insert-length (aired h) (board_of s)).0

    pub hand-full : (j ≡ n → ⊥) → length s < (n + 1) * 384 → hand_of s ≡ hand_refused 15 s
    hand-full q l = go (find n s [] j so)
      where
        go : Found n s [] j → hand_of s ≡ hand_refused 15 s
        go (none f z) = absurd (q z)
        go (found h hs f lt c x) = full-of h hs (first-due (h ∷ hs) f) l

    pub hand-given : (s' : List ℕ) → (j ≡ n → ⊥) → (n + 1) * 384 ≤ length s → s' ≡ added s n (aired (carried (rec j s))) → hand_of s ≡ record { answer = record { number = 0; index = j }; bytes = s' }
    hand-given s' q room e = go (find n s [] j so)
      where
        go : Found n s [] j → hand_of s ≡ record { answer = record { number = 0; index = j }; bytes = s' }
        go (none f z) = absurd (q z)
        go (found h hs f lt c x) = given-of h hs (first-due (h ∷ hs) f) s' room c (x ∙ ap (λ (b : List (List ℕ)). index_of (live b) h b) (board-recs s n is)) e

-- ---- the list

pub list-bad : (s : List ℕ) (m : ℕ) → board_ok s ≡ false → list_of s m ≡ list_refused 1
unfolding list_of
list-bad s m e = passed_over (board_ok s) (list_to (rows_of (board_of s)) m) (list_refused 1) e

module _ (s : List ℕ) (m n k : ℕ) (is : n ≡ length (board_of s)) (ok : board_ok s ≡ true) (count : k ≡ length (rows_of (recs n s))) where
  list-to : list_of s m ≡ list_to (rows_of (recs n s)) m
  unfolding list_of
  list-to = picked (board_ok s) (list_to (rows_of (board_of s)) m) (list_refused 1) ok ∙ ap (λ (b : List (List ℕ)). list_to (rows_of b) m) (sym (board-recs s n is))

  pub list-short : m < k → list_of s m ≡ list_refused 2
  list-short h = list-to ∙ passed_over (leb (length (rows_of (recs n s))) m) _ (list_refused 2) (lt-leb (length (rows_of (recs n s))) m (omega arith))

  pub list-given : k ≤ m → list_of s m ≡ record { answer = record { number = 0; count = k }; rows = rows_of (recs n s) }
  list-given h =
      list-to
      ∙ picked (leb (length (rows_of (recs n s))) m) _ (list_refused 2) (le-leb (length (rows_of (recs n s))) m (omega arith))
      ∙ ap (λ (a : ℕ). record { answer = record { number = 0; count = a }; rows = rows_of (recs n s) }) (sym count)

-- what is found for an outcome: its answer, and its rows from the start
abbrev pub Finds : Listing → Rows → Type 0
Finds o r = (r.answer ≡ o.answer) × (take r.answer.count r.rows ≡ o.rows)

pub finds-none : (o : Listing) (number : ℕ) (r : Rows) → o ≡ list_refused number → r.answer ≡ (list_refused number).answer → Finds o r
finds-none o number r e a = (a ∙ sym (ap (λ (x : Listing). x.answer) e), (ap (λ (x : Listed). take x.count r.rows) a ∙ sym (ap (λ (x : Listing). x.rows) e)))

pub finds-rows : (o : Listing) (rows : List Row) (r : Rows) → o ≡ record { answer = record { number = 0; count = r.answer.count }; rows = rows } → r.answer.number ≡ 0 → take r.answer.count r.rows ≡ rows → Finds o r
finds-rows o rows r e z t = (ap (λ (x : ℕ). record { number = x; count = r.answer.count }) z ∙ sym (ap (λ (x : Listing). x.answer) e), (t ∙ sym (ap (λ (x : Listing). x.rows) e)))

-- ---- the rows of the list

by-test : (P : Listing → Type 0) (t : Bool) (x y : Listing) → (t ≡ true → P x) → P y → P (pick t x y)
by-test P true x y h k = h refl
by-test P false x y h k = k

module _ (s : List ℕ) (m : ℕ) where
  abbrev rows : List Row
  rows = rows_of (board_of s)

  abbrev given : Listing
  given = record { answer = record { number = 0; count = length rows }; rows = rows }

  -- what holds of each outcome holds of the list
  by_cases : (P : Listing → Type 0) → (length rows ≤ m → P given) → ((number : ℕ) → P (list_refused number)) → P (list_of s m)
  unfolding list_of
  by_cases P h k = by-test P (board_ok s) (list_to rows m) (list_refused 1) (λ b. by-test P (leb (length rows) m) given (list_refused 2) (λ e. h (leb-true (length rows) m e)) (k 2)) (k 1)

  pub list_counts : (list_of s m).answer.count ≡ length (list_of s m).rows
  list_counts = by_cases (λ (l : Listing). l.answer.count ≡ length l.rows) (λ e. refl) (λ number. refl)

  pub list-within : length (list_of s m).rows ≤ m
  list-within = by_cases (λ (l : Listing). length l.rows ≤ m) (λ e. e) (λ number. omega arith)

  rows-most : board_ok s ≡ true → length rows ≤ 170
  unfolding rows_of
  rows-most ok =
      let n : ℕ = length (board_of s) in
      let d : length (due (recs n s)) ≤ n = due-most n s in
      omega (arith, length-map (due (board_of s)) (row_of (board_of s)), ap (λ (b : List (List ℕ)). length (due b)) (board-recs s n refl), d, filled-most s n refl ok)

  pub list-lent : list_of s (pick (leb 170 m) 170 m) ≡ list_of s m
  unfolding list_of
  list-lent = go (board_ok s) refl
    where
      at : (t : Bool) → leb 170 m ≡ t → length rows ≤ 170 → list_to rows (pick t 170 m) ≡ list_to rows m
      at true e h = ap (λ (b : Bool). pick b given (list_refused 2)) (le-leb (length rows) 170 h ∙ sym (le-leb (length rows) m (omega (arith, leb-true 170 m e))))
      at false e h = refl

      go : (b : Bool) → board_ok s ≡ b → pick b (list_to rows (pick (leb 170 m) 170 m)) (list_refused 1) ≡ pick b (list_to rows m) (list_refused 1)
      go true e = at (leb 170 m) refl (rows-most e)
      go false e = refl
