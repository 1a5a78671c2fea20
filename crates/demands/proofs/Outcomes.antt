-- What an offer, a hand-out and the list do, in the demands' words: one case for each number, and one for 0.
--     Offered, offered, offer-cases       an offer of the message s to the board b
--     Handed, handed, hand-out-cases      a hand-out of b
--     Listed, listed                      the list of b into m rows
use Prim.Native.Nat.{ℕ, suc, ◌+◌, ◌-◌, ◌/◌, ◌≤◌, ◌<◌}
use mathlib.Core.Bool.{Bool, true, false}
use mathlib.Core.Path.{◌≡◌, refl, sym, ap, ◌∙◌, subst}
use mathlib.Core.Logic.{inl}
use mathlib.Core.List.{List, [], ◌∷◌, map}
use native.Mathlib.Omega.{arith}
use borrow.Author.Tests.{eqb-true, eqb-false, leb-true, leb-false, le-leb}
use lib.Dec.{eqb, leb}
use lib.ListN.{length, length-map}
use Rattle.octets.specs.Bytes.{every}
use Rattle.octets.proofs.Tests.{picked, passed_over}
use Rattle.judgement.specs.WorkingJudged.{judged_of}
use Rattle.records.specs.Record.{aired, record_ok}
use Rattle.ledger.specs.declared.Row.{Row}
use Rattle.ledger.specs.Sorted.{In, insert, insert_all}
use Rattle.ledger.specs.WorkingBoard.{due, After, hand_out_of, hand_out}
use Rattle.ledger.proofs.Sorts.{insert-new, every_in, in-every}
use Rattle.ledger.proofs.Dues.{in-due}
use Rattle.board.specs.WorkingRules.{Records, board_ok}
use Rattle.board.specs.Rules.{board_of}
use Rattle.board.specs.Calls as calls
use Rattle.board.specs.WorkingCalls as working-calls
use Rattle.board.proofs.Boards.{kept-rules, board-within}
use Rattle.board.proofs.Answers.{hand-bad, list-bad}
use Rattle.board.proofs.Keeps as keeps
use Rattle.offers.specs.WorkingRecords.{records_of}
use Rattle.offers.specs.Offer.{MessageOffering}
use Rattle.offers.specs.WorkingOffer.{offer_refused_by, offer_given, message_offer}
use Rattle.offers.proofs.Taken.{records-ok}
use Rattle.offers.proofs.Offering.{offer-board, offer-message, offer-zero}
use Rattle.demands.specs.Calls.{library}
use Rattle.demands.specs.Board.{message_records, new_to, due_headers, makes_due, first_index, row_of}
use Rattle.demands.specs.Numbers.{is_board, empties_in}
use Rattle.demands.specs.Runs.{header_given}
use Rattle.demands.proofs.Messages.{records-are}
use Rattle.demands.proofs.Dues.{due-same, rows_same, index_same}
use Rattle.demands.proofs.BoardRules.{board-same, adds-new}

-- the bytes x are a board as long as b with the filled records c
pub record Left (b : List ℕ) (c : List (List ℕ)) (x : List ℕ) : Type 0 where
  pub keeps : is_board x ≡ true
  pub long : length x ≡ length b
  pub holds : board_of x ≡ c

-- ---- an offer

-- how many records a message adds to a board
abbrev pub news_of : List ℕ → List ℕ → ℕ
news_of b s = length (new_to (board_of b) (message_records s))

pub record Taken (b s : List ℕ) : Type 0 where
  pub is-board : is_board b ≡ true
  pub judged : (judged_of s).number ≡ 0
  pub room : news_of b s ≤ empties_in b
  pub answer : (message_offer b s).answer ≡ record { number = 0; field = 0; added = news_of b s }
  pub left : Left b (insert_all (message_records s) (board_of b)) (message_offer b s).bytes

pub data Offered (b s : List ℕ) : Type 0 where
  bad : is_board b ≡ false → message_offer b s ≡ offer_refused_by 1 0 b → Offered b s
  unfit : is_board b ≡ true → ((judged_of s).number ≡ 0 → ⊥) → message_offer b s ≡ offer_refused_by (judged_of s).number (judged_of s).field b → Offered b s
  full : is_board b ≡ true → (judged_of s).number ≡ 0 → empties_in b < news_of b s → message_offer b s ≡ offer_refused_by 15 0 b → Offered b s
  taken : Taken b s → Offered b s

module _ (b s : List ℕ) (ok : board_ok b ≡ true) (z : (judged_of s).number ≡ 0) where
  abbrev filled : List (List ℕ)
  filled = insert_all (records_of s) (board_of b)

  grown : length filled ≡ length (board_of b) + news_of b s
  grown =
      adds-new (records_of s) (board_of b) (board_of b) (kept-rules b ok).order (λ y. (λ i. i, λ i. i))
      ∙ ap (λ (rs : List (List ℕ)). length (board_of b) + length (new_to (board_of b) rs)) (records-are s z)

  good : Records (records_of s)
  good = every_in record_ok (records_of s) (records-ok s)

  bytes-are : (message_offer b s).bytes ≡ (working-calls.offer_of b (records_of s)).bytes
  bytes-are = ap (λ (o : MessageOffering). o.bytes) (offer-zero b s z)

  records-offered : keeps.Offer b (records_of s) → Offered b s
  records-offered (keeps.Offer.full l e) = full (board-same b ∙ ok) z (omega (arith, grown, board-within b)) (offer-zero b s z ∙ ap offer_given e)
  records-offered (keeps.Offer.taken l e) = taken record {
    is-board = board-same b ∙ ok;
    judged = z;
    room = omega (arith, grown);
    answer =
        let added : length filled - length (board_of b) ≡ news_of b s = omega (arith, grown) in
        ap (λ (o : MessageOffering). o.answer) (offer-zero b s z ∙ ap offer_given e) ∙ ap (λ (k : ℕ). record { number = 0; field = 0; added = k }) added;
    left = record {
      keeps = board-same _ ∙ ap board_ok bytes-are ∙ keeps.offer-keeps b (records_of s) ok good;
      long = ap length bytes-are ∙ keeps.offer-long b (records_of s) ok good;
      holds =
          ap board_of bytes-are
          ∙ keeps.offer-board b (records_of s) ok good
          ∙ picked (leb (length filled) (length b / 384)) _ _ (le-leb (length filled) (length b / 384) l)
          ∙ ap (λ (rs : List (List ℕ)). insert_all rs (board_of b)) (records-are s z);
    };
  }

module _ (b s : List ℕ) where
  pub offered : Offered b s
  offered = go (board_ok b) refl (eqb (judged_of s).number 0) refl
    where
      go : (ok : Bool) → board_ok b ≡ ok → (t : Bool) → eqb (judged_of s).number 0 ≡ t → Offered b s
      go false ok t e = bad (board-same b ∙ ok) (offer-board b s ok)
      go true ok false e = unfit (board-same b ∙ ok) (eqb-false (judged_of s).number 0 e) (offer-message b s ok (eqb-false (judged_of s).number 0 e))
      go true ok true e = let z = eqb-true (judged_of s).number 0 e in records-offered b s ok z (keeps.offer-is b (records_of s) ok)

  -- what holds of every refusal, and where the message is taken, holds of the offer
  pub offer-cases : (P : MessageOffering → Type 0) → ((n f : ℕ) → (n ≡ 0 → ⊥) → P (offer_refused_by n f b)) → (Taken b s → P (message_offer b s)) → P (message_offer b s)
  offer-cases P no_change change = go offered
    where
      go : Offered b s → P (message_offer b s)
      go (bad _ e) = subst P (sym e) (no_change 1 0 (λ z. omega arith))
      go (unfit _ n e) = subst P (sym e) (no_change (judged_of s).number (judged_of s).field n)
      go (full _ _ _ e) = subst P (sym e) (no_change 15 0 (λ z. omega arith))
      go (taken t) = change t

-- ---- a hand-out

-- the first due header is given
pub record Given (b : List ℕ) : Type 0 where
  pub is-board : is_board b ≡ true
  pub first : List ℕ
  pub others : List (List ℕ)
  pub due-are : due_headers (board_of b) ≡ first ∷ others
  pub room : empties_in b ≡ suc (empties_in (working-calls.hand_of b).bytes)
  pub answer : (working-calls.hand_of b).answer ≡ record { number = 0; index = first_index (makes_due (board_of b) first) (board_of b) }
  pub gives : header_given library b ≡ first ∷ []
  pub left : Left b (insert (aired first) (board_of b)) (working-calls.hand_of b).bytes

pub data Handed (b : List ℕ) : Type 0 where
  bad : is_board b ≡ false → working-calls.hand_of b ≡ working-calls.hand_refused 1 b → Handed b
  nothing : is_board b ≡ true → due_headers (board_of b) ≡ [] → working-calls.hand_of b ≡ working-calls.hand_refused 16 b → Handed b
  full : is_board b ≡ true → (h : List ℕ) (hs : List (List ℕ)) → due_headers (board_of b) ≡ h ∷ hs → empties_in b ≡ 0 → working-calls.hand_of b ≡ working-calls.hand_refused 15 b
      → Handed b
  handing : Given b → Handed b

-- the records of a board keep their rules
each_keeps : (b : List ℕ) → board_ok b ≡ true → every record_ok (board_of b) ≡ true
each_keeps b ok = in-every record_ok (board_of b) (kept-rules b ok).each

-- what is due is what the library finds
pub found-due : (b : List ℕ) → is_board b ≡ true → due (board_of b) ≡ due_headers (board_of b)
found-due b ok = due-same (board_of b) (each_keeps b (sym (board-same b) ∙ ok))

module _ (b : List ℕ) (ok : board_ok b ≡ true) where
  are-due : (d : List (List ℕ)) → due (board_of b) ≡ d → due_headers (board_of b) ≡ d
  are-due d f = sym (found-due b (board-same b ∙ ok)) ∙ f

  -- of the first due header h
  module _ (h : List ℕ) (hs : List (List ℕ)) (f : due (board_of b) ≡ h ∷ hs) where
    abbrev aired-too : List (List ℕ)
    aired-too = insert (aired h) (board_of b)

    one_more : length aired-too ≡ suc (length (board_of b))
    one_more = insert-new (aired h) (board_of b) ((in-due (board_of b) h).0 (subst (In h) (sym f) (inl refl))).not-aired

    gives-it : length aired-too ≤ length b / 384 → hand_out (length b / 384) (board_of b) ≡ record { board = aired-too; given = h ∷ [] }
    gives-it l = ap (hand_out_of (length b / 384) (board_of b)) f ∙ picked (leb (length aired-too) (length b / 384)) _ _ (le-leb (length aired-too) (length b / 384) l)

    leaves : length aired-too ≤ length b / 384 → Left b aired-too (working-calls.hand_of b).bytes
    leaves l = record {
      keeps = board-same _ ∙ keeps.hand-out-keeps b ok;
      long = keeps.hand-long b ok;
      holds = keeps.hand-board b ok ∙ ap (λ (y : After). y.board) (gives-it l);
    }

  header-handed : keeps.Hand b → Handed b
  header-handed (keeps.Hand.nothing f e) = nothing (board-same b ∙ ok) (are-due [] f) e
  header-handed (keeps.Hand.full h hs f l e) = full (board-same b ∙ ok) h hs (are-due (h ∷ hs) f) (omega (arith, one_more h hs f)) e
  header-handed (keeps.Hand.given h hs f l e) = handing record {
    is-board = board-same b ∙ ok;
    first = h;
    others = hs;
    due-are = are-due (h ∷ hs) f;
    room = omega (arith, one_more h hs f, (leaves h hs f l).long, ap length (leaves h hs f l).holds);
    answer =
        ap (λ (o : calls.Handing). o.answer) e
        ∙ ap (λ (k : ℕ). record { number = 0; index = k }) (index_same (board_of b) (each_keeps b ok) h (board_of b));
    gives = keeps.hand-gives b ok ∙ ap (λ (y : After). y.given) (gives-it h hs f l);
    left = leaves h hs f l;
  }

module _ (b : List ℕ) where
  pub handed : Handed b
  handed = go (board_ok b) refl
    where
      go : (ok : Bool) → board_ok b ≡ ok → Handed b
      go false ok = bad (board-same b ∙ ok) (hand-bad b ok)
      go true ok = header-handed b ok (keeps.hand-is b ok)

  pub hand-out-cases : (P : calls.Handing → Type 0) → ((n : ℕ) → (n ≡ 0 → ⊥) → P (working-calls.hand_refused n b)) → (Given b → P (working-calls.hand_of b)) →
      P (working-calls.hand_of b)
  hand-out-cases P no_change change = go handed
    where
      go : Handed b → P (working-calls.hand_of b)
      go (bad _ e) = subst P (sym e) (no_change 1 (λ z. omega arith))
      go (nothing _ _ e) = subst P (sym e) (no_change 16 (λ z. omega arith))
      go (full _ _ _ _ _ e) = subst P (sym e) (no_change 15 (λ z. omega arith))
      go (handing g) = change g

-- ---- the list

-- one row for each due header, in header order
abbrev pub rows_on : List ℕ → List Row
rows_on b = map (row_of (board_of b)) (due_headers (board_of b))

pub data Listed (b : List ℕ) (m : ℕ) : Type 0 where
  bad : is_board b ≡ false → working-calls.list_of b m ≡ working-calls.list_refused 1 → Listed b m
  short : is_board b ≡ true → m < length (due_headers (board_of b)) → working-calls.list_of b m ≡ working-calls.list_refused 2 → Listed b m
  listing : is_board b ≡ true → length (due_headers (board_of b)) ≤ m
      → working-calls.list_of b m ≡ record { answer = record { number = 0; count = length (due_headers (board_of b)) }; rows = rows_on b } → Listed b m

module _ (b : List ℕ) (m : ℕ) where
  list-to : board_ok b ≡ true → working-calls.list_of b m ≡ working-calls.list_to (rows_on b) m
  unfolding working-calls.list_of
  list-to ok = picked (board_ok b) _ _ ok ∙ ap (λ (rows : List Row). working-calls.list_to rows m) (rows_same (board_of b) (each_keeps b ok))

  many : length (rows_on b) ≡ length (due_headers (board_of b))
  many = length-map (due_headers (board_of b)) (row_of (board_of b))

  rows-listed : board_ok b ≡ true → (t : Bool) → leb (length (rows_on b)) m ≡ t → Listed b m
  rows-listed ok true e = listing (board-same b ∙ ok) (omega (arith, leb-true (length (rows_on b)) m e, many))
      (list-to ok ∙ picked (leb (length (rows_on b)) m) _ _ e ∙ ap (λ (k : ℕ). record { answer = record { number = 0; count = k }; rows = rows_on b }) many)
  rows-listed ok false e = short (board-same b ∙ ok) (omega (arith, leb-false (length (rows_on b)) m e, many))
      (list-to ok ∙ passed_over (leb (length (rows_on b)) m) _ _ e)

  pub listed : Listed b m
  listed = go (board_ok b) refl
    where
      go : (ok : Bool) → board_ok b ≡ ok → Listed b m
      go false ok = bad (board-same b ∙ ok) (list-bad b m ok)
      go true ok = rows-listed ok (leb (length (rows_on b)) m) refl
