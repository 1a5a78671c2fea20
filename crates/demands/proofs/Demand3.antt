-- Demand 3 of the library: what one call does to a board (Demand3Calls), and what calls do one after the other.
--     same-records     the same alerts, offered to two empty boards, each in its own order, each once or more: the filled records are equal
--     due-exactly      what is then due
--     in_order         hand-outs, while there is room, give each due header once, in byte order
--     never-twice      over any mixture of offers and hand-outs no header is handed out twice
use Prim.Native.Nat.{ℕ, zero, suc, ◌+◌, min}
use mathlib.Core.Bool.{Bool, true, false, true≢false}
use mathlib.Core.Path.{◌≡◌, refl, sym, ap, ap₂, ◌∙◌, subst}
use mathlib.Core.Logic.{◌↔◌}
use mathlib.Core.List.{List, [], ◌∷◌, ◌++◌, tail-eq_of_cons-eq}
use native.Mathlib.Nat.{zero-min, min-zero, suc-min-suc}
use native.Mathlib.Omega.{arith}
use borrow.Author.Tests.{le-leb}
use lib.Dec.{eqb, leb}
use lib.ListN.{length, take, get_or}
use lib.Seq.{take-nil, take_all}
use Rattle.octets.specs.Bytes.{pick}
use Rattle.octets.proofs.Tests.{picked, passed_over}
use Rattle.records.specs.Record.{carried, aired}
use Rattle.ledger.specs.Sorted.{In, insert}
use Rattle.ledger.specs.WorkingBoard as ledger
use Rattle.ledger.specs.WorkingBoard.{due, Alert}
use Rattle.ledger.proofs.Sorts.{insert-length}
use Rattle.ledger.proofs.Demand3 as lists
use Rattle.board.specs.Rules.{board_of}
use Rattle.board.specs.Calls as calls
use Rattle.board.specs.WorkingCalls as working-calls
use Rattle.board.specs.WorkingRuns as board
use Rattle.board.proofs.Demand3 as bytes
use Rattle.offers.specs.Offer.{MessageOffering}
use Rattle.offers.specs.WorkingOffer.{message_offer}
use Rattle.demands.specs.Calls.{library}
use Rattle.demands.specs.Board.{due_headers}
use Rattle.demands.specs.Numbers.{none_applies, taken_rows, is_board, empties_in}
use Rattle.demands.specs.Runs.{Empty, after_offers, NoneFull, CarriedBy, header_given, hand_outs, BoardCall, offers, hands_out, handed_out, Once}
use Rattle.demands.specs.Demands.{Demand3}
use Rattle.demands.proofs.Demand2.{on-board}
use Rattle.demands.proofs.BoardRules.{board-same}
use Rattle.demands.proofs.Outcomes.{found-due, Handed, handed}
use Rattle.demands.proofs.Demand3Calls.{offer-keeps, offer-adds, added-is-growth, taken-exactly, hand-out-keeps, hand-out-adds, hand-out-index, list-rows}
use Rattle.demands.proofs.OfferRuns.{alert_of, alerts_of, in-alerts, alert-records, taken-offer, not_taken, all-records, all-shaped, runs, carried-by}

-- ---- offers to empty boards

empty : (b : List ℕ) → Empty b → board.Empty b
empty b e = record { keeps = sym (board-same b) ∙ e.keeps; none = e.none }

members : (ms ms' : List (List ℕ)) → ((m : List ℕ) → In m ms → In m ms') → (a : Alert) → In a (alerts_of ms) → In a (alerts_of ms')
members ms ms' f a i = let w = (in-alerts ms a).0 i in (in-alerts ms' a).1 (w.0, f w.0 w.1, w.2, w.3)

same-records : (b b' : List ℕ) → Empty b → Empty b' → (ms ms' : List (List ℕ)) → ((m : List ℕ) → In m ms → In m ms') → ((m : List ℕ) → In m ms' → In m ms) →
    NoneFull library ms b → NoneFull library ms' b' → board_of (after_offers library ms b) ≡ board_of (after_offers library ms' b')
same-records b b' e e' ms ms' f g n n' =
    let r = runs ms b e.keeps n in
    let r' = runs ms' b' e'.keeps n' in
    ap board_of r.is
    ∙ bytes.same-records b b' (empty b e) (empty b' e') (alerts_of ms) (alerts_of ms') (all-records ms) (members ms ms' f) (members ms' ms g) r.taken r'.taken
    ∙ sym (ap board_of r'.is)

offers-keep : (ms : List (List ℕ)) (b : List ℕ) → is_board b ≡ true → is_board (after_offers library ms b) ≡ true
offers-keep [] b ok = ok
offers-keep (m ∷ ms) b ok = offers-keep ms (message_offer b m).bytes (offer-keeps b m ok).0

due-exactly : (b : List ℕ) → Empty b → (ms : List (List ℕ)) → NoneFull library ms b → (h : List ℕ) →
    In h (due_headers (board_of (after_offers library ms b))) ↔ CarriedBy ms h
due-exactly b e ms n h =
    let r = runs ms b e.keeps n in
    let d = bytes.due-after b (empty b e) (alerts_of ms) (all-records ms) r.taken (all-shaped ms) h in
    let c = carried-by ms h in
    let same : due (board_of (board.offers_to (alerts_of ms) b)) ≡ due_headers (board_of (after_offers library ms b))
    = ap (λ (x : List ℕ). due (board_of x)) (sym r.is) ∙ found-due (after_offers library ms b) (offers-keep ms b e.keeps) in
    subst (λ (l : List (List ℕ)). In h l ↔ CarriedBy ms h) same (λ i. c.0 (d.0 i), λ k. d.1 (c.1 k))

-- ---- hand-outs

-- the aired record of the first due header leaves the others due
due-next : (b : List (List ℕ)) (h : List ℕ) (hs : List (List ℕ)) → due b ≡ h ∷ hs → due (insert (aired h) b) ≡ hs
due-next b h hs e =
    sym (take_all m (due b') (omega arith))
    ∙ sym (lists.in_order cap m b' (omega (arith, (insert-length (aired h) b).1)))
    ∙ tail-eq_of_cons-eq (sym (ap (λ (x : ledger.After). x.given ++ ledger.hands cap m x.board) first) ∙ all)
    ∙ take_all m hs (omega arith)
  where
    b' : List (List ℕ)
    b' = insert (aired h) b

    m : ℕ
    m = length hs + length (due b')

    cap : ℕ
    cap = length b + suc m

    first : ledger.hand_out cap b ≡ record { board = b'; given = h ∷ [] }
    first = ap (ledger.hand_out_of cap b) e ∙ picked (leb (length b') cap) _ _ (le-leb (length b') cap (omega (arith, (insert-length (aired h) b).1)))

    all : ledger.hands cap (suc m) b ≡ take (suc m) (h ∷ hs)
    all = lists.in_order cap (suc m) b (omega arith) ∙ ap (take (suc m)) e

hands : (n : ℕ) (b : List ℕ) → is_board b ≡ true → hand_outs library n b ≡ take (min n (empties_in b)) (due_headers (board_of b))
hands zero b ok = sym (ap (λ (k : ℕ). take k (due_headers (board_of b))) (zero-min (empties_in b)))
hands (suc n) b ok = go (handed b) (hands n)
  where
    d : List (List ℕ)
    d = due_headers (board_of b)

    gave : calls.Handing → List (List ℕ)
    gave o = pick (eqb o.answer.number 0) (carried (get_or (board_of b) o.answer.index []) ∷ []) []

    stays : (k : ℕ) → eqb k 0 ≡ false → working-calls.hand_of b ≡ working-calls.hand_refused k b →
        header_given library b ++ hand_outs library n (working-calls.hand_of b).bytes ≡ hand_outs library n b
    stays k z e =
        ap (λ (o : calls.Handing). gave o ++ hand_outs library n o.bytes) e
        ∙ ap (λ (x : List (List ℕ)). x ++ hand_outs library n b) (passed_over (eqb k 0) _ [] z)

    go : Handed b → ((x : List ℕ) → is_board x ≡ true → hand_outs library n x ≡ take (min n (empties_in x)) (due_headers (board_of x)))
        → header_given library b ++ hand_outs library n (working-calls.hand_of b).bytes ≡ take (min (suc n) (empties_in b)) d
    go (Handed.bad f e) ih = absurd (true≢false (sym ok ∙ f))
    go (Handed.nothing _ f e) ih = stays 16 refl e ∙ ih b ok ∙ none (min n (empties_in b)) ∙ sym (none (min (suc n) (empties_in b)))
      where
        none : (k : ℕ) → take k d ≡ []
        none k = ap (take k) f ∙ take-nil k
    go (Handed.full _ h hs f l e) ih = stays 15 refl e ∙ ih b ok ∙ none n ∙ sym (none (suc n))
      where
        none : (k : ℕ) → take (min k (empties_in b)) d ≡ []
        none k = ap (λ (j : ℕ). take j d) (ap (min k) l ∙ min-zero k)
    go (Handed.handing g) ih =
        ap₂ ◌++◌ g.gives (ih b' g.left.keeps ∙ ap (take (min n (empties_in b'))) next)
        ∙ sym (
        ap₂ (λ (k : ℕ) (y : List (List ℕ)). take (min (suc n) k) y) g.room g.due-are
        ∙ ap (λ (k : ℕ). take k (g.first ∷ g.others)) (suc-min-suc n (empties_in b')))
      where
        b' : List ℕ
        b' = (working-calls.hand_of b).bytes

        next : due_headers (board_of b') ≡ g.others
        next = sym (found-due b' g.left.keeps) ∙ ap due g.left.holds ∙ due-next (board_of b) g.first g.others (found-due b ok ∙ g.due-are)

in_order : (b : List ℕ) → is_board b ≡ true → (n : ℕ) → hand_outs library n b ≡ take (min n (empties_in b)) (due_headers (board_of b))
in_order b ok n = hands n b ok

-- ---- any mixture

abbrev calls_of : List BoardCall → List ledger.Call
calls_of [] = []
calls_of (offers m ∷ cs) = pick (none_applies (taken_rows m)) (ledger.offered (alert_of m) ∷ calls_of cs) (calls_of cs)
calls_of (hands_out ∷ cs) = ledger.handed_out ∷ calls_of cs

call-records : (cs : List BoardCall) → ledger.Offered board.Ruled (calls_of cs)
call-records [] = tt
call-records (hands_out ∷ cs) = call-records cs
call-records (offers m ∷ cs) = go (none_applies (taken_rows m)) refl (call-records cs)
  where
    go : (t : Bool) → none_applies (taken_rows m) ≡ t → ledger.Offered board.Ruled (calls_of cs) →
        ledger.Offered board.Ruled (pick t (ledger.offered (alert_of m) ∷ calls_of cs) (calls_of cs))
    go true e r = (alert-records m e, r)
    go false e r = r

handed-is : (cs : List BoardCall) (b : List ℕ) → is_board b ≡ true → handed_out library cs b ≡ board.given_over (calls_of cs) b
handed-is [] b ok = refl
handed-is (hands_out ∷ cs) b ok = ap (λ (l : List (List ℕ)). header_given library b ++ l) (handed-is cs (working-calls.hand_of b).bytes (hand-out-keeps b ok).0)
handed-is (offers m ∷ cs) b ok = go (none_applies (taken_rows m)) refl (handed-is cs (message_offer b m).bytes (offer-keeps b m ok).0)
  where
    go : (t : Bool) → none_applies (taken_rows m) ≡ t → handed_out library cs (message_offer b m).bytes ≡ board.given_over (calls_of cs) (message_offer b m).bytes →
        handed_out library cs (message_offer b m).bytes ≡ board.given_over (pick t (ledger.offered (alert_of m) ∷ calls_of cs) (calls_of cs)) b
    go true e h = h ∙ ap (λ (o : MessageOffering). board.given_over (calls_of cs) o.bytes) (taken-offer m e b)
    go false e h = h ∙ ap (board.given_over (calls_of cs)) (not_taken b m e)

once_is : (l : List (List ℕ)) → ledger.Once l → Once l
once_is [] o = tt
once_is (h ∷ l) o = (o.0, once_is l o.1)

never-twice : (b : List ℕ) → Empty b → (cs : List BoardCall) → Once (handed_out library cs b)
never-twice b e cs =
    subst Once (sym (handed-is cs b e.keeps)) (once_is (board.given_over (calls_of cs) b) (bytes.once b (empty b e).keeps (calls_of cs) (call-records cs)))

-- ---- all of it

pub demand-3 : Demand3 library
demand-3 = record {
  offer-keeps = offer-keeps;
  hand-out-keeps = hand-out-keeps;
  offer-adds = offer-adds;
  added-is-growth = added-is-growth;
  taken-exactly = taken-exactly;
  hand-out-adds = hand-out-adds;
  hand-out-index = hand-out-index;
  list-rows = list-rows;
  on-board = on-board;
  same-records = same-records;
  due-exactly = due-exactly;
  in_order = in_order;
  never-twice = never-twice;
}
