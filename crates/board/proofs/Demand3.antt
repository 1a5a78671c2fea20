-- Demand 3 of boards in bytes, as far as it can be said of ready records.
--     zeros-empty     zeros of a board's length are an empty board
--     same-records    offers of the same alerts to two empty boards of any sizes leave equal filled records
--     due-exactly     what is due on a board that began empty, whatever offers and hand-outs came since
--     due-after       and after offers alone
--     in_order        hand-outs, while there is room, give the due headers in byte order, each once
--     once            over any mixture of offers and hand-outs no header is handed out twice
use Prim.Native.Nat.{ℕ, zero, suc, ◌+◌, ◌*◌, ◌-◌, ◌/◌, ◌%◌, ◌≤◌}
use mathlib.Core.Bool.{Bool, true}
use mathlib.Core.Path.{◌≡◌, refl, sym, ap, ap₂, ◌∙◌, subst}
use mathlib.Core.Logic.{inl, inr, ◌↔◌}
use mathlib.Core.List.{List, [], ◌∷◌, ◌++◌, map}
use native.Mathlib.Omega.{arith}
use lib.Dec.{leb, eqb}
use lib.ListN.{length, take, replicate}
use borrow.Author.Tests.{le-leb, lt-leb}
use Rattle.octets.specs.Bytes.{pick}
use Rattle.records.specs.Record.{aired}
use Rattle.ledger.specs.Sorted.{In, Sorted, insert_all}
use Rattle.ledger.specs.WorkingBoard.{due, Alert, records, Shaped, Carried, offer, offers, Taken, hands, Call, offered, handed_out, step, given, ran, taken_by, taken_in, Offered, Once}
use Rattle.ledger.proofs.Dues.{due-sorted}
use Rattle.ledger.proofs.Taken as taken
use Rattle.ledger.proofs.Demand3 as ledger
use Rattle.board.specs.WorkingRules.{board_ok, encode}
use Rattle.board.specs.Rules.{board_of}
use Rattle.board.specs.WorkingCalls.{Offering, offer_of, hand_of}
use Rattle.board.specs.WorkingRuns.{Empty, Ruled, AllRuled, AllTaken, hands_from, step_to, step_gives, step_takes, after_calls, offers_to, given_over, taken_over}
use Rattle.board.proofs.Boards.{board-encode, encode-ok}
use Rattle.board.proofs.Keeps.{Offer, offer-is, offer-keeps, offer-long, offer-board, offer-room, hand-out-keeps, hand-long, hand-board, hand-gives}

-- ---- one call in bytes is one on lists

record Stepped (c : Call) (s : List ℕ) : Type 0 where
  keeps : board_ok (step_to c s) ≡ true
  long : length (step_to c s) ≡ length s
  board : board_of (step_to c s) ≡ (step (length s / 384) c (board_of s)).board
  gives : step_gives c s ≡ (step (length s / 384) c (board_of s)).given
  takes : step_takes c s ≡ taken_by (length s / 384) c (board_of s)

offer-takes : (s : List ℕ) (a : Alert) → board_ok s ≡ true → step_takes (offered a) s ≡ taken_by (length s / 384) (offered a) (board_of s)
offer-takes s a ok = go (offer-is s (records a) ok)
  where
    all : ℕ
    all = length (insert_all (records a) (board_of s))

    answers : (o : Offering) (t : Bool) → offer_of s (records a) ≡ o → leb all (length s / 384) ≡ t → pick (eqb o.answer.number 0) (a ∷ []) [] ≡ pick t (a ∷ []) []
        → step_takes (offered a) s ≡ taken_by (length s / 384) (offered a) (board_of s)
    answers o t e f same = ap (λ (x : Offering). pick (eqb x.answer.number 0) (a ∷ []) []) e ∙ same ∙ sym (ap (λ (x : Bool). pick x (a ∷ []) []) f)

    go : Offer s (records a) → step_takes (offered a) s ≡ taken_by (length s / 384) (offered a) (board_of s)
    go (Offer.taken h e) = answers _ _ e (le-leb all (length s / 384) h) refl
    go (Offer.full h e) = answers _ _ e (lt-leb all (length s / 384) h) refl

stepped-offer : (s : List ℕ) (a : Alert) → board_ok s ≡ true → Ruled a → Stepped (offered a) s
stepped-offer s a ok w = record {
  keeps = offer-keeps s (records a) ok w;
  long = offer-long s (records a) ok w;
  board = offer-board s (records a) ok w;
  gives = refl;
  takes = offer-takes s a ok;
}

stepped-hand : (s : List ℕ) → board_ok s ≡ true → Stepped handed_out s
stepped-hand s ok = record { keeps = hand-out-keeps s ok; long = hand-long s ok; board = hand-board s ok; gives = hand-gives s ok; takes = refl }

-- ---- a run of calls in bytes is one on lists

record Run (cs : List Call) (s : List ℕ) : Type 0 where
  board : board_of (after_calls cs s) ≡ ran (length s / 384) cs (board_of s)
  gives : given_over cs s ≡ given (length s / 384) cs (board_of s)
  takes : taken_over cs s ≡ taken_in (length s / 384) cs (board_of s)

run_on : (c : Call) (cs : List Call) (s : List ℕ) → Stepped c s → Run cs (step_to c s) → Run (c ∷ cs) s
run_on c cs s p r = record {
  board = r.board ∙ ap₂ (λ (n : ℕ) (b : List (List ℕ)). ran (n / 384) cs b) p.long p.board;
  gives = ap₂ ◌++◌ p.gives (r.gives ∙ ap₂ (λ (n : ℕ) (b : List (List ℕ)). given (n / 384) cs b) p.long p.board);
  takes = ap₂ ◌++◌ p.takes (r.takes ∙ ap₂ (λ (n : ℕ) (b : List (List ℕ)). taken_in (n / 384) cs b) p.long p.board);
}

runs : (cs : List Call) (s : List ℕ) → board_ok s ≡ true → Offered Ruled cs → Run cs s
runs [] s ok w = record { board = refl; gives = refl; takes = refl }
runs (offered a ∷ cs) s ok w = let p = stepped-offer s a ok w.0 in run_on (offered a) cs s p (runs cs (step_to (offered a) s) p.keeps w.1)
runs (handed_out ∷ cs) s ok w = let p = stepped-hand s ok in run_on handed_out cs s p (runs cs (step_to handed_out s) p.keeps w)

-- ---- offers that are all taken

offers-room : (l : List Alert) (s : List ℕ) → board_ok s ≡ true → AllRuled l → AllTaken l s → Taken (length s / 384) l (board_of s)
offers-room [] s ok w t = tt
offers-room (a ∷ l) s ok w t =
    let p = stepped-offer s a ok (w a (inl refl)) in (
      offer-room s (records a) ok (w a (inl refl)) t.0,
      subst (λ (n : ℕ). Taken (n / 384) l (offer (length s / 384) a (board_of s))) p.long
          (subst (Taken (length (step_to (offered a) s) / 384) l) p.board
          (offers-room l (step_to (offered a) s) p.keeps (λ x m. w x (inr m)) t.1)),
    )

all-taken : (l : List Alert) (s : List ℕ) → AllTaken l s → taken_over (map offered l) s ≡ l
all-taken [] s t = refl
all-taken (a ∷ l) s t = rw t.0 (ap (λ (x : List Alert). a ∷ x) (all-taken l (step_to (offered a) s) t.1))

-- from an empty board
module _ (s : List ℕ) (e : Empty s) (l : List Alert) (w : AllRuled l) (t : AllTaken l s) where
  empty-room : Taken (length s / 384) l []
  empty-room = subst (Taken (length s / 384) l) e.none (offers-room l s e.keeps w t)

  empty-board : board_of (offers_to l s) ≡ offers (length s / 384) l []
  empty-board = (runs (map offered l) s e.keeps (taken.offered-each Ruled l w)).board ∙ ap (offers (length s / 384) l) e.none

-- zeros of a board's length are an empty board
pub zeros-empty : (n : ℕ) → 384 ≤ n → n ≤ 65280 → n % 384 ≡ 0 → Empty (replicate n 0)
zeros-empty n low high whole = record {
  keeps = ap board_ok is ∙ encode-ok n [] low high whole tt (λ r m. absurd m) (omega arith);
  none = ap board_of is ∙ board-encode n [] (λ r m. absurd m) (omega arith) whole;
}
  where
    is : replicate n 0 ≡ encode n []
    is = unfold encode in (ap (λ (k : ℕ). replicate k 0) (let q : n ≡ n - 0 = omega arith in q))

-- ---- sentence 1

pub same-records : (s s' : List ℕ) → Empty s → Empty s' → (l l' : List Alert) → AllRuled l
    → ((a : Alert) → In a l → In a l') → ((a : Alert) → In a l' → In a l) → AllTaken l s → AllTaken l' s'
    → board_of (offers_to l s) ≡ board_of (offers_to l' s')
same-records s s' e e' l l' w f g t t' =
    let w' : AllRuled l' = λ a m. w a (g a m) in
    empty-board s e l w t
    ∙ ledger.same-board (length s / 384) (length s' / 384) l l' (empty-room s e l w t) (empty-room s' e' l' w' t') f g
    ∙ sym (empty-board s' e' l' w' t')

-- ---- sentence 2

pub due-exactly : (s : List ℕ) → Empty s → (cs : List Call) → Offered Ruled cs → Offered Shaped cs → (h : List ℕ) → (In (aired h) (board_of (after_calls cs s)) → ⊥)
    → In h (due (board_of (after_calls cs s))) ↔ Carried (taken_over cs s) h
due-exactly s e cs w shaped h na =
    let r = runs cs s e.keeps w in
    let is : board_of (after_calls cs s) ≡ ran (length s / 384) cs [] = r.board ∙ ap (ran (length s / 384) cs) e.none in
    let by : taken_over cs s ≡ taken_in (length s / 384) cs [] = r.takes ∙ ap (taken_in (length s / 384) cs) e.none in
    subst (λ (b : List (List ℕ)). In h (due b) ↔ Carried (taken_over cs s) h) (sym is)
    (subst (λ (l : List Alert). In h (due (ran (length s / 384) cs [])) ↔ Carried l h) (sym by)
    (taken.due-exactly (length s / 384) cs shaped h (subst (λ (b : List (List ℕ)). In (aired h) b → ⊥) is na)))

-- after offers alone nothing was aired
pub due-after : (s : List ℕ) → Empty s → (l : List Alert) → AllRuled l → AllTaken l s → ((a : Alert) → In a l → Shaped a)
    → (h : List ℕ) → In h (due (board_of (offers_to l s))) ↔ Carried l h
due-after s e l w t shaped h =
    subst (λ (x : List Alert). In h (due (board_of (offers_to l s))) ↔ Carried x h) (all-taken l s t)
    (due-exactly s e (map offered l) (taken.offered-each Ruled l w) (taken.offered-each Shaped l shaped) h
    (subst (λ (b : List (List ℕ)). In (aired h) b → ⊥) (sym (empty-board s e l w t)) (taken.airs-nothing (length s / 384) l [] h (λ m. m))))

-- ---- sentence 3

hands-board : (n : ℕ) (s : List ℕ) → board_ok s ≡ true → hands_from n s ≡ hands (length s / 384) n (board_of s)
hands-board zero s ok = refl
hands-board (suc n) s ok =
    ap₂ ◌++◌ (hand-gives s ok)
    (hands-board n (hand_of s).bytes (hand-out-keeps s ok)
    ∙ ap₂ (λ (m : ℕ) (b : List (List ℕ)). hands (m / 384) n b) (hand-long s ok) (hand-board s ok))

pub in_order : (s : List ℕ) → board_ok s ≡ true → (n : ℕ) → (length (board_of s) + n) * 384 ≤ length s → (hands_from n s ≡ take n (due (board_of s))) × Sorted (due (board_of s))
in_order s ok n room = (hands-board n s ok ∙ ledger.in_order (length s / 384) n (board_of s) (omega arith), due-sorted (board_of s))

-- ---- sentence 4

pub once : (s : List ℕ) → board_ok s ≡ true → (cs : List Call) → Offered Ruled cs → Once (given_over cs s)
once s ok cs w = subst Once (sym (runs cs s ok w).gives) (ledger.once (length s / 384) cs (board_of s))
