-- A board that keeps the rules keeps them over every call, and its filled records are those that the ledger gives.
--     offer-keeps, hand-out-keeps    the rules
--     offer-board, hand-board        the filled records
--     hand-gives, hand-stays         the header that is handed out, and its notice
use Prim.Native.Nat.{ℕ, ◌*◌, ◌-◌, ◌/◌, ◌≤◌, ◌<◌}
use mathlib.Core.Bool.{true}
use mathlib.Core.Path.{◌≡◌, refl, sym, ap, ◌∙◌, subst}
use mathlib.Core.Logic.{inl, ⊎_elim}
use mathlib.Core.List.{List, [], ◌∷◌}
use native.Mathlib.Decide.{dec_lt}
use native.Mathlib.Omega.{arith}
use lib.Dec.{leb, eqb}
use lib.ListN.{length, get_or}
use borrow.Author.Tests.{le-leb, lt-leb}
use Rattle.octets.specs.Bytes.{pick}
use Rattle.octets.proofs.Tests.{picked, passed_over}
use Rattle.records.specs.Record.{kind, carried, aired, record_ok}
use Rattle.records.proofs.Records.{kind-aired}
use Rattle.records.proofs.Carried.{airs-ok}
use Rattle.ledger.specs.Sorted.{In, insert, insert_all}
use Rattle.ledger.specs.WorkingBoard.{live, due, Due, index_of, After, hand_out_of, hand_out}
use Rattle.ledger.proofs.Sorts.{in_insert, in-insert_all, insert-sorted, insert_all-sorted, insert-behind}
use Rattle.ledger.proofs.Dues.{in-due, live-is, in-headers, later-kind}
use Rattle.ledger.proofs.Scans.{carries-is, index-get}
use Rattle.board.specs.WorkingRules.{Records, board_ok, encode}
use Rattle.board.specs.Rules.{board_of}
use Rattle.board.specs.WorkingCalls.{Offering, offer_refused, offer_to, offer_of, hand_refused, hand_to, hand_of}
use Rattle.board.specs.Calls.{Handing}
use Rattle.board.specs.WorkingRuns.{given_by}
use Rattle.board.proofs.Boards.{kept-rules, board-encode, encode-long, encode-ok}
use Rattle.board.proofs.Answers.{offer-to, hand-to}

-- ---- other records in the place of a board's own

module _ (s : List ℕ) (ok : board_ok s ≡ true) (c : List (List ℕ)) (w : Records c) (room : length c ≤ length s / 384) where
  fits : length c * 384 ≤ length s
  fits = omega (arith, (kept-rules s ok).whole)

  pub put-long : length (encode (length s) c) ≡ length s
  put-long = encode-long (length s) c w fits

  pub put-board : board_of (encode (length s) c) ≡ c
  put-board = board-encode (length s) c w fits (kept-rules s ok).whole

-- ---- an offer

-- it is taken, or there is no room
pub data Offer (s : List ℕ) (rs : List (List ℕ)) : Type 0 where
  taken : length (insert_all rs (board_of s)) ≤ length s / 384
      → offer_of s rs ≡ record { answer = record { number = 0; added = length (insert_all rs (board_of s)) - length (board_of s) }; bytes = encode (length s) (insert_all rs (board_of s)) } → Offer s rs
  full : length s / 384 < length (insert_all rs (board_of s)) → offer_of s rs ≡ offer_refused 15 s → Offer s rs

pub offer-is : (s : List ℕ) (rs : List (List ℕ)) → board_ok s ≡ true → Offer s rs
offer-is s rs ok = go (dec_lt (length s / 384) (length (insert_all rs (board_of s))))
  where
    to : offer_of s rs ≡ offer_to s (board_of s) (insert_all rs (board_of s))
    to = offer-to s rs (length (board_of s)) refl ok

    go : Dec (length s / 384 < length (insert_all rs (board_of s))) → Offer s rs
    go (yes h) = full h (to ∙ passed_over (leb (length (insert_all rs (board_of s)) * 384) (length s)) _ (offer_refused 15 s) (lt-leb (length (insert_all rs (board_of s)) * 384) (length s) (omega arith)))
    go (no h) = taken (omega arith) (to ∙ picked (leb (length (insert_all rs (board_of s)) * 384) (length s)) _ (offer_refused 15 s) (le-leb (length (insert_all rs (board_of s)) * 384) (length s) (omega arith)))

module _ (s : List ℕ) (rs : List (List ℕ)) (ok : board_ok s ≡ true) (w : Records rs) where
  with-them : Records (insert_all rs (board_of s))
  with-them r m = ⊎_elim (λ k. w r k) (λ k. (kept-rules s ok).each r k) ((in-insert_all r rs (board_of s)).0 m)

  pub offer-keeps : board_ok (offer_of s rs).bytes ≡ true
  offer-keeps = go (offer-is s rs ok)
    where
      go : Offer s rs → board_ok (offer_of s rs).bytes ≡ true
      go (full h e) = ap (λ (x : Offering). board_ok x.bytes) e ∙ ok
      go (taken h e) =
          let k = kept-rules s ok in
          let b = insert_all rs (board_of s) in
          ap (λ (x : Offering). board_ok x.bytes) e ∙ encode-ok (length s) b k.low k.high k.whole (insert_all-sorted rs (board_of s) k.order) with-them (fits s ok b with-them h)

  pub offer-long : length (offer_of s rs).bytes ≡ length s
  offer-long = go (offer-is s rs ok)
    where
      go : Offer s rs → length (offer_of s rs).bytes ≡ length s
      go (full h e) = ap (λ (x : Offering). length x.bytes) e
      go (taken h e) = ap (λ (x : Offering). length x.bytes) e ∙ put-long s ok (insert_all rs (board_of s)) with-them h

  -- all of the records, or none
  pub offer-board : board_of (offer_of s rs).bytes ≡ pick (leb (length (insert_all rs (board_of s))) (length s / 384)) (insert_all rs (board_of s)) (board_of s)
  offer-board = go (offer-is s rs ok)
    where
      go : Offer s rs → board_of (offer_of s rs).bytes ≡ pick (leb (length (insert_all rs (board_of s))) (length s / 384)) (insert_all rs (board_of s)) (board_of s)
      go (full h e) = ap (λ (x : Offering). board_of x.bytes) e ∙ sym (passed_over (leb (length (insert_all rs (board_of s))) (length s / 384)) _ _ (lt-leb (length (insert_all rs (board_of s))) (length s / 384) h))
      go (taken h e) = ap (λ (x : Offering). board_of x.bytes) e ∙ put-board s ok (insert_all rs (board_of s)) with-them h ∙ sym (picked (leb (length (insert_all rs (board_of s))) (length s / 384)) _ _ (le-leb (length (insert_all rs (board_of s))) (length s / 384) h))

  pub offer-room : (offer_of s rs).answer.number ≡ 0 → length (insert_all rs (board_of s)) ≤ length s / 384
  offer-room z = go (offer-is s rs ok)
    where
      go : Offer s rs → length (insert_all rs (board_of s)) ≤ length s / 384
      go (taken h e) = h
      go (full h e) = absurd (let q : 15 ≡ 0 = sym (ap (λ (x : Offering). x.answer.number) e) ∙ z in omega arith)

-- ---- a hand-out

-- nothing is due, or there is no room, or the first due header is given
pub data Hand (s : List ℕ) : Type 0 where
  nothing : due (board_of s) ≡ [] → hand_of s ≡ hand_refused 16 s → Hand s
  full : (h : List ℕ) (hs : List (List ℕ)) → due (board_of s) ≡ h ∷ hs → length s / 384 < length (insert (aired h) (board_of s)) → hand_of s ≡ hand_refused 15 s → Hand s
  given : (h : List ℕ) (hs : List (List ℕ)) → due (board_of s) ≡ h ∷ hs → length (insert (aired h) (board_of s)) ≤ length s / 384
      → hand_of s ≡ record { answer = record { number = 0; index = index_of (live (board_of s)) h (board_of s) }; bytes = encode (length s) (insert (aired h) (board_of s)) } → Hand s

pub hand-is : (s : List ℕ) → board_ok s ≡ true → Hand s
hand-is s ok = go (due (board_of s)) refl
  where
    to : (d : List (List ℕ)) → due (board_of s) ≡ d → hand_of s ≡ hand_to s (board_of s) d
    to = hand-to s (length (board_of s)) refl ok

    by : (h : List ℕ) (hs : List (List ℕ)) → due (board_of s) ≡ h ∷ hs → Dec (length s / 384 < length (insert (aired h) (board_of s))) → Hand s
    by h hs f (yes l) = full h hs f l (to (h ∷ hs) f ∙ passed_over (leb (length (insert (aired h) (board_of s)) * 384) (length s)) _ (hand_refused 15 s) (lt-leb (length (insert (aired h) (board_of s)) * 384) (length s) (omega arith)))
    by h hs f (no l) = given h hs f (omega arith) (to (h ∷ hs) f ∙ picked (leb (length (insert (aired h) (board_of s)) * 384) (length s)) _ (hand_refused 15 s) (le-leb (length (insert (aired h) (board_of s)) * 384) (length s) (omega arith)))

    go : (d : List (List ℕ)) → due (board_of s) ≡ d → Hand s
    go [] f = nothing f (to [] f)
    go (h ∷ hs) f = by h hs f (dec_lt (length s / 384) (length (insert (aired h) (board_of s))))

module _ (s : List ℕ) (ok : board_ok s ≡ true) where
  -- a due header's aired record keeps its rules
  airs : (h : List ℕ) → Due (board_of s) h → record_ok (aired h) ≡ true
  airs h d = subst (λ (x : List ℕ). record_ok (aired x) ≡ true) d.carries (airs-ok d.by ((kept-rules s ok).each d.by d.held) d.is-notice)

  is-due : (h : List ℕ) (hs : List (List ℕ)) → due (board_of s) ≡ h ∷ hs → Due (board_of s) h
  is-due h hs f = (in-due (board_of s) h).0 (subst (In h) (sym f) (inl refl))

  with_it : (h : List ℕ) (hs : List (List ℕ)) → due (board_of s) ≡ h ∷ hs → Records (insert (aired h) (board_of s))
  with_it h hs f r m = ⊎_elim (λ p. subst (λ (x : List ℕ). record_ok x ≡ true) (sym p) (airs h (is-due h hs f))) (λ k. (kept-rules s ok).each r k) ((in_insert r (aired h) (board_of s)).0 m)

  pub hand-out-keeps : board_ok (hand_of s).bytes ≡ true
  hand-out-keeps = go (hand-is s ok)
    where
      go : Hand s → board_ok (hand_of s).bytes ≡ true
      go (nothing f e) = ap (λ (x : Handing). board_ok x.bytes) e ∙ ok
      go (full h hs f l e) = ap (λ (x : Handing). board_ok x.bytes) e ∙ ok
      go (given h hs f l e) =
          let k = kept-rules s ok in
          let b = insert (aired h) (board_of s) in
          let w = with_it h hs f in
          ap (λ (x : Handing). board_ok x.bytes) e ∙ encode-ok (length s) b k.low k.high k.whole (insert-sorted (aired h) (board_of s) k.order) w (fits s ok b w l)

  pub hand-long : length (hand_of s).bytes ≡ length s
  hand-long = go (hand-is s ok)
    where
      go : Hand s → length (hand_of s).bytes ≡ length s
      go (nothing f e) = ap (λ (x : Handing). length x.bytes) e
      go (full h hs f l e) = ap (λ (x : Handing). length x.bytes) e
      go (given h hs f l e) = ap (λ (x : Handing). length x.bytes) e ∙ put-long s ok (insert (aired h) (board_of s)) (with_it h hs f) l

  to-ledger : (d : List (List ℕ)) → due (board_of s) ≡ d → hand_out (length s / 384) (board_of s) ≡ hand_out_of (length s / 384) (board_of s) d
  to-ledger d f = ap (hand_out_of (length s / 384) (board_of s)) f

  full-ledger : (h : List ℕ) (hs : List (List ℕ)) → due (board_of s) ≡ h ∷ hs → length s / 384 < length (insert (aired h) (board_of s)) → hand_out (length s / 384) (board_of s) ≡ record { board = board_of s; given = [] }
  full-ledger h hs f l = to-ledger (h ∷ hs) f ∙ passed_over (leb (length (insert (aired h) (board_of s))) (length s / 384)) _ _ (lt-leb (length (insert (aired h) (board_of s))) (length s / 384) l)

  given-ledger : (h : List ℕ) (hs : List (List ℕ)) → due (board_of s) ≡ h ∷ hs → length (insert (aired h) (board_of s)) ≤ length s / 384 → hand_out (length s / 384) (board_of s) ≡ record { board = insert (aired h) (board_of s); given = h ∷ [] }
  given-ledger h hs f l = to-ledger (h ∷ hs) f ∙ picked (leb (length (insert (aired h) (board_of s))) (length s / 384)) _ _ (le-leb (length (insert (aired h) (board_of s))) (length s / 384) l)

  pub hand-board : board_of (hand_of s).bytes ≡ (hand_out (length s / 384) (board_of s)).board
  hand-board = go (hand-is s ok)
    where
      go : Hand s → board_of (hand_of s).bytes ≡ (hand_out (length s / 384) (board_of s)).board
      go (nothing f e) = ap (λ (x : Handing). board_of x.bytes) e ∙ sym (ap (λ (x : After). x.board) (to-ledger [] f))
      go (full h hs f l e) = ap (λ (x : Handing). board_of x.bytes) e ∙ sym (ap (λ (x : After). x.board) (full-ledger h hs f l))
      go (given h hs f l e) = ap (λ (x : Handing). board_of x.bytes) e ∙ put-board s ok (insert (aired h) (board_of s)) (with_it h hs f) l ∙ sym (ap (λ (x : After). x.board) (given-ledger h hs f l))

  -- the index of a due header is that of a notice that carries it
  at-index : (h : List ℕ) → Due (board_of s) h → (index_of (live (board_of s)) h (board_of s) < length (board_of s)) × (kind (get_or (board_of s) (index_of (live (board_of s)) h (board_of s)) []) ≡ 1) × (carried (get_or (board_of s) (index_of (live (board_of s)) h (board_of s)) []) ≡ h)
  at-index h d =
      let b : List (List ℕ) = board_of s in
      let l : live b d.by ≡ true = (live-is b d.by).1 ((d.is-notice, d.not-withdrawn), subst (λ (x : List ℕ). In (aired x) b → ⊥) (sym d.carries) d.not-aired) in
      let w = index-get (live b) h b ((in-headers (live b) h b).1 (d.by, d.held, l, d.carries)) in
      let v = (carries-is (live b) h (get_or b (index_of (live b) h b) [])).0 w.1 in
      (w.0, ((live-is b (get_or b (index_of (live b) h b) [])).0 v.0).0.0, v.1)

  abbrev gives : Handing → List (List ℕ)
  gives x = pick (eqb x.answer.number 0) (carried (get_or (board_of s) x.answer.index []) ∷ []) []

  pub hand-gives : given_by s ≡ (hand_out (length s / 384) (board_of s)).given
  hand-gives = go (hand-is s ok)
    where
      go : Hand s → given_by s ≡ (hand_out (length s / 384) (board_of s)).given
      go (nothing f e) = ap gives e ∙ sym (ap (λ (x : After). x.given) (to-ledger [] f))
      go (full h hs f l e) = ap gives e ∙ sym (ap (λ (x : After). x.given) (full-ledger h hs f l))
      go (given h hs f l e) = ap gives e ∙ ap (λ (x : List ℕ). x ∷ []) (at-index h (is-due h hs f)).2 ∙ sym (ap (λ (x : After). x.given) (given-ledger h hs f l))

  -- the notice at the index answered stands there afterwards too
  pub hand-stays : (hand_of s).answer.number ≡ 0 → get_or (board_of (hand_of s).bytes) (hand_of s).answer.index [] ≡ get_or (board_of s) (hand_of s).answer.index []
  hand-stays z = go (hand-is s ok)
    where
      go : Hand s → get_or (board_of (hand_of s).bytes) (hand_of s).answer.index [] ≡ get_or (board_of s) (hand_of s).answer.index []
      go (nothing f e) = absurd (let q : 16 ≡ 0 = sym (ap (λ (x : Handing). x.answer.number) e) ∙ z in omega arith)
      go (full h hs f l e) = absurd (let q : 15 ≡ 0 = sym (ap (λ (x : Handing). x.answer.number) e) ∙ z in omega arith)
      go (given h hs f l e) =
          let b : List (List ℕ) = board_of s in
          let i : ℕ = index_of (live b) h b in
          let w = at-index h (is-due h hs f) in
          let q : kind (get_or b i []) < kind (aired h) = omega (arith, w.1, kind-aired h) in
          ap (λ (x : Handing). get_or (board_of x.bytes) x.answer.index []) e
          ∙ ap (λ (c : List (List ℕ)). get_or c i []) (put-board s ok (insert (aired h) b) (with_it h hs f) l)
          ∙ insert-behind (aired h) b i (kept-rules s ok).order w.0 (later-kind (aired h) (get_or b i []) q)
          ∙ sym (ap (λ (x : Handing). get_or b x.answer.index []) e)
