-- The rules of a board, and a board as its filled records.
--     kept-rules, encode-ok           what the rules say, and back
--     board-bytes, board-encode       a board is its filled records and zeros
--     filled-counted, ascending-told   the rules judged record by record
use Prim.Native.Nat.{ℕ, zero, suc, ◌+◌, ◌*◌, ◌-◌, ◌/◌, ◌%◌, ◌≤◌, ◌<◌}
use mathlib.Core.Bool.{Bool, true, false, cond, not, ◌&&◌, true≢false}
use mathlib.Core.Path.{◌≡◌, refl, sym, ap, ap₂, ◌∙◌}
use mathlib.Core.Logic.{inl, inr}
use mathlib.Core.List.{List, [], ◌∷◌, ◌++◌, append-nil}
use native.Mathlib.Nat.{le_refl}
use native.Mathlib.Numerals.{add-one, one-add}
use native.Mathlib.Omega.{arith}
use lib.Dec.{eqb}
use lib.ListN.{length, get_or, take, drop, replicate, length-append, length-replicate, length-drop, take-append-drop}
use lib.Seq.{drop-drop, drop_at, take_all}
use borrow.Author.Tests.{eq-eqb, ne_eqb, eqb-true}
use Rattle.std.specs.List.{prefix_len, IsAllAdjacentAnswer}
use Rattle.std.specs.Ordering.{is_lt}
use Rattle.std.specs.Simd.{first_chunks}
use Rattle.std.specs.declared.cmp.Ordering.{Ordering}
use Rattle.std.specs.declared.cmp.Ordering.TheVariants.{Less, Equal, Greater}
use Rattle.octets.specs.Bytes.{pick, every, between}
use Rattle.octets.specs.Order.{cmp, choose}
use Rattle.octets.proofs.Tests.{and_left, and_right, each_of, every_of, one-fails, every-right, between-low, between-high, between_is}
use Rattle.octets.proofs.Everys.{last-decides}
use Rattle.records.specs.Record.{kind, zeros, record_ok}
use Rattle.records.proofs.Records.{record-long, record-kind}
use Rattle.records.proofs.ZeroFill.{zeros-made, zeros-are}
use Rattle.ledger.specs.Sorted.{In, Sorted, ascending}
use Rattle.ledger.proofs.Sorts.{ascending-sorted, sorted-ascending, every_in, in-every}
use Rattle.slots.specs.WorkingSlots.{flat}
use Rattle.slots.specs.Slots.{recs}
use Rattle.slots.proofs.Records.{recs-length, recs-chunks, recs-more, recs-flat, flat-length, flat-all}
use Rattle.board.specs.WorkingRules.{Records, board_tests, board_ok, encode}
use Rattle.board.specs.Rules.{filled_of, board_of}

-- ---- the filled records

filled_within : (l : List (List ℕ)) → length (filled_of l) ≤ length l
filled_within [] = omega arith
filled_within (r ∷ l) = go (eqb (kind r) 0) (filled_within l)
  where
    go : (t : Bool) → length (filled_of l) ≤ length l → length (pick t [] (r ∷ filled_of l)) ≤ suc (length l)
    go true h = omega arith
    go false h = omega arith

pub board-within : (s : List ℕ) → length (board_of s) * 384 ≤ length s
unfolding board_of
board-within s = omega (arith, filled_within (recs (length s / 384) s), recs-length (length s / 384) s)

filled-recs : (m : ℕ) (s : List ℕ) → recs (length (filled_of (recs m s))) s ≡ filled_of (recs m s)
filled-recs zero s = refl
filled-recs (suc m) s = go (eqb (kind (take 384 s)) 0) (filled-recs m (drop 384 s))
  where
    go : (t : Bool) → recs (length (filled_of (recs m (drop 384 s)))) (drop 384 s) ≡ filled_of (recs m (drop 384 s))
        → recs (length (pick t [] (take 384 s ∷ filled_of (recs m (drop 384 s))))) s ≡ pick t [] (take 384 s ∷ filled_of (recs m (drop 384 s)))
    go true ih = refl
    go false ih = ap (λ (l : List (List ℕ)). take 384 s ∷ l) ih

pub board-recs : (s : List ℕ) (n : ℕ) → n ≡ length (board_of s) → recs n s ≡ board_of s
unfolding board_of
board-recs s n e = ap (λ (k : ℕ). recs k s) e ∙ filled-recs (length s / 384) s

-- ---- the rules judged record by record

-- those before the first empty one
filled-taken : (l : List (List ℕ)) → take (prefix_len (λ r. not (eqb (kind r) 0)) l) l ≡ filled_of l
filled-taken [] = refl
filled-taken (r ∷ l) = go (eqb (kind r) 0) (filled-taken l)
  where
    go : (t : Bool) → take (prefix_len (λ r. not (eqb (kind r) 0)) l) l ≡ filled_of l → take (cond (not t) (1 + prefix_len (λ r. not (eqb (kind r) 0)) l) 0) (r ∷ l) ≡ pick t [] (r ∷ filled_of l)
    go true h = refl
    go false h = rw one-add (ap (λ (k : List (List ℕ)). r ∷ k) h)

pub filled-counted : (s : List ℕ) → length (take (prefix_len (λ r. not (eqb (kind r) 0)) (first_chunks 384 (length s / 384) s)) (first_chunks 384 (length s / 384) s)) ≡ length (board_of s)
unfolding board_of
filled-counted s = ap length (filled-taken (first_chunks 384 (length s / 384) s) ∙ ap filled_of (recs-chunks (length s / 384) s))

-- each is before the next, as a test of neighbours tells
pub ascending-told : (l : List (List ℕ)) (r : Bool) → IsAllAdjacentAnswer (λ x y b. b ≡ is_lt (cmp x y)) l r → r ≡ ascending l
ascending-told [] true h = refl
ascending-told [] false h = absurd (let k : h.0 + 1 < 0 = h.1 in omega arith)
ascending-told (x ∷ []) true h = refl
ascending-told (x ∷ []) false h = absurd (let k : h.0 + 1 < 1 = h.1 in omega arith)
ascending-told (x ∷ (y ∷ l)) true h = all (cmp x y) (h 0 [] (omega arith)) (ascending-told (y ∷ l) true (λ k d b. rw (add-one k) (rw (add-one (suc k)) at (h (suc k) d (omega arith)))))
  where
    all : (o : Ordering) → true ≡ is_lt o → true ≡ ascending (y ∷ l) → true ≡ choose o (ascending (y ∷ l)) false false
    all Less e q = q
    all Equal e q = e
    all Greater e q = e
ascending-told (x ∷ (y ∷ l)) false h = one h.0 h.1 h.2 (ascending-told (y ∷ l) false)
  where
    first : (o : Ordering) → false ≡ is_lt o → false ≡ choose o (ascending (y ∷ l)) false false
    first Less e = absurd (true≢false (sym e))
    first Equal e = refl
    first Greater e = refl

    later : (o : Ordering) → false ≡ ascending (y ∷ l) → false ≡ choose o (ascending (y ∷ l)) false false
    later Less q = q
    later Equal q = refl
    later Greater q = refl

    one : (k : ℕ) → k + 1 < length (x ∷ (y ∷ l)) → ((d : List ℕ) → false ≡ is_lt (cmp (get_or (x ∷ (y ∷ l)) k d) (get_or (x ∷ (y ∷ l)) (k + 1) d)))
        → (IsAllAdjacentAnswer (λ x y b. b ≡ is_lt (cmp x y)) (y ∷ l) false → false ≡ ascending (y ∷ l)) → false ≡ ascending (x ∷ (y ∷ l))
    one zero b f q = first (cmp x y) (f [])
    one (suc k) b f q = later (cmp x y) (q (k, omega arith, λ d. rw (add-one k) (rw (add-one (suc k)) at (f d))))

-- what is left of a slice from index k on
pub tail_all : (k : ℕ) (s : List ℕ) → take (length s - k) (drop k s) ≡ drop k s
tail_all k s = take_all (length s - k) (drop k s) (rw length-drop (le_refl (length s - k)))

-- one test fails; and where all before the last hold, it decides
pub board-broken : (i : ℕ) (s : List ℕ) → get_or (board_tests s) i true ≡ false → false ≡ board_ok s
unfolding board_ok
board-broken i s h = sym (one-fails i (board_tests s) h)

pub board-rest : (s : List ℕ) (n : ℕ) (z : Bool) → n ≡ length (board_of s) → 384 ≤ length s → length s ≤ 65280 → length s % 384 ≡ 0
    → true ≡ ascending (recs n s) → true ≡ every record_ok (recs n s) → z ≡ zeros (drop (n * 384) s) → z ≡ board_ok s
unfolding board_ok
board-rest s n z is low high whole a r e =
    e
    ∙ ap (λ (k : ℕ). zeros (drop (k * 384) s)) is
    ∙ sym (
    last-decides (between 384 65280 (length s) ∷ eqb (length s % 384) 0 ∷ ascending (board_of s) ∷ every record_ok (board_of s) ∷ []) (zeros (drop (length (board_of s) * 384) s))
    (between_is 384 65280 (length s) low high, (eq-eqb (length s % 384) 0 whole, (ap ascending (sym (board-recs s n is)) ∙ sym a, (ap (every record_ok) (sym (board-recs s n is)) ∙ sym r, tt)))))

-- ---- what the rules say

-- the rules of the length hold; v is what the first two of the others say
module _ (s : List ℕ) (n : ℕ) (is : n ≡ length (board_of s)) where
  pub within : n * 384 ≤ length s
  within = omega (arith, is, board-within s)

  module _ (v : Bool) (both : v ≡ (ascending (recs n s) && every record_ok (recs n s))) where
    pub rules-last : v ≡ true → 384 ≤ length s → length s ≤ 65280 → length s % 384 ≡ 0 → (z : Bool) → z ≡ zeros (take (length s - n * 384) (drop (n * 384) s)) → z ≡ board_ok s
    rules-last h low high whole z e =
        let t = sym both ∙ h in
        board-rest s n z is low high whole (sym (and_left _ _ t)) (sym (and_right _ _ t)) (e ∙ ap zeros (tail_all (n * 384) s))

    pub rules-broken : v ≡ false → v ≡ board_ok s
    rules-broken h = h ∙ go (ascending (recs n s)) refl (every record_ok (recs n s)) refl (sym both ∙ h)
      where
        go : (a : Bool) → ascending (recs n s) ≡ a → (r : Bool) → every record_ok (recs n s) ≡ r → (a && r) ≡ false → false ≡ board_ok s
        go true e true f q = absurd (true≢false q)
        go true e false f q = board-broken 3 s (ap (every record_ok) (sym (board-recs s n is)) ∙ f)
        go false e r f q = board-broken 2 s (ap ascending (sym (board-recs s n is)) ∙ e)

pub record Kept (s : List ℕ) : Type 0 where
  pub low : 384 ≤ length s
  pub high : length s ≤ 65280
  pub whole : length s % 384 ≡ 0
  pub order : Sorted (board_of s)
  pub each : Records (board_of s)
  pub rest : zeros (drop (length (board_of s) * 384) s) ≡ true

pub kept-rules : (s : List ℕ) → board_ok s ≡ true → Kept s
unfolding board_ok
kept-rules s h =
    let w = each_of (board_tests s) h in
    record {
      low = between-low 384 65280 (length s) w.0;
      high = between-high 384 65280 (length s) w.0;
      whole = eqb-true (length s % 384) 0 w.1.0;
      order = ascending-sorted (board_of s) w.1.1.0;
      each = every_in record_ok (board_of s) w.1.1.1.0;
      rest = w.1.1.1.1.0;
    }

-- ---- a board is its filled records and zeros

long : (b : List (List ℕ)) → Records b → (r : List ℕ) → In r b → length r ≡ 384
long b w r m = record-long r (w r m)

flat-long : (b : List (List ℕ)) → Records b → length (flat b) ≡ length b * 384
flat-long b w = flat-length b (long b w)

pub encode-long : (n : ℕ) (b : List (List ℕ)) → Records b → length b * 384 ≤ n → length (encode n b) ≡ n
unfolding encode
encode-long n b w h = omega (arith, length-append (flat b) (replicate (n - length b * 384) 0), flat-long b w, length-replicate {A = ℕ} (n - length b * 384) 0)

filled-append : (l m : List (List ℕ)) → Records l → filled_of (l ++ m) ≡ l ++ filled_of m
filled-append [] m w = refl
filled-append (r ∷ l) m w =
    ap (λ (t : Bool). pick t [] (r ∷ filled_of (l ++ m))) (ne_eqb (kind r) 0 (λ e. let k = record-kind r (w r (inl refl)) in omega arith))
    ∙ ap (λ (x : List (List ℕ)). r ∷ x) (filled-append l m (λ x k. w x (inr k)))

filled_none : (d m : ℕ) → filled_of (recs d (replicate m 0)) ≡ []
filled_none zero m = refl
filled_none (suc d) zero = refl
filled_none (suc d) (suc m) = refl

pub board-encode : (n : ℕ) (b : List (List ℕ)) → Records b → length b * 384 ≤ n → n % 384 ≡ 0 → board_of (encode n b) ≡ b
unfolding board_of
board-encode n b w h e =
    ap (λ (k : ℕ). filled_of (recs k (encode n b))) (let q : length (encode n b) / 384 ≡ length b + (n / 384 - length b) = omega (arith, encode-long n b w h) in q)
    ∙ ap filled_of (recs-more (length b) (n / 384 - length b) (encode n b) ∙ ap₂ ◌++◌ front back)
    ∙ filled-append b (recs (n / 384 - length b) (replicate (n - length b * 384) 0)) w
    ∙ ap (λ (x : List (List ℕ)). b ++ x) (filled_none (n / 384 - length b) (n - length b * 384))
    ∙ append-nil b
  where
    front : recs (length b) (encode n b) ≡ b
    front = unfold encode in (recs-flat b (replicate (n - length b * 384) 0) (long b w))

    back : recs (n / 384 - length b) (drop (length b * 384) (encode n b)) ≡ recs (n / 384 - length b) (replicate (n - length b * 384) 0)
    back = unfold encode in (ap (recs (n / 384 - length b)) (drop_at (flat b) (replicate (n - length b * 384) 0) (length b * 384) (flat-long b w)))

pub board-bytes : (s : List ℕ) → board_ok s ≡ true → s ≡ encode (length s) (board_of s)
unfolding encode
board-bytes s h =
    sym (take-append-drop (length (board_of s) * 384) s)
    ∙ ap₂ ◌++◌ (sym (flat-all (length (board_of s)) s) ∙ ap flat (board-recs s (length (board_of s)) refl)) (zeros-are (drop (length (board_of s) * 384) s) (length s - length (board_of s) * 384) (length-drop (length (board_of s) * 384) s) (kept-rules s h).rest)

pub encode-ok : (n : ℕ) (b : List (List ℕ)) → 384 ≤ n → n ≤ 65280 → n % 384 ≡ 0 → Sorted b → Records b → length b * 384 ≤ n → board_ok (encode n b) ≡ true
unfolding board_ok
encode-ok n b low high whole s w h =
    let is : board_of (encode n b) ≡ b = board-encode n b w h whole in
    let l : length (encode n b) ≡ n = encode-long n b w h in
    every_of (board_tests (encode n b)) (
      between_is 384 65280 (length (encode n b)) (omega arith) (omega arith),
      (
        eq-eqb (length (encode n b) % 384) 0 (ap (λ (k : ℕ). k % 384) l ∙ whole),
        (
          ap ascending is ∙ sorted-ascending b s,
          (
            ap (every record_ok) is ∙ in-every record_ok b w,
            (ap (λ (x : List (List ℕ)). zeros (drop (length x * 384) (encode n b))) is ∙ rest, tt),
          ),
        ),
      ),
    )
  where
    rest : zeros (drop (length b * 384) (encode n b)) ≡ true
    rest = unfold encode in (ap zeros (drop_at (flat b) (replicate (n - length b * 384) 0) (length b * 384) (flat-long b w)) ∙ zeros-made (n - length b * 384))

-- records put over the start of a board, with the board's own zeros behind them
pub encoded : (s : List ℕ) (c : List (List ℕ)) → board_ok s ≡ true → length (board_of s) ≤ length c → flat c ++ drop (length c * 384) s ≡ encode (length s) c
unfolding encode
encoded s c h le = ap (λ (z : List ℕ). flat c ++ z) (zeros-are (drop (length c * 384) s) (length s - length c * 384) (length-drop (length c * 384) s) rest)
  where
    rest : zeros (drop (length c * 384) s) ≡ true
    rest =
        let from : ℕ = length (board_of s) * 384 in
        let more : ℕ = (length c - length (board_of s)) * 384 in
        ap (λ (k : ℕ). zeros (drop k s)) (let q : length c * 384 ≡ from + more = omega arith in q)
        ∙ ap zeros (sym (drop-drop more from s))
        ∙ every-right _ (take more (drop from s)) (drop more (drop from s)) (ap zeros (take-append-drop more (drop from s)) ∙ (kept-rules s h).rest)
