-- The due headers as a scan of the bytes finds them.
--     key-part                   the key of a record as a slice of the board
--     mark-at, each-mark         the marks of the live records
--     go_same .. go-by           the record that carries the first header, one record further
--     start-due                  the first header after none is the first due header
--     count-on                   the count of a header
--     stand-next, stand-end      its row behind the rows before it
use Prim.Native.Nat.{ℕ, zero, suc, ◌+◌, ◌*◌, ◌-◌, ◌≤◌, ◌<◌}
use mathlib.Core.Bool.{Bool, true, false, not}
use mathlib.Core.Path.{◌≡◌, refl, sym, ap, ap₂, ◌∙◌, subst}
use mathlib.Core.Logic.{inl, inr}
use mathlib.Core.List.{List, [], ◌∷◌, ◌++◌, map}
use native.Mathlib.Decide.{dec_lt}
use native.Mathlib.Nat.{zero-add}
use native.Mathlib.Numerals.{add-one}
use native.Mathlib.Omega.{arith}
use lib.Dec.{eqb}
use lib.ListN.{length, get_or, take, drop, set, drop_of_length-le, length-drop, length-map, length-set}
use lib.Seq.{sets, sets-eq, drop-drop, take_at}
use borrow.Author.Tests.{eq-eqb, ne_eqb}
use denote.Param.Members.{Mut}
use Rattle.std.specs.Array.{IsFromFnResultFrom}
use Rattle.std.specs.Fn.{Called}
use Rattle.std.specs.declared.cmp.Ordering.{Ordering}
use Rattle.std.specs.declared.cmp.Ordering.TheVariants.{Less, Equal, Greater}
use Rattle.octets.specs.Bytes.{pick, same}
use Rattle.octets.specs.Order.{cmp, choose}
use Rattle.octets.proofs.Tests.{every_of, one-fails}
use Rattle.octets.proofs.Everys.{last-decides}
use Rattle.records.specs.Record.{kind, key, withdrawal, aired, carried}
use Rattle.records.proofs.Carried.{carried-long}
use Rattle.ledger.specs.declared.Row.{Row}
use Rattle.ledger.specs.Sorted.{In, has}
use Rattle.ledger.specs.WorkingBoard.{unwithdrawn, live, ordered, due, carries, index_of, count_of, row_of, rows_of}
use Rattle.ledger.specs.WorkingScan.{after, best_of}
use Rattle.ledger.proofs.Dues.{in-due}
use Rattle.ledger.proofs.Scans.{Best, nothing, first, best, best-same, best-first, best-less, best-equal, best-more, after-start, after_next, row-index, row_count, ordered-length}
use Rattle.slots.specs.WorkingSlots.{rec}
use Rattle.slots.specs.Slots.{recs}
use Rattle.slots.proofs.Records.{recs-length, recs-get, recs-drop, recs-snoc, in-recs, rec-part}
use Rattle.board.specs.WorkingMarks.{Marks, Scanned}
use Rattle.std.specs.Prelude.{Option, Some, None, unwrap_or, IfSome}
use Rattle.std.specs.Ordering.{is_lt}
use Rattle.std.proofs.lemmas.Bool.{false≢true}

-- ---- the fields of record i

pub key-part : (s : List ℕ) (i : ℕ) → take (i * 384 + 133 - (i * 384 + 1)) (drop (i * 384 + 1) s) ≡ key (rec i s)
unfolding key
key-part s i = rec-part s i 1 132 (omega arith)

-- ---- live, test by test

pub not-a-notice : (b : List (List ℕ)) (r : List ℕ) → (kind r ≡ 1 → ⊥) → false ≡ live b r
unfolding live unwithdrawn
not-a-notice b r n = sym (one-fails 0 (unwithdrawn b r ∷ not (has (aired (carried r)) b) ∷ []) (one-fails 0 (eqb (kind r) 1 ∷ not (has (withdrawal (key r)) b) ∷ []) (ne_eqb (kind r) 1 n)))

pub is-withdrawn : (b : List (List ℕ)) (r : List ℕ) → has (withdrawal (key r)) b ≡ true → false ≡ live b r
unfolding live unwithdrawn
is-withdrawn b r w = sym (one-fails 0 (unwithdrawn b r ∷ not (has (aired (carried r)) b) ∷ []) (one-fails 1 (eqb (kind r) 1 ∷ not (has (withdrawal (key r)) b) ∷ []) (ap not w)))

pub live-by : (b : List (List ℕ)) (r : List ℕ) (t : Bool) → kind r ≡ 1 → has (withdrawal (key r)) b ≡ false → t ≡ has (aired (carried r)) b → not t ≡ live b r
unfolding live unwithdrawn
live-by b r t k w a = ap not a ∙ sym (last-decides (unwithdrawn b r ∷ []) (not (has (aired (carried r)) b)) (every_of (eqb (kind r) 1 ∷ not (has (withdrawal (key r)) b) ∷ []) (eq-eqb (kind r) 1 k, (ap not w, tt)), tt))

-- ---- marks

pub mark-at : (p : List ℕ → Bool) (s : List ℕ) (n i : ℕ) (marks : List Bool) → Marks p (recs n s) marks → i < n → get_or marks i false ≡ p (rec i s)
mark-at p s n i marks m h = m i (rw recs-length h) ∙ ap p (recs-get n i s h)

-- each mark is what its call answered, where a call leaves the closure as it was
pub each-mark : {F : Type 0} (g : Mut F (ℕ × Unit {0}) Bool) (P : ℕ → Bool → Type 0) (f : F) (marks : List Bool) → ((i : ℕ) (t : Bool) (q : F) → Called g f (i, tt) t q → (q ≡ f) × P i t)
    → (n i : ℕ) → IsFromFnResultFrom g f marks i n → (k : ℕ) → i ≤ k → k < i + n → P k (get_or marks k false)
each-mark g P f marks step zero i h k a b = absurd (omega arith)
each-mark {F} g P f marks step (suc n) i h k a b =
    go (dec_lt i k) (each-mark g P f marks step n (i + 1) (subst (λ (x : F). IsFromFnResultFrom g x marks (i + 1) n) (step i h.1 h.0 h.3).0 h.4) k)
  where
    go : Dec (i < k) → (i + 1 ≤ k → k < i + 1 + n → P k (get_or marks k false)) → P k (get_or marks k false)
    go (yes l) q = q (omega arith) (omega arith)
    go (no l) q = let e : i ≡ k = omega arith in subst (λ (j : ℕ). P j (get_or marks j false)) e (subst (P i) (sym (h.2.1 false)) (step i h.1 h.0 h.3).1)

pub marks-are : (p : List ℕ → Bool) (s : List ℕ) (n : ℕ) (marks : List Bool) → ((j : ℕ) → j < n → get_or marks j false ≡ p (rec j s)) → Marks p (recs n s) marks
marks-are p s n marks so i h = let k : i < n = rw (← recs-length n s) h in so i k ∙ ap p (sym (recs-get n i s k))

pub unmarked : (b : List (List ℕ)) (h r : List ℕ) → live b r ≡ false → false ≡ after b h r
unfolding after
unmarked b h r e = sym (one-fails 0 (live b r ∷ choose (cmp h (carried r)) true false false ∷ []) e)

pub marked : (b : List (List ℕ)) (h r : List ℕ) (o : Ordering) → live b r ≡ true → o ≡ cmp h (carried r) → is_lt o ≡ after b h r
unfolding after
marked b h r o e f = by o ∙ ap (λ (x : Ordering). choose x true false false) f ∙ sym (last-decides (live b r ∷ []) (choose (cmp h (carried r)) true false false) (e, tt))
  where
    by : (o : Ordering) → is_lt o ≡ choose o true false false
    by Less = refl
    by Equal = refl
    by Greater = refl

-- ---- the best of the first i records is j

module _ (p : List ℕ → Bool) (s : List ℕ) (n i j : ℕ) (pre : j ≡ best_of n p (recs i s)) (below : i < n) where
  next-is : best_of n p (recs i s ++ (rec i s ∷ [])) ≡ best_of n p (recs (i + 1) s)
  next-is = ap (best_of n p) (sym (ap (λ (k : ℕ). recs k s) (add-one i) ∙ recs-snoc i s))

  pub go_same : p (rec i s) ≡ false → j ≡ best_of n p (recs (i + 1) s)
  go_same e = pre ∙ best-same n p (recs i s) (rec i s) e ∙ next-is

  pub go-first : p (rec i s) ≡ true → j ≡ n → i ≡ best_of n p (recs (i + 1) s)
  go-first e q = go (best n p (recs i s))
    where
      go : Best n p (recs i s) → i ≡ best_of n p (recs (i + 1) s)
      go (nothing f z) = sym (recs-length i s) ∙ best-first n p (recs i s) (rec i s) e f ∙ next-is
      go (first h hs f is z t g) = absurd (omega (arith, recs-length i s))

  pub go-within : (j ≡ n → ⊥) → j < i
  go-within q = go (best n p (recs i s))
    where
      go : Best n p (recs i s) → j < i
      go (nothing f z) = absurd (q (pre ∙ z))
      go (first h hs f is z t g) = omega (arith, recs-length i s)

  pub go-by : p (rec i s) ≡ true → (j ≡ n → ⊥) → (o : Ordering) → o ≡ cmp (carried (rec i s)) (carried (rec j s)) → choose o i j j ≡ best_of n p (recs (i + 1) s)
  go-by e q o c = go (best n p (recs i s)) o c
    where
      go : Best n p (recs i s) → (o : Ordering) → o ≡ cmp (carried (rec i s)) (carried (rec j s)) → choose o i j j ≡ best_of n p (recs (i + 1) s)
      go (nothing f z) o c = absurd (q (pre ∙ z))
      go (first h hs f is z t g) o c = by o (c ∙ ap (cmp (carried (rec i s))) head-is)
        where
          head-is : carried (rec j s) ≡ h
          head-is = sym (ap carried (ap (λ (k : ℕ). get_or (recs i s) k []) (sym pre) ∙ recs-get i j s (go-within q))) ∙ g

          by : (o : Ordering) → o ≡ cmp (carried (rec i s)) h → choose o i j j ≡ best_of n p (recs (i + 1) s)
          by Less c = sym (recs-length i s) ∙ best-less n p (recs i s) (rec i s) e h hs f c ∙ next-is
          by Equal c = pre ∙ best-equal n p (recs i s) (rec i s) e h hs f c ∙ next-is
          by Greater c = pre ∙ best-more n p (recs i s) (rec i s) e h hs f c ∙ next-is

pub best-start : (n : ℕ) (p : List ℕ → Bool) → n ≡ best_of n p []
unfolding best_of
best-start n p = refl

-- the answer o of a scan of the first i records, and record i
module _ (p : List ℕ → Bool) (s : List ℕ) (n i : ℕ) (o : Option ℕ) (w : Scanned n p (recs i s) o) (below : i < n) where
  pub scan-passed : p (rec i s) ≡ false → Scanned n p (recs (i + 1) s) o
  scan-passed e = (go_same p s n i (unwrap_or o n) w.0 below e, w.1)

  pub scan-first : p (rec i s) ≡ true → o ≡ None → Scanned n p (recs (i + 1) s) (Some i)
  scan-first e z = (go-first p s n i (unwrap_or o n) w.0 below e (ap (λ (x : Option ℕ). unwrap_or x n) z), below)

  module _ (j : ℕ) (z : o ≡ Some j) where
    pub scan-within : j < n
    scan-within = subst (λ (x : Option ℕ). IfSome x (λ k. k < n)) z w.1

    here : j ≡ best_of n p (recs i s)
    here = sym (ap (λ (x : Option ℕ). unwrap_or x n) z) ∙ w.0

    module _ (e : p (rec i s) ≡ true) (c : Ordering) (is : c ≡ cmp (carried (rec i s)) (carried (rec j s))) where
      at : choose c i j j ≡ best_of n p (recs (i + 1) s)
      at = go-by p s n i j here below e (λ q. let k = scan-within in omega arith) c is

      pub scan-less : is_lt c ≡ true → Scanned n p (recs (i + 1) s) (Some i)
      scan-less l = (less c l at, below)
        where
          less : (c : Ordering) → is_lt c ≡ true → choose c i j j ≡ best_of n p (recs (i + 1) s) → i ≡ best_of n p (recs (i + 1) s)
          less Less l q = q
          less Equal l q = absurd (false≢true l)
          less Greater l q = absurd (false≢true l)

      pub scan-kept : is_lt c ≡ false → Scanned n p (recs (i + 1) s) (Some j)
      scan-kept l = (kept c l at, scan-within)
        where
          kept : (c : Ordering) → is_lt c ≡ false → choose c i j j ≡ best_of n p (recs (i + 1) s) → j ≡ best_of n p (recs (i + 1) s)
          kept Less l q = absurd (false≢true (sym l))
          kept Equal l q = q
          kept Greater l q = q

before-any : (l : List ℕ) → 0 < length l → cmp [] l ≡ Less
before-any [] h = absurd (omega arith)
before-any (x ∷ l) h = refl

pub start-due : (n : ℕ) (s : List ℕ) → n * 384 ≤ length s → ordered (after (recs n s) []) (recs n s) ≡ due (recs n s)
start-due n s h = after-start (recs n s) (λ r m. before-any (carried r) (omega (arith, carried-long r (in-recs r n s h m))))

-- what the answer j of a scan for the first header after g says
pub data Found (n : ℕ) (s g : List ℕ) (j : ℕ) : Type 0 where
  none : ordered (after (recs n s) g) (recs n s) ≡ [] → j ≡ n → Found n s g j
  found : (h : List ℕ) (hs : List (List ℕ)) → ordered (after (recs n s) g) (recs n s) ≡ h ∷ hs → j < n → carried (rec j s) ≡ h → j ≡ index_of (live (recs n s)) h (recs n s) → Found n s g j

pub find : (n : ℕ) (s g : List ℕ) (j : ℕ) → j ≡ best_of n (after (recs n s) g) (recs n s) → Found n s g j
find n s g j e = go (best n (after (recs n s) g) (recs n s))
  where
    go : Best n (after (recs n s) g) (recs n s) → Found n s g j
    go (nothing f z) = none f (e ∙ z)
    go (first h hs f is z t c) =
        let lt : j < n = omega (arith, recs-length n s) in
        found h hs f lt
        (sym (ap carried (ap (λ (k : ℕ). get_or (recs n s) k []) (sym e) ∙ recs-get n j s lt)) ∙ c)
        (e ∙ is ∙ row-index (recs n s) g h hs f)

-- ---- how many carry the header h

pub not_alike : (p : List ℕ → Bool) (h r : List ℕ) → p r ≡ false → carries p h r ≡ false
unfolding carries
not_alike p h r e = one-fails 0 (p r ∷ same (carried r) h ∷ []) e

pub alike-by : (p : List ℕ → Bool) (h r : List ℕ) → p r ≡ true → same (carried r) h ≡ carries p h r
unfolding carries
alike-by p h r e = sym (last-decides (p r ∷ []) (same (carried r) h) (e, tt))

module _ (p : List ℕ → Bool) (h s : List ℕ) (n i k : ℕ) (so : k + count_of p h (drop i (recs n s)) ≡ count_of p h (recs n s)) where
  pub count-on : (t : Bool) → i < n → t ≡ carries p h (rec i s) → pick t (k + 1) k + count_of p h (drop (i + 1) (recs n s)) ≡ count_of p h (recs n s)
  count-on t l e = go t (ap (λ (x : Bool). pick x (suc (count_of p h (drop (i + 1) (recs n s)))) (count_of p h (drop (i + 1) (recs n s)))) e ∙ sym (ap (count_of p h) (recs-drop n i s l)))
    where
      go : (t : Bool) → pick t (suc (count_of p h (drop (i + 1) (recs n s)))) (count_of p h (drop (i + 1) (recs n s))) ≡ count_of p h (drop i (recs n s)) → pick t (k + 1) k + count_of p h (drop (i + 1) (recs n s)) ≡ count_of p h (recs n s)
      go true q = omega arith
      go false q = omega arith

  pub count-end : n ≤ i → k ≡ count_of p h (recs n s)
  count-end l = let q : count_of p h (drop i (recs n s)) ≡ 0 = ap (count_of p h) (drop_of_length-le (recs n s) {i = i} (rw recs-length l)) in omega arith

-- ---- the rows of the due headers

-- the rows of the due headers that are left, from row k on
abbrev pub rows_left : ℕ → List (List ℕ) → List Row
rows_left k b = map (row_of b) (drop k (due b))

-- k rows stand, the last of them for the header g
pub record Standing (n : ℕ) (s : List ℕ) (start out : List Row) (k j : ℕ) : Type 0 where
  pub behind : List ℕ
  pub scanned : j ≡ best_of n (after (recs n s) behind) (recs n s)
  pub left : ordered (after (recs n s) behind) (recs n s) ≡ drop k (due (recs n s))
  pub fits : k ≤ length (due (recs n s))
  pub same-long : length out ≡ length start
  pub rows : sets out k (rows_left k (recs n s)) ≡ sets start 0 (rows_left 0 (recs n s))

in-drop : (h : List ℕ) (k : ℕ) (l : List (List ℕ)) → In h (drop k l) → In h l
in-drop h zero l m = m
in-drop h (suc k) [] m = m
in-drop h (suc k) (x ∷ l) m = inr (in-drop h k l m)

pub stand-start : (n : ℕ) (s : List ℕ) (start : List Row) (j : ℕ) → n * 384 ≤ length s → j ≡ best_of n (after (recs n s) []) (recs n s) → Standing n s start start 0 j
stand-start n s start j h e = record { behind = []; scanned = e; left = start-due n s h; fits = omega arith; same-long = refl; rows = refl }

pub due-most : (n : ℕ) (s : List ℕ) → length (due (recs n s)) ≤ n
unfolding due
due-most n s = omega (arith, ordered-length (live (recs n s)) (recs n s), recs-length n s)

-- the scan answers o: a header more, or none
module _ (n : ℕ) (s : List ℕ) (start out : List Row) (k : ℕ) (o : Option ℕ) (below : IfSome o (λ j. j < n)) (w : Standing n s start out k (unwrap_or o n)) where
  pub stands-at : (j : ℕ) → o ≡ Some j → (j < n) × Standing n s start out k j
  stands-at j e = (subst (λ (x : Option ℕ). IfSome x (λ i. i < n)) e below, subst (λ (x : Option ℕ). Standing n s start out k (unwrap_or x n)) e w)

  pub stands-last : o ≡ None → Standing n s start out k n
  stands-last e = subst (λ (x : Option ℕ). Standing n s start out k (unwrap_or x n)) e w

module _ (n : ℕ) (s : List ℕ) (start out : List Row) (k j : ℕ) (w : Standing n s start out k j) where
  pub found-now : Found n s w.behind j
  found-now = find n s w.behind j w.scanned

  -- a header is left: row k is within the room
  pub row_within : j < n → k < length (due (recs n s))
  row_within l = go found-now
    where
      go : Found n s w.behind j → k < length (due (recs n s))
      go (none f e) = absurd (omega arith)
      go (found h hs f lt c is) = let q = ap length (sym f ∙ w.left) in omega (arith, simp length-drop at q)

  -- one row more
  pub stand-next : (count j' : ℕ) → j < n → count ≡ count_of (live (recs n s)) (carried (rec j s)) (recs n s)
      → j' ≡ best_of n (after (recs n s) (carried (rec j s))) (recs n s) → Standing n s start (set out k (record { index = j; count = count })) (k + 1) j'
  stand-next count j' l ec ej = go found-now
    where
      go : Found n s w.behind j → Standing n s start (set out k (record { index = j; count = count })) (k + 1) j'
      go (none f e) = absurd (omega arith)
      go (found h hs f lt c is) = record {
        behind = carried (rec j s);
        scanned = ej;
        left = ap (λ (x : List ℕ). ordered (after (recs n s) x) (recs n s)) c ∙ after_next (recs n s) w.behind h hs f ∙ sym tail;
        fits = rw add-one (row_within l);
        same-long = length-set out k _ ∙ w.same-long;
        rows =
            ap (λ (m : ℕ). sets (set out k (record { index = j; count = count })) m (map (row_of (recs n s)) (drop m (due (recs n s))))) (add-one k)
            ∙ ap₂ (λ (x y : ℕ). sets out k (record { index = x; count = y } ∷ map (row_of (recs n s)) (drop (suc k) (due (recs n s))))) is (ec ∙ ap (λ (x : List ℕ). count_of (live (recs n s)) x (recs n s)) c ∙ row_count (recs n s) h unaired)
            ∙ ap (λ (d : List (List ℕ)). sets out k (map (row_of (recs n s)) d)) (ap (λ (x : List (List ℕ)). h ∷ x) (ap (λ (m : ℕ). drop m (due (recs n s))) (sym (add-one k)) ∙ tail) ∙ sym all)
            ∙ w.rows;
      }
        where
          all : drop k (due (recs n s)) ≡ h ∷ hs
          all = sym w.left ∙ f

          tail : drop (k + 1) (due (recs n s)) ≡ hs
          tail = sym (drop-drop 1 k (due (recs n s))) ∙ ap (drop 1) all

          unaired : In (aired h) (recs n s) → ⊥
          unaired = ((in-due (recs n s) h).0 (in-drop h k (due (recs n s)) (subst (In h) (sym all) (inl refl)))).not-aired

  -- no header is left
  pub stand-end : n ≤ j → length start ≡ 170 → n ≤ 170 → (k ≡ length (rows_of (recs n s))) × (take k out ≡ rows_of (recs n s))
  unfolding rows_of
  stand-end l ls high = go found-now
    where
      go : Found n s w.behind j → (k ≡ length (map (row_of (recs n s)) (due (recs n s)))) × (take k out ≡ map (row_of (recs n s)) (due (recs n s)))
      go (found h hs f lt c is) = absurd (omega arith)
      go (none f e) = (count, ap (take k) out-is ∙ take_at (rows_left 0 (recs n s)) (drop (length (rows_left 0 (recs n s))) start) k (sym count))
        where
          nil : drop k (due (recs n s)) ≡ []
          nil = sym w.left ∙ f

          count : k ≡ length (map (row_of (recs n s)) (due (recs n s)))
          count = let q = ap length nil in omega (arith, simp length-drop at q, length-map (due (recs n s)) (row_of (recs n s)), w.fits)

          out-is : out ≡ rows_left 0 (recs n s) ++ drop (length (rows_left 0 (recs n s))) start
          out-is =
              sym (ap (λ (d : List (List ℕ)). sets out k (map (row_of (recs n s)) d)) nil)
              ∙ w.rows
              ∙ sets-eq (rows_left 0 (recs n s)) start 0 (omega (arith, length-map (due (recs n s)) (row_of (recs n s)), due-most n s))
              ∙ ap (λ (m : ℕ). rows_left 0 (recs n s) ++ drop m start) (zero-add (length (rows_left 0 (recs n s))))
