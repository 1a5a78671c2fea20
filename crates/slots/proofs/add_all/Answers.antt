use Prim.Native.Nat.{ℕ, ◌+◌, ◌*◌, ◌≤◌, ◌<◌}
use mathlib.Core.List.{List, ◌++◌}
use mathlib.Core.Path.{◌≡◌, refl, sym, ap, ap₂, ◌∙◌, subst}
use native.Mathlib.Omega.{arith}
use lib.ListN.{length, drop, length-drop}
use lib.Seq.{length-take-le}
use Rattle.ledger.specs.Sorted.{insert, insert_all}
use Rattle.slots.specs.WorkingSlots.{rec, flat}
use Rattle.slots.specs.Slots.{recs}
use Rattle.slots.proofs.Records.{recs-length, item, batch-grows, start-bytes, next-insert, next-rest}
use Rattle.slots.proofs.add_all.Goals as goal

-- in a turn: what the next record makes of the board, that it is within the whole, and that the bytes past it are as they were
module _
    (s₀ batch s : List ℕ)
    (n m i k : ℕ)
    (asked : (n * 384 ≤ length s₀) × (m * 384 ≤ length batch) × (length (insert_all (recs m batch) (recs n s₀)) * 384 ≤ length s₀))
    (held : (length s ≡ length s₀) × (k ≡ length (insert_all (recs i batch) (recs n s₀))) × (s ≡ flat (insert_all (recs i batch) (recs n s₀)) ++ drop (k * 384) s₀))
    (more : i < m)
  where
    fits : i * 384 ≤ length batch
    fits = omega (arith, asked.1, more)

    step : (r : List ℕ) → r ≡ rec i batch → insert r (recs k s) ≡ insert_all (recs (i + 1) batch) (recs n s₀)
    step r e = ap (λ (x : List ℕ). insert x (recs k s)) e ∙ next-insert s₀ batch s n i k asked.0 fits held.2 held.1

    rest : (j : ℕ) → k ≤ j → drop (j * 384) s ≡ drop (j * 384) s₀
    rest j h = next-rest s₀ batch s n i k asked.0 fits held.2 held.1 j h

    grown : (k ≤ length (insert_all (recs (i + 1) batch) (recs n s₀))) × (length (insert_all (recs (i + 1) batch) (recs n s₀)) * 384 ≤ length s₀)
    grown = (
      omega (arith, held.1, batch-grows i (i + 1) batch (recs n s₀) (omega arith)),
      omega (arith, asked.2, batch-grows (i + 1) m batch (recs n s₀) (omega (arith, more))),
    )

pub loop-r-init : goal.loop-r-init
loop-r-init c =
    let a = c.args in
    (refl, sym (recs-length a.n a.s.now), start-bytes a.n a.s.now)

pub add-k-requires : goal.add-k-requires
add-k-requires c =
    let l = c.loop-r in
    let a = c.args in
    let at = item _ _ _ _ c.first-r-items.ensures c.loop-r-test.true in
    let g = grown a.s.now a.batch.now l.s a.n a.m l.r-index l.k c.requires l.invariant at.0 in
    let is = step a.s.now a.batch.now l.s a.n a.m l.r-index l.k c.requires l.invariant at.0 _ at.1 in (
      omega (arith, g, l.invariant.0, l.invariant.1),
      rw is (omega (arith, g, l.invariant.0)),
      ap length at.1 ∙ length-take-le 384 (drop (l.r-index * 384) a.batch.now) (rw length-drop (omega (arith, at.0, c.requires.1))),
    )

pub loop-r-preserved : goal.loop-r-preserved
loop-r-preserved c =
    let l = c.loop-r in
    let a = c.args in
    let at = item _ _ _ _ c.first-r-items.ensures c.loop-r-test.true in
    let is = step a.s.now a.batch.now l.s a.n a.m l.r-index l.k c.requires l.invariant at.0 _ at.1 in
    let count = c.add-k.ensures.value ∙ ap length is in
    let more = batch-grows l.r-index (l.r-index + 1) a.batch.now (recs a.n a.s.now) (omega arith) in
    let past = rest a.s.now a.batch.now l.s a.n a.m l.r-index l.k c.requires l.invariant at.0 c.add-k.result (omega (arith, count, l.invariant.1, more)) in (
      c.add-k.auto.s ∙ l.invariant.0,
      count,
      c.add-k.ensures.s_after ∙ ap₂ (λ (x : List (List ℕ)) (y : List ℕ). flat x ++ y) is past,
    )

pub shape_of-s : goal.shape_of-s
shape_of-s c = c.loop-r.invariant.0

pub returns : goal.returns
returns c =
    let l = c.loop-r in
    let a = c.args in
    let e : l.r-index ≡ a.m = omega (arith, ap length c.first-r-items.ensures, recs-length a.m a.batch.now) in
    let whole = λ (j : ℕ). insert_all (recs j a.batch.now) (recs a.n a.s.now) in
    record {
      value = subst (λ (j : ℕ). l.k ≡ length (whole j)) e l.invariant.1;
      s_after = subst (λ (j : ℕ). l.s ≡ flat (whole j) ++ drop (l.k * 384) a.s.now) e l.invariant.2;
    }
