-- The name behind the prefix is what `local` leaves of it, and each context has its own rows.
use Prim.Native.Nat.{ℕ, ◌≤◌}
use mathlib.Core.Path.{◌≡◌}
use mathlib.Core.List.{List}
use mathlib.Core.Logic.{◌⊎◌, inl, inr}
use native.Mathlib.Omega.{arith}
use Rattle.reads.specs.Names.{inside, pair_context}
use Rattle.reads.specs.declared.Kept.{Kept}
use Rattle.reads.specs.declared.Context.{Context}
use Rattle.reads.specs.declared.Context.TheVariants as ctx
use Rattle.reads.proofs.Locals.{local-ends}
use Rattle.reads.proofs.context_of.Goals as goal

at-ends : (c : goal.After-local) → c.local.result ≤ c.args.to
at-ends c =
    let a = c.args in
    rw c.local.ensures (local-ends a.s.now a.p.now a.from a.to c.requires.0)

pub slice_bounds-name-count : goal.slice_bounds-name-count
slice_bounds-name-count c = at-ends c

pub slice_bounds-name-start : goal.slice_bounds-name-start
slice_bounds-name-start c = omega (arith, at-ends c)

pub returns-in-Root : goal.returns-in-Root
unfolding inside
returns-in-Root c = rw c.in-Root.is

pub returns-in-Alert : goal.returns-in-Alert
unfolding inside
returns-in-Alert c = rw c.in-Alert.is (rw c.local.ensures at c.alert_context.ensures)

pub returns-in-Info : goal.returns-in-Info
unfolding inside
returns-in-Info c = rw c.in-Info.is (rw c.local.ensures at c.info_context.ensures)

pub returns-in-Later : goal.returns-in-Later
unfolding inside
returns-in-Later c = rw c.in-Later.is (rw c.local.ensures at c.later_context.ensures)

pub returns-in-Resource : goal.returns-in-Resource
unfolding inside
returns-in-Resource c = rw c.in-Resource.is (rw c.local.ensures at c.resource_context.ensures)

pub returns-in-Area : goal.returns-in-Area
unfolding inside
returns-in-Area c = rw c.in-Area.is (rw c.local.ensures at c.area_context.ensures)

in-pair : (k : Kept) (c : Context) (w : List ℕ) → c ≡ ctx.EventCode ⊎ (c ≡ ctx.Parameter ⊎ c ≡ ctx.Geocode) → pair_context w ≡ inside k c w
unfolding inside
in-pair k c w (inl e) = rw e
in-pair k c w (inr (inl e)) = rw e
in-pair k c w (inr (inr e)) = rw e

pub returns-in-EventCode : goal.returns-in-EventCode
returns-in-EventCode c = rw (← in-pair c.args.kept c.args.c _ c.in-EventCode.is) (rw c.local.ensures at c.pair_context.ensures)

skipped-inside : (k : Kept) (c : Context) (w : List ℕ)
    → (((n : ℕ) × c ≡ ctx.AlertLeaf n) ⊎ (((n : ℕ) × c ≡ ctx.InfoLeaf n) ⊎ (((n : ℕ) × c ≡ ctx.PairLeaf n) ⊎ c ≡ ctx.Skipped))) → ctx.Skipped ≡ inside k c w
unfolding inside
skipped-inside k c w (inl e) = rw e.1
skipped-inside k c w (inr (inl e)) = rw e.1
skipped-inside k c w (inr (inr (inl e))) = rw e.1
skipped-inside k c w (inr (inr (inr e))) = rw e

pub returns-in-AlertLeaf : goal.returns-in-AlertLeaf
returns-in-AlertLeaf c = skipped-inside _ _ _ c.in-AlertLeaf.is
