-- The name behind the prefix, and then the namespace.
use mathlib.Core.Path.{◌≡◌, sym, ap, ◌∙◌}
use Prim.Native.Nat.{ℕ, ◌-◌, ◌≤◌}
use native.Mathlib.Omega.{arith}
use lib.ListN.{length}
use mathlib.Core.Bool.{true, false}
use mathlib.Core.List.{◌++◌}
use Rattle.octets.specs.Bytes.{part, same}
use Rattle.octets.specs.Text.{bytes}
use Rattle.std.specs.Prelude.{Some}
use Rattle.tags.specs.Attributes.{attr_named}
use Rattle.tags.proofs.Goes.{named-goes}
use Rattle.reads.specs.Names.{name_of}
use Rattle.reads.proofs.Locals.{local-ends}
use Rattle.message.specs.Root.{is_namespace, root_with}
use borrow.Author.Rules.{rules}
use Rattle.message.proofs.is_root.Goals as goal

pub slice_bounds-equal-count : goal.slice_bounds-equal-count
slice_bounds-equal-count c = let a = c.args in let l = local-ends a.s.now a.p.now a.from a.to (search rules) in omega arith

pub slice_bounds-equal-start : goal.slice_bounds-equal-start
slice_bounds-equal-start c = let a = c.args in let l = local-ends a.s.now a.p.now a.from a.to (search rules) in omega arith

pub returns-else-equal : goal.returns-else-equal
unfolding root_with bytes
returns-else-equal c =
    let a = c.args in
    let e : same (name_of a.s.now a.p.now a.from a.to) (bytes "alert") ≡ false = ap (λ (x : ℕ). same (part a.s.now x (a.to - x)) (bytes "alert")) (sym c.local-at.ensures) ∙ sym c.equal.ensures ∙ c.if-equal.false in
    rw (e, c.if-equal.false)

pub is_some_and-requires : goal.is_some_and-requires
is_some_and-requires c = λ q e κs.
    let a = c.args in
    let f : attr_named a.s.now (a.lead.now ++ a.rest.now) a.to (length a.s.now) ≡ Some q = sym c.find.ensures ∙ e in
    let within : q ≤ length a.s.now = (rw f at (named-goes a.s.now (a.lead.now ++ a.rest.now) a.to (length a.s.now) (search rules))).1 in
    search rules

pub returns-then-equal : goal.returns-then-equal
unfolding root_with is_namespace bytes
returns-then-equal c =
    let a = c.args in
    let e : same (name_of a.s.now a.p.now a.from a.to) (bytes "alert") ≡ true = ap (λ (x : ℕ). same (part a.s.now x (a.to - x)) (bytes "alert")) (sym c.local-at.ensures) ∙ sym c.equal.ensures ∙ c.if-equal.true in
    rw (e, ← c.find.ensures) (search rules)
