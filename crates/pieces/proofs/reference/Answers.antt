-- `&#x`, `&#`, or one of the names.
use Prim.Native.Nat.{◌+◌, ◌≤◌}
use mathlib.Core.Path.{◌≡◌, sym, ◌∙◌}
use mathlib.Core.Bool.{true, false}
use mathlib.Core.List.{[], ◌∷◌}
use native.Mathlib.Omega.{arith}
use lib.ListN.{length}
use lib.Dec.{lit<}
use Rattle.octets.specs.Bytes.{stands}
use Rattle.octets.specs.Text.{bytes}
use Rattle.octets.proofs.Sames.{stands-in}
use Rattle.pieces.specs.Pieces.{ref_at}
use Rattle.pieces.proofs.reference.Goals as goal

pub overflow_add-at : goal.overflow_add-at
overflow_add-at c =
    let s = c.args.s.now in
    let i = c.args.at in
    let y : stands (38 ∷ 35 ∷ 120 ∷ []) s i ≡ true = sym c.stands_at.ensures ∙ c.if-stands_at.true in
    let h : i + 3 ≤ length s = stands-in (38 ∷ 35 ∷ 120 ∷ []) s i y (lit< tt) in
    omega arith

pub returns-then-stands_at : goal.returns-then-stands_at
unfolding ref_at bytes
returns-then-stands_at c =
    let s = c.args.s.now in
    let i = c.args.at in
    let y : stands (38 ∷ 35 ∷ 120 ∷ []) s i ≡ true = sym c.stands_at.ensures ∙ c.if-stands_at.true in
    rw y c.number_reference.ensures

pub overflow_add-at-then-stands_at-2 : goal.overflow_add-at-then-stands_at-2
overflow_add-at-then-stands_at-2 c =
    let s = c.args.s.now in
    let i = c.args.at in
    let y : stands (38 ∷ 35 ∷ []) s i ≡ true = sym c.stands_at-2.ensures ∙ c.if-stands_at-2.true in
    let h : i + 2 ≤ length s = stands-in (38 ∷ 35 ∷ []) s i y (lit< tt) in
    omega arith

pub returns-then-stands_at-2 : goal.returns-then-stands_at-2
unfolding ref_at bytes
returns-then-stands_at-2 c =
    let s = c.args.s.now in
    let i = c.args.at in
    let n : stands (38 ∷ 35 ∷ 120 ∷ []) s i ≡ false = sym c.stands_at.ensures ∙ c.if-stands_at.false in
    let y : stands (38 ∷ 35 ∷ []) s i ≡ true = sym c.stands_at-2.ensures ∙ c.if-stands_at-2.true in
    rw (n, y) c.number_reference-then-stands_at-2.ensures

pub returns : goal.returns
unfolding ref_at bytes
returns c =
    let s = c.args.s.now in
    let i = c.args.at in
    let n : stands (38 ∷ 35 ∷ 120 ∷ []) s i ≡ false = sym c.stands_at.ensures ∙ c.if-stands_at.false in
    let m : stands (38 ∷ 35 ∷ []) s i ≡ false = sym c.stands_at-2.ensures ∙ c.if-stands_at-2.false in
    rw (n, m) c.worded.ensures
