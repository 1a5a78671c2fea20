-- The name of the root, its prefix, and then the pass (Roots).
use mathlib.Core.Path.{◌≡◌, sym, ap₂, ◌∙◌}
use Prim.Native.Nat.{ℕ, ◌+◌}
use mathlib.Core.Bool.{Bool}
use mathlib.Core.List.{List}
use Rattle.octets.specs.Text.{bytes}
use Rattle.pieces.specs.Pieces.{name_at}
use Rattle.std.specs.Prelude.{Some}
use Rattle.markup.specs.Tree.{elem_at}
use Rattle.markup.specs.Document.{rooted}
use Rattle.message.specs.Root.{root_ok}
use Rattle.message.specs.WorkingMessage.{judged_root}
use Rattle.message.proofs.Roots.{root-unnamed, root-named, prefixed, root-prefixed, unprefixed, root-unprefixed}
use Rattle.message.proofs.read_root.Goals as goal

pub returns-in_default : goal.returns-in_default
returns-in_default c = let a = c.args in c.refused.ensures ∙ root-unnamed a.s.now a.i (sym c.name.ensures ∙ c.in_default.is)

pub returns-then-c-to : goal.returns-then-c-to
unfolding bytes
returns-then-c-to c =
    let a = c.args in
    let s = a.s.now in
    let i = a.i + 1 in
    let e : name_at s i ≡ Some c.in-Some.to = sym c.name.ensures ∙ c.in-Some.is in
    let o = rooted s (elem_at s 12 a.i) in
    let k = c.colon-c.result in
    let h = c.if-c-to.true in
    let b : c.is_root-ok.result ≡ root_ok s i c.in-Some.to = c.is_root-ok.ensures ∙ root-prefixed s i c.in-Some.to k c.colon-c.ensures h in
    c.pass.ensures ∙ ap₂ (λ (q : List ℕ) (x : Bool). judged_root s q x o) (prefixed s i c.in-Some.to k c.colon-c.ensures h) b ∙ root-named s a.i c.in-Some.to e

pub returns : goal.returns
unfolding bytes
returns c =
    let a = c.args in
    let s = a.s.now in
    let i = a.i + 1 in
    let e : name_at s i ≡ Some c.in-Some.to = sym c.name.ensures ∙ c.in-Some.is in
    let o = rooted s (elem_at s 12 a.i) in
    let k = c.colon-c.result in
    let h = c.if-c-to.false in
    let b : c.is_root-ok-2.result ≡ root_ok s i c.in-Some.to = c.is_root-ok-2.ensures ∙ root-unprefixed s i c.in-Some.to k c.colon-c.ensures h in
    c.pass-2.ensures ∙ ap₂ (λ (q : List ℕ) (x : Bool). judged_root s q x o) (unprefixed s i c.in-Some.to k c.colon-c.ensures h) b ∙ root-named s a.i c.in-Some.to e
