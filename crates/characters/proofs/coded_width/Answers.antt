-- A byte below 128, then a character, then the two numbers that are written and not legal.
use mathlib.Core.Path.{◌≡◌, sym, ◌∙◌}
use mathlib.Core.Bool.{false, false≢true}
use mathlib.Core.List.{[], ◌∷◌}
use native.Mathlib.Omega.{arith}
use Rattle.octets.specs.Bytes.{stands}
use Rattle.characters.specs.Utf8.{encoded, width_at}
use Rattle.characters.proofs.Coded.{coded-here, coded-upper, coded-nowhere, coded-low, coded-legal, coded-other}
use Rattle.characters.proofs.coded_width.Goals as goal
use Rattle.characters.proofs.coded_width.Goals.{then-stands_at, else-stands_at}

pub returns-then-s-at : goal.returns-then-s-at
returns-then-s-at c = coded-nowhere c.args.s.now c.args.at c.if-s-at.true

pub returns-then-s-at-lt128 : goal.returns-then-s-at-lt128
returns-then-s-at-lt128 c = coded-low c.args.s.now c.args.at (omega arith) c.if-s-at-lt128.true

pub returns-then-n-ne0 : goal.returns-then-n-ne0
returns-then-n-ne0 c =
    c.width_at-n.ensures ∙ coded-legal c.args.s.now c.args.at (λ e. c.if-n-ne0.true (c.width_at-n.ensures ∙ e))

pub returns-then-stands_at-2 : goal.returns-then-stands_at-2
unfolding encoded
returns-then-stands_at-2 c =
    let s = c.args.s.now in
    let at = c.args.at in
    elim c.if-stands_at.branch [
      | then-stands_at w ↦ coded-here s at 65534 (coded-upper 65534 (omega arith) (omega arith)) (sym c.stands_at.ensures ∙ w.if-stands_at.true)
      | else-stands_at w ↦ coded-here s at 65535 (coded-upper 65535 (omega arith) (omega arith)) (sym w.stands_at-else-stands_at.ensures ∙ sym w.value-is ∙ c.if-stands_at-2.true)
    ]

pub returns-else-stands_at-2 : goal.returns-else-stands_at-2
returns-else-stands_at-2 c =
    let s = c.args.s.now in
    let at = c.args.at in
    let n : width_at s at ≡ 0 = sym c.width_at-n.ensures ∙ c.if-n-ne0.false in
    elim c.if-stands_at.branch [
      | then-stands_at w ↦ absurd (false≢true (sym c.if-stands_at-2.false ∙ w.value-is ∙ w.if-stands_at.true))
      | else-stands_at w ↦
          let p : stands (239 ∷ 191 ∷ 190 ∷ []) s at ≡ false = sym c.stands_at.ensures ∙ w.if-stands_at.false in
          let q : stands (239 ∷ 191 ∷ 191 ∷ []) s at ≡ false = sym w.stands_at-else-stands_at.ensures ∙ sym w.value-is ∙ c.if-stands_at-2.false in
          coded-other s at c.if-s-at-lt128.false n p q
    ]
