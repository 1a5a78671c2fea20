use Prim.Native.Nat.{◌+◌}
use mathlib.Core.Path.{◌≡◌, refl, sym, ◌∙◌}
use Rattle.std.proofs.Common.{rules}
use Rattle.octets.specs.Bytes.{is_space}
use Rattle.octets.specs.Scan.{past}
use Rattle.pieces.specs.WorkingClasses.{is_run}
use mathlib.Core.Logic.{inl, inr, ⊎_elim}
use native.Mathlib.Omega.{arith}
use lib.ListN.{length}
use Rattle.octets.proofs.Scans.{ScanningBy, by-starts}
use Rattle.characters.specs.Utf8.{width_at}
use Rattle.pieces.specs.Pieces.{in_text}
use Rattle.pieces.proofs.Inside.{no-run, text-steps, tag-ends, turns, turn-ends}
use Rattle.pieces.proofs.Sixteens.{On, space-run, past-scan, stretch-scan, stretch-on, runs-edge}
use Rattle.pieces.proofs.run.Goals as goal

-- where white space ends
led : (c : goal.Then-byte-eq60) → let a = c.args in ScanningBy (width_at a.s.now) (in_text a.s.now) (length a.s.now) a.at c.spaces-j.result
led c =
    let a = c.args in
    let s = a.s.now in
    rw c.spaces-j.ensures (past-scan s a.at is_space space-run (length s) a.at (by-starts (width_at s) (in_text s) (length s) a.at))

-- where white space ends
led-at-Else-byte-eq60 : (c : goal.Else-byte-eq60) → let a = c.args in ScanningBy (width_at a.s.now) (in_text a.s.now) (length a.s.now) a.at c.spaces-j.result
led-at-Else-byte-eq60 c =
    let a = c.args in
    let s = a.s.now in
    rw c.spaces-j.ensures (past-scan s a.at is_space space-run (length s) a.at (by-starts (width_at s) (in_text s) (length s) a.at))

pub returns-then-byte-eq60 : goal.returns-then-byte-eq60
returns-then-byte-eq60 c =
    let s = c.args.s.now in
    let j = c.spaces-j.result in
    turn-ends s (in_text s) _ _ 0 (text-steps s) (tag-ends s j (sym c.byte.ensures ∙ c.if-byte-eq60.true)) (led c) refl

pub past-i-requires-clause-not_past_end : goal.past-i-requires-clause-not_past_end
past-i-requires-clause-not_past_end c = λ h. no-run (search rules)

pub loop-at-init : goal.loop-at-init
loop-at-init c = (led-at-Else-byte-eq60 c, inl (omega arith))

pub overflow_add-i : goal.overflow_add-i
overflow_add-i c =
    let s = c.args.s.now in
    let l = c.loop-at in
    let n = c.blocks-in-loop-at.result in
    ⊎_elim (λ h. ⊎_elim (λ k. omega (arith, h, k)) (λ k. omega (arith, h, k)) l.invariant.1) (λ h. omega (arith, h)) (runs-edge s l.i n c.blocks-in-loop-at.ensures)

pub returns-then-n-eq0 : goal.returns-then-n-eq0
returns-then-n-eq0 c =
    let s = c.args.s.now in
    let i = c.loop-at.i in
    let n = c.blocks-in-loop-at.result in
    let e : c.past-i.result ≡ past is_run s (i + n) = search rules in
    let v : On s c.args.at c.past-i.result = stretch-scan s c.args.at i n c.past-i.result c.blocks-in-loop-at.ensures e c.loop-at.invariant.0 in
    turn-ends s (in_text s) _ _ _ (text-steps s) c.in_text-n.ensures v c.if-n-eq0.true

pub overflow_add-i-in-loop-at : goal.overflow_add-i-in-loop-at
overflow_add-i-in-loop-at c =
    let s = c.args.s.now in
    let i = c.loop-at.i in
    let n = c.blocks-in-loop-at.result in
    let e : c.past-i.result ≡ past is_run s (i + n) = search rules in
    let v : On s c.args.at c.past-i.result = stretch-scan s c.args.at i n c.past-i.result c.blocks-in-loop-at.ensures e c.loop-at.invariant.0 in
    let t = turns s (in_text s) _ _ _ (text-steps s) c.in_text-n.ensures v c.if-n-eq0.false in
    let l = t.in-it in
    omega (arith, l)

pub loop-at-smaller : goal.loop-at-smaller
loop-at-smaller c =
    let s = c.args.s.now in
    let i = c.loop-at.i in
    let n = c.blocks-in-loop-at.result in
    let e : c.past-i.result ≡ past is_run s (i + n) = search rules in
    let v : On s c.args.at c.past-i.result = stretch-scan s c.args.at i n c.past-i.result c.blocks-in-loop-at.ensures e c.loop-at.invariant.0 in
    let t = turns s (in_text s) _ _ _ (text-steps s) c.in_text-n.ensures v c.if-n-eq0.false in
    let g = stretch-on s i n c.past-i.result e in
    omega (arith, t.on, t.in-it, g)

pub loop-at-preserved : goal.loop-at-preserved
loop-at-preserved c =
    let s = c.args.s.now in
    let i = c.loop-at.i in
    let n = c.blocks-in-loop-at.result in
    let e : c.past-i.result ≡ past is_run s (i + n) = search rules in
    let v : On s c.args.at c.past-i.result = stretch-scan s c.args.at i n c.past-i.result c.blocks-in-loop-at.ensures e c.loop-at.invariant.0 in
    let t = turns s (in_text s) _ _ _ (text-steps s) c.in_text-n.ensures v c.if-n-eq0.false in
    (t.scans, inr t.in-it)
