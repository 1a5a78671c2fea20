-- What was put of the broadcast text, and of description, tells whether it is there (Texts).
use native.Mathlib.Omega.{arith}
use Rattle.values.specs.Value.{value_at}
use Rattle.wording.specs.Text.{plain}
use Rattle.wording.specs.WorkingPen.{start_pen}
use Rattle.wording.proofs.Cuts.{plain-short}
use Rattle.wording.proofs.Pens.{pen-first, room-start, room-past}
use Rattle.canadian.proofs.Texts.{put_whole, put-none, put_both}
use Rattle.canadian.proofs.put_text.Goals as goal

pub returns-then-whole-ne0 : goal.returns-then-whole-ne0
returns-then-whole-ne0 c =
    let a = c.args in
    let s = a.s.now in
    let both = put_whole (value_at s a.broadcast) (value_at s a.description) (value_at s a.instruction) _ (c.put_first-whole.ensures.value, c.put_first-whole.ensures.out_after) c.if-whole-ne0.true in
    record { value = both.0; out_after = both.1 }

pub returns-then-n-eq0 : goal.returns-then-n-eq0
returns-then-n-eq0 c =
    let a = c.args in
    let s = a.s.now in
    let both = put-none (value_at s a.broadcast) (value_at s a.description) (value_at s a.instruction) _ (c.put_first-whole.ensures.value, c.put_first-whole.ensures.out_after) c.if-whole-ne0.false
    (c.put_first-n.ensures.value, c.put_first-n.ensures.out_after) c.if-n-eq0.true in
    record { value = both.0; out_after = both.1 }

pub put_plain-requires : goal.put_plain-requires
put_plain-requires c =
    let room = room-start c.put_first-whole.new.out (omega (arith, c.requires, c.put_first-whole.auto.out)) in
    let description = value_at c.args.s.now c.args.description in
    room-past room (pen-first _ start_pen (plain description) (c.put_first-n.ensures.value, c.put_first-n.ensures.out_after)) 0 (omega (arith, plain-short description))

pub returns : goal.returns
returns c =
    let a = c.args in
    let s = a.s.now in
    let both = put_both (value_at s a.broadcast) (value_at s a.description) (value_at s a.instruction) _ (c.put_first-whole.ensures.value, c.put_first-whole.ensures.out_after) c.if-whole-ne0.false
    (c.put_first-n.ensures.value, c.put_first-n.ensures.out_after) c.if-n-eq0.false (c.put_plain.ensures.value, c.put_plain.ensures.out_after) in
    record { value = both.0; out_after = both.1 }
