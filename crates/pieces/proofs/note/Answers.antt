-- The two words, and between them the scan.
use Prim.Native.Nat.{◌+◌, ◌≤◌}
use Rattle.std.proofs.Common.{rules}
use Rattle.octets.specs.Bytes.{pick}
use Rattle.characters.specs.Utf8.{width_at}
use Rattle.pieces.proofs.Inside.{note-steps, turn-in}
use mathlib.Core.Path.{◌≡◌, sym, ◌∙◌}
use mathlib.Core.Bool.{true, false}
use mathlib.Core.List.{[], ◌∷◌}
use native.Mathlib.Omega.{arith}
use lib.ListN.{length}
use lib.Dec.{lit<}
use Rattle.octets.specs.Bytes.{stands}
use Rattle.characters.specs.Utf8.{through}
use Rattle.octets.specs.Text.{bytes}
use Rattle.octets.proofs.Sames.{stands-in}
use Rattle.pieces.specs.Pieces.{in_note, note_at}
use Rattle.pieces.proofs.note.Goals as goal

pub through-e-requires-clause-inside : goal.through-e-requires-clause-inside
through-e-requires-clause-inside c = λ i n h z.
    let s = c.args.s.now in
    let e : n ≡ pick (in_note s i) (width_at s i) 0 = search rules in
    turn-in s (in_note s) i n (note-steps s) e z

pub returns-then-not-stands_at : goal.returns-then-not-stands_at
unfolding note_at bytes
returns-then-not-stands_at c =
    let s = c.args.s.now in
    let i = c.args.at in
    let n : stands (60 ∷ 33 ∷ 45 ∷ 45 ∷ []) s i ≡ false = sym c.stands_at.ensures ∙ c.if-not-stands_at.true in
    rw n

pub overflow_add-at : goal.overflow_add-at
overflow_add-at c =
    let s = c.args.s.now in
    let i = c.args.at in
    let y : stands (60 ∷ 33 ∷ 45 ∷ 45 ∷ []) s i ≡ true = sym c.stands_at.ensures ∙ c.if-not-stands_at.false in
    let h : i + 4 ≤ length s = stands-in (60 ∷ 33 ∷ 45 ∷ 45 ∷ []) s i y (lit< tt) in
    omega arith

pub overflow_add-result : goal.overflow_add-result
overflow_add-result c =
    let s = c.args.s.now in
    let i = c.args.at in
    let e = c.through-e.result in
    let q : through (in_note s) s (i + 4) ≡ e = sym (c.through-e.ensures (width_at s) (in_note s) (record { each = λ j n h. search rules; some = λ j h. (note-steps s j h).on })) in
    let z : stands (45 ∷ 45 ∷ 62 ∷ []) s e ≡ true = sym c.stands_at-2.ensures ∙ c.if-stands_at.true in
    let h : e + 3 ≤ length s = stands-in (45 ∷ 45 ∷ 62 ∷ []) s e z (lit< tt) in
    omega arith

pub returns-then-stands_at : goal.returns-then-stands_at
unfolding note_at bytes
returns-then-stands_at c =
    let s = c.args.s.now in
    let i = c.args.at in
    let y : stands (60 ∷ 33 ∷ 45 ∷ 45 ∷ []) s i ≡ true = sym c.stands_at.ensures ∙ c.if-not-stands_at.false in
    let e = c.through-e.result in
    let q : through (in_note s) s (i + 4) ≡ e = sym (c.through-e.ensures (width_at s) (in_note s) (record { each = λ j n h. search rules; some = λ j h. (note-steps s j h).on })) in
    let z : stands (45 ∷ 45 ∷ 62 ∷ []) s e ≡ true = sym c.stands_at-2.ensures ∙ c.if-stands_at.true in
    rw (y, q, z)

pub returns-else-stands_at : goal.returns-else-stands_at
unfolding note_at bytes
returns-else-stands_at c =
    let s = c.args.s.now in
    let i = c.args.at in
    let y : stands (60 ∷ 33 ∷ 45 ∷ 45 ∷ []) s i ≡ true = sym c.stands_at.ensures ∙ c.if-not-stands_at.false in
    let e = c.through-e.result in
    let q : through (in_note s) s (i + 4) ≡ e = sym (c.through-e.ensures (width_at s) (in_note s) (record { each = λ j n h. search rules; some = λ j h. (note-steps s j h).on })) in
    let z : stands (45 ∷ 45 ∷ 62 ∷ []) s e ≡ false = sym c.stands_at-2.ensures ∙ c.if-stands_at.false in
    rw (y, q, z)
