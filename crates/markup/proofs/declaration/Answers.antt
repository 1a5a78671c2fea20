-- The words before and behind, and between them the scan; what stands lies inside.
use Prim.Native.Nat.{ℕ, ◌+◌, ◌<◌, ◌≤◌}
use mathlib.Core.Path.{◌≡◌, sym, ap, ◌∙◌}
use mathlib.Core.Bool.{true, false}
use mathlib.Core.List.{[], ◌∷◌}
use native.Mathlib.Omega.{arith}
use lib.ListN.{length}
use lib.Dec.{lit<}
use Rattle.std.proofs.Common.{rules}
use Rattle.markup.proofs.Declarations.{steps_on, declaration-in}
use Rattle.octets.specs.Bytes.{pick, byte_at, stands, is_space}
use Rattle.octets.specs.Scan.{scan_by}
use Rattle.octets.specs.Text.{bytes}
use Rattle.octets.proofs.Sames.{stands-in}
use Rattle.characters.specs.Utf8.{coded_width}
use Rattle.std.specs.Prelude.{Some}
use Rattle.pieces.proofs.Inside.{space-in}
use Rattle.markup.specs.Document.{in_declaration, declaration_at}
use Rattle.markup.proofs.declaration.Goals as goal

-- behind the first word, and behind the white space
began : (c : goal.Else-not-stands_at) → stands (60 ∷ 63 ∷ 120 ∷ 109 ∷ 108 ∷ []) c.args.s.now c.args.at ≡ true
began c = sym c.stands_at.ensures ∙ c.if-not-stands_at.false

spaced : (c : goal.Else-not-is_space) → is_space (byte_at c.args.s.now (c.args.at + 5)) ≡ true
spaced c = sym (c.is_space.ensures ∙ ap is_space c.byte.ensures) ∙ c.if-not-is_space.false

pub through-e-requires-clause-inside : goal.through-e-requires-clause-inside
through-e-requires-clause-inside c = λ i n h z.
    let s = c.args.s.now in
    let e : n ≡ pick (in_declaration s i) (coded_width s i) 0 = search rules in
    declaration-in s i n e z

pub returns-then-not-stands_at : goal.returns-then-not-stands_at
unfolding declaration_at bytes
returns-then-not-stands_at c =
    let s = c.args.s.now in
    let at = c.args.at in
    let y : stands (60 ∷ 63 ∷ 120 ∷ 109 ∷ 108 ∷ []) s at ≡ false = sym c.stands_at.ensures ∙ c.if-not-stands_at.true in
    rw y

pub overflow_add-at : goal.overflow_add-at
overflow_add-at c =
    let s = c.args.s.now in
    let at = c.args.at in
    let h : at + 5 ≤ length s = stands-in (60 ∷ 63 ∷ 120 ∷ 109 ∷ 108 ∷ []) s at (began c) (lit< tt) in
    omega arith

pub returns-then-not-is_space : goal.returns-then-not-is_space
unfolding declaration_at bytes
returns-then-not-is_space c =
    let s = c.args.s.now in
    let at = c.args.at in
    let b : is_space (byte_at s (at + 5)) ≡ false = sym (c.is_space.ensures ∙ ap is_space c.byte.ensures) ∙ c.if-not-is_space.true in
    rw (sym c.stands_at.ensures ∙ c.if-not-stands_at.false, b)

pub overflow_add-at-2 : goal.overflow_add-at-2
overflow_add-at-2 c =
    let s = c.args.s.now in
    let at = c.args.at in
    let h : at + 5 < length s = space-in s (at + 5) (spaced c) in
    omega arith

pub overflow_add-result : goal.overflow_add-result
overflow_add-result c =
    let s = c.args.s.now in
    let at = c.args.at in
    let e = scan_by (coded_width s) (in_declaration s) (length s) (at + 6) in
    let g : c.through-e.result ≡ e = c.through-e.ensures (coded_width s) (in_declaration s) (record { each = λ j n h. search rules; some = λ j h. (steps_on s j h).on }) in
    let z : stands (63 ∷ 62 ∷ []) s e ≡ true = ap (stands (63 ∷ 62 ∷ []) s) (sym g) ∙ sym c.stands_at-2.ensures ∙ c.if-stands_at.true in
    let h : e + 2 ≤ length s = stands-in (63 ∷ 62 ∷ []) s e z (lit< tt) in
    omega arith

pub returns-then-stands_at : goal.returns-then-stands_at
unfolding declaration_at bytes
returns-then-stands_at c =
    let s = c.args.s.now in
    let at = c.args.at in
    let e = scan_by (coded_width s) (in_declaration s) (length s) (at + 6) in
    let g : c.through-e.result ≡ e = c.through-e.ensures (coded_width s) (in_declaration s) (record { each = λ j n h. search rules; some = λ j h. (steps_on s j h).on }) in
    let z : stands (63 ∷ 62 ∷ []) s e ≡ true = ap (stands (63 ∷ 62 ∷ []) s) (sym g) ∙ sym c.stands_at-2.ensures ∙ c.if-stands_at.true in
    rw (sym c.stands_at.ensures ∙ c.if-not-stands_at.false, sym (c.is_space.ensures ∙ ap is_space c.byte.ensures) ∙ c.if-not-is_space.false, z) (ap (λ (x : ℕ). Some (x + 2)) g)

pub returns-else-stands_at : goal.returns-else-stands_at
unfolding declaration_at bytes
returns-else-stands_at c =
    let s = c.args.s.now in
    let at = c.args.at in
    let e = scan_by (coded_width s) (in_declaration s) (length s) (at + 6) in
    let g : c.through-e.result ≡ e = c.through-e.ensures (coded_width s) (in_declaration s) (record { each = λ j n h. search rules; some = λ j h. (steps_on s j h).on }) in
    let z : stands (63 ∷ 62 ∷ []) s e ≡ false = ap (stands (63 ∷ 62 ∷ []) s) (sym g) ∙ sym c.stands_at-2.ensures ∙ c.if-stands_at.false in
    rw (sym c.stands_at.ensures ∙ c.if-not-stands_at.false, sym (c.is_space.ensures ∙ ap is_space c.byte.ensures) ∙ c.if-not-is_space.false, z)
