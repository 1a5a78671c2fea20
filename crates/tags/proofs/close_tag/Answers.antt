-- `</`, the name as it stands in the start tag, and `>` behind white space; what stands lies inside.
use Prim.Native.Nat.{ℕ, ◌+◌, ◌-◌, ◌<◌, ◌≤◌}
use mathlib.Core.Path.{◌≡◌, sym, ap, ◌∙◌}
use mathlib.Core.Bool.{true, false}
use mathlib.Core.List.{[], ◌∷◌}
use native.Mathlib.Omega.{arith}
use lib.ListN.{length}
use lib.Dec.{lit<}
use borrow.Author.Tests.{eq-eqb, ne_eqb}
use Rattle.octets.specs.Bytes.{byte_at, part, stands, is_space}
use Rattle.octets.specs.Scan.{past}
use Rattle.octets.specs.Text.{bytes}
use Rattle.octets.proofs.Sames.{stands-in}
use Rattle.octets.proofs.Parts.{length_part}
use Rattle.std.specs.Prelude.{Some}
use Rattle.pieces.proofs.Words.{inside_is}
use Rattle.tags.specs.Tags.{close_at}
use Rattle.tags.proofs.close_tag.Goals as goal

pub returns-then-not-stands_at : goal.returns-then-not-stands_at
unfolding close_at bytes
returns-then-not-stands_at c =
    let s = c.args.s.now in
    let i = c.args.at in
    let a = c.args.a in
    let j = c.args.j in
    let n = a - (i + 1) in
    let t = part s (i + 1) n in
    let y : stands (60 ∷ 47 ∷ []) s j ≡ false = sym c.stands_at.ensures ∙ c.if-not-stands_at.true in
    rw y

pub overflow_add-j : goal.overflow_add-j
overflow_add-j c =
    let s = c.args.s.now in
    let i = c.args.at in
    let a = c.args.a in
    let j = c.args.j in
    let n = a - (i + 1) in
    let t = part s (i + 1) n in
    let y : stands (60 ∷ 47 ∷ []) s j ≡ true = sym c.stands_at.ensures ∙ c.if-not-stands_at.false in
    let h : j + 2 ≤ length s = stands-in (60 ∷ 47 ∷ []) s j y (lit< tt) in
    omega arith

pub returns-then-not-stands_at-2 : goal.returns-then-not-stands_at-2
unfolding close_at bytes
returns-then-not-stands_at-2 c =
    let s = c.args.s.now in
    let i = c.args.at in
    let a = c.args.a in
    let j = c.args.j in
    let n = a - (i + 1) in
    let t = part s (i + 1) n in
    let y : stands (60 ∷ 47 ∷ []) s j ≡ true = sym c.stands_at.ensures ∙ c.if-not-stands_at.false in
    let z : stands t s (j + 2) ≡ false = sym c.stands_at-2.ensures ∙ c.if-not-stands_at-2.true in
    rw (y, z)

pub overflow_add-j-2 : goal.overflow_add-j-2
overflow_add-j-2 c =
    let s = c.args.s.now in
    let i = c.args.at in
    let a = c.args.a in
    let j = c.args.j in
    let n = a - (i + 1) in
    let t = part s (i + 1) n in
    let y : stands (60 ∷ 47 ∷ []) s j ≡ true = sym c.stands_at.ensures ∙ c.if-not-stands_at.false in
    let h : j + 2 ≤ length s = stands-in (60 ∷ 47 ∷ []) s j y (lit< tt) in
    omega arith

pub overflow_add-j-3 : goal.overflow_add-j-3
overflow_add-j-3 c =
    let s = c.args.s.now in
    let i = c.args.at in
    let a = c.args.a in
    let j = c.args.j in
    let n = a - (i + 1) in
    let t = part s (i + 1) n in
    let z : stands t s (j + 2) ≡ true = sym c.stands_at-2.ensures ∙ c.if-not-stands_at-2.false in
    let pos : 0 < length t = rw (length_part s (i + 1) n (omega arith)) (omega arith) in
    let m : j + 2 + length t ≤ length s = stands-in t s (j + 2) z pos in
    let ln : length t ≡ n = length_part s (i + 1) n (omega arith) in
    omega arith

pub overflow_add-result : goal.overflow_add-result
overflow_add-result c =
    let s = c.args.s.now in
    let i = c.args.at in
    let a = c.args.a in
    let j = c.args.j in
    let n = a - (i + 1) in
    let t = part s (i + 1) n in
    let e = past is_space s (j + 2 + n) in
    let g : c.spaces-e.result ≡ e = c.spaces-e.ensures in
    let f : c.byte.result ≡ byte_at s e = cc in
    let h : e < length s = inside_is s e 62 (lit< tt) (omega arith) in
    omega arith

pub returns-then-byte-eq62 : goal.returns-then-byte-eq62
unfolding close_at bytes
returns-then-byte-eq62 c =
    let s = c.args.s.now in
    let i = c.args.at in
    let a = c.args.a in
    let j = c.args.j in
    let n = a - (i + 1) in
    let t = part s (i + 1) n in
    let y : stands (60 ∷ 47 ∷ []) s j ≡ true = sym c.stands_at.ensures ∙ c.if-not-stands_at.false in
    let z : stands t s (j + 2) ≡ true = sym c.stands_at-2.ensures ∙ c.if-not-stands_at-2.false in
    let pos : 0 < length t = rw (length_part s (i + 1) n (omega arith)) (omega arith) in
    let m : j + 2 + length t ≤ length s = stands-in t s (j + 2) z pos in
    let ln : length t ≡ n = length_part s (i + 1) n (omega arith) in
    let e = past is_space s (j + 2 + n) in
    let g : c.spaces-e.result ≡ e = c.spaces-e.ensures in
    let f : c.byte.result ≡ byte_at s e = cc in
    rw (y, z, eq-eqb (byte_at s e) 62 (omega arith)) (ap (λ (x : ℕ). Some (x + 1)) g)

pub returns-else-byte-eq62 : goal.returns-else-byte-eq62
unfolding close_at bytes
returns-else-byte-eq62 c =
    let s = c.args.s.now in
    let i = c.args.at in
    let a = c.args.a in
    let j = c.args.j in
    let n = a - (i + 1) in
    let t = part s (i + 1) n in
    let y : stands (60 ∷ 47 ∷ []) s j ≡ true = sym c.stands_at.ensures ∙ c.if-not-stands_at.false in
    let z : stands t s (j + 2) ≡ true = sym c.stands_at-2.ensures ∙ c.if-not-stands_at-2.false in
    let pos : 0 < length t = rw (length_part s (i + 1) n (omega arith)) (omega arith) in
    let m : j + 2 + length t ≤ length s = stands-in t s (j + 2) z pos in
    let ln : length t ≡ n = length_part s (i + 1) n (omega arith) in
    let e = past is_space s (j + 2 + n) in
    let g : c.spaces-e.result ≡ e = c.spaces-e.ensures in
    let f : c.byte.result ≡ byte_at s e = cc in
    rw (y, z, ne_eqb (byte_at s e) 62 (omega arith))
