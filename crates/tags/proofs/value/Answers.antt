-- The quote decides which walk.
use mathlib.Core.Path.{◌≡◌}
use native.Mathlib.Omega.{arith}
use borrow.Author.Tests.{eq-eqb, ne_eqb}
use Rattle.octets.specs.Bytes.{byte_at}
use Rattle.tags.specs.Attributes.{quoted_at}
use Rattle.tags.proofs.value.Goals as goal

pub returns-in-34 : goal.returns-in-34
unfolding quoted_at
returns-in-34 c =
    let s = c.args.s.now in
    let i = c.args.at in
    let b = byte_at s i in
    let f : c.byte.result ≡ b = cc in
    rw (eq-eqb b 34 (omega arith)) c.quoted.ensures

pub returns-in-39 : goal.returns-in-39
unfolding quoted_at
returns-in-39 c =
    let s = c.args.s.now in
    let i = c.args.at in
    let b = byte_at s i in
    let f : c.byte.result ≡ b = cc in
    rw (ne_eqb b 34 (omega arith), eq-eqb b 39 (omega arith)) c.quoted-in-39.ensures

pub returns-in_default : goal.returns-in_default
unfolding quoted_at
returns-in_default c =
    let s = c.args.s.now in
    let i = c.args.at in
    let b = byte_at s i in
    let f : c.byte.result ≡ b = cc in
    rw (ne_eqb b 34 (omega arith), ne_eqb b 39 (omega arith))
