-- The first byte tells how many there are, and each branch reads so many.
use Prim.Native.Nat.{◌+◌}
use mathlib.Core.Path.{ap, ◌∙◌}
use native.Mathlib.Omega.{arith}
use Rattle.characters.specs.WorkingUtf8.{joined_at}
use Rattle.characters.proofs.Decoding.{one-read, none_read, two-read, three-read, four-read}
use Rattle.characters.proofs.scalar.Goals as goal

pub returns-in-0-to-127 : goal.returns-in-0-to-127
returns-in-0-to-127 c =
    c.legal_from.ensures ∙ one-read _ _ (c.from.ensures ∙ c.byte-lead.ensures) (omega arith)

pub returns-in-128-to-191 : goal.returns-in-128-to-191
returns-in-128-to-191 c = none_read _ _ c.byte-lead.ensures (omega arith) (omega arith)

pub returns-in-192-to-223 : goal.returns-in-192-to-223
returns-in-192-to-223 c =
    let a = c.args in
    let first = c.join.ensures.value ∙ ap (joined_at a.s.now (a.at + 1)) c.from-in-192-to-223.ensures in
    c.legal_from-in-192-to-223.ensures ∙ two-read _ _ c.byte-lead.ensures first (omega arith) (omega arith)

pub returns-in-224-to-239 : goal.returns-in-224-to-239
returns-in-224-to-239 c =
    let a = c.args in
    let first = c.join-two.ensures.value ∙ ap (joined_at a.s.now (a.at + 1)) c.from-in-224-to-239.ensures in
    c.legal_from-in-224-to-239.ensures ∙ three-read _ _ c.byte-lead.ensures first c.join-in-224-to-239.ensures.value (omega arith) (omega arith)

pub returns-in-240-to-255 : goal.returns-in-240-to-255
returns-in-240-to-255 c =
    let a = c.args in
    let first = c.join-two-in-240-to-255.ensures.value ∙ ap (joined_at a.s.now (a.at + 1)) c.from-in-240-to-255.ensures in
    c.legal_from-in-240-to-255.ensures ∙ four-read _ _ c.byte-lead.ensures first c.join-three.ensures.value c.join-in-240-to-255.ensures.value (omega arith)
