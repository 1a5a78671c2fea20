-- The header, and behind it the year.
use Prim.Native.Nat.{ℕ}
use mathlib.Core.Path.{ap, ◌∙◌}
use Rattle.clock.specs.Stamp.{stamp_of}
use Rattle.records.specs.Record.{be2}
use Rattle.records.proofs.Making.{dated-made}
use Rattle.records.proofs.with_year.Goals as goal

pub returns : goal.returns
returns c =
    let year = c.utc_year.ensures ∙ ap (λ (n : ℕ). (stamp_of n).year) c.sent_of.ensures in
    dated-made _ _ _ _ _ c.requires.1 (c.two_bytes-year.ensures ∙ ap (λ (n : ℕ). be2 n) year) c.put_bytes.ensures c.put_bytes-2.ensures
