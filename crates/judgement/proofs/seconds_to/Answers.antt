-- An expires that is absent gives none; else its value's instant decides, and one that is not later leaves nothing.
use Prim.Native.Nat.{ℕ, ◌-◌}
use mathlib.Core.Path.{◌≡◌, refl, ap, ◌∙◌}
use borrow.Author.Tests.{eq-eqb, ne_eqb}
use Rattle.std.specs.Prelude.{Option, Some, None}
use Rattle.std.specs.Option.{unwrap_or}
use Rattle.clock.specs.Time.{instant_in}
use Rattle.judgement.specs.WorkingRules.{seconds_to}
use Rattle.judgement.proofs.seconds_to.Goals as goal

or_none : (t : Option ℕ) → unwrap_or t 0 ≡ instant_in t
or_none (Some n) = refl
or_none None = refl

pub returns-then-l-eq0 : goal.returns-then-l-eq0
unfolding seconds_to
returns-then-l-eq0 c = rw (eq-eqb _ _ c.if-l-eq0.true)

pub returns : goal.returns
unfolding seconds_to
returns c = rw (ne_eqb _ _ c.if-l-eq0.false) (c.saturating_sub.ensures ∙ ap (λ n. n - c.args.sent) (c.unwrap_or.ensures ∙ or_none c.time_at.result ∙ ap instant_in c.time_at.ensures))
