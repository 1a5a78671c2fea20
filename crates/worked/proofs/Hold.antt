-- The table of whole messages holds: each row computes.
use Prim.Native.Nat.{ℕ}
use mathlib.Core.Path.{◌≡◌, refl, sym, ap, ◌∙◌}
use mathlib.Core.Bool.{Bool, true}
use mathlib.Core.List.{List, [], ◌∷◌, ◌++◌}
use Rattle.octets.specs.Bytes.{every, same}
use Rattle.octets.specs.Text.{bytes}
use Rattle.octets.proofs.Tests.{every_first, every_rest}
use Rattle.octets.proofs.Sames.{same-is}
use Rattle.judgement.specs.declared.Judged.{Judged}
use Rattle.outputs.specs.Outputs.{no_text}
use Rattle.outputs.specs.WorkingOutputs.{roomy_text}
use Rattle.convert.specs.Convert.{no_header}
use Rattle.convert.specs.WorkingConvert.{header_by, text_by, judged_for, outcome_of, call_of, header_call, text_call}
use Rattle.report.specs.Program.{BothOutcomes, bench_of}
use Rattle.worked.specs.Table.{changed, pieces_written, repeated, alert_with, sample, lines, WorkedRow, WorkedHolds, AllWorked, messages, numbers, header_lines, outputs, cancels, utf8_messages, utf8_values, table}
use Rattle.worked.proofs.Opens.{converting}

-- what both calls give of a message that was judged, so that a row judges its message once
unfoldable both_by : List ℕ → Judged → BothOutcomes
both_by m j = record { headed = outcome_of no_header (header_by m (bytes "BENCH/01")) j; worded = outcome_of no_text (text_by m) j }

both_is : (m : List ℕ) → both_by m (judged_for m (bytes "BENCH/01")) ≡ bench_of m
unfolding both_by header_call text_call call_of roomy_text every
both_is m = refl

-- a row as a test
abbrev prints : WorkedRow → Bool
prints r = same (r.asks (both_by r.message (judged_for r.message (bytes "BENCH/01")))) (lines r.prints)

all_hold : (rs : List WorkedRow) → every prints rs ≡ true → AllWorked rs
unfolding AllWorked WorkedHolds
all_hold [] e = tt
all_hold (r ∷ rs) e = (ap r.asks (sym (both_is r.message)) ∙ same-is _ _ (every_first prints r rs e), all_hold rs (every_rest prints r rs e))

messages-hold : AllWorked messages
unfolding converting both_by changed pieces_written repeated lines messages
messages-hold = all_hold messages refl

numbers-hold : AllWorked numbers
unfolding converting both_by changed pieces_written repeated lines numbers
numbers-hold = all_hold numbers refl

headers-hold : AllWorked header_lines
unfolding converting both_by changed pieces_written repeated lines header_lines
headers-hold = all_hold header_lines refl

outputs-hold : AllWorked outputs
unfolding converting both_by changed pieces_written repeated lines outputs
outputs-hold = all_hold outputs refl

cancels-hold : AllWorked cancels
unfolding converting both_by changed pieces_written repeated lines cancels
cancels-hold = all_hold cancels refl

utf8-messages-hold : AllWorked utf8_messages
unfolding converting both_by changed pieces_written repeated lines utf8_messages
utf8-messages-hold = all_hold utf8_messages refl

utf8-values-hold : AllWorked utf8_values
unfolding converting both_by changed pieces_written repeated lines utf8_values
utf8-values-hold = all_hold utf8_values refl

-- what holds of two tables holds of both together
both : (a b : List WorkedRow) → AllWorked a → AllWorked b → AllWorked (a ++ b)
unfolding AllWorked
both [] b x y = y
both (r ∷ rs) b x y = (x.0, both rs b x.1 y)

pub table-holds : AllWorked table
unfolding table
table-holds =
    both messages _ messages-hold
    (both numbers _ numbers-hold
    (both header_lines _ headers-hold
    (both outputs _ outputs-hold (both cancels _ cancels-hold (both utf8_messages _ utf8-messages-hold utf8-values-hold)))))

-- the sample without a change is the sample
pub unchanged : alert_with [] ≡ sample
unfolding bytes same changed pieces_written
unchanged = refl
