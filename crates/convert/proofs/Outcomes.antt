-- The outcome of a call, by what was found in a message s for a station. A is what the call gives.
--     short, long               of outputs too short, and of others
--     refused, quiet, alert     of others, by what the message is
--     ready                     what an alert has that it may be written
--     headed-short, headed      the call for the header, of an output too short, and of another
--     untouched                 where no header is given, the output is as it was
use Prim.Native.Nat.{ℕ, ◌<◌, ◌≤◌}
use mathlib.Core.Path.{◌≡◌, refl, sym, ap, ◌∙◌}
use mathlib.Core.Bool.{Bool, true, false}
use mathlib.Core.List.{List}
use native.Mathlib.Omega.{arith}
use borrow.Author.Tests.{ne_eqb, le-leb, lt-leb}
use lib.Seq.{sets}
use Rattle.parts.specs.Parts.{body_ok, station_ok}
use Rattle.message.specs.WorkingMessage.{message_says, info_in}
use Rattle.leaves.proofs.Fits.{audio-fits}
use Rattle.judgement.specs.WorkingJudged.{judged_of}
use Rattle.judgement.specs.declared.Judged.{Judged}
use Rattle.judgement.proofs.Bodies.{body_ok_lem, message-kept}
use Rattle.outputs.specs.Outputs.{alone}
use Rattle.outputs.specs.WorkingOutputs.{uri_in, UriFits}
use Rattle.outputs.proofs.Fits.{uri-fits}
use Rattle.convert.specs.Convert.{no_header, HeaderOutcome, header_answer_of}
use Rattle.convert.specs.WorkingConvert.{judged_for, outcome_of, call_of, header_by, header_call}
use Rattle.convert.specs.declared.Headed.{Headed}

module _ {A : Type 0} (none : A) (given : Judged → A) where
  module _ (roomy : Bool) (s station : List ℕ) where
    pub short : roomy ≡ false → call_of none given roomy s station ≡ alone none 2 0
    unfolding call_of
    short e = rw e

    pub long : roomy ≡ true → (j : Judged) → j ≡ judged_for s station → call_of none given roomy s station ≡ outcome_of none given j
    unfolding call_of
    long e j is = rw (e, is)

  module _ (j : Judged) where
    pub refused : (j.number ≡ 0 → ⊥) → outcome_of none given j ≡ alone none j.number j.field
    unfolding outcome_of
    refused e = rw (ne_eqb j.number 0 e)

    pub quiet : j.number ≡ 0 → j.quiet ≡ true → outcome_of none given j ≡ alone none j.number j.field
    unfolding outcome_of
    quiet e q = rw (e, q)

    pub alert : j.number ≡ 0 → j.quiet ≡ false → outcome_of none given j ≡ record { number = 0; field = j.field; given = given j }
    unfolding outcome_of
    alert e q = rw (e, q)

-- ---- the call for the header

module _ (s station : List ℕ) (room : ℕ) where
  pub headed-short : room < 252 → header_call s station room ≡ alone no_header 2 0
  unfolding header_call
  headed-short h = short no_header _ _ s station (lt-leb 252 room h)

  pub headed : 252 ≤ room → (j : Judged) → j ≡ judged_for s station → header_call s station room ≡ outcome_of no_header (header_by s station) j
  unfolding header_call
  headed h j is = long no_header _ _ s station (le-leb 252 room h) j is

-- ---- the answer and the header's output at exit, as the outcome has them

abbrev pub HeaderAnswers : HeaderOutcome → Headed → List ℕ → List ℕ → Type 0
HeaderAnswers o r out x = (r ≡ header_answer_of o) × (x ≡ sets out 0 o.given.header)

pub untouched : (o : HeaderOutcome) (r : Headed) (out : List ℕ) (n f : ℕ) → o ≡ alone no_header n f → r ≡ header_answer_of (alone no_header n f) → HeaderAnswers o r out out
untouched o r out n f e h = (h ∙ ap header_answer_of (sym e), rw e)

-- ---- what an alert has: the station is one, the parts are a header's, and the uri fits

pub record Ready (s station : List ℕ) (j : Judged) : Type 0 where
  pub named : station_ok station ≡ true
  pub body : body_ok j.body ≡ true
  pub fits : UriFits (uri_in s (info_in j.message).audio)

pub ready : (s station : List ℕ) (j : Judged) → j ≡ judged_for s station → j.number ≡ 0 → j.quiet ≡ false → Ready s station j
unfolding judged_for
ready s station j is e q = go (station_ok station) refl
  where
    go : (b : Bool) → station_ok station ≡ b → Ready s station j
    go true b =
        let judged : j ≡ judged_of s = rw b at is in
        rw judged (record {
          named = b;
          body = body_ok_lem s (rw judged at e) (rw judged at q);
          fits = rw (message-kept s (message_says s)) (uri-fits s (info_in (message_says s)).audio (audio-fits s));
        })
    go false b = let three : ◌≡◌ {A = ℕ} 3 0 = rw (is, b) at e in absurd (omega (arith, three))
