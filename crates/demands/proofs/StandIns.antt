-- None of the stand-ins meets the demand that is named for it: each is rejected at a message or a board that is computed.
--     refuses-headers-rejected        by the table, which has no number for the sample, and by the header that is not given
--     refuses-texts-rejected, refuses-in-canada-rejected    the same of texts, in each mode
--     forgets-stations-rejected       by the table, which has 3 for a station that is none
--     one-header-rejected             by the headers of two messages
--     writes-nothing-rejected, invented-count-rejected    by the count, which is the growth in filled records
--     nothing-after-first-rejected    by hand-outs that give one of two due headers
--     forgets-years-rejected          by the table, which has no number for the weekly test of the second year
-- They are rejected for what they answer and not for how they are written: whatever answers as the library does meets the demands if the library does.
--     alike, careful-meets
use Prim.Native.Nat.{ℕ, ◌+◌, min}
use mathlib.Core.Path.{◌≡◌, refl, sym, ap, ap₂, ◌∙◌, subst}
use mathlib.Core.Bool.{Bool, true, false, true≢false}
use mathlib.Core.List.{List, [], ◌∷◌, append-nil}
use native.Mathlib.Omega.{arith}
use lib.Dec.{eqb}
use lib.ListN.{length, take, get_or}
use lib.Seq.{take-length}
use Rattle.octets.specs.Bytes.{pick, every}
use Rattle.octets.specs.Text.{bytes}
use Rattle.told.specs.Values.{is_none}
use Rattle.outputs.specs.Outputs.{TextGiven}
use Rattle.convert.specs.Convert.{HeaderGiven, no_header}
use Rattle.board.specs.Rules.{board_of}
use Rattle.offers.specs.Offer.{MessageOffering}
use Rattle.demands.specs.Calls.{Calls, library}
use Rattle.demands.specs.Message.{is_quiet, whole_header, whole_text, whole_in_canada}
use Rattle.demands.specs.Numbers.{none_applies, call_rows}
use Rattle.demands.specs.Demands.{Demand1, Demand2, Demand3, Demands}
use Rattle.demands.specs.StandIns.{sample, other, bench, none_held, one_held, two_due, weekly_due, sample_dated}
use Rattle.demands.specs.StandIns.{refuses_headers, refuses_texts, refuses_in_canada, one_header, forgets_stations, writes_nothing, invented_count, nothing_after_first, forgets_years, SameAnswers, careful}
use Rattle.demands.proofs.Samples.{sample-taken, sample-loud, sample-header, sample-text, sample-unnamed, sample-anywhere, sample-taken-in-canada, sample-in-canada, other-taken, other-loud, other-header}
use Rattle.demands.proofs.Samples.{first-offer, second-offer, none_filled, one-filled, two-keeps, two-empty, both-due, only-first}
use Rattle.demands.proofs.Years.{second-due, vanished}

-- ---- converters

sample-some : is_none (whole_header sample bench).header ≡ false
unfolding bytes
sample-some = rw sample-header refl

other-some : is_none (whole_header other bench).header ≡ false
unfolding bytes
other-some = rw other-header refl

pub refuses-headers-rejected : (number : ℕ) → (number ≡ 0 → ⊥) → (Demand1 (refuses_headers number) → ⊥) × (Demand2 (refuses_headers number) → ⊥)
refuses-headers-rejected number refuses = (
  λ d. refuses ((d.header-numbered sample bench 252).zero-exactly.1 sample-taken),
  λ d. true≢false (ap (λ (g : HeaderGiven). is_none g.header) (d.gives-header sample bench 252 sample-taken sample-loud) ∙ sample-some),
)

american-some : is_none (whole_text sample).text ≡ false
unfolding bytes
american-some = rw sample-text refl

pub refuses-texts-rejected : (number : ℕ) → (number ≡ 0 → ⊥) → (Demand1 (refuses_texts number) → ⊥) × (Demand2 (refuses_texts number) → ⊥)
unfolding every
refuses-texts-rejected number refuses = (
  λ d. refuses ((d.text-numbered sample bench 7200 1024).zero-exactly.1 sample-taken),
  λ d. true≢false (ap (λ (g : TextGiven). is_none g.text) (d.gives-text sample bench 7200 1024 sample-taken sample-loud) ∙ american-some),
)

-- 3 where the station is none
pub forgets-stations-rejected : Demand1 forgets_stations → ⊥
unfolding every
forgets-stations-rejected d =
    let lowest : ◌≡◌ {A = ℕ} 0 3 = sym sample-anywhere ∙ ((d.text-numbered sample (bytes "BENCH-01") 7200 1024).lowest ∙ sample-unnamed) in
    omega (arith, lowest)

text-some : is_none (whole_in_canada sample).text ≡ false
unfolding bytes
text-some = rw (ap (λ (g : TextGiven). g.text) sample-in-canada) refl

pub refuses-in-canada-rejected : (number : ℕ) → (number ≡ 0 → ⊥) → (Demand1 (refuses_in_canada number) → ⊥) × (Demand2 (refuses_in_canada number) → ⊥)
refuses-in-canada-rejected number refuses = (
  λ d. refuses ((d.canadian-numbered sample 7200 1024).zero-exactly.1 sample-taken-in-canada),
  λ d. true≢false (ap (λ (g : TextGiven). is_none g.text) (d.canadian-gives-all sample 7200 1024 sample-taken-in-canada) ∙ text-some),
)

-- what is given in place of nothing, where the whole has a header, is the whole
whole-given : (b : Bool) (g w : HeaderGiven) → is_none w.header ≡ false → pick b no_header g ≡ w → g ≡ w
whole-given true g w some e = absurd (true≢false (ap (λ (x : HeaderGiven). is_none x.header) e ∙ some))
whole-given false g w some e = e

-- the one that is given for every message is then that of the message m
one-is : (one : List ℕ → HeaderGiven) → Demand2 (one_header one) → (m : List ℕ) →
    none_applies (call_rows true m bench) ≡ true → is_quiet m ≡ false → is_none (whole_header m bench).header ≡ false → one bench ≡ whole_header m bench
one-is one d m taken loud some =
    whole-given (is_none (library.heading m bench 252).given.header) (one bench) (whole_header m bench) some
    (d.gives-header m bench 252 taken loud)

events-differ : bytes "ZCZC-CIV-CEM-024031+0045-0951800-BENCH/01-" ≡ bytes "ZCZC-CIV-TOR-024031+0045-0951800-BENCH/01-" → ⊥
unfolding bytes
events-differ e = let c : ◌≡◌ {A = ℕ} 67 84 = ap (λ (h : List ℕ). get_or h 9 0) e in omega (arith, c)

pub one-header-rejected : (one : List ℕ → HeaderGiven) → Demand2 (one_header one) → ⊥
one-header-rejected one d =
    let same : whole_header sample bench ≡ whole_header other bench =
    sym (one-is one d sample sample-taken sample-loud sample-some) ∙ one-is one d other other-taken other-loud other-some in
    let header : HeaderGiven → List ℕ = λ (g : HeaderGiven). g.header in
    events-differ (sym (ap header sample-header) ∙ (ap header same ∙ other-header))

-- ---- offers

-- b, as it was, has grown by what an offer says
abbrev Grows : List ℕ → MessageOffering → Type 0
Grows b o = length (board_of b) ≡ length (board_of b) + o.answer.added

pub writes-nothing-rejected : Demand3 writes_nothing → ⊥
writes-nothing-rejected d =
    let grows : length (board_of none_held) ≡ length (board_of none_held) + 1 = subst (Grows none_held) first-offer (d.added-is-growth none_held sample) in
    omega (arith, grows)

-- the bytes of an offer have grown by so many, where it answers 0
abbrev GrowsBy : ℕ → List ℕ → MessageOffering → Type 0
GrowsBy count b o = length (board_of o.bytes) ≡ length (board_of b) + pick (eqb o.answer.number 0) count 0

-- one message is offered twice, and the board grows once
pub invented-count-rejected : (count : ℕ) → Demand3 (invented_count count) → ⊥
invented-count-rejected count d =
    let first : length (board_of one_held) ≡ length (board_of none_held) + count = subst (GrowsBy count none_held) first-offer (d.added-is-growth none_held sample) in
    let second : length (board_of one_held) ≡ length (board_of one_held) + count = subst (GrowsBy count one_held) second-offer (d.added-is-growth one_held sample) in
    omega (arith, first, second, none_filled, one-filled)

-- ---- hand-outs

pub nothing-after-first-rejected : Demand3 nothing_after_first → ⊥
nothing-after-first-rejected d =
    let each : sample_dated "CEM" ∷ [] ≡ take (min 2 2) (sample_dated "CEM" ∷ (sample_dated "TOR" ∷ [])) =
    sym only-first ∙ (d.in_order two_due two-keeps 2 ∙ ap₂ (λ (n : ℕ) (hs : List (List ℕ)). take (min 2 n) hs) two-empty both-due) in
    let c : ◌≡◌ {A = ℕ} 1 2 = ap length each in
    omega (arith, c)

-- the weekly test that vanished
pub forgets-years-rejected : Demand1 forgets_years → ⊥
forgets-years-rejected d =
    let lowest : ◌≡◌ {A = ℕ} 16 0 = sym vanished ∙ ((d.hand-out-numbered weekly_due).lowest ∙ second-due) in
    omega (arith, lowest)

-- ---- what answers as the library

same-calls : (c : Calls) → SameAnswers c → c ≡ library
same-calls c same = λ i. record {
  heading = λ s station h. same.heading s station h i;
  texting = λ s station t u. same.texting s station t u i;
  canadian = λ s t u. same.canadian s t u i;
  offering = λ b s. same.offering b s i;
  handing = λ b. same.handing b i;
  listing = λ b rows. same.listing b rows i;
  reading = λ s. same.reading s i;
  writing = λ d p. same.writing d p i;
}

pub alike : (c : Calls) → SameAnswers c → Demands library → Demands c
alike c same d = subst Demands (sym (same-calls c same)) d

careful-same : SameAnswers careful
careful-same = record {
  heading = λ s station h. ap (λ (m : List ℕ). library.heading m station h) (take-length s);
  texting = λ s station t u. ap (λ (m : List ℕ). library.texting m station t u) (take-length s);
  canadian = λ s t u. ap (λ (m : List ℕ). library.canadian m t u) (take-length s);
  offering = λ b s. ap (library.offering b) (take-length s);
  handing = λ b. refl;
  listing = λ b rows. refl;
  reading = λ s. ap library.reading (append-nil s);
  writing = λ d p. refl;
}

pub careful-meets : Demands library → Demands careful
careful-meets d = alike careful careful-same d
