-- What stands at the start of an output, and what the program prints by its room.
use Prim.Native.Nat.{ℕ, ◌≤◌, ◌<◌}
use mathlib.Core.List.{List, []}
use mathlib.Core.Path.{◌≡◌, sym, ap, ◌∙◌}
use native.Mathlib.Omega.{arith}
use borrow.Author.Tests.{lt-ltb, le-ltb}
use lib.ListN.{length, take, replicate}
use lib.Seq.{sets, sets-eq, length-sets, take_at}
use Rattle.outputs.specs.Outputs.{text_answer_of}
use Rattle.outputs.specs.declared.TextAudio.{TextAudio}
use Rattle.convert.specs.Convert.{header_answer_of}
use Rattle.convert.specs.declared.Headed.{Headed}
use Rattle.report.proofs.Fits.{both-fit}
use Rattle.report.specs.Lines.{lines_of}
use Rattle.report.specs.Program.{BothOutcomes, bench_of, printed, program_of}

-- v is the first n bytes of x
pub record Front (v x : List ℕ) (n : ℕ) : Type 0 where
  pub inside : n ≤ length x
  pub long : n ≡ length (take n x)
  pub is : take n x ≡ v

pub front-put : (d v : List ℕ) {x : List ℕ} {n : ℕ} → length v ≤ length d → n ≡ length v → x ≡ sets d 0 v → Front v x n
front-put d v {x} {n} fits long put =
    let is : take n x ≡ v = ap (take n) (put ∙ sets-eq v d 0 (omega arith)) ∙ take_at v _ n (sym long) in
    record { inside = omega (arith, ap length put, length-sets d 0 v); long = long ∙ sym (ap length is); is = is }

module _ (message : List ℕ) where
  pub header-front : (r : Headed) {x : List ℕ} → r ≡ header_answer_of (bench_of message).headed → x ≡ sets (replicate 252 0) 0 (bench_of message).headed.given.header → Front (bench_of message).headed.given.header x r.header
  unfolding header_answer_of
  header-front r e p = front-put (replicate 252 0) _ (both-fit message).header (ap (λ (r : Headed). r.header) e) p

  module _ (a : TextAudio) {x : List ℕ} (e : a ≡ text_answer_of (bench_of message).worded) where
    pub uri-front : x ≡ sets (replicate 1024 0) 0 (bench_of message).worded.given.uri → Front (bench_of message).worded.given.uri x a.uri
    unfolding text_answer_of
    uri-front p = front-put (replicate 1024 0) _ (both-fit message).uri (ap (λ (a : TextAudio). a.uri) e) p

    pub text-front : x ≡ sets (replicate 7200 0) 0 (bench_of message).worded.given.text → Front (bench_of message).worded.given.text x a.text
    unfolding text_answer_of
    text-front p = front-put (replicate 7200 0) _ (both-fit message).text (ap (λ (a : TextAudio). a.text) e) p

-- the lines of what both calls answer and put
pub lines-printed : (o : BothOutcomes) (r : Headed) (a : TextAudio) {header uri text : List ℕ} → r ≡ header_answer_of o.headed → a ≡ text_answer_of o.worded →
    header ≡ o.headed.given.header → uri ≡ o.worded.given.uri → text ≡ o.worded.given.text →
    lines_of r.number r.field header a.audio uri r.carry text ≡ printed o
unfolding header_answer_of text_answer_of
lines-printed o r a e f h u t = rw (e, f, h, u, t)

pub program-none : (room : ℕ) (message : List ℕ) → room < 8704 → program_of room message ≡ []
unfolding program_of
program-none room message h = rw (lt-ltb room 8704 h)

pub program-lines : (room : ℕ) (message : List ℕ) → 8704 ≤ room → program_of room message ≡ printed (bench_of message)
unfolding program_of
program-lines room message h = rw (le-ltb room 8704 h)
