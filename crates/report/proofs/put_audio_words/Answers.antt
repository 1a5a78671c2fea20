-- Each choice by its number.
use Prim.Native.Nat.{ℕ}
use mathlib.Core.Path.{ap}
use native.Mathlib.Omega.{arith}
use lib.ListN.{length}
use Rattle.octets.specs.Text.{bytes}
use Rattle.sentence.proofs.Writers.{named}
use Rattle.report.proofs.Choices.{audio-none}
use Rattle.report.specs.Lines.{audio_words}
use Rattle.report.proofs.put_audio_words.Goals as goal

pub put_spaced-requires : goal.put_spaced-requires
unfolding audio_words bytes
put_spaced-requires c = omega (arith, ap (λ (k : ℕ). length (audio_words k c.args.uri.now)) c.in-1.is, c.requires)

pub put_spaced-requires-in-2 : goal.put_spaced-requires-in-2
unfolding audio_words bytes
put_spaced-requires-in-2 c = omega (arith, ap (λ (k : ℕ). length (audio_words k c.args.uri.now)) c.in-2.is, c.requires)

pub put_spaced-requires-in-3 : goal.put_spaced-requires-in-3
unfolding audio_words bytes
put_spaced-requires-in-3 c = omega (arith, ap (λ (k : ℕ). length (audio_words k c.args.uri.now)) c.in-3.is, c.requires)

pub put-requires : goal.put-requires
unfolding bytes
put-requires c = omega (arith, ap length (audio-none c.args.audio c.args.uri.now (λ h. omega arith) (λ h. omega arith) (λ h. omega arith)), c.requires)

pub returns-in-1 : goal.returns-in-1
unfolding audio_words bytes
returns-in-1 c = named c.put_spaced.ensures _ (ap (λ (k : ℕ). audio_words k c.args.uri.now) c.in-1.is)

pub returns-in-2 : goal.returns-in-2
unfolding audio_words bytes
returns-in-2 c = named c.put_spaced-in-2.ensures _ (ap (λ (k : ℕ). audio_words k c.args.uri.now) c.in-2.is)

pub returns-in-3 : goal.returns-in-3
unfolding audio_words bytes
returns-in-3 c = named c.put_spaced-in-3.ensures _ (ap (λ (k : ℕ). audio_words k c.args.uri.now) c.in-3.is)

pub returns-in_default : goal.returns-in_default
unfolding bytes
returns-in_default c = named c.put.ensures _ (audio-none _ _ (λ h. omega arith) (λ h. omega arith) (λ h. omega arith))
