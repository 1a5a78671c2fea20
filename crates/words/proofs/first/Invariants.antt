-- While no word passed is taken, the rest decides.
use mathlib.Core.Path.{◌≡◌}
use mathlib.Core.Bool.{Bool}
use mathlib.Core.List.{List}
use Prim.Native.Nat.{ℕ}
use lib.ListN.{drop}
use Rattle.words.specs.WorkingWords.{words_of, first_of}
use Rattle.words.proofs.first.Given as goal

abbrev pub invariant-loop-k : goal.invariant-loop-k
invariant-loop-k g l =
    (p : ℕ → List ℕ → Bool) → ((k : _) (w : _) (r : _) → goal.F-post g l.takes k w r → r ≡ p k w.now) → first_of p l.k (words_of (drop l.k l.lens) l.rest) ≡ first_of p 0 (words_of l.lens l.text)
