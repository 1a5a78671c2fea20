-- The words of a value, read forward from a place in it.
use Rattle.std.specs.Prelude.{ℕ, zero, suc, List, length, eqb}
use Rattle.octets.specs.Bytes.{pick, one_of}
use Rattle.values.specs.WorkingSteps.{rest_at, step_at}
use Rattle.std.specs.Prelude.{Option, Some, None}
use Rattle.fields.specs.References.{up_to}
use Rattle.fields.specs.declared.Word.{Word}

-- the word that begins there
abbrev pub word_in : List ℕ → ℕ → List ℕ
word_in s i = up_to 32 (rest_at s i)

-- a step on: behind a space, and e at the value's end
unfoldable pub word_on : ℕ → Option (ℕ × ℕ) → (ℕ → ℕ) → ℕ
word_on e (Some (c, j)) rest = pick (eqb c 32) j (rest j)
word_on e None rest = e

-- behind the first space, n characters on at most
unfoldable pub next_from : List ℕ → ℕ → ℕ → ℕ
next_from s zero i = length s
next_from s (suc n) i = word_on (length s) (step_at s i) (next_from s n)

-- where the next word begins, and the message's end if there is none; each character takes a byte at least
unfoldable pub next_word : List ℕ → ℕ → ℕ
next_word s i = next_from s (suc (length s)) i

-- its length, and where the next begins, if there is one
unfoldable pub word_at : List ℕ → ℕ → Word
word_at s i = record { len = length (word_in s i); next = pick (one_of (rest_at s i) 32) (Some (next_word s i)) None }
