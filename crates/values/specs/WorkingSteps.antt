-- How a value is read forward, character by character, what it is asked for, and how it is put into a text.
use Rattle.std.specs.Prelude.{◌≡◌, ℕ, zero, suc, ◌+◌, Bool, true, List, length, take, eqb, ltb}
use Rattle.octets.specs.Bytes.{pick, every, between, is_space}
use Rattle.octets.specs.Digits.{num_of}
use Rattle.std.specs.Prelude.{Option, Some, None}
use Rattle.characters.specs.Utf8.{utf8}
use Rattle.values.specs.Chars.{fold_at, text_at}
use Rattle.values.specs.declared.Found.{Found}
use Rattle.values.specs.declared.Spelled.{Spelled}
use Rattle.values.specs.Value.{runs}

-- what is left of a value from a place in it
abbrev pub rest_at : List ℕ → ℕ → List ℕ
rest_at s i = runs (text_at s i)

-- ---- what a value is asked for

-- a character as one byte keeps it: itself below 128, and 0, which no value that is asked for has, for any other
unfoldable pub low : ℕ → ℕ
low c = pick (ltb c 128) c 0

-- 32 to 126
abbrev pub is_printable : ℕ → Bool
is_printable c = between 32 126 c

-- a test that lets each of those through
abbrev pub TakesPrintable : (ℕ → Bool) → Type 0
TakesPrintable p = (c : ℕ) → is_printable c ≡ true → p c ≡ true

-- how many characters a value has of which each passes; 0 if one does not
abbrev pub size_if : (ℕ → Bool) → List ℕ → ℕ
size_if p v = pick (every p v) (length v) 0

unfoldable pub printable_size : List ℕ → ℕ
printable_size v = size_if is_printable v

-- six digits, as a number
unfoldable pub six_digits : List ℕ → Option ℕ
six_digits v = pick (eqb (length v) 6) (num_of v) None

-- ---- how a value is read forward, character by character

-- what the code computes by a closure is what f says
abbrev pub Computes : {B : Type 0} → (ℕ → B → Type 0) → (ℕ → B) → Type 0
Computes post f = (c : ℕ) (r : _) → post c r → r ≡ f c

-- the first character from i on that passes
unfoldable pub first_at : (ℕ → Bool) → List ℕ → ℕ → Option Found
first_at p s i = fold_at (λ i c j r. pick (p c) (Some (record { c = c; at = i; next = j })) r) None s i

-- after white space: a space, if a character stands behind it that is none, and where that stands
unfoldable pub gap_at : List ℕ → ℕ → Option (ℕ × ℕ)
gap_at s i = fold_at (λ i c j r. pick (is_space c) r (Some (32, i))) None s i

-- the next character of a value and where the one after it stands, or that there is none
unfoldable pub step_at : List ℕ → ℕ → Option (ℕ × ℕ)
step_at s i = fold_at (λ i c j r. pick (is_space c) (gap_at s j) (Some (c, j))) None s i

unfoldable pub placed : ℕ → Option (ℕ × ℕ) → ℕ
placed n (Some (c, j)) = j
placed n None = n

-- where the first character of a value stands: the first that is no white space, and the message's end if there is none
unfoldable pub lead_at : List ℕ → ℕ → ℕ
lead_at s i = placed (length s) (gap_at s i)

-- ---- how a value is put into a text

unfoldable pub onward : ℕ → Option (ℕ × ℕ) → (ℕ → ℕ) → ℕ
onward i (Some (c, j)) rest = rest j
onward i None rest = i

-- the place behind n characters, from a place i in a value; the place at its end if it has fewer
unfoldable pub place_after : List ℕ → ℕ → ℕ → ℕ
place_after s zero i = i
place_after s (suc n) i = onward i (step_at s i) (place_after s n)

-- at most g characters from a place i in a value, put from `to` on: how many, where their bytes end, and where the value goes on
unfoldable pub spelled_of : List ℕ → ℕ → ℕ → ℕ → Spelled
spelled_of s i g to = record {
  count = length (take g (rest_at s i));
  end = to + length (utf8 (take g (rest_at s i)));
  next = place_after s g i;
}
