-- The bytes of a text.
--     utf8_append     those of one text behind another
--     utf8-least      at least one for each character
--     utf8-most       at most four for each character
--     utf8-plain      a text of characters below 128 is its own bytes
use Prim.Native.Nat.{ℕ, ◌*◌, ◌≤◌}
use mathlib.Core.Path.{◌≡◌, refl, sym, ap, ap₂, ◌∙◌}
use mathlib.Core.Bool.{true}
use mathlib.Core.List.{List, [], ◌∷◌, ◌++◌, append_assoc}
use native.Mathlib.Omega.{arith}
use lib.ListN.{length, length-append}
use lib.Dec.{ltb}
use borrow.Author.Tests.{ltb-true}
use Rattle.octets.specs.Bytes.{every}
use Rattle.octets.proofs.Tests.{every_first, every_rest}
use Rattle.characters.specs.Utf8.{encoded, utf8}
use Rattle.characters.proofs.Forms.{encoded-one, width_some, width-most}

pub utf8_append : (xs ys : List ℕ) → utf8 (xs ++ ys) ≡ utf8 xs ++ utf8 ys
unfolding utf8
utf8_append [] ys = refl
utf8_append (x ∷ xs) ys = ap (λ (r : List ℕ). encoded x ++ r) (utf8_append xs ys) ∙ sym (append_assoc (encoded x) (utf8 xs) (utf8 ys))

pub utf8-least : (cs : List ℕ) → length cs ≤ length (utf8 cs)
unfolding utf8
utf8-least [] = omega arith
utf8-least (c ∷ cs) = omega (arith, length-append (encoded c) (utf8 cs), width_some c, utf8-least cs)

pub utf8-most : (cs : List ℕ) → length (utf8 cs) ≤ 4 * length cs
unfolding utf8
utf8-most [] = omega arith
utf8-most (c ∷ cs) = omega (arith, length-append (encoded c) (utf8 cs), width-most c, utf8-most cs)

pub utf8-plain : (cs : List ℕ) → every (λ c. ltb c 128) cs ≡ true → utf8 cs ≡ cs
unfolding utf8
utf8-plain [] h = refl
utf8-plain (c ∷ cs) h =
    ap₂ (λ (x y : List ℕ). x ++ y)
    (encoded-one c (ltb-true c 128 (every_first (λ c. ltb c 128) c cs h)))
    (utf8-plain cs (every_rest (λ c. ltb c 128) c cs h))
