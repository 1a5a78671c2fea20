-- What a character of text or of a value is decoded, by itself or by reference, is a character: char-legal.
use Prim.Native.Nat.{ℕ, ◌+◌, ◌-◌}
use mathlib.Core.Path.{◌≡◌, refl}
use mathlib.Core.Bool.{true}
use mathlib.Core.List.{List}
use lib.ListN.{length}
use lib.Dec.{eqb}
use Rattle.octets.specs.Bytes.{every, holds, between, one_of, part, stands}
use Rattle.octets.specs.Scan.{past}
use Rattle.octets.specs.Text.{bytes}
use Rattle.octets.proofs.Tests.{and_left, each_of, either_way}
use Rattle.characters.specs.Utf8.{is_legal, width, scalar_at}
use Rattle.pieces.specs.Classes.{is_plain, is_figure}
use Rattle.pieces.specs.Pieces.{entity, worded_at, numeral_from, number_tests, number_at, ref_at, char_at}
use Rattle.std.specs.Prelude.{Option, Some, None}

abbrev RefLegal : Option (ℕ × ℕ) → Type 0
RefLegal (Some (c, j)) = is_legal c ≡ true
RefLegal None = Unit {0}

entity-legal : (w : List ℕ) (c : ℕ) (s : List ℕ) (i : ℕ) (r : Option (ℕ × ℕ)) → is_legal c ≡ true → RefLegal r → RefLegal (entity w c s i r)
entity-legal w c s i r h g = either_way RefLegal (stands w s i) (Some (c, i + length w)) r (λ e. h) (λ e. g)

worded-legal : (s : List ℕ) (i : ℕ) → RefLegal (worded_at s i)
unfolding worded_at is_legal between every one_of
worded-legal s i =
    let e5 = entity (bytes "&apos;") 39 s i None in
    let e4 = entity (bytes "&quot;") 34 s i e5 in
    let e3 = entity (bytes "&amp;") 38 s i e4 in
    let e2 = entity (bytes "&gt;") 62 s i e3 in
    entity-legal (bytes "&lt;") 60 s i e2 refl (entity-legal (bytes "&gt;") 62 s i e3 refl (entity-legal (bytes "&amp;") 38 s i e4 refl
    (entity-legal (bytes "&quot;") 34 s i e5 refl (entity-legal (bytes "&apos;") 39 s i None refl tt))))

number-legal : (base : ℕ) (s : List ℕ) (i : ℕ) → RefLegal (number_at base s i)
unfolding number_at
number-legal base s i =
    let e = past (is_figure base) s i in
    either_way RefLegal (every holds (number_tests base s i e)) (Some (numeral_from base 0 (part s i (e - i)), e + 1)) None
    (λ q. (each_of (number_tests base s i e) q).1.1.0) (λ q. tt)

ref-legal : (s : List ℕ) (i : ℕ) → RefLegal (ref_at s i)
unfolding ref_at
ref-legal s i =
    either_way RefLegal (stands (bytes "&#x") s i) _ _ (λ e. number-legal 16 s (i + 3))
    (λ e. either_way RefLegal (stands (bytes "&#") s i) _ _ (λ e. number-legal 10 s (i + 2)) (λ e. worded-legal s i))

at-legal : (s : List ℕ) (i : ℕ) → RefLegal (char_at s i)
unfolding char_at is_plain
at-legal s i =
    let c = scalar_at s i in
    either_way RefLegal (eqb c 38) _ _ (λ e. ref-legal s i)
    (λ e. either_way RefLegal (is_plain c) (Some (c, i + width c)) None (λ q. and_left (is_legal c) _ q) (λ q. tt))

pub char-legal : (s : List ℕ) (i c j : ℕ) → char_at s i ≡ Some (c, j) → is_legal c ≡ true
char-legal s i c j e = rw e at (at-legal s i)
