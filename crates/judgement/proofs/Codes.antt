-- Codes of three characters, of which the front of four is judged.
--     event-kept           an event's characters are such as a copy keeps
--     event-judged         the front of four characters is judged as the whole
--     three_back           a front of three is a copy of the whole value
--     origin-low           a copy names the originator that the value names
--     origin-other         no originator has another length than three
use Prim.Native.Nat.{ℕ}
use mathlib.Core.Path.{◌≡◌, refl, sym, ap, ◌∙◌}
use mathlib.Core.Bool.{Bool, true, false}
use mathlib.Core.List.{List, map}
use native.Mathlib.Omega.{arith}
use borrow.Author.Tests.{ne_eqb}
use lib.ListN.{length, take, length-take, length-map}
use lib.Seq.{take_all}
use Rattle.octets.specs.Bytes.{every, between, part, same, is_capital}
use Rattle.octets.specs.Text.{bytes}
use Rattle.octets.proofs.Tests.{one-fails, between-low, between-high, between_is}
use Rattle.octets.proofs.Sames.{same-is, same-long}
use Rattle.octets.proofs.Everys.{every-weaker}
use Rattle.values.specs.WorkingSteps.{low}
use Rattle.values.proofs.Copies.{is_kept, low_same}
use Rattle.parts.specs.Originator.{originator_bytes, originator_of}
use Rattle.parts.specs.Parts.{event_tests, event_ok}
use Rattle.parts.specs.declared.Originator.TheVariants.{Pep, Eas, Wxr, Civ}
use Rattle.std.specs.Prelude.{None}
use Rattle.parts.proofs.Has.{event-capitals}
use Rattle.fields.proofs.Buffers.{cut}

capital-kept : (c : ℕ) → is_capital c ≡ true → is_kept c ≡ true
unfolding is_capital
capital-kept c h = between_is 1 127 c (omega (arith, between-low 65 90 c h)) (omega (arith, between-high 65 90 c h))

pub event-kept : (v : List ℕ) → event_ok v ≡ true → every is_kept v ≡ true
event-kept v h = every-weaker is_capital is_kept capital-kept v (event-capitals v h)

event-copied : (v : List ℕ) → event_ok (map low (take 4 v)) ≡ event_ok v
unfolding event_ok
event-copied v = low_same event_ok event-kept (take 4 v) ∙ cut event_ok false 3 (λ t h. one-fails 0 (event_tests t) (ne_eqb (length t) 3 (omega arith))) v

-- a word that a copy keeps is the value where it is the copy
same_low : (w v : List ℕ) → every is_kept w ≡ true → same (map low v) w ≡ same v w
same_low w v k = low_same (λ (u : List ℕ). same u w) (λ u e. ap (every is_kept) (same-is u w e) ∙ k) v

pub origin-low : (v : List ℕ) → originator_of (map low v) ≡ originator_of v
unfolding originator_of originator_bytes bytes every between
origin-low v = rw (same_low (originator_bytes Pep) v refl, same_low (originator_bytes Eas) v refl, same_low (originator_bytes Wxr) v refl, same_low (originator_bytes Civ) v refl)

pub origin-other : (v : List ℕ) → (length v ≡ 3 → ⊥) → originator_of v ≡ None
unfolding originator_of originator_bytes bytes
origin-other v h = rw (same-long v (bytes "PEP") h, same-long v (bytes "EAS") h, same-long v (bytes "WXR") h, same-long v (bytes "CIV") h)

-- w is the front of the value
module _ (v w : List ℕ) (p : w ≡ map low (take 4 v)) where
  pub event-judged : (r : Bool) → r ≡ event_ok w → r ≡ event_ok v
  event-judged r h = h ∙ ap event_ok p ∙ event-copied v

  long : length w ≡ length (take 4 v)
  long = ap length p ∙ length-map (take 4 v) low

  three-is : length w ≡ 3 → length v ≡ 3
  three-is h = let k : length (take 4 v) ≡ 3 = sym long ∙ h in let q = simp length-take at k in omega arith

  pub three-of : length v ≡ 3 → length w ≡ 3
  three-of h = rw long (simp length-take (omega arith))

  pub three_back : length w ≡ 3 → part w 0 3 ≡ map low v
  three_back h =
      let l : length v ≡ 3 = three-is h in
      take_all 3 w (omega arith) ∙ p ∙ ap (map low) (take_all 4 v (omega arith))
