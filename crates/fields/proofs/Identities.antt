-- Which runs are identities and times, and that a copy with a character more than the longest has is enough to tell.
--     identity-no, bytes-decide           a test that fails, and what the last one says
--     left_out, let_in, unseen            the bytes of an identity
--     identity-short, time-short          how long they are
--     identity-kept                       an identity's characters are such as a copy keeps
--     identity-copied, time-copied        copies of the first 65 and 26 characters are judged as the whole
use Prim.Native.Nat.{ℕ, ◌≤◌, ◌<◌}
use mathlib.Core.Path.{◌≡◌, refl, sym, ap, ◌∙◌}
use mathlib.Core.Bool.{Bool, true, false, ◌&&◌, true≢false, and-false, and-true}
use mathlib.Core.Logic.{◌⊎◌, inl, inr}
use Rattle.std.specs.List.{list_all}
use mathlib.Core.List.{List, [], ◌∷◌, map}
use native.Mathlib.Omega.{arith}
use borrow.Author.Tests.{ne_eqb, eqb-true}
use lib.Dec.{eqb}
use lib.ListN.{length, take, get_or}
use Rattle.octets.specs.Bytes.{every, holds, between, one_of, is_visible}
use Rattle.octets.proofs.Tests.{each_of, one-fails, and_left, between-low, between-high, between_is, above-between}
use Rattle.clock.specs.Time.{local_time, offset, utc, in_span, time_tests, time_of, is_time}
use Rattle.std.specs.Prelude.{None}
use Rattle.clock.proofs.Times.{time-no}
use Rattle.octets.proofs.Everys.{every-weaker, last-decides}
use Rattle.clock.proofs.Kept.{tests-kept}
use Rattle.values.specs.WorkingSteps.{low}
use Rattle.values.proofs.Copies.{is_kept, low_same, low-pick}
use Rattle.fields.specs.Fields.{is_identity_byte, identity_ok}
use Rattle.fields.proofs.Buffers.{cut}

-- ---- identities

abbrev pub identity_tests : List ℕ → List Bool
identity_tests v = between 1 64 (length v) ∷ every is_identity_byte v ∷ []

pub identity-no : (i : ℕ) (v : List ℕ) → get_or (identity_tests v) i true ≡ false → identity_ok v ≡ false
unfolding identity_ok
identity-no i v h = one-fails i (identity_tests v) h

pub identity-short : (v : List ℕ) → identity_ok v ≡ true → length v ≤ 64
unfolding identity_ok
identity-short v h = between-high 1 64 (length v) (each_of (identity_tests v) h).0

pub identity-long : (v : List ℕ) → 64 < length v → identity_ok v ≡ false
identity-long v h = identity-no 0 v (above-between 1 64 (length v) h)

-- where the length fits, its bytes decide
pub bytes-decide : (v : List ℕ) → 1 ≤ length v → length v ≤ 64 → every is_identity_byte v ≡ identity_ok v
unfolding identity_ok
bytes-decide v l h = sym (last-decides (between 1 64 (length v) ∷ []) (every is_identity_byte v) (between_is 1 64 (length v) l h, tt))

-- as an iterator tests them
pub every-all : (f : ℕ → Bool) (v : List ℕ) → list_all f v ≡ every f v
unfolding every
every-all f [] = refl
every-all f (c ∷ v) = ap (λ (b : Bool). f c && b) (every-all f v)

-- a byte that is left out, and one that is not
pub left_out : (b : ℕ) → (b ≡ 38) ⊎ ((b ≡ 44) ⊎ (b ≡ 60)) → is_identity_byte b ≡ false
unfolding is_identity_byte one_of
left_out b (inl e) = rw e (and-false (is_visible 38))
left_out b (inr (inl e)) = rw e (and-false (is_visible 44))
left_out b (inr (inr e)) = rw e (and-false (is_visible 60))

pub let_in : (b : ℕ) → ((b ≡ 38) ⊎ ((b ≡ 44) ⊎ (b ≡ 60)) → ⊥) → is_visible b ≡ is_identity_byte b
unfolding is_identity_byte one_of
let_in b n = rw (ne_eqb b 44 (λ e. n (inr (inl e))), ne_eqb b 60 (λ e. n (inr (inr e))), ne_eqb b 38 (λ e. n (inl e)), and-true)

pub unseen : (b : ℕ) → is_visible b ≡ false → is_identity_byte b ≡ false
unfolding is_identity_byte
unseen b e = rw e

-- ---- times

pub time-not : (t : List ℕ) → (length t ≡ 25 → ⊥) → time_of t ≡ None
time-not t h = time-no 0 t (ne_eqb (length t) 25 h)

pub time-short : (t : List ℕ) → is_time (time_of t) ≡ true → length t ≡ 25
time-short t h = go (eqb (length t) 25) refl
  where
    go : (b : Bool) → eqb (length t) 25 ≡ b → length t ≡ 25
    go true e = eqb-true (length t) 25 e
    go false e = let d : true ≡ false = sym h ∙ ap is_time (time-no 0 t e) in absurd (true≢false d)

-- ---- a copy has the characters that are asked for, and a run that is too long is refused

byte-kept : (c : ℕ) → is_identity_byte c ≡ true → is_kept c ≡ true
unfolding is_identity_byte is_visible
byte-kept c h =
    let v = and_left (between 33 126 c) _ h in
    between_is 1 127 c (omega (arith, between-low 33 126 c v)) (omega (arith, between-high 33 126 c v))

pub identity-kept : (v : List ℕ) → identity_ok v ≡ true → every is_kept v ≡ true
unfolding identity_ok
identity-kept v h = every-weaker is_identity_byte is_kept byte-kept v (each_of (identity_tests v) h).1.0

pub identity-copied : (v : List ℕ) → identity_ok (map low (take 65 v)) ≡ identity_ok v
identity-copied v = low_same identity_ok identity-kept (take 65 v) ∙ cut identity_ok false 64 identity-long v

time-low : (v : List ℕ) → time_of (map low v) ≡ time_of v
unfolding time_of
time-low v = low-pick (λ (t : List ℕ). every holds (time_tests t)) tests-kept v (λ (t : List ℕ). in_span (utc (local_time t) (offset t))) None

pub time-copied : (v : List ℕ) → time_of (map low (take 26 v)) ≡ time_of v
time-copied v = time-low (take 26 v) ∙ cut time_of None 25 (λ t h. time-not t (omega arith)) v
