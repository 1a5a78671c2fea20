-- The answers of a write, by its number.
use Prim.Native.Nat.{ℕ, suc, ◌≤◌, ◌<◌}
use mathlib.Core.Bool.{Bool, true, false}
use mathlib.Core.List.{List}
use mathlib.Core.Path.{◌≡◌, refl}
use native.Mathlib.Omega.{arith}
use lib.Dec.{leb, eqb-suc-zero}
use lib.ListN.{length}
use lib.Seq.{sets}
use borrow.Author.Tests.{leb-true, le-leb, lt-leb}
use Rattle.header.specs.Header.{header_bytes, write_number, write_of, write_bytes}
use Rattle.octets.specs.Bytes.{pick}
use Rattle.parts.specs.Parts.{body_ok, station_ok}
use Rattle.parts.specs.declared.Parts.{Parts}

pub write-refused : (d : List ℕ) (p : Parts) (k : ℕ) → write_number (length d) p ≡ suc k → (write_of d p ≡ record { number = suc k; len = 0 }) × (write_bytes d p ≡ d)
unfolding write_of write_bytes
write-refused d p k h = (rw (h, eqb-suc-zero k), rw (h, eqb-suc-zero k))

pub write_done : (d : List ℕ) (p : Parts) → write_number (length d) p ≡ 0 → (write_of d p ≡ record { number = 0; len = length (header_bytes p) }) × (write_bytes d p ≡ sets d 0 (header_bytes p))
unfolding write_of write_bytes
write_done d p h = (rw h refl, rw h refl)

-- ---- the number, by what was found

pub number_short : (room : ℕ) (p : Parts) → room < 252 → write_number room p ≡ 2
unfolding write_number
number_short room p h = rw (lt-leb 252 room h)

module _ (room : ℕ) (p : Parts) (fits : 252 ≤ room) where
  pub number-station : station_ok p.station ≡ false → write_number room p ≡ 3
  unfolding write_number
  number-station h = rw (le-leb 252 room fits, h)

  pub number-parts : station_ok p.station ≡ true → body_ok p.body ≡ false → write_number room p ≡ 17
  unfolding write_number
  number-parts h k = rw (le-leb 252 room fits, h, k)

  pub number-none : station_ok p.station ≡ true → body_ok p.body ≡ true → write_number room p ≡ 0
  unfolding write_number
  number-none h k = rw (le-leb 252 room fits, h, k)

-- ---- and what number 0 says

pub record Answered (room : ℕ) (p : Parts) : Type 0 where
  pub fits : 252 ≤ room
  pub station : station_ok p.station ≡ true
  pub body : body_ok p.body ≡ true

by : (a b c : Bool) → pick {A = ℕ} a (pick b (pick c 0 17) 3) 2 ≡ 0 → (a ≡ true) × (b ≡ true) × (c ≡ true)
by true true true h = (refl, refl, refl)
by true true false h = absurd (omega arith)
by true false c h = absurd (omega arith)
by false b c h = absurd (omega arith)

pub answered : (room : ℕ) (p : Parts) → write_number room p ≡ 0 → Answered room p
unfolding write_number
answered room p h =
    let a = by (leb 252 room) (station_ok p.station) (body_ok p.body) h in
    record { fits = leb-true 252 room a.0; station = a.1; body = a.2 }
