-- Demand 2: writing what was read from any accepted header gives the same bytes.
--     write-read-header     the header, through a lent output
--     write-read-body       the header through the dash after JJJHHMM
use Prim.Native.Nat.{ℕ, ◌+◌, ◌*◌, ◌≤◌}
use mathlib.Core.Bool.{Bool, true, false}
use mathlib.Core.List.{List, [], ◌∷◌, ◌++◌}
use mathlib.Core.Path.{◌≡◌, refl, sym, ap, ap₂, ◌∙◌}
use native.Mathlib.Nat.{zero-add}
use native.Mathlib.Omega.{arith}
use lib.ListN.{length, take, drop, get_or, length-take, length-drop, take-append-drop, drop_of_length-le}
use lib.Seq.{sets, sets-eq, take_all}
use borrow.Author.Tests.{eqb-true}
use Rattle.header.proofs.Locations.{locations-forth, length-read, locations-are}
use Rattle.header.proofs.Reading.{length-is, some_in, few-in, body-zero, body-long}
use Rattle.header.proofs.Times.{of-period, of-time, times-forth}
use Rattle.header.proofs.Writing.{write_done, number-none}
use Rattle.header.specs.Body.{locations_bytes, times_bytes, body_bytes, head_tests, head_form, locations_of, period_in, day_in, hour_in, minute_in, location_count, times_part, body_form_tests, body_form, body_of, read_body_of}
use Rattle.header.specs.Header.{header_bytes, station_at, header_tests, header_form, parts_in, refusal, read_of, write_of, write_bytes}
use Rattle.header.specs.declared.Read.{Read}
use Rattle.octets.proofs.Numbers.{range-low, range-high}
use Rattle.octets.proofs.Parts.{length_part, cut, tail_step}
use Rattle.octets.proofs.Sames.{same-is}
use Rattle.octets.proofs.Tests.{Each, each_of}
use Rattle.octets.specs.Bytes.{pick, every, byte_at, part, same}
use Rattle.octets.specs.Text.{bytes}
use Rattle.parts.proofs.Has.{ok_of, event-long, event-capitals, Small, small, none-small}
use Rattle.parts.proofs.Padded.{padded-first, padded-rest, padded-long}
use Rattle.parts.specs.Parts.{padded}
use Rattle.parts.specs.Originator.{originator_bytes, originator_of, is_known, known}
use Rattle.parts.specs.Parts.{is_location, body_ok, station_ok}
use Rattle.std.specs.Prelude.{Option, Some, None}
use Rattle.parts.specs.declared.Originator.{Originator}
use Rattle.parts.specs.declared.Originator.TheVariants.{Pep, Eas, Wxr, Civ}

originator-step : (b : List ℕ) (t : Bool) (o : Originator) (x : Option Originator) → (t ≡ true → originator_bytes o ≡ b) → (is_known x ≡ true → originator_bytes (known x) ≡ b) → is_known (pick t (Some o) x) ≡ true → originator_bytes (known (pick t (Some o) x)) ≡ b
originator-step b true o x f g h = f refl
originator-step b false o x f g h = g h

pub originator-forth : (b : List ℕ) → is_known (originator_of b) ≡ true → originator_bytes (known (originator_of b)) ≡ b
unfolding originator_of
originator-forth b h =
    let try : (o : Originator) → same b (originator_bytes o) ≡ true → originator_bytes o ≡ b = λ o e. sym (same-is b (originator_bytes o) e) in
    originator-step b (same b (originator_bytes Pep)) Pep _ (try Pep)
    (originator-step b (same b (originator_bytes Eas)) Eas _ (try Eas)
    (originator-step b (same b (originator_bytes Wxr)) Wxr _ (try Wxr)
    (originator-step b (same b (originator_bytes Civ)) Civ None (try Civ)
    (λ (e : false ≡ true). absurd (mathlib.Core.Bool.true≢false (sym e)))))) h

-- ---- the body

module _ (s : List ℕ) (ok : body_form s ≡ true) where
  w : Each (body_form_tests s)
  unfolding body_form
  w = each_of (body_form_tests s) ok

  hd : Each (head_tests s)
  unfolding head_form
  hd = each_of (head_tests s) w.1.0

  long : length s ≡ 26 + 7 * location_count s
  long = length-is (length s) w.0

  few : location_count s ≤ 31
  few = few-in (length s) w.0

  times_long : length (times_part s) ≡ 14
  times_long = length_part s (12 + 7 * location_count s) 14 (omega (arith, long))

  times-rest : times_part s ≡ drop (12 + 7 * location_count s) s
  times-rest = take_all 14 (drop (12 + 7 * location_count s) s) (omega (arith, length-drop (12 + 7 * location_count s) s, long))

  first : take (location_count s) (padded (locations_of (location_count s) s 12)) ≡ locations_of (location_count s) s 12
  first = padded-first (locations_of (location_count s) s 12) (location_count s) (length-read (location_count s) s 12) few

  zczc : bytes "ZCZC-" ++ drop 5 s ≡ s
  unfolding bytes
  zczc = ap (λ (x : List ℕ). x ++ drop 5 s) (sym (same-is (part s 0 5) (bytes "ZCZC-") hd.0)) ∙ take-append-drop 5 s

  -- what bytes of a body say is written as those bytes
  pub body-forth : body_bytes (body_of s) ≡ s
  unfolding body_bytes body_of
  body-forth =
      let gₜ : times_bytes (period_in (times_part s)) (day_in (times_part s)) (hour_in (times_part s)) (minute_in (times_part s)) ≡ drop (12 + 7 * location_count s) s = times-forth (times_part s) times_long w.1.1.1.0 w.1.1.1.1.0 ∙ times-rest in
      let g₁₂ : locations_bytes (take (location_count s) (padded (locations_of (location_count s) s 12))) ++ drop (12 + 7 * location_count s) s ≡ drop 12 s =
      ap (λ (x : List ℕ). locations_bytes x ++ drop (12 + 7 * location_count s) s) first ∙ locations-forth (location_count s) s 12 (omega (arith, long)) w.1.1.0 in
      let g₉ : part s 9 3 ++ drop 12 s ≡ drop 9 s = sym (cut s 9 3) in
      let g₈ : 45 ∷ drop 9 s ≡ drop 8 s = ap (λ (x : ℕ). x ∷ drop 9 s) (sym (eqb-true (get_or s 8 0) 45 hd.1.1.0)) ∙ sym (tail_step s 8 (omega (arith, long))) in
      let g₅ : originator_bytes (known (originator_of (part s 5 3))) ++ drop 8 s ≡ drop 5 s = ap (λ (x : List ℕ). x ++ drop 8 s) (originator-forth (part s 5 3) hd.1.0) ∙ sym (cut s 5 3) in
      rw (gₜ, g₁₂, g₉, g₈, g₅, zczc)

  -- and it is a body that a header has
  pub body_ok_lem : body_ok (body_of s) ≡ true
  unfolding body_of
  body_ok_lem =
      let n = location_count s in
      let t = times_part s in
      let ls = locations_of n s 12 in
      let p = of-period t times_long w.1.1.1.0 w.1.1.1.1.0 in
      let k = of-time t times_long w.1.1.1.0 w.1.1.1.1.0 in
      ok_of (body_of s) (record {
        three = event-long (part s 9 3) hd.1.1.1.0;
        capitals = event-capitals (part s 9 3) hd.1.1.1.0;
        some = some_in (length s) w.0;
        few = few;
        long = padded-long ls n (length-read n s 12) few;
        six = ap (every is_location) first ∙ locations-are n s 12 (omega (arith, long)) w.1.1.0;
        rest = padded-rest ls n (length-read n s 12) few;
        period = p.1.1.1.0;
        first = range-low 1 366 (part t 6 3) k.1.0;
        last = range-high 1 366 (part t 6 3) k.1.0;
        hour = range-high 0 23 (part t 9 2) k.1.1.0;
        minute = range-high 0 59 (part t 11 2) k.1.1.1.0;
      })

-- writing what was read from any accepted body gives the same bytes
pub write-read-body : (s : List ℕ) → (read_body_of s).number ≡ 0 → (body_bytes (read_body_of s).body ≡ s) × (body_ok (read_body_of s).body ≡ true)
write-read-body s e =
    let z = body-zero s e in
    (ap body_bytes z.1 ∙ body-forth s z.0, ap body_ok z.1 ∙ body_ok_lem s z.0)

-- ---- the header

module _ (s : List ℕ) (ok : header_form s ≡ true) where
  v : Each (header_tests s)
  unfolding header_form
  v = each_of (header_tests s) ok

  -- 42 to 252 bytes
  pub header-long : (42 ≤ length s) × (length s ≤ 252)
  header-long =
      let b = body-long (take (station_at s) s) v.0 in
      let l = length-take (station_at s) s in
      (omega arith, omega arith)

  pub header-forth : header_bytes (parts_in s) ≡ s
  unfolding header_bytes parts_in
  header-forth =
      let at = station_at s in
      let n = header-long.0 in
      let one : at + 8 + 1 ≡ length s = omega arith in
      let g₁ : drop (at + 8) s ≡ 45 ∷ [] = tail_step s (at + 8) (omega arith) ∙ ap₂ (λ (x : ℕ) (y : List ℕ). x ∷ y) (eqb-true (byte_at s (at + 8)) 45 v.1.1.0) (drop_of_length-le s {i = at + 8 + 1} (omega arith)) in
      ap₂ (λ (x y : List ℕ). x ++ (part s at 8 ++ y)) (body-forth (take at s) v.0) (sym g₁)
      ∙ ap (λ (y : List ℕ). take at s ++ y) (sym (cut s at 8))
      ∙ take-append-drop at s

  pub parts-ok : (body_ok (parts_in s).body ≡ true) × (station_ok (parts_in s).station ≡ true)
  unfolding parts_in
  parts-ok = (body_ok_lem (take (station_at s) s) v.0, v.1.0)

pub header-zero : (s : List ℕ) → (read_of s).number ≡ 0 → (header_form s ≡ true) × ((read_of s).parts ≡ parts_in s)
unfolding read_of
header-zero s = go (header_form s)
  where
    go : (b : Bool) → (pick {A = Read} b (record { number = 0; parts = parts_in s }) refusal).number ≡ 0 → (b ≡ true) × ((pick {A = Read} b (record { number = 0; parts = parts_in s }) refusal).parts ≡ parts_in s)
    go true e = (refl, refl)
    go false e = absurd (omega arith)

-- what a read returns fits a few bits, refused or not
pub read_small : (s : List ℕ) → Small (read_of s).parts.body
unfolding read_of
read_small s = go (header_form s) refl
  where
    go : (b : Bool) → header_form s ≡ b → Small (pick {A = Read} b (record { number = 0; parts = parts_in s }) refusal).parts.body
    go true e = small (parts_in s).body (parts-ok s e).0
    go false e = none-small

-- ---- demand 2, second half

-- Writing what was read from any accepted header gives the same bytes, at the start of the output, and the rest is kept.
pub write-read-header : (s d : List ℕ) → (read_of s).number ≡ 0 → 252 ≤ length d →
    (write_of d (read_of s).parts ≡ record { number = 0; len = length s }) × (write_bytes d (read_of s).parts ≡ s ++ drop (length s) d)
write-read-header s d e h =
    let z = header-zero s e in
    let p = parts_in s in
    let k = parts-ok s z.0 in
    let f = header-forth s z.0 in
    let n = (header-long s z.0).1 in
    let w = write_done d p (number-none (length d) p h k.1 k.0) in
    let fits : 0 + length s ≤ length d = omega arith in (
      ap (write_of d) z.1 ∙ w.0 ∙ ap (λ (l : List ℕ). record { number = 0; len = length l }) f,
      ap (write_bytes d) z.1 ∙ w.1 ∙ ap (sets d 0) f ∙ sets-eq s d 0 fits ∙ ap (λ (j : ℕ). s ++ drop j d) (zero-add (length s)),
    )
