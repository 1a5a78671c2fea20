-- The header with its year that a record carries.
--     header-dated, year-dated          what it is made of stands in it
--     year-late                         past 2099 no year has begun
--     carried-is, carried_other, ..     that of a notice, and of another record
--     front-is                          it begins with the record's header
--     airs-ok                           the aired record of what a notice carries keeps its rules
use Prim.Native.Nat.{ℕ, suc, ◌+◌, ◌*◌, ◌/◌, ◌%◌, ◌≤◌, ◌<◌}
use mathlib.Core.Bool.{Bool, true}
use mathlib.Core.List.{List, ◌++◌}
use mathlib.Core.Path.{◌≡◌, sym, ap, ap₂, ◌∙◌}
use native.Mathlib.Omega.{arith}
use borrow.Author.Tests.{le-leb, ne_eqb}
use lib.Dec.{eqb, leb}
use lib.ListN.{length, drop, get_or, length-append}
use lib.Seq.{take_at, take-take, get_or-append-add}
use Rattle.octets.specs.Bytes.{pick, between}
use Rattle.octets.proofs.Tests.{each_of, every_of, between_is, either_way}
use Rattle.octets.proofs.Parts.{length_part}
use Rattle.clock.specs.Calendar.{year_days, days_to}
use Rattle.clock.specs.Time.{span}
use Rattle.clock.specs.Stamp.{begun, year_of, stamp_of}
use Rattle.clock.proofs.Calendar.{days-to-2000, days-to-after}
use Rattle.clock.proofs.Stamps.{stamp-fits}
use Rattle.header.specs.Body.{body_form, body_of}
use Rattle.records.specs.Record.{kind, key, sent_in, header, aired_in, header_of, year_in, be2, dated, carried, filled_in, filled_tests, zero_filled, header_ok, stamp_in, dated_tests, dated_ok, record_ok, notice, aired}
use Rattle.records.proofs.Stamps.{stamp-told}
use Rattle.records.proofs.Records.{record-long, of-notice, key-low, key-notice, header-notice, kind-notice, header-long, made-aired}

-- ---- what it is made of

module _ (k h : List ℕ) (lh : length h ≡ 243) where
  dated-long : length (dated k h) ≡ 245
  unfolding dated
  dated-long = omega (arith, length-append h (be2 (stamp_of (sent_in k)).year))

  header-dated : header_of (dated k h) ≡ h
  unfolding header_of dated
  header-dated = take_at h (be2 (stamp_of (sent_in k)).year) 243 lh

  byte-dated : (i : ℕ) → get_or (dated k h) (243 + i) 0 ≡ get_or (be2 (stamp_of (sent_in k)).year) i 0
  unfolding dated
  byte-dated i = ap (λ (n : ℕ). get_or (h ++ be2 (stamp_of (sent_in k)).year) (n + i) 0) (sym lh) ∙ get_or-append-add h (be2 (stamp_of (sent_in k)).year) i 0

  year-dated : sent_in k < span → year_in (dated k h) ≡ (stamp_of (sent_in k)).year
  unfolding year_in
  year-dated low =
      ap₂ (λ (a b : ℕ). a * 256 + b) (byte-dated 0) (byte-dated 1) ∙ small (stamp_of (sent_in k)).year (stamp-fits (sent_in k) low).last
    where
      small : (y : ℕ) → y ≤ 2099 → y / 256 % 256 * 256 + y % 256 ≡ y
      small y h = omega arith

-- past 2099 no year has begun
begun-last : (k d : ℕ) → days_to (2000 + suc k) ≤ days_to 2000 + d → begun (suc k) d ≡ 2000 + suc k
unfolding begun
begun-last k d h = rw (le-leb (days_to (2000 + suc k)) (days_to 2000 + d) h)

pub year-late : (n : ℕ) → span ≤ n → (stamp_of n).year ≡ 2099
unfolding stamp_of year_of
year-late n h = begun-last 98 (n / 86400) (omega (arith, days-to-2000, days-to-after 99 (omega arith)))

-- ---- what a notice carries

pub carried-is : (r : List ℕ) → kind r ≡ 1 → carried r ≡ dated (key r) (header r)
unfolding carried
carried-is r e = ap (λ (n : ℕ). pick (eqb n 1) (dated (key r) (header r)) (aired_in r)) e

pub carried_other : (r : List ℕ) → (kind r ≡ 1 → ⊥) → carried r ≡ aired_in r
unfolding carried
carried_other r h = ap (λ (t : Bool). pick t (dated (key r) (header r)) (aired_in r)) (ne_eqb (kind r) 1 h)

pub carried-notice : (k h : List ℕ) → length k ≡ 132 → length h ≡ 243 → carried (notice k h) ≡ dated k h
carried-notice k h lk lh = carried-is (notice k h) (kind-notice k h) ∙ ap₂ dated (key-notice k h lk) (header-notice k h lk lh)

pub carried-long : (r : List ℕ) → length r ≡ 384 → length (carried r) ≡ 245
unfolding carried aired_in
carried-long r l = either_way (λ (g : List ℕ). length g ≡ 245) (eqb (kind r) 1) (dated (key r) (header r)) (aired_in r) (λ _. dated-long (key r) (header r) (header-long r l)) (λ _. length_part r 133 245 (omega arith))

aired-header : (r : List ℕ) → header_of (aired_in r) ≡ header r
unfolding header_of aired_in header
aired-header r = take-take 243 245 (drop 133 r) (omega arith)

-- it begins with the record's header
pub front-is : (r : List ℕ) → length r ≡ 384 → header_of (carried r) ≡ header r
unfolding carried
front-is r l = either_way (λ (g : List ℕ). header_of g ≡ header r) (eqb (kind r) 1) (dated (key r) (header r)) (aired_in r) (λ _. header-dated (key r) (header r) (header-long r l)) (λ _. aired-header r)

module _ (r : List ℕ) (rule : record_ok r ≡ true) (e : kind r ≡ 1) where
  header_is : header_of (carried r) ≡ header r
  header_is = front-is r (record-long r rule)

  low : sent_in (key r) < span
  low = key-low (key r) (of-notice r rule e).0

  -- its day is that of its sent
  day-is : (body_of (filled_in (header_of (carried r)))).day ≡ (stamp_of (sent_in (key r))).day
  unfolding header_ok stamp_in zero_filled
  day-is =
      let t = of-notice r rule e in
      let form : body_form (filled_in (header r)) ≡ true = (each_of (filled_tests body_form (header r)) t.1.0).0 in
      ap (λ (h : List ℕ). (body_of (filled_in h)).day) header_is ∙ (stamp-told (filled_in (header r)) (sent_in (key r)) form low t.1.1.0).0

  year-is : year_in (carried r) ≡ (stamp_of (sent_in (key r))).year
  year-is = ap year_in (carried-is r e) ∙ year-dated (key r) (header r) (header-long r (record-long r rule)) low

  dated-kept : dated_ok (carried r) ≡ true
  unfolding dated_ok
  dated-kept =
      let y = (stamp_of (sent_in (key r))).year in
      let f = stamp-fits (sent_in (key r)) low in
      every_of (dated_tests (carried r)) (
        ap header_ok header_is ∙ (of-notice r rule e).1.0,
        (ap (between 2000 2099) year-is ∙ between_is 2000 2099 y f.first f.last, (ap₂ (λ (d n : ℕ). leb d (year_days n)) day-is year-is ∙ le-leb (stamp_of (sent_in (key r))).day (year_days y) f.there, tt)),
      )

  pub airs-ok : record_ok (aired (carried r)) ≡ true
  airs-ok = made-aired (carried r) (carried-long r (record-long r rule)) dated-kept
