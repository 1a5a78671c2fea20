-- Headers with their years, computed.
--     first-week .. second-test     the Required Weekly Test of day 065 in two years: offered, handed out, offered, handed out again
--     weekly-rows                   a row for each year
--     years-judged                  which years an aired record may have; a notice has none
--     header-first                  headers are ordered by header, then year
--     header-then-year              and so are those of any two notices
--     vanished                      a hand-out that forgets the year
use Prim.Native.Nat.{ℕ, ◌/◌, ◌%◌, ◌≤◌}
use Prim.Native.String.{String}
use mathlib.Core.Path.{◌≡◌, refl, sym, ap, ap₂, ◌∙◌}
use mathlib.Core.Bool.{Bool, true, false}
use mathlib.Core.List.{List, [], ◌∷◌, ◌++◌, map}
use native.Mathlib.Omega.{arith}
use lib.ListN.{take, replicate}
use Rattle.std.specs.declared.cmp.Ordering.{Ordering}
use Rattle.std.specs.declared.cmp.Ordering.TheVariants.{Less, Equal, Greater}
use Rattle.octets.specs.Order.{cmp, choose}
use Rattle.octets.specs.Text.{bytes}
use Rattle.octets.proofs.Orders.{Way, way, first_below, first_above, first-equal, cmp-refl, starts-decide}
use Rattle.clock.specs.Stamp.{stamp_of}
use Rattle.clock.proofs.Stamps.{stamp-fits}
use Rattle.records.specs.Record.{kind, key, sent_in, header, be2, dated, carried, record_ok, key_of, notice}
use Rattle.records.proofs.Records.{record-long, header-long, of-notice, key-low}
use Rattle.records.proofs.Carried.{carried-is}
use Rattle.board.specs.WorkingRules.{encode}
use Rattle.demands.specs.Calls.{library}
use Rattle.demands.specs.Numbers.{lowest_in, hand_out_rows, is_board}
use Rattle.demands.specs.StandIns.{weekly2010, weekly2011, weekly_header, weekly_notice, weekly_aired, weekly_due, forgets_years}
use Rattle.demands.proofs.Opens.{computing}

-- ---- the weekly test

abbrev n2010 : List ℕ
n2010 = weekly_notice 321213630

abbrev n2011 : List ℕ
n2011 = weekly_notice 352749630

pub first-week : library.offering (replicate 1536 0) weekly2010 ≡ record { answer = record { number = 0; field = 0; added = 1 }; bytes = encode 1536 (n2010 ∷ []) }
unfolding computing
first-week = refl

pub first-test : library.handing (encode 1536 (n2010 ∷ [])) ≡ record { answer = record { number = 0; index = 0 }; bytes = encode 1536 (n2010 ∷ weekly_aired 7 218 ∷ []) }
unfolding computing
first-test = refl

pub second-week : library.offering (encode 1536 (n2010 ∷ weekly_aired 7 218 ∷ [])) weekly2011 ≡ record { answer = record { number = 0; field = 0; added = 1 }; bytes = weekly_due }
unfolding computing
second-week = refl

pub second-test : library.handing weekly_due ≡ record { answer = record { number = 0; index = 1 }; bytes = encode 1536 (n2010 ∷ n2011 ∷ weekly_aired 7 218 ∷ weekly_aired 7 219 ∷ []) }
unfolding computing
second-test = refl

-- a second notice of 2011, of another message, carries the same header with its year
pub weekly-rows : library.listing (encode 1536 (n2010 ∷ n2011 ∷ notice (key_of 352749630 (bytes "b@c") (bytes "B2")) weekly_header ∷ [])) 2
    ≡ record { answer = record { number = 0; count = 2 }; rows = record { index = 0; count = 1 } ∷ record { index = 1; count = 2 } ∷ [] }
unfolding computing
weekly-rows = refl

-- ---- the year of an aired record

-- a board of one aired record: its day, the two bytes of its year, and those behind them
abbrev aired_of : String → ℕ → ℕ → List ℕ → List ℕ
aired_of day high low rest = 3 ∷ (replicate 132 0 ++ (bytes "ZCZC-CIV-RWT-024031+0045-" ++ (bytes day ++ (bytes "1800-" ++ (replicate 210 0 ++ (high ∷ low ∷ rest))))))

pub record YearRow : Type 0 where
  pub day : String
  pub high : ℕ
  pub low : ℕ
  pub rest : List ℕ
  pub taken : Bool

abbrev year_row : String → ℕ → ℕ → Bool → YearRow
year_row day high low taken = record { day = day; high = high; low = low; rest = replicate 6 0; taken = taken }

-- 2010; none, as old boards have; 1999, 2000, 2099, 2100; the bytes of 2010 exchanged; the last day of 2000, 2001, 2012, 2096, 2099; a byte behind the year
abbrev year_rows : List YearRow
year_rows =
    year_row "065" 7 218 true
    ∷ year_row "065" 0 0 false
    ∷ year_row "065" 7 207 false
    ∷ year_row "065" 7 208 true
    ∷ year_row "065" 8 51 true
    ∷ year_row "065" 8 52 false
    ∷ year_row "065" 218 7 false
    ∷ year_row "366" 7 208 true
    ∷ year_row "366" 7 209 false
    ∷ year_row "365" 7 209 true
    ∷ year_row "366" 7 220 true
    ∷ year_row "366" 8 48 true
    ∷ year_row "366" 8 51 false
    ∷ record { day = "065"; high = 7; low = 218; rest = 1 ∷ replicate 5 0; taken = false }
    ∷ record { day = "065"; high = 7; low = 218; rest = replicate 5 0 ++ (1 ∷ []); taken = false }
    ∷ []

pub years-judged : map (λ (r : YearRow). is_board (aired_of r.day r.high r.low r.rest)) year_rows ≡ map (λ (r : YearRow). r.taken) year_rows
unfolding computing
years-judged = refl

-- a notice with its year in 376 and 377 breaks the rules
pub no-year-in-notice : (is_board n2010 ≡ true) × (is_board (take 376 n2010 ++ (7 ∷ 218 ∷ replicate 6 0)) ≡ false)
unfolding computing
no-year-in-notice = (refl, refl)

-- ---- the order

-- the header of an event sent in 2010 or 2011: the event decides, and not the year
abbrev notice_for : ℕ → String → List ℕ
notice_for sent event = notice (key_of sent (bytes "b@c") (bytes "B1")) (bytes "ZCZC-CIV-" ++ (bytes event ++ (bytes "-024031+0045-0651800-" ++ replicate 210 0)))

pub header-first : library.listing (encode 1536 (notice_for 321213630 "TOR" ∷ notice_for 352749630 "CEM" ∷ [])) 2
    ≡ record { answer = record { number = 0; count = 2 }; rows = record { index = 1; count = 1 } ∷ record { index = 0; count = 1 } ∷ [] }
unfolding computing
header-first = refl

-- the two bytes of a year, high byte first, are ordered as the year
two_bytes : (y z : ℕ) → y ≤ 2099 → z ≤ 2099 → cmp (be2 y) (be2 z) ≡ cmp (y ∷ []) (z ∷ [])
two_bytes y z ly lz = go (way y z) (way (y / 256 % 256) (z / 256 % 256))
  where
    go : Way y z → Way (y / 256 % 256) (z / 256 % 256) → cmp (be2 y) (be2 z) ≡ cmp (y ∷ []) (z ∷ [])
    go (Way.below l) (Way.below h) = first_below (y / 256 % 256) (z / 256 % 256) _ h ∙ sym (first_below y z Equal l)
    go (Way.below l) (Way.equal h) = first-equal (y / 256 % 256) (z / 256 % 256) _ h ∙ first_below (y % 256) (z % 256) Equal (omega arith) ∙ sym (first_below y z Equal l)
    go (Way.below l) (Way.above h) = absurd (omega arith)
    go (Way.equal l) h = ap (λ (n : ℕ). cmp (be2 y) (be2 n)) (sym l) ∙ cmp-refl (be2 y) ∙ sym (first-equal y z Equal l)
    go (Way.above l) (Way.below h) = absurd (omega arith)
    go (Way.above l) (Way.equal h) = first-equal (y / 256 % 256) (z / 256 % 256) _ h ∙ first_above (y % 256) (z % 256) Equal (omega arith) ∙ sym (first_above y z Equal l)
    go (Way.above l) (Way.above h) = first_above (y / 256 % 256) (z / 256 % 256) _ h ∙ sym (first_above y z Equal l)

-- the UTC year of a notice's sent
abbrev sent_year : List ℕ → ℕ
sent_year r = (stamp_of (sent_in (key r))).year

-- of any two notices that keep their rules: by header, then year, as a number
module _ (q r : List ℕ) (okq : record_ok q ≡ true) (okr : record_ok r ≡ true) (nq : kind q ≡ 1) (nr : kind r ≡ 1) where
  pub header-then-year : cmp (carried q) (carried r) ≡ choose (cmp (header q) (header r)) Less (cmp (sent_year q ∷ []) (sent_year r ∷ [])) Greater
  unfolding dated
  header-then-year =
      ap₂ cmp (carried-is q nq) (carried-is r nr)
      ∙ starts-decide (header q) (header r) (be2 (sent_year q)) (be2 (sent_year r)) (header-long q (record-long q okq) ∙ sym (header-long r (record-long r okr)))
      ∙ ap (λ (o : Ordering). choose (cmp (header q) (header r)) Less o Greater) (two_bytes (sent_year q) (sent_year r) (last q okq nq) (last r okr nr))
    where
      last : (x : List ℕ) → record_ok x ≡ true → kind x ≡ 1 → sent_year x ≤ 2099
      last x ok n = (stamp-fits (sent_in (key x)) (key-low (key x) (of-notice x ok n).0)).last

-- ---- a hand-out that forgets the year

pub second-due : lowest_in (hand_out_rows weekly_due) ≡ 0
unfolding computing lowest_in
second-due = refl

pub vanished : (forgets_years.handing weekly_due).answer.number ≡ 16
unfolding computing
vanished = refl
