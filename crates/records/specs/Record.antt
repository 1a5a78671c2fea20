-- One record of the board: its fields, its three kinds, and the rules that it keeps. r is the bytes of a record, k a key (sent, sender and identifier, 132 bytes),
-- h a header through the dash after JJJHHMM, zero-filled to 243 bytes, g a header with its year, 245 bytes.
use Rattle.std.specs.Prelude.{ℕ, ◌+◌, ◌-◌, ◌*◌, ◌/◌, ◌%◌, Bool, false, Option, Some, None, List, [], ◌∷◌, ◌++◌, length, take, drop, get_or, replicate, eqb, leb, ltb}
use Rattle.octets.specs.Bytes.{pick, every, holds, between, byte_at, part, same}
use Rattle.clock.specs.Calendar.{year_days}
use Rattle.clock.specs.Time.{span}
use Rattle.clock.specs.Stamp.{stamp_of, stamped}
use Rattle.parts.specs.Parts.{is_zero}
use Rattle.parts.specs.declared.Body.{Body}
use Rattle.header.specs.Body.{times_part, body_form, body_of}
use Rattle.fields.specs.Fields.{identity_ok}
use Rattle.fields.specs.References.{up_to}

-- ---- the fields

-- byte 0: kind
abbrev pub kind : List ℕ → ℕ
kind r = get_or r 0 0

-- 1 to 132: sent, sender and identifier
unfoldable pub key : List ℕ → List ℕ
key r = part r 1 132

-- 1 to 4: sent, seconds since 2000 began in UTC, highest byte first
unfoldable pub sent_in : List ℕ → ℕ
sent_in k = ((byte_at k 0 * 256 + byte_at k 1) * 256 + byte_at k 2) * 256 + byte_at k 3

-- 5 to 68 sender
abbrev pub sender_in : List ℕ → List ℕ
sender_in k = part k 4 64

-- 69 to 132 identifier
abbrev pub identifier_in : List ℕ → List ℕ
identifier_in k = part k 68 64

-- 133 to 375 the header through the dash after JJJHHMM
unfoldable pub header : List ℕ → List ℕ
header r = part r 133 243

-- 376 to 383
unfoldable pub rest : List ℕ → List ℕ
rest r = part r 376 8

-- 133 to 377 of an aired record: its header with its year
unfoldable pub aired_in : List ℕ → List ℕ
aired_in r = part r 133 245

-- and 378 to 383, which stay zero
unfoldable pub behind : List ℕ → List ℕ
behind r = part r 378 6

-- ---- a header with its year

-- the header
unfoldable pub header_of : List ℕ → List ℕ
header_of g = take 243 g

-- the year, high byte first
unfoldable pub year_in : List ℕ → ℕ
year_in g = byte_at g 243 * 256 + byte_at g 244

abbrev pub be2 : ℕ → List ℕ
be2 n = n / 256 % 256 ∷ n % 256 ∷ []

-- the header h of a message with the key k, with the UTC year of its sent
unfoldable pub dated : List ℕ → List ℕ → List ℕ
dated k h = h ++ be2 (stamp_of (sent_in k)).year

-- the header with its year that a notice or an aired record carries: two headers are the same only if the UTC year of sent agrees too; they are ordered by header,
-- then year
unfoldable pub carried : List ℕ → List ℕ
carried r = pick (eqb (kind r) 1) (dated (key r) (header r)) (aired_in r)

-- ---- the rules of a field

abbrev pub zeros : List ℕ → Bool
zeros f = every is_zero f

-- what stands before the first zero byte of a field
abbrev pub filled_in : List ℕ → List ℕ
filled_in f = up_to 0 f

-- zero-filled: that keeps its rule, and behind it stand only zeros
abbrev pub filled_tests : (List ℕ → Bool) → List ℕ → List Bool
filled_tests ok f = ok (filled_in f) ∷ zeros (drop (length (filled_in f)) f) ∷ []

unfoldable pub zero_filled : (List ℕ → Bool) → List ℕ → Bool
zero_filled ok f = every holds (filled_tests ok f)

-- sent below 3,155,760,000; sender and identifier, each zero-filled
abbrev pub key_tests : List ℕ → List Bool
key_tests k = ltb (sent_in k) span ∷ zero_filled identity_ok (sender_in k) ∷ zero_filled identity_ok (identifier_in k) ∷ []

unfoldable pub key_ok : List ℕ → Bool
key_ok k = every holds (key_tests k)

-- the header, zero-filled
unfoldable pub header_ok : List ℕ → Bool
header_ok h = zero_filled body_form h

-- what is read in it
unfoldable pub body_in : List ℕ → Option Body
body_in h = pick (header_ok h) (Some (body_of (filled_in h))) None

-- its JJJHHMM, in `+TTTT-JJJHHMM-`
unfoldable pub stamp_in : List ℕ → List ℕ
stamp_in h = part (times_part (filled_in h)) 6 7

-- the header, zero-filled, with a year of 2000 to 2099, a year that has the header's day
abbrev pub dated_tests : List ℕ → List Bool
dated_tests g = header_ok (header_of g) ∷ between 2000 2099 (year_in g) ∷ leb (body_of (filled_in (header_of g))).day (year_days (year_in g)) ∷ []

unfoldable pub dated_ok : List ℕ → Bool
dated_ok g = every holds (dated_tests g)

-- ---- the rules of a record

-- kind 1 notice uses all, and its JJJHHMM is that of sent
abbrev pub notice_tests : List ℕ → List Bool
notice_tests r = key_ok (key r) ∷ header_ok (header r) ∷ same (stamp_in (header r)) (stamped (sent_in (key r))) ∷ zeros (rest r) ∷ []

-- kind 2 withdrawal has no header; unused fields are zero
abbrev pub withdrawal_tests : List ℕ → List Bool
withdrawal_tests r = key_ok (key r) ∷ zeros (header r) ∷ zeros (rest r) ∷ []

-- kind 3 aired has only a header with its year
abbrev pub aired_tests : List ℕ → List Bool
aired_tests r = zeros (key r) ∷ dated_ok (aired_in r) ∷ zeros (behind r) ∷ []

-- the tests of a kind; there is no other
abbrev pub kind_tests : ℕ → List ℕ → List Bool
kind_tests n r = pick (eqb n 1) (notice_tests r) (pick (eqb n 2) (withdrawal_tests r) (pick (eqb n 3) (aired_tests r) (false ∷ [])))

-- a record is 384 bytes
abbrev pub record_tests : List ℕ → List Bool
record_tests r = eqb (length r) 384 ∷ every holds (kind_tests (kind r) r) ∷ []

unfoldable pub record_ok : List ℕ → Bool
record_ok r = every holds (record_tests r)

-- ---- the makers

-- zero-filled to n bytes
unfoldable pub pad : ℕ → List ℕ → List ℕ
pad n v = v ++ replicate (n - length v) 0

-- highest byte first
abbrev pub be4 : ℕ → List ℕ
be4 n = n / 256 / 256 / 256 % 256 ∷ n / 256 / 256 % 256 ∷ n / 256 % 256 ∷ n % 256 ∷ []

unfoldable pub key_of : ℕ → List ℕ → List ℕ → List ℕ
key_of sent sender identifier = be4 sent ++ (pad 64 sender ++ pad 64 identifier)

unfoldable pub notice : List ℕ → List ℕ → List ℕ
notice k h = 1 ∷ (k ++ (h ++ replicate 8 0))

unfoldable pub withdrawal : List ℕ → List ℕ
withdrawal k = 2 ∷ (k ++ replicate 251 0)

-- of a header with its year
unfoldable pub aired : List ℕ → List ℕ
aired g = 3 ∷ (replicate 132 0 ++ (g ++ replicate 6 0))
