-- Worked examples of UTF-8, computed: the borders of RFC 3629 and of XML 1.0, and what is no character.
use Prim.Native.Nat.{ℕ}
use mathlib.Core.Path.{◌≡◌, refl}
use mathlib.Core.Bool.{Bool, true}
use mathlib.Core.List.{List, [], ◌∷◌}
use lib.ListN.{length}
use lib.Dec.{eqb}
use Rattle.octets.specs.Bytes.{every, holds, between, one_of, same}
use Rattle.characters.specs.Utf8.{is_legal, encoded, written, scalar_at, is_coded, coded_at, coded_width}

-- the bytes of c are t
abbrev writes : ℕ → List ℕ → List Bool
writes c t = same (encoded c) t ∷ eqb (coded_width t 0) (length t) ∷ []

-- and they are read back as the character c
abbrev is_read : ℕ → List ℕ → Bool
is_read c t = every holds (eqb (scalar_at t 0) c ∷ writes c t)

-- or c is no character
abbrev is_written : ℕ → List ℕ → Bool
is_written c t = every holds (eqb (scalar_at t 0) 0 ∷ writes c t)

-- t begins with the bytes of no number
abbrev is_none : List ℕ → Bool
is_none t = every holds (eqb (scalar_at t 0) 0 ∷ eqb (coded_width t 0) 0 ∷ [])

pub record Examples : Type 0 where
  -- the first and the last number of each length
  pub first-of-one : is_written 0x0 (0x00 ∷ []) ≡ true
  pub last-of-one : is_read 0x7F (0x7F ∷ []) ≡ true
  pub first-of-two : is_read 0x80 (0xC2 ∷ 0x80 ∷ []) ≡ true
  pub last-of-two : is_read 0x7FF (0xDF ∷ 0xBF ∷ []) ≡ true
  pub first-of-three : is_read 0x800 (0xE0 ∷ 0xA0 ∷ 0x80 ∷ []) ≡ true
  pub last-of-three : is_written 0xFFFF (0xEF ∷ 0xBF ∷ 0xBF ∷ []) ≡ true
  pub first-of-four : is_read 0x10000 (0xF0 ∷ 0x90 ∷ 0x80 ∷ 0x80 ∷ []) ≡ true
  pub last-of-four : is_read 0x10FFFF (0xF4 ∷ 0x8F ∷ 0xBF ∷ 0xBF ∷ []) ≡ true
  -- one of each length: `A`, `é`, `€`, a pictogram
  pub letter : is_read 0x41 (0x41 ∷ []) ≡ true
  pub accent : is_read 0xE9 (0xC3 ∷ 0xA9 ∷ []) ≡ true
  pub euro : is_read 0x20AC (0xE2 ∷ 0x82 ∷ 0xAC ∷ []) ≡ true
  pub pictogram : is_read 0x1F600 (0xF0 ∷ 0x9F ∷ 0x98 ∷ 0x80 ∷ []) ≡ true
  -- a number above the last has no bytes
  pub above-all : is_none (0xF4 ∷ 0x90 ∷ 0x80 ∷ 0x80 ∷ []) ≡ true
  -- more bytes than a number asks for: the first and the last that fewer bytes write
  pub first-overlong-two : is_none (0xC0 ∷ 0x80 ∷ []) ≡ true
  pub last-overlong-two : is_none (0xC1 ∷ 0xBF ∷ []) ≡ true
  pub first-overlong-three : is_none (0xE0 ∷ 0x80 ∷ 0x80 ∷ []) ≡ true
  pub last-overlong-three : is_none (0xE0 ∷ 0x9F ∷ 0xBF ∷ []) ≡ true
  pub first-overlong-four : is_none (0xF0 ∷ 0x80 ∷ 0x80 ∷ 0x80 ∷ []) ≡ true
  pub last-overlong-four : is_none (0xF0 ∷ 0x8F ∷ 0xBF ∷ 0xBF ∷ []) ≡ true
  -- the halves of pairs, 0xD800 to 0xDFFF, and the characters round them
  pub before-halves : is_read 0xD7FF (0xED ∷ 0x9F ∷ 0xBF ∷ []) ≡ true
  pub first-half : is_none (0xED ∷ 0xA0 ∷ 0x80 ∷ []) ≡ true
  pub last-half : is_none (0xED ∷ 0xBF ∷ 0xBF ∷ []) ≡ true
  pub behind-halves : is_read 0xE000 (0xEE ∷ 0x80 ∷ 0x80 ∷ []) ≡ true
  -- 0xFFFD is the last character of three bytes; 0xFFFE, as 0xFFFF, is written and is none
  pub last-legal-of-three : is_read 0xFFFD (0xEF ∷ 0xBF ∷ 0xBD ∷ []) ≡ true
  pub written-not-legal : is_written 0xFFFE (0xEF ∷ 0xBF ∷ 0xBE ∷ []) ≡ true
  -- below 32 only 9, 10 and 13 are characters; 127 to 159 are
  pub tab : is_read 9 (9 ∷ []) ≡ true
  pub line-feed : is_read 10 (10 ∷ []) ≡ true
  pub carriage-return : is_read 13 (13 ∷ []) ≡ true
  pub last-control : is_written 31 (31 ∷ []) ≡ true
  pub space : is_read 32 (32 ∷ []) ≡ true
  pub last-upper-control : is_read 0x9F (0xC2 ∷ 0x9F ∷ []) ≡ true
  -- bytes that are missing: at the end of the message, and where another character begins
  pub cut-two : is_none (0xC3 ∷ []) ≡ true
  pub cut-three : is_none (0xE2 ∷ 0x82 ∷ []) ≡ true
  pub cut-four : is_none (0xF0 ∷ 0x9F ∷ 0x98 ∷ []) ≡ true
  pub cut-by-letter : is_none (0xE2 ∷ 0x82 ∷ 0x41 ∷ []) ≡ true
  pub nothing_left : is_none [] ≡ true
  -- bytes that begin nothing
  pub first_tail : is_none (0x80 ∷ []) ≡ true
  pub last-tail : is_none (0xBF ∷ []) ≡ true
  pub byte-fe : is_none (0xFE ∷ 0x80 ∷ 0x80 ∷ 0x80 ∷ []) ≡ true
  pub byte-ff : is_none (0xFF ∷ 0xBF ∷ 0xBF ∷ 0xBF ∷ []) ≡ true

pub examples : Examples
unfolding coded_width coded_at is_coded scalar_at written encoded is_legal between one_of every same
examples = record {
  first-of-one = refl;
  last-of-one = refl;
  first-of-two = refl;
  last-of-two = refl;
  first-of-three = refl;
  last-of-three = refl;
  first-of-four = refl;
  last-of-four = refl;
  letter = refl;
  accent = refl;
  euro = refl;
  pictogram = refl;
  above-all = refl;
  first-overlong-two = refl;
  last-overlong-two = refl;
  first-overlong-three = refl;
  last-overlong-three = refl;
  first-overlong-four = refl;
  last-overlong-four = refl;
  before-halves = refl;
  first-half = refl;
  last-half = refl;
  behind-halves = refl;
  last-legal-of-three = refl;
  written-not-legal = refl;
  tab = refl;
  line-feed = refl;
  carriage-return = refl;
  last-control = refl;
  space = refl;
  last-upper-control = refl;
  cut-two = refl;
  cut-three = refl;
  cut-four = refl;
  cut-by-letter = refl;
  nothing_left = refl;
  first_tail = refl;
  last-tail = refl;
  byte-fe = refl;
  byte-ff = refl;
}
