-- A character of a message is a number that is legal in XML 1.0; in the message it stands as the bytes that UTF-8 (RFC 3629) writes for it.
use Rattle.std.specs.Prelude.{ℕ, ◌+◌, ◌-◌, ◌*◌, ◌/◌, ◌%◌, Bool, ◌&&◌, ◌||◌, List, [], ◌∷◌, ◌++◌, length, eqb, leb, ltb}
use Rattle.octets.specs.Bytes.{pick, between, one_of, byte_at, stands}
use Rattle.octets.specs.Scan.{scan_by}

-- legal in XML 1.0: 9, 10, 13, 0x20 to 0xD7FF, 0xE000 to 0xFFFD, 0x10000 to 0x10FFFF
unfoldable pub is_legal : ℕ → Bool
is_legal c = one_of (9 ∷ 10 ∷ 13 ∷ []) c || between 32 55295 c || between 57344 65533 c || between 65536 1114111 c

-- ---- a character's bytes

-- a byte behind the first: 128 and the last six bits of n
abbrev pub tail : ℕ → ℕ
tail n = 128 + n % 64

-- one byte below 128, two below 2,048, three below 65,536, else four
unfoldable pub encoded : ℕ → List ℕ
encoded c =
    pick (ltb c 128) (c ∷ [])
    (pick (ltb c 2048) ((192 + c / 64) ∷ tail c ∷ [])
    (pick (ltb c 65536) ((224 + c / 64 / 64) ∷ tail (c / 64) ∷ tail c ∷ [])
    ((240 + c / 64 / 64 / 64) ∷ tail (c / 64 / 64) ∷ tail (c / 64) ∷ tail c ∷ [])))

-- how many they are
abbrev pub width : ℕ → ℕ
width c = length (encoded c)

-- the bytes of a text
unfoldable pub utf8 : List ℕ → List ℕ
utf8 [] = []
utf8 (c ∷ cs) = encoded c ++ utf8 cs

-- ---- a character at a place

-- n, and behind it the six bits of a byte
abbrev pub joined : ℕ → ℕ → ℕ
joined n b = n * 64 + (b - 128)

-- what the bytes at i write, if they are a character's: the first tells how many they are
unfoldable pub written : List ℕ → ℕ → ℕ
written s i =
    let a = byte_at s i in
    let b = byte_at s (i + 1) in
    let c = byte_at s (i + 2) in
    let d = byte_at s (i + 3) in
    pick (ltb a 128) a
    (pick (ltb a 224) (joined (a - 192) b)
    (pick (ltb a 240) (joined (joined (a - 224) b) c)
    (joined (joined (joined (a - 240) b) c) d)))

-- the character at i: it is legal, and the bytes there are its own; 0, which is none, where no character stands
unfoldable pub scalar_at : List ℕ → ℕ → ℕ
scalar_at s i = let c = written s i in pick (is_legal c && stands (encoded c) s i) c 0

-- how many bytes it has; 0 where none stands
unfoldable pub width_at : List ℕ → ℕ → ℕ
width_at s i = let c = scalar_at s i in pick (eqb c 0) 0 (width c)

-- a number that UTF-8 writes: 0 to 0x10FFFF, but no half of a pair, 0xD800 to 0xDFFF
unfoldable pub is_coded : ℕ → Bool
is_coded c = leb c 55295 || between 57344 1114111 c

-- whether the bytes at i are those of such a number
unfoldable pub coded_at : List ℕ → ℕ → Bool
coded_at s i = let c = written s i in is_coded c && stands (encoded c) s i

-- how many bytes it has; 0 where none stands
unfoldable pub coded_width : List ℕ → ℕ → ℕ
coded_width s i = pick (coded_at s i) (width (written s i)) 0

-- a byte that is a character by itself
unfoldable pub is_single : ℕ → Bool
is_single b = ltb b 128 && is_legal b

-- where the characters end that begin at i and at whose places p holds
abbrev pub through : (ℕ → Bool) → List ℕ → ℕ → ℕ
through p s i = scan_by (width_at s) p (length s) i
