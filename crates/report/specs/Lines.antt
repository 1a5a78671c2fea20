-- The lines that the program prints for an answer.
use Rattle.std.specs.Prelude.{ℕ, Bool, List, [], ◌∷◌, ◌++◌, eqb, ltb, length}
use Rattle.octets.specs.Bytes.{pick}
use Rattle.octets.specs.Digits.{digits}
use Rattle.octets.specs.Text.{bytes}

-- numbers go to 17
unfoldable pub decimal : ℕ → List ℕ
decimal n = pick (ltb n 10) (digits 1 n) (digits 2 n)

-- each line ends in byte 10, the last too
unfoldable pub line : List ℕ → List ℕ
line words = words ++ (10 ∷ [])

-- a value, or `none` without one
unfoldable pub or_none : List ℕ → List ℕ
or_none v = pick (eqb (length v) 0) (bytes "none") v

-- a kind of audio, a space, the uri
unfoldable pub kind_then_uri : List ℕ → List ℕ → List ℕ
kind_then_uri kind uri = kind ++ bytes " " ++ uri

-- `none`, or `mp3`, `wav`, `stream`, a space, the uri
unfoldable pub audio_words : ℕ → List ℕ → List ℕ
audio_words audio uri =
    pick (eqb audio 1) (kind_then_uri (bytes "mp3") uri)
    (pick (eqb audio 2) (kind_then_uri (bytes "wav") uri)
    (pick (eqb audio 3) (kind_then_uri (bytes "stream") uri)
    (bytes "none")))

-- `number N field F`
unfoldable pub number_line : ℕ → ℕ → List ℕ
number_line number field = line (bytes "number " ++ decimal number ++ bytes " field " ++ decimal field)

-- a name, and its value
unfoldable pub value_line : List ℕ → List ℕ → List ℕ
value_line name v = line (name ++ or_none v)

unfoldable pub audio_line : ℕ → List ℕ → List ℕ
audio_line audio uri = line (bytes "audio " ++ audio_words audio uri)

-- carry (`yes`/`no`)
unfoldable pub carry_line : Bool → List ℕ
carry_line carry = line (bytes "carry " ++ pick carry (bytes "yes") (bytes "no"))

-- after 0, header, audio, carry and text
unfoldable pub alert_lines : List ℕ → ℕ → List ℕ → Bool → List ℕ → List ℕ
alert_lines header audio uri carry text =
    value_line (bytes "header ") header ++ audio_line audio uri ++ carry_line carry ++ value_line (bytes "text ") text

-- after a refusal the first line alone
unfoldable pub lines_of : (number field : ℕ) (header : List ℕ) (audio : ℕ) (uri : List ℕ) (carry : Bool) (text : List ℕ) → List ℕ
lines_of number field header audio uri carry text =
    number_line number field ++ pick (eqb number 0) (alert_lines header audio uri carry text) []
