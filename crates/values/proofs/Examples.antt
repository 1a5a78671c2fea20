-- Document 01's sentence on a leaf's value, on small texts: computed.
use mathlib.Core.Path.{◌≡◌, refl}
use mathlib.Core.List.{List, [], ◌∷◌, map}
use Prim.Native.Nat.{ℕ}
use Prim.Native.String.{String}
use Rattle.octets.specs.Bytes.{every, between, one_of, same, is_digit, is_space, is_visible}
use Rattle.octets.specs.Digits.{value_from, num_of}
use Rattle.octets.specs.Scan.{scan_by}
use Rattle.octets.specs.Text.{bytes}
use Rattle.std.specs.Prelude.{Some, None}
use Rattle.characters.specs.Utf8.{is_legal, encoded, utf8, written, scalar_at, width_at}
use Rattle.pieces.specs.Classes.{is_plain, figure_of, is_figure}
use Rattle.pieces.specs.Pieces.{in_note, note_at, worded_at, numeral_from, number_at, ref_at, char_at}
use Rattle.values.specs.Chars.{met, passed, next_at, turn, fold, text_at}
use Rattle.values.specs.Value.{trimmed, spaced, runs, collapsed, value_at}
use Rattle.values.specs.WorkingSteps.{low, printable_size, six_digits}

abbrev said : String → List ℕ
said t = value_at (bytes t) 0

pub record Examples : Type 0 where
  pub trims : said " a  b " ≡ bytes "a b"
  pub comment-gap : said "a <!-- --> b</" ≡ bytes "a b"
  pub comment-none : said "B<!-- x -->1</" ≡ bytes "B1"
  pub reference-gap : said "&#32;a&#32;&#x9; b&#10;</" ≡ bytes "a b"
  pub refers : said "&lt;&amp; &quot;</" ≡ bytes "<& \""
  pub only-space : said " <!--x--> &#10;</" ≡ bytes ""
  pub location : six_digits (said " 024031 </") ≡ Some 24031
  pub too_long : six_digits (said "0240310</") ≡ None
  pub accent : value_at (77 ∷ 195 ∷ 169 ∷ 120 ∷ 60 ∷ 47 ∷ []) 0 ≡ 77 ∷ 233 ∷ 120 ∷ []
  pub accent-by-reference : said "M&#xE9;x&#0000241;</" ≡ 77 ∷ 233 ∷ 120 ∷ 241 ∷ []
  pub accent-in-bytes : utf8 (said "M&#xE9;x&#x1F6A8;</") ≡ 77 ∷ 195 ∷ 169 ∷ 120 ∷ 240 ∷ 159 ∷ 154 ∷ 168 ∷ []
  pub overlong : value_at (77 ∷ 193 ∷ 129 ∷ 120 ∷ 60 ∷ 47 ∷ []) 0 ≡ bytes "M"
  pub seven-digits : said "&#233;&#x00000E9;</" ≡ 233 ∷ 233 ∷ []
  pub eight-digits : said "M&#x000000E9;x</" ≡ bytes "M"
  pub face : value_at (240 ∷ 159 ∷ 152 ∷ 128 ∷ 38 ∷ 35 ∷ 49 ∷ 50 ∷ 56 ∷ 53 ∷ 49 ∷ 50 ∷ 59 ∷ 60 ∷ 47 ∷ []) 0 ≡ 128512 ∷ 128512 ∷ []
  pub no-break-space : said "a&#160; &#xA0;b&#160;</" ≡ 97 ∷ 160 ∷ 32 ∷ 160 ∷ 98 ∷ 160 ∷ []
  pub deletes-none : said "a&#127;b</" ≡ 97 ∷ 127 ∷ 98 ∷ []
  pub as_bytes : map low (said "A&#x141;&#233;b</") ≡ 65 ∷ 0 ∷ 0 ∷ 98 ∷ []
  pub printable : printable_size (said " a~  b</") ≡ 4
  pub not-printable : map printable_size (said "a&#127;b</" ∷ said "Mx&#233;</" ∷ said "</" ∷ []) ≡ 0 ∷ 0 ∷ 0 ∷ []

pub examples : Examples
unfolding utf8 six_digits num_of value_from value_at collapsed trimmed spaced runs text_at fold turn next_at passed met char_at ref_at number_at numeral_from worded_at note_at in_note is_figure
    figure_of is_plain scalar_at written width_at encoded is_legal is_space is_visible is_digit between one_of every same scan_by bytes low printable_size
examples = record {
  trims = refl;
  comment-gap = refl;
  comment-none = refl;
  reference-gap = refl;
  refers = refl;
  only-space = refl;
  location = refl;
  too_long = refl;
  accent = refl;
  accent-by-reference = refl;
  accent-in-bytes = refl;
  overlong = refl;
  seven-digits = refl;
  eight-digits = refl;
  face = refl;
  no-break-space = refl;
  deletes-none = refl;
  as_bytes = refl;
  printable = refl;
  not-printable = refl;
}
