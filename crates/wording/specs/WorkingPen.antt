-- Where the next character goes, what room there is from there on, and the end of a part as it is put.
use Rattle.std.specs.Prelude.{ℕ, ◌+◌, ◌*◌, ◌≤◌, List, ltb, length}
use Rattle.octets.specs.Bytes.{pick}
use Rattle.octets.specs.Text.{bytes}
use Rattle.characters.specs.Utf8.{utf8}
use Rattle.wording.specs.Text.{most}
use Rattle.wording.specs.declared.Pen.{Pen}

-- at the start of a text
abbrev pub start_pen : Pen
start_pen = record { at = 0; count = 0 }

-- behind characters that are put
unfoldable pub pen_after : Pen → List ℕ → Pen
pen_after pen v = record { at = pen.at + length (utf8 v); count = pen.count + length v }

-- room for n characters more: 1,800 in all, and at most four bytes for each
pub record Room (pen : Pen) (n : ℕ) (out : List ℕ) : Type 0 where
  pub wide : pen.at ≤ 4 * pen.count
  pub short : pen.count + n ≤ most
  pub long : 7200 ≤ length out

-- what is left of a part behind all but three of its characters: that, or the mark if it is more than three
unfoldable pub last_of : List ℕ → List ℕ
last_of v = pick (ltb 3 (length v)) (bytes "***") v
