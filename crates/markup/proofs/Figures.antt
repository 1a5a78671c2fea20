-- Worked examples of the definitions, computed: what is a message of the subset and what is none, beside the sentence of document 01.
use Prim.Native.Nat.{ℕ}
use Prim.Native.String.{String}
use mathlib.Core.Path.{◌≡◌, refl}
use mathlib.Core.Bool.{Bool, true, false, not}
use mathlib.Core.List.{List, [], ◌∷◌, ◌++◌}
use Rattle.octets.specs.Bytes.{pick, same, every, between, one_of, is_digit, is_capital, is_letter, is_space}
use Rattle.octets.specs.Scan.{scan_by}
use Rattle.octets.specs.Text.{bytes}
use Rattle.characters.specs.Utf8.{is_legal, encoded, written, scalar_at, width_at, is_coded, coded_at, coded_width}
use Rattle.pieces.specs.Classes.{is_start, is_named, is_plain, figure_of, is_figure}
use Rattle.pieces.specs.Walk.{stepped, walk}
use Rattle.pieces.specs.Pieces.{plain_at, short, name_at, in_note, note_at, worded_at, numeral_from, number_at, ref_at, char_at, in_text, noted, referred, tag_at, piece_at}
use Rattle.tags.specs.Attributes.{over, bit_at, quoted_at, attribute_of, equalled, attr_at, sought, seek_at, attr_named}
use Rattle.tags.specs.Tags.{unless_named, taken, take_at, shut_at, tail_at, tailed, open_at, close_at}
use Rattle.markup.specs.Tree.{One, one, none, in_front, child, piece_then, items, sealed, closed, opened, elem_at}
use Rattle.markup.specs.Document.{in_declaration, declaration_at, go_on, misc_step, misc_at, led, before_root, ended, rooted, root_at, doc_at}

-- a run of bytes is a message of the subset
unfoldable is_one : One → Bool
is_one (one g kids e) = true
is_one none = false

unfoldable good : List ℕ → Bool
good t = is_one (doc_at t)

record Figure : Type 0 where
  text : List ℕ
  is : Bool

abbrev yes : String → Figure
yes t = record { text = bytes t; is = true }

abbrev no : String → Figure
no t = record { text = bytes t; is = false }

-- with bytes between
abbrev around : String → List ℕ → String → List ℕ
around a t b = bytes a ++ (t ++ bytes b)

abbrev takes : String → List ℕ → String → Figure
takes a t b = record { text = around a t b; is = true }

abbrev refuses : String → List ℕ → String → Figure
refuses a t b = record { text = around a t b; is = false }

-- U+00E9 in UTF-8, and as one byte
abbrev accent : List ℕ
accent = 0xC3 ∷ 0xA9 ∷ []

abbrev bare : List ℕ
bare = 0xE9 ∷ []

abbrev figures : List Figure
figures =
    -- an element holds text, comments and elements
    yes "<a>x</a>" ∷ yes "<a>x<b c='1'/><!--n--></a>" ∷
    -- an end tag repeats the name exactly, then optional white space
    no "<a><b></a>" ∷ no "<a></b>" ∷ yes "<a></a >" ∷ no "<a></ a>" ∷
    -- one root element, then white space and comments, end
    no "" ∷ no "<a/><b/>" ∷ yes " <!--n--> <a/> <!--n--> " ∷ no "<a/>x" ∷
    -- an optional declaration: `<?xml`, one white space, anything up to the first `?>`
    yes "<?xml ?><a/>" ∷ yes "<?xml <a & b ?><a/>" ∷ no "<?xml?><a/>" ∷ no " <?xml ?><a/>" ∷
    -- `]]>` in text, `--` inside a comment, CDATA, DOCTYPE and other instructions are refused
    no "<a>]]></a>" ∷ yes "<a>]]&gt;]</a>" ∷ no "<!--a---><a/>" ∷ no "<!--><a/>" ∷ yes "<!--->--><a/>" ∷
    no "<a><![CDATA[x]]></a>" ∷ no "<!DOCTYPE a><a/>" ∷ no "<a><?x ?></a>" ∷
    -- attributes, each after white space, with `=` (white space allowed round it); no `<` in a value; no name twice
    yes "<a b = '1' c=\"'\" />" ∷ no "<a b='1'c='2'/>" ∷ no "<a b='<'/>" ∷ no "<a b='1' b='2'/>" ∷ yes "<a q:b='1' r:b=']]>'/>" ∷
    -- at most one colon, with a name on each side
    yes "<p:a/>" ∷ no "<p:/>" ∷ no "<:a/>" ∷ no "<p:q:a/>" ∷ no "<1/>" ∷
    -- references of 1 to 7 digits to a character
    yes "<a>&#65;&#x4a;&#0000066;&apos;</a>" ∷ no "<a>&#00000066;</a>" ∷ no "<a>&#X41;</a>" ∷ no "<a>&#;</a>" ∷ no "<a>&nbsp;</a>" ∷
    yes "<a>&#127;&#xE9;&#1114111;</a>" ∷ no "<a>&#0;</a>" ∷ no "<a>&#xD800;</a>" ∷ no "<a>&#xFFFE;</a>" ∷ no "<a>&#1114112;</a>" ∷
    -- the message is UTF-8: text, comments, values of attributes and the declaration; names are ASCII
    takes "<a>" accent "</a>" ∷ takes "<!--" accent "--><a/>" ∷ takes "<a b='" accent "'/>" ∷ takes "<?xml " accent "?><a/>" ∷ refuses "<" accent "/>" ∷
    refuses "<a>" bare "</a>" ∷ refuses "<!--" bare "--><a/>" ∷ refuses "<a b='" bare "'/>" ∷ refuses "<?xml " bare "?><a/>" ∷
    -- what XML does not have may stand in the declaration alone, and a half of a pair not there either
    takes "<?xml " (0 ∷ []) "?><a/>" ∷ refuses "<a>" (0 ∷ []) "</a>" ∷ takes "<?xml " (0xEF ∷ 0xBF ∷ 0xBE ∷ []) "?><a/>" ∷ refuses "<?xml " (0xED ∷ 0xA0 ∷ 0x80 ∷ []) "?><a/>" ∷
    -- a byte order mark is a character, and no white space
    refuses "" (0xEF ∷ 0xBB ∷ 0xBF ∷ []) "<a/>" ∷
    -- a name is 1 to 64 bytes
    yes "<nnnnnnnnnnnnnnnnnnnnnnnnnnnnnnnnnnnnnnnnnnnnnnnnnnnnnnnnnnnnnnnn/>" ∷ no "<nnnnnnnnnnnnnnnnnnnnnnnnnnnnnnnnnnnnnnnnnnnnnnnnnnnnnnnnnnnnnnnnn/>" ∷
    -- to a depth of 12, the root being 1
    yes "<a><a><a><a><a><a><a><a><a><a><a><a/></a></a></a></a></a></a></a></a></a></a></a>" ∷
    no "<a><a><a><a><a><a><a><a><a><a><a><a><a/></a></a></a></a></a></a></a></a></a></a></a></a>" ∷ []

unfoldable right : Figure → Bool
right f = pick f.is (good f.text) (not (good f.text))

figures-hold : every right figures ≡ true
unfolding is_one good right doc_at before_root led root_at rooted ended misc_at misc_step go_on declaration_at in_declaration elem_at opened closed sealed items
    piece_then child in_front open_at tailed tail_at shut_at take_at taken unless_named close_at attr_named seek_at sought attr_at equalled attribute_of quoted_at bit_at
    over piece_at tag_at referred noted in_text char_at ref_at number_at numeral_from worded_at note_at in_note name_at short plain_at walk stepped is_figure figure_of
    is_plain is_named is_start bytes scan_by coded_width coded_at is_coded width_at scalar_at written encoded is_legal is_space is_letter is_capital is_digit
    one_of between every same
figures-hold = refl
