-- Worked examples, computed: pairs of messages that differ only in what is unread, and pairs that differ in more.
--     pairs                     alike and unlike
--     contact-line              the sender's question, on the sample of document 01: a changed contact line is unread
--     activations-unaltered     so that it alters no activation
use Prim.Native.Nat.{ℕ}
use Prim.Native.String.{String, ◌++◌}
use mathlib.Core.Path.{◌≡◌, refl}
use mathlib.Core.List.{List, ◌∷◌}
use Rattle.octets.specs.Text.{bytes}
use Rattle.reads.specs.Names.{among, inside}
use Rattle.demands.specs.Calls.{library}
use Rattle.demands.specs.Runs.{BoardCall, offers, handed_out}
use Rattle.demands.proofs.Opens.{computing}
use Rattle.unread.specs.Kept.{kind_of, kept_as, kept_in, kept_from, kept_of, OnlyUnreadDiffers}
use Rattle.unread.proofs.Calls.{nothing-unread-matters, same-activations}
use Rattle.unread.proofs.Pairs.{agree, same_kept, is_pair, alike, unlike}

-- ---- messages

-- the sample of document 01, with this before it, this contact line and this description in its info, and an info in French that holds this
abbrev sample_with : String → String → String → String → String
sample_with lead contact description french =
    lead
    ++ "<alert xmlns=\"urn:oasis:names:tc:emergency:cap:1.2\"><identifier>B1</identifier><sender>b@c</sender><sent>2010-04-05T14:00:30-04:00</sent>"
    ++ "<status>Actual</status><msgType>Alert</msgType><scope>Public</scope>"
    ++ "<info><eventCode><valueName>SAME</valueName><value>CEM</value></eventCode><expires>2010-04-05T14:45:30-04:00</expires>"
    ++ "<senderName>County Bench</senderName><contact>"
    ++ contact
    ++ "</contact><description>"
    ++ description
    ++ "</description><instruction>Boil water.</instruction>"
    ++ "<area><geocode><valueName>SAME</valueName><value>024031</value></geocode></area></info>"
    ++ "<info><language>fr</language>"
    ++ french
    ++ "</info></alert>"

unfoldable pub sample : List ℕ
sample = bytes (sample_with "" "Ann, 555-0100" "Water main broken." "")

unfoldable pub changed : List ℕ
changed = bytes (sample_with "<!--from the county-->" "Bob &amp; <b>Carol</b>" "Water main<!-- 12 in. --> broken." "<description>Conduite</description>")

-- an alert that holds this
abbrev holding : String → List ℕ
holding t = bytes ("<alert xmlns=\"urn:oasis:names:tc:emergency:cap:1.2\">" ++ t ++ "</alert>")

-- ---- pairs of them

abbrev Alike : String → String → Type 0
Alike t u = OnlyUnreadDiffers (holding t) (holding u)

abbrev Unlike : String → String → Type 0
Unlike t u = OnlyUnreadDiffers (holding t) (holding u) → ⊥

pub record Pairs : Type 0 where
  -- another contact line; a comment before the root, and one in the description; a description in French
  sender-asked : OnlyUnreadDiffers sample changed
  -- what an element that is skipped holds, its name and attributes, and whether there is one
  skipped-inside : Alike "<info><contact>Ann</contact></info>" "<info><contact><b>Bob</b></contact></info>"
  skipped-name : Alike "<info><contact>Ann</contact></info>" "<info><web n='1'>Ann</web></info>"
  skipped-whole : Alike "<info><contact>Ann</contact></info>" "<info/>"
  -- an element in a leaf, where the leaf is at fault: which one, but not whether there is one
  fault-alike : Alike "<identifier>B1<x/>2</identifier>" "<identifier>B1<y>z</y></identifier>"
  element-in-leaf : Unlike "<identifier>B1</identifier>" "<identifier>B1<x/></identifier>"
  -- text outside leaves
  loose-text : Alike "<info><area>Ann</area></info>" "<info>Bob<area/></info>"
  -- comments, also in a leaf
  comments : Alike "<sender>b@c</sender>" "<!--n--><sender>b<!--n-->@c</sender>"
  -- how a value is written, but not the value
  written : Alike "<sender>b@c</sender>" "<sender > b&#64;c </sender>"
  value : Unlike "<sender>b@c</sender>" "<sender>b@d</sender>"
  -- the prefix, but not whether the root is `alert` of the namespace
  prefix : OnlyUnreadDiffers (holding "<sender>b@c</sender>")
      (bytes "<c:alert xmlns:c=\"urn:oasis:names:tc:emergency:cap:1.2\"><c:sender>b@c</c:sender></c:alert>")
  root : OnlyUnreadDiffers (holding "<sender>b@c</sender>") (bytes "<alert><sender>b@c</sender></alert>") → ⊥
  -- the selected info
  selected-info : Unlike "<info><senderName>Ann</senderName></info>" "<info><senderName>Bob</senderName></info>"
  -- an info after the first whose language is absent, empty or en-US: all but its language, and but whether there is one
  later-info : Alike "<info/><info><language>fr</language></info>" "<info/><info><expires/><language>fr</language><expires/></info>"
  later-language : Unlike "<info/><info><language>fr</language></info>" "<info/><info><language>es</language></info>"
  later-whole : Unlike "<info/><info/>" "<info/>"
  -- where no info is in English, none is after the first that is
  no-english : Unlike "<info><language>fr</language></info><info><language>es</language></info>"
      "<info><language>fr</language></info><info><language>es</language><expires/></info>"

pub pairs : Pairs
unfolding computing among inside kind_of kept_as kept_in kept_from kept_of agree same_kept is_pair sample changed
pairs = record {
  sender-asked = alike _ _ refl;
  skipped-inside = alike _ _ refl;
  skipped-name = alike _ _ refl;
  skipped-whole = alike _ _ refl;
  fault-alike = alike _ _ refl;
  element-in-leaf = unlike _ _ refl;
  loose-text = alike _ _ refl;
  comments = alike _ _ refl;
  written = alike _ _ refl;
  value = unlike _ _ refl;
  prefix = alike _ _ refl;
  root = unlike _ _ refl;
  selected-info = unlike _ _ refl;
  later-info = alike _ _ refl;
  later-language = unlike _ _ refl;
  later-whole = unlike _ _ refl;
  no-english = unlike _ _ refl;
}

-- ---- the sender's question

pub contact-line : OnlyUnreadDiffers sample changed
contact-line = pairs.sender-asked

-- a changed contact line alters no activation, on any board and whatever is called afterwards
pub activations-unaltered : (b : List ℕ) (cs : List BoardCall) → handed_out library (offers sample ∷ cs) b ≡ handed_out library (offers changed ∷ cs) b
activations-unaltered = same-activations library nothing-unread-matters sample changed contact-line
