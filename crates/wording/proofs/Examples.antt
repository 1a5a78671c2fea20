-- Worked examples of the definitions.
use Prim.Native.Nat.{ℕ}
use mathlib.Core.List.{List, [], ◌∷◌, ◌++◌}
use mathlib.Core.Path.{◌≡◌, refl, ap}
use lib.ListN.{length, take, replicate}
use Rattle.octets.specs.Bytes.{same}
use Rattle.octets.specs.Text.{bytes}
use Rattle.characters.specs.Utf8.{encoded, utf8}
use Rattle.sentence.proofs.Examples.{sample, sample-sentence}
use Rattle.sentence.specs.Words.{sentence_of}
use Rattle.wording.specs.Text.{after_space, phrase, room_of, shares_of, cut, last_parts, text_of}

-- the sample of document 01
pub sample-text : text_of (sentence_of sample) (bytes "") (bytes "County Bench") (bytes "Water main broken.") (bytes "Boil water.") ≡ bytes "Civil authorities issued Civil Emergency Message for locations 024031, valid from 18:00 UTC on day 095 for 00 hours 45 minutes. Message from County Bench. Water main broken. Boil water."
unfolding text_of after_space phrase room_of shares_of cut last_parts same bytes
sample-text = ap (λ (t : List ℕ). text_of t [] (bytes "County Bench") (bytes "Water main broken.") (bytes "Boil water.")) sample-sentence

-- EASText takes the place of the rest
eas-text : text_of (bytes "S.") (bytes "Told.") (bytes "County Bench") (bytes "Water main broken.") (bytes "Boil water.") ≡ bytes "S. Told."
unfolding text_of after_space cut same bytes
eas-text = refl

-- and is cut without a mark, where what is before it leaves ten characters
eas-cut : text_of (replicate 1790 46) (bytes "Told to all.") [] [] [] ≡ replicate 1790 46 ++ bytes " Told to a"
unfolding text_of after_space cut same bytes
eas-cut = refl

-- behind 1,790 characters A is 8: h and A − h; an instruction of h stays whole, and so does a description of h; a part alone gets 9
both-cut : last_parts 1790 (bytes "Water main broken.") (bytes "Boil water.") ≡ bytes " W*** B***"
unfolding last_parts after_space room_of shares_of cut same bytes
both-cut = refl

short-instruction : last_parts 1790 (bytes "Water main broken.") (bytes "Boil") ≡ bytes " W*** Boil"
unfolding last_parts after_space room_of shares_of cut same bytes
short-instruction = refl

short-description : last_parts 1790 (bytes "Main") (bytes "Boil water.") ≡ bytes " Main B***"
unfolding last_parts after_space room_of shares_of cut same bytes
short-description = refl

alone : last_parts 1790 (bytes "") (bytes "Boil water.") ≡ bytes " Boil w***"
unfolding last_parts after_space room_of shares_of cut same bytes
alone = refl

just-fits : last_parts 1790 (bytes "Main") (bytes "Stop") ≡ bytes " Main Stop"
unfolding last_parts after_space room_of shares_of cut same bytes
just-fits = refl

-- a description alone gets 9 too, and a space before the mark stays
alone-before : last_parts 1790 (bytes "Water main broken.") (bytes "") ≡ bytes " Water ***"
unfolding last_parts after_space room_of shares_of cut same bytes
alone-before = refl

-- behind 1,789 characters A is 9 and h is 4, rounded down: h and A − h, also for a part that is one longer than h
odd-cut : last_parts 1789 (bytes "Water main broken.") (bytes "Boil water.") ≡ bytes " W*** Bo***"
unfolding last_parts after_space room_of shares_of cut same bytes
odd-cut = refl

odd-description : last_parts 1789 (bytes "Main.") (bytes "Boil water.") ≡ bytes " M*** Bo***"
unfolding last_parts after_space room_of shares_of cut same bytes
odd-description = refl

-- if i is at most h, description gets A − i
odd-instruction : last_parts 1789 (bytes "Water main broken.") (bytes "Boil") ≡ bytes " Wa*** Boil"
unfolding last_parts after_space room_of shares_of cut same bytes
odd-instruction = refl

-- what fits A stays whole, and with one more it does not fit
odd-fits : last_parts 1789 (bytes "Main") (bytes "Boil.") ≡ bytes " Main Boil."
unfolding last_parts after_space room_of shares_of cut same bytes
odd-fits = refl

odd-over : last_parts 1789 (bytes "Main.") (bytes "Boil.") ≡ bytes " M*** Boil."
unfolding last_parts after_space room_of shares_of cut same bytes
odd-over = refl

-- characters are counted, not their bytes: of ten, five é and five of four bytes each, six stay before the mark, whole
abbrev wide : List ℕ
wide = 233 ∷ 128512 ∷ 233 ∷ 128512 ∷ 233 ∷ 128512 ∷ 233 ∷ 128512 ∷ 233 ∷ 128512 ∷ []

wide-cut : last_parts 1790 wide [] ≡ (32 ∷ 233 ∷ 128512 ∷ 233 ∷ 128512 ∷ 233 ∷ 128512 ∷ []) ++ bytes "***"
unfolding last_parts after_space room_of shares_of cut same bytes
wide-cut = refl

wide-bytes : utf8 (last_parts 1790 wide []) ≡ (32 ∷ 195 ∷ 169 ∷ 240 ∷ 159 ∷ 152 ∷ 128 ∷ 195 ∷ 169 ∷ 240 ∷ 159 ∷ 152 ∷ 128 ∷ 195 ∷ 169 ∷ 240 ∷ 159 ∷ 152 ∷ 128 ∷ []) ++ bytes "***"
unfolding last_parts after_space room_of shares_of cut same bytes utf8 encoded
wide-bytes = refl

-- nine of them all stay: 26 bytes and a space
wide_fits : length (utf8 (last_parts 1790 (take 9 wide) [])) ≡ 27
unfolding last_parts after_space room_of shares_of cut same bytes utf8 encoded
wide_fits = refl

-- `Message from {first 200 characters of senderName}.`: of 201 the last is left out, and 200 stay whole
long-sender : text_of (bytes "S.") [] (replicate 199 120 ++ bytes "yz") [] [] ≡ bytes "S. Message from " ++ replicate 199 120 ++ bytes "y."
unfolding text_of after_space phrase room_of shares_of cut last_parts same bytes
long-sender = refl

full-sender : text_of (bytes "S.") [] (replicate 199 120 ++ bytes "y") [] [] ≡ bytes "S. Message from " ++ replicate 199 120 ++ bytes "y."
unfolding text_of after_space phrase room_of shares_of cut last_parts same bytes
full-sender = refl
