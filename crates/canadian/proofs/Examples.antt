-- Worked examples of the definition.
use mathlib.Core.List.{[], ◌++◌}
use mathlib.Core.Path.{◌≡◌, refl}
use lib.ListN.{replicate}
use Rattle.octets.specs.Bytes.{same}
use Rattle.octets.specs.Text.{bytes}
use Rattle.wording.specs.Text.{after_space}
use Rattle.canadian.specs.Canadian.{canadian_text}

-- the broadcast text as the whole text
broadcast-whole : canadian_text (bytes "T.") (bytes "Water main broken.") (bytes "Boil water.") ≡ bytes "T."
unfolding canadian_text after_space same bytes
broadcast-whole = refl

-- otherwise description, then instruction after a space
description-instruction : canadian_text [] (bytes "Water main broken.") (bytes "Boil water.") ≡ bytes "Water main broken. Boil water."
unfolding canadian_text after_space same bytes
description-instruction = refl

-- if there is one
description-alone : canadian_text [] (bytes "Water main broken.") [] ≡ bytes "Water main broken."
unfolding canadian_text after_space same bytes
description-alone = refl

-- of 1,801 characters the last is left out, plain, with no mark, and 1,800 stay whole
broadcast-cut : canadian_text (replicate 1799 120 ++ bytes "yz") [] [] ≡ replicate 1799 120 ++ bytes "y"
unfolding canadian_text after_space same bytes
broadcast-cut = refl

broadcast-full : canadian_text (replicate 1799 120 ++ bytes "y") [] [] ≡ replicate 1799 120 ++ bytes "y"
unfolding canadian_text after_space same bytes
broadcast-full = refl

-- the cut falls in instruction
instruction-cut : canadian_text [] (replicate 1790 120) (bytes "Boil water.") ≡ replicate 1790 120 ++ bytes " Boil wate"
unfolding canadian_text after_space same bytes
instruction-cut = refl

-- a space that it leaves stays
space-left : canadian_text [] (replicate 1799 120) (bytes "Boil water.") ≡ replicate 1799 120 ++ bytes " "
unfolding canadian_text after_space same bytes
space-left = refl

-- description alone is 1,800 long, and as much of a longer one
description-full : canadian_text [] (replicate 1799 120 ++ bytes "y") (bytes "Boil water.") ≡ replicate 1799 120 ++ bytes "y"
unfolding canadian_text after_space same bytes
description-full = refl

description-cut : canadian_text [] (replicate 1799 120 ++ bytes "yz") (bytes "Boil water.") ≡ replicate 1799 120 ++ bytes "y"
unfolding canadian_text after_space same bytes
description-cut = refl
