-- The text of the Canadian mode, over values, which are lists of characters.
use Rattle.std.specs.Prelude.{ℕ, List, ◌++◌}
use Rattle.octets.specs.Bytes.{pick}
use Rattle.wording.specs.Text.{plain, empty, after_space}

-- the broadcast text as the whole text; otherwise description, then instruction after a space if there is one; a cut is at 1,800 characters, plain, with no mark
unfoldable pub canadian_text : List ℕ → List ℕ → List ℕ → List ℕ
canadian_text broadcast description instruction = plain (pick (empty broadcast) (description ++ after_space instruction) broadcast)
