-- A leaf's value on the tree: its decoded text without comments, white space collapsed.
use Rattle.std.specs.Prelude.{ℕ, List, [], ◌++◌}
use Rattle.markup.specs.Tree.{Forest, nil, text, elem}
use Rattle.values.specs.Chars.{chars}
use Rattle.values.specs.Value.{collapsed}

-- the decoded text of what a leaf holds, up to an element in it; comments are not in the tree
unfoldable pub decoded : List ℕ → Forest → List ℕ
decoded s nil = []
decoded s (text i j rest) = chars s i j ++ decoded s rest
decoded s (elem g kids rest) = []

unfoldable pub leaf_value : List ℕ → Forest → List ℕ
leaf_value s t = collapsed (decoded s t)
