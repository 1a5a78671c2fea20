-- The allotments in one pass.
use Rattle.std.specs.Prelude.{ℕ, ◌-◌, ◌/◌, min, max}
use Rattle.wording.specs.Text.{most}

-- what description may take behind n characters, where instruction has i: with A as it is for a description that is not empty, the greater of A − i and h
unfoldable pub given_to : ℕ → ℕ → ℕ
given_to n i =
    let a = most - 1 - n - min 1 i in
    max (a - i) (a / 2)
