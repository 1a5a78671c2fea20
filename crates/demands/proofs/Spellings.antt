-- A text as a call writes it.
--     spelt, nothing-spelt     the UTF-8 of a text of legal characters, 1,800 at most, and of none
--     canadian-legal           the Canadian text of legal values
use Prim.Native.Nat.{ℕ, ◌≤◌}
use mathlib.Core.Path.{◌≡◌, ap, ◌∙◌}
use mathlib.Core.Bool.{true}
use mathlib.Core.List.{List, [], ◌++◌}
use native.Mathlib.Omega.{arith}
use lib.ListN.{length}
use Rattle.octets.specs.Bytes.{pick, every}
use Rattle.octets.proofs.Tests.{every-none, every_append, either_way}
use Rattle.characters.specs.Utf8.{is_legal, utf8}
use Rattle.characters.proofs.Chars.{chars-back}
use Rattle.characters.proofs.Texts.{utf8-most}
use Rattle.wording.specs.Text.{empty, after_space}
use Rattle.wording.proofs.Legals.{plain-legal, spaced-legal}
use Rattle.canadian.specs.Canadian.{canadian_text}
use Rattle.demands.specs.Message.{Spelt}

pub spelt : (cs : List ℕ) → every is_legal cs ≡ true → length cs ≤ 1800 → Spelt (utf8 cs)
spelt cs h few =
    let back = chars-back cs h in
    record {
      whole = ap utf8 back;
      legal = ap (every is_legal) back ∙ h;
      characters = rw back few;
      size = omega (arith, utf8-most cs);
    }

pub nothing-spelt : Spelt []
unfolding utf8
nothing-spelt = spelt [] (every-none is_legal) (omega arith)

pub canadian-legal : (b d i : List ℕ) → every is_legal b ≡ true → every is_legal d ≡ true → every is_legal i ≡ true → every is_legal (canadian_text b d i) ≡ true
unfolding canadian_text
canadian-legal b d i h k l =
    plain-legal (pick (empty b) (d ++ after_space i) b)
    (either_way (λ (v : List ℕ). every is_legal v ≡ true) (empty b) (d ++ after_space i) b (λ _. every_append is_legal d (after_space i) k (spaced-legal i l)) (λ _. h))
