-- An element on each way, at d levels, which are one more than b.
--     elem-deep, elem-shut, elem-bad, elem-open     no level left, no start tag, nothing that may be held, no end tag: none
--     elem-empty, elem-full                         an empty element, and one with an end tag
use Prim.Native.Nat.{ℕ, suc}
use mathlib.Core.Path.{◌≡◌}
use mathlib.Core.List.{List}
use Rattle.std.specs.Prelude.{Some, None}
use Rattle.tags.specs.Tags.{open_at, close_at}
use Rattle.tags.specs.declared.Open.TheVariants.{Full, Empty, Shut}
use Rattle.markup.specs.Tree.{Forest, nil, one, none, held, bad, sealed, closed, opened, elem_at, content_at}

pub elem-deep : (s : List ℕ) (d i : ℕ) → d ≡ 0 → elem_at s d i ≡ none
unfolding elem_at
elem-deep s d i e = rw e

module _ (s : List ℕ) (d b i : ℕ) (up : d ≡ suc b) where
  pub elem-shut : open_at s i ≡ Shut → elem_at s d i ≡ none
  unfolding elem_at opened
  elem-shut e = rw (up, e)

  pub elem-empty : (a j : ℕ) → open_at s i ≡ Empty a j → elem_at s d i ≡ one (record { from = i; name = a; body = j; shut = j }) nil j
  unfolding elem_at opened
  elem-empty a j e = rw (up, e)

  module _ (a j : ℕ) (e : open_at s i ≡ Full a j) where
    pub elem-bad : content_at s b j ≡ bad → elem_at s d i ≡ none
    unfolding elem_at opened closed
    elem-bad u = rw (up, e, u)

    pub elem-open : (kids : Forest) (k : ℕ) → content_at s b j ≡ held kids k → close_at s i a k ≡ None → elem_at s d i ≡ none
    unfolding elem_at opened closed sealed
    elem-open kids k u z = rw (up, e, u, z)

    pub elem-full : (kids : Forest) (k x : ℕ) → content_at s b j ≡ held kids k → close_at s i a k ≡ Some x → elem_at s d i ≡ one (record { from = i; name = a; body = j; shut = k }) kids x
    unfolding elem_at opened closed sealed
    elem-full kids k x u z = rw (up, e, u, z)
