-- The characters of a text are legal where those of its sentence and of the values in it are.
--     all-legal      the text of a sentence and four values
--     plain-legal    a text that is cut at 1,800 in all
use Prim.Native.Nat.{ℕ, ◌-◌}
use mathlib.Core.Path.{◌≡◌, refl, ap, ◌∙◌}
use mathlib.Core.Bool.{true}
use mathlib.Core.List.{List, [], ◌∷◌, ◌++◌}
use lib.Dec.{leb}
use lib.ListN.{length, take, drop, take-append-drop}
use Rattle.octets.specs.Bytes.{every, between, one_of}
use Rattle.octets.specs.Text.{bytes}
use Rattle.octets.proofs.Tests.{every-none, every-step, every_append, every-left, either_way}
use Rattle.characters.specs.Utf8.{is_legal}
use Rattle.wording.specs.Text.{most, plain, empty, after_space, phrase, Shares, room_of, shares_of, cut, last_parts, text_of}

-- every character of v is legal
abbrev Legal : List ℕ → Type 0
Legal v = every is_legal v ≡ true

taken : (n : ℕ) (v : List ℕ) → Legal v → Legal (take n v)
taken n v h = every-left is_legal (take n v) (drop n v) (ap (every is_legal) (take-append-drop n v) ∙ h)

none : Legal []
none = every-none is_legal

both : (v w : List ℕ) → Legal v → Legal w → Legal (v ++ w)
both v w h k = every_append is_legal v w h k

mark : Legal (bytes "***")
unfolding bytes is_legal one_of between every
mark = refl

space : is_legal 32 ≡ true
unfolding is_legal one_of between every
space = refl

-- the words around senderName
phrase-words : Legal (bytes "Message from ")
unfolding bytes is_legal one_of between every
phrase-words = refl

phrase-end : Legal (bytes ".")
unfolding bytes is_legal one_of between every
phrase-end = refl

pub plain-legal : (v : List ℕ) → Legal v → Legal (plain v)
plain-legal v h = taken most v h

pub spaced-legal : (v : List ℕ) → Legal v → Legal (after_space v)
unfolding after_space
spaced-legal v h = either_way Legal (empty v) [] (32 ∷ v) (λ e. none) (λ e. every-step is_legal 32 v space ∙ h)

cut-legal : (g : ℕ) (v : List ℕ) → Legal v → Legal (cut g v)
unfolding cut
cut-legal g v h = either_way Legal (leb (length v) g) v _ (λ e. h) (λ e. both (take (g - 3) v) (bytes "***") (taken (g - 3) v h) mark)

phrase-legal : (v : List ℕ) → Legal v → Legal (phrase v)
unfolding phrase
phrase-legal v h =
    either_way Legal (empty v) [] _ (λ e. none)
    (λ e. both (bytes "Message from " ++ take 200 v) (bytes ".") (both (bytes "Message from ") (take 200 v) phrase-words (taken 200 v h)) phrase-end)

parts-legal : (n : ℕ) (v w : List ℕ) → Legal v → Legal w → Legal (last_parts n v w)
unfolding last_parts
parts-legal n v w h k =
    both (after_space (cut g.description v)) (after_space (cut g.instruction w))
    (spaced-legal (cut g.description v) (cut-legal g.description v h))
    (spaced-legal (cut g.instruction w) (cut-legal g.instruction w k))
  where
    g : Shares
    g = shares_of (room_of n v w) (length v) (length w)

pub all-legal : (sentence eas sender description instruction : List ℕ) → Legal sentence → Legal eas → Legal sender → Legal description → Legal instruction
    → Legal (text_of sentence eas sender description instruction)
unfolding text_of
all-legal sentence eas sender description instruction s e f d i =
    either_way Legal (empty eas) _ _
    (λ _. both front (last_parts (length front) description instruction) front-legal (parts-legal (length front) description instruction d i))
    (λ _. plain-legal (sentence ++ after_space eas) (both sentence (after_space eas) s (spaced-legal eas e)))
  where
    front : List ℕ
    front = sentence ++ after_space (phrase sender)

    front-legal : Legal front
    front-legal = both sentence (after_space (phrase sender)) s (spaced-legal (phrase sender) (phrase-legal sender f))
