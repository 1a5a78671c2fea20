-- The alert text, over values, which are lists of characters.
use Rattle.std.specs.Prelude.{ℕ, ◌+◌, ◌-◌, ◌/◌, Bool, List, [], ◌∷◌, ◌++◌, eqb, leb, length, take}
use Rattle.octets.specs.Bytes.{pick, same}
use Rattle.octets.specs.Text.{bytes}

-- the text has at most 1,800 characters
abbrev pub most : ℕ
most = 1800

-- cut at 1,800 in all, without a mark
abbrev pub plain : List ℕ → List ℕ
plain t = take most t

abbrev pub empty : List ℕ → Bool
empty v = same v []

-- the non-empty ones, each after one space
unfoldable pub after_space : List ℕ → List ℕ
after_space v = pick (empty v) [] (32 ∷ v)

-- `Message from {first 200 characters of senderName}.` (if senderName isn't empty)
unfoldable pub phrase : List ℕ → List ℕ
phrase sender = pick (empty sender) [] (bytes "Message from " ++ take 200 sender ++ bytes ".")

-- one per non-empty part
abbrev pub one : List ℕ → ℕ
one v = pick (empty v) 0 1

-- let A be 1,800 less all before description, which is n characters, and less one per non-empty part of description and instruction
unfoldable pub room_of : ℕ → List ℕ → List ℕ → ℕ
room_of n description instruction = most - n - one description - one instruction

-- what description and instruction get
pub record Shares : Type 0 where
  pub description : ℕ
  pub instruction : ℕ

-- if description (length d) and instruction (i) don't fit A: one part alone gets A; of two, with h = A/2 rounded down:
-- if i is at most h, description gets A − i; else if d is at most h, instruction gets A − d; else h and A − h
unfoldable pub shares_of : ℕ → ℕ → ℕ → Shares
shares_of a d i =
    pick (leb (d + i) a) (record { description = d; instruction = i })
    (pick (eqb i 0) (record { description = a; instruction = 0 })
    (pick (eqb d 0) (record { description = 0; instruction = a })
    (pick (leb i (a / 2)) (record { description = a - i; instruction = i })
    (pick (leb d (a / 2)) (record { description = d; instruction = a - d })
    (record { description = a / 2; instruction = a - a / 2 })))))

-- a part longer than its allotment g is its first g − 3 characters and `***`
unfoldable pub cut : ℕ → List ℕ → List ℕ
cut g v = pick (leb (length v) g) v (take (g - 3) v ++ bytes "***")

-- description and instruction behind n characters
unfoldable pub last_parts : ℕ → List ℕ → List ℕ → List ℕ
last_parts n description instruction =
    let g = shares_of (room_of n description instruction) (length description) (length instruction) in
    after_space (cut g.description description) ++ after_space (cut g.instruction instruction)

-- if EASText is not empty: a space and it, cut at 1,800 in all, without a mark;
-- otherwise the non-empty ones of the sender's phrase, description, instruction
unfoldable pub text_of : List ℕ → List ℕ → List ℕ → List ℕ → List ℕ → List ℕ
text_of sentence eas sender description instruction =
    let front = sentence ++ after_space (phrase sender) in
    pick (empty eas) (front ++ last_parts (length front) description instruction) (plain (sentence ++ after_space eas))
