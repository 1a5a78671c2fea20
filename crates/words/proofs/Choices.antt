-- A choice by words that are tried one behind another is the choice by the place of the name among them.
--     chosen           the answer at the name's place is the one of the first word that is the name
--     place-within     the place of a name is one of the words'
--     alike            two rules for the answers agree below a number, where their tables do
use Prim.Native.Nat.{ℕ, zero, suc, ◌<◌}
use mathlib.Core.Path.{◌≡◌, refl, sym, ap, subst⁻¹, ◌∙◌}
use mathlib.Core.Bool.{Bool, true, false}
use mathlib.Core.List.{List, [], ◌∷◌}
use native.Mathlib.Omega.{arith}
use lib.ListN.{length, get_or}
use Rattle.std.specs.Prelude.{Option, Some, None, option_map}
use Rattle.octets.specs.Bytes.{pick, same}
pub use Rattle.words.specs.WorkingWords.{choice, answer}
use Rattle.words.specs.WorkingWords.{which_of}

module _ {A : Type 0} (none : A) where
  no_answer : (n : ℕ) (o : Option ℕ) → answer none n [] o ≡ none
  no_answer n None = refl
  no_answer n (Some k) = refl

  turned : (b : Bool) (x : A) (n : ℕ) (xs : List A) (o : Option ℕ) {y : A} → answer none n xs o ≡ y → answer none (suc n) (x ∷ xs) (pick b (Some 0) (option_map suc o)) ≡ pick b x y
  turned true x n xs o h = refl
  turned false x n xs None h = h
  turned false x n xs (Some k) h = h

  at_place : (vs : List (List ℕ)) (xs : List A) (w : List ℕ) → answer none (length vs) xs (which_of vs w) ≡ choice none vs xs w
  unfolding which_of
  at_place [] xs w = refl
  at_place (v ∷ vs) [] w = no_answer (length (v ∷ vs)) (which_of (v ∷ vs) w)
  at_place (v ∷ vs) (x ∷ xs) w = turned (same w v) x (length vs) xs (which_of vs w) (at_place vs xs w)

  pub chosen : (vs : List (List ℕ)) (xs : List A) (w : List ℕ) {o : Option ℕ} → o ≡ which_of vs w → answer none (length vs) xs o ≡ choice none vs xs w
  chosen vs xs w h = ap (λ (o : Option ℕ). answer none (length vs) xs o) h ∙ at_place vs xs w

-- ---- a place is one of the words'

abbrev Below : ℕ → Option ℕ → Type 0
Below n None = Unit {0}
Below n (Some k) = k < n

one_more : (b : Bool) (n : ℕ) (o : Option ℕ) → Below n o → Below (suc n) (pick b (Some 0) (option_map suc o))
one_more true n o h = omega arith
one_more false n None h = tt
one_more false n (Some k) h = omega arith

place-below : (vs : List (List ℕ)) (w : List ℕ) → Below (length vs) (which_of vs w)
unfolding which_of
place-below [] w = tt
place-below (v ∷ vs) w = one_more (same w v) (length vs) (which_of vs w) (place-below vs w)

pub place-within : (vs : List (List ℕ)) (w : List ℕ) {k : ℕ} → Some k ≡ which_of vs w → k < length vs
place-within vs w h = subst⁻¹ (λ (o : Option ℕ). Below (length vs) o) h (place-below vs w)

-- ---- answers below a number

module _ {A : Type 0} where
  -- f at each number below n
  abbrev pub tab : ℕ → (ℕ → A) → List A
  tab zero f = []
  tab (suc n) f = f zero ∷ tab n (λ i. f (suc i))

  at-tab : (n k : ℕ) (f : ℕ → A) (d : A) → k < n → get_or (tab n f) k d ≡ f k
  at-tab zero k f d h = absurd (omega arith)
  at-tab (suc n) zero f d h = refl
  at-tab (suc n) (suc k) f d h = at-tab n k (λ i. f (suc i)) d (omega arith)

  pub alike : (f g : ℕ → A) (n : ℕ) → tab n f ≡ tab n g → (k : ℕ) → k < n → f k ≡ g k
  alike f g n e k h = sym (at-tab n k f (f 0) h) ∙ ap (λ (xs : List A). get_or xs k (f 0)) e ∙ at-tab n k g (f 0) h
