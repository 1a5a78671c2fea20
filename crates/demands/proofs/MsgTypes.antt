-- The msgType that a value is, said by tests of the value.
--     unknown-is, ack-or-error-is, asks-references-is, cancel-is
use Prim.Native.Nat.{ℕ}
use Prim.Native.String.{String}
use mathlib.Core.Path.{◌≡◌, refl}
use mathlib.Core.Bool.{Bool, true, false, not}
use mathlib.Core.List.{List, [], ◌∷◌}
use Rattle.octets.specs.Bytes.{same}
use Rattle.octets.specs.Text.{bytes}
use Rattle.octets.proofs.Sames.{same-is}
use Rattle.fields.specs.WorkingFields.{msg_type_in}
use Rattle.message.specs.WorkingJudged.{is_unknown, is_ack_or_error}
use Rattle.judgement.specs.WorkingRules.{asks_references, is_cancel}
use Rattle.told.specs.Values.{is, is_one}

-- those of CAP 1.2
abbrev pub msg_types : List String
msg_types = "Alert" ∷ "Update" ∷ "Cancel" ∷ "Ack" ∷ "Error" ∷ []

-- what holds of a word, and of v where it is not that word, holds of v
by_word : (P : List ℕ → Type 0) (w : String) (v : List ℕ) → P (bytes w) → (is w v ≡ false → P v) → P v
by_word P w v p other = go (is w v) refl
  where
    go : (b : Bool) → is w v ≡ b → P v
    go true e = rw (same-is v (bytes w) e) p
    go false e = other e

-- the same by each of these words
by-words : (P : List ℕ → Type 0) → P (bytes "Alert") → P (bytes "Update") → P (bytes "Cancel") → P (bytes "Ack") → P (bytes "Error") → (v : List ℕ) →
    (is "Alert" v ≡ false → is "Update" v ≡ false → is "Cancel" v ≡ false → is "Ack" v ≡ false → is "Error" v ≡ false → P v) → P v
by-words P alert update cancel ack error v none =
    by_word P "Alert" v alert (λ a.
    by_word P "Update" v update (λ b.
    by_word P "Cancel" v cancel (λ c.
    by_word P "Ack" v ack (λ d.
    by_word P "Error" v error (λ e. none a b c d e)))))

pub unknown-is : (v : List ℕ) → is_unknown (msg_type_in v) ≡ not (is_one msg_types v)
unfolding msg_type_in same bytes
unknown-is v =
    by-words (λ (v : List ℕ). is_unknown (msg_type_in v) ≡ not (is_one msg_types v)) refl refl refl refl refl v (λ a b c d e. rw (a, b, c, d, e))

pub ack-or-error-is : (v : List ℕ) → is_ack_or_error (msg_type_in v) ≡ is_one ("Ack" ∷ "Error" ∷ []) v
unfolding msg_type_in same bytes
ack-or-error-is v =
    by-words (λ (v : List ℕ). is_ack_or_error (msg_type_in v) ≡ is_one ("Ack" ∷ "Error" ∷ []) v) refl refl refl refl refl v (λ a b c d e. rw (a, b, c, d, e))

pub asks-references-is : (v : List ℕ) → asks_references (msg_type_in v) ≡ is_one ("Update" ∷ "Cancel" ∷ []) v
unfolding msg_type_in same bytes
asks-references-is v =
    by-words (λ (v : List ℕ). asks_references (msg_type_in v) ≡ is_one ("Update" ∷ "Cancel" ∷ []) v) refl refl refl refl refl v (λ a b c d e. rw (a, b, c, d, e))

pub cancel-is : (v : List ℕ) → is_cancel (msg_type_in v) ≡ is "Cancel" v
unfolding msg_type_in same bytes
cancel-is v =
    by-words (λ (v : List ℕ). is_cancel (msg_type_in v) ≡ is "Cancel" v) refl refl refl refl refl v (λ a b c d e. rw (a, b, c, d, e))
