-- "The board": the records that a message leaves, and what is due. b is the filled records of a board, m a message.
use Rattle.std.specs.Prelude.{ℕ, zero, suc, ◌/◌, ◌%◌, ◌≡◌, Bool, false, ◌&&◌, ◌||◌, not, List, [], ◌∷◌, ◌++◌, map, length, eqb}
use Rattle.octets.specs.Bytes.{pick, same}
use Rattle.clock.specs.Time.{time_of, instant_in}
use Rattle.clock.specs.Stamp.{stamp_of}
use Rattle.header.specs.Body.{body_bytes}
use Rattle.fields.specs.References.{sender_of, identifier_of, sent_of, words}
use Rattle.records.specs.Record.{kind, key, carried, pad, key_of, notice, withdrawal}
use Rattle.ledger.specs.Sorted.{In, has, insert_all}
use Rattle.ledger.specs.declared.Row.{Row}
use Rattle.told.specs.Values.{passing, is_one}
use Rattle.demands.specs.Message.{identifier, sender, msg_type, references, sent_seconds, header_body, is_quiet}

-- ---- the records of a message

-- its own sent, sender and identifier
abbrev pub own_key : List ℕ → List ℕ
own_key m = key_of (sent_seconds m) (sender m) (identifier m)

-- its header, on a board always without its station
abbrev pub own_header : List ℕ → List ℕ
own_header m = pad 243 (body_bytes (header_body m))

-- with the UTC year of sent, high byte first
abbrev pub own_dated : List ℕ → List ℕ
own_dated m = own_header m ++ ((stamp_of (sent_seconds m)).year / 256 ∷ (stamp_of (sent_seconds m)).year % 256 ∷ [])

-- the sent, sender and identifier of a group `sender,identifier,sent`
abbrev pub group_key : List ℕ → List ℕ
group_key w = key_of (instant_in (time_of (sent_of w))) (sender_of w) (identifier_of w)

-- what an Update or Cancel names
abbrev pub named_keys : List ℕ → List (List ℕ)
named_keys m = pick (is_one ("Update" ∷ "Cancel" ∷ []) (msg_type m)) (map group_key (words (references m))) []

-- an offer adds the notice (unless quiet) and one withdrawal per reference of an Update or Cancel
abbrev pub message_records : List ℕ → List (List ℕ)
message_records m = pick (is_quiet m) [] (notice (own_key m) (own_header m) ∷ []) ++ map withdrawal (named_keys m)

-- records held already, or named twice in one offer, aren't added again: those that must be added
abbrev pub new_to : List (List ℕ) → List (List ℕ) → List (List ℕ)
new_to b [] = []
new_to b (r ∷ rs) = pick (has r b) (new_to b rs) (r ∷ new_to (r ∷ b) rs)

-- ---- what is due. A header is one with its year, 245 bytes: the same only if the UTC year of sent agrees too

abbrev pub some : {A : Type 0} → (A → Bool) → List A → Bool
some f [] = false
some f (x ∷ xs) = f x || some f xs

-- a withdrawal withdraws each notice with its sent, sender and identifier
abbrev pub withdrawn : List (List ℕ) → List ℕ → Bool
withdrawn b n = some (λ w. eqb (kind w) 2 && same (key w) (key n)) b

abbrev pub aired_on : List (List ℕ) → List ℕ → Bool
aired_on b h = some (λ a. eqb (kind a) 3 && same (carried a) h) b

-- a notice not withdrawn that carries the header
abbrev pub carries_it : List (List ℕ) → List ℕ → List ℕ → Bool
carries_it b h n = eqb (kind n) 1 && (not (withdrawn b n) && same (carried n) h)

-- a notice that makes the header due: it is not withdrawn and carries it, and no aired record does
abbrev pub makes_due : List (List ℕ) → List ℕ → List ℕ → Bool
makes_due b h n = carries_it b h n && not (aired_on b h)

-- the due headers, ordered by header, then year
abbrev pub due_headers : List (List ℕ) → List (List ℕ)
due_headers b = insert_all (map carried (passing (λ n. makes_due b (carried n) n) b)) []

-- a header is due if a notice not withdrawn carries it and no aired record does
pub record Due (b : List (List ℕ)) (h : List ℕ) : Type 0 where
  pub by : List ℕ
  pub held : In by b
  pub is-notice : kind by ≡ 1
  pub carries : carried by ≡ h
  pub not-withdrawn : (w : List ℕ) → In w b → kind w ≡ 2 → key w ≡ key by → ⊥
  pub not-aired : (a : List ℕ) → In a b → kind a ≡ 3 → carried a ≡ h → ⊥

-- the index of the first that passes, counted from 0
abbrev pub first_index : (List ℕ → Bool) → List (List ℕ) → ℕ
first_index f [] = zero
first_index f (r ∷ rs) = pick (f r) zero (suc (first_index f rs))

-- the index of the smallest notice that makes a header due, and how many notices not withdrawn carry it
abbrev pub row_of : List (List ℕ) → List ℕ → Row
row_of b h = record { index = first_index (makes_due b h) b; count = length (passing (carries_it b h) b) }
