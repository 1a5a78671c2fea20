-- The text, piece by piece.
--     text-le, text-bytes   at most 1,800 characters, and at most 7,200 bytes
--     text-full             as many characters where description and instruction don't fit
--     text-eas, text-parts  the text by whether EASText is empty
use Prim.Native.Nat.{ℕ, ◌+◌, ◌≤◌, ◌<◌}
use mathlib.Core.Bool.{Bool, true, false}
use mathlib.Core.List.{List, [], ◌∷◌, ◌++◌}
use mathlib.Core.Path.{◌≡◌, refl, sym, ap, ◌∙◌}
use native.Mathlib.Omega.{arith}
use lib.ListN.{length, take, length-append, length-take}
use lib.Seq.{sets}
use Rattle.octets.proofs.Runs.{Run}
use Rattle.octets.proofs.Tests.{either_way}
use Rattle.octets.specs.Bytes.{same}
use Rattle.octets.specs.Text.{bytes}
use Rattle.characters.specs.Utf8.{utf8}
use Rattle.wording.specs.Text.{most, plain, empty, after_space, phrase, room_of, last_parts, text_of}
use Rattle.wording.specs.WorkingPen.{start_pen}
use Rattle.wording.specs.declared.Pen.{Pen}
use Rattle.wording.proofs.Cuts.{plain-short}
use Rattle.wording.proofs.Pens.{Penned, pen-run, bytes_le}
use Rattle.wording.proofs.Allotments.{parts-le, parts-full}

-- what has been put at the very start
pub put-start : {d ws x : List ℕ} {e : ℕ} → Run d 0 ws x e → (vs : List ℕ) → vs ≡ ws → (e ≡ length vs) × (x ≡ sets d 0 vs)
put-start {d} {ws} {x} {e} r vs s = (omega (arith, r.ends, ap length s), r.is ∙ ap (sets d 0) (sym s))

pub pen-start : {d ws x : List ℕ} {e : Pen} → Penned d start_pen ws x e → (vs : List ℕ) → vs ≡ ws → (e.at ≡ length (utf8 vs)) × (x ≡ sets d 0 (utf8 vs))
pen-start r vs s = put-start (pen-run r) (utf8 vs) (ap utf8 s)

-- ---- the sender's phrase

pub phrase-none : (v : List ℕ) → empty v ≡ true → after_space (phrase v) ≡ []
unfolding after_space phrase same
phrase-none v h = rw h

pub phrase-some : (v : List ℕ) → empty v ≡ false → after_space (phrase v) ≡ (bytes " Message from" ++ (32 ∷ take 200 v)) ++ bytes "."
unfolding after_space phrase same bytes
phrase-some v h = rw h

pub phrase-le : (v : List ℕ) → length (after_space (phrase v)) ≤ 215
unfolding bytes
phrase-le v = go (empty v) refl
  where
    go : (b : Bool) → empty v ≡ b → length (after_space (phrase v)) ≤ 215
    go true h = omega (arith, ap length (phrase-none v h))
    go false h = omega (arith, ap length (phrase-some v h), length-append (take 200 v) (bytes "."), length-take 200 v)

-- ---- the text

-- the sentence and the sender's phrase
abbrev pub front : List ℕ → List ℕ → List ℕ
front sentence sender = sentence ++ after_space (phrase sender)

front-le : (sentence sender : List ℕ) → length (front sentence sender) ≤ length sentence + 215
front-le sentence sender = omega (arith, length-append sentence (after_space (phrase sender)), phrase-le sender)

module _ (sentence eas sender d i : List ℕ) where
  pub text-eas : empty eas ≡ false → text_of sentence eas sender d i ≡ plain (sentence ++ after_space eas)
  unfolding text_of
  text-eas h = rw h

  pub text-parts : empty eas ≡ true → text_of sentence eas sender d i ≡ front sentence sender ++ last_parts (length (front sentence sender)) d i
  unfolding text_of
  text-parts h = rw h

-- a sentence of at most 389 characters leaves room, as one of up to 1,577 would
pub text-le : (sentence eas sender d i : List ℕ) → length sentence ≤ 1577 → length (text_of sentence eas sender d i) ≤ most
unfolding text_of
text-le sentence eas sender d i h =
    let before = front sentence sender in
    let parts = last_parts (length before) d i in
    let short = front-le sentence sender in
    either_way (λ (t : List ℕ). length t ≤ most) (empty eas) (before ++ parts) (plain (sentence ++ after_space eas))
    (λ e. omega (arith, length-append before parts, parts-le (length before) d i (omega arith)))
    (λ e. plain-short (sentence ++ after_space eas))

pub text-bytes : (sentence eas sender d i : List ℕ) → length sentence ≤ 1577 → length (utf8 (text_of sentence eas sender d i)) ≤ 7200
text-bytes sentence eas sender d i h = bytes_le (text_of sentence eas sender d i) (text-le sentence eas sender d i h)

-- and where description and instruction don't fit, the text has exactly 1,800 characters
pub text-full : (sentence eas sender d i : List ℕ) → length sentence ≤ 1577 → empty eas ≡ true
    → room_of (length (front sentence sender)) d i < length d + length i → length (text_of sentence eas sender d i) ≡ most
text-full sentence eas sender d i h e k =
    let before = front sentence sender in
    let short = front-le sentence sender in
    omega (arith, ap length (text-parts sentence eas sender d i e), length-append before (last_parts (length before) d i), parts-full (length before) d i (omega arith) k)
