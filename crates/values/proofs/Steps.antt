-- The value of a leaf, character by character.
--     value-start                from its first character on, the rest is the value
--     step-more, step-done       a step gives the rest's first character and goes to the rest behind it, or there is none
--     value-past                 past the message's end the value is empty
--     gap-.., step-..            what follows white space, and a step, by what stands at the place
use Prim.Native.Nat.{ℕ, ◌+◌, ◌<◌, ◌≤◌}
use mathlib.Core.Path.{◌≡◌, refl, sym, ap, ◌∙◌}
use mathlib.Core.Bool.{Bool, true, false, not}
use mathlib.Core.List.{List, [], ◌∷◌}
use native.Mathlib.Omega.{arith}
use lib.ListN.{length}
use borrow.Author.Tests.{lt-ltb}
use Rattle.octets.specs.Bytes.{pick, byte_at, same, every, between, one_of, is_space}
use Rattle.characters.specs.Utf8.{is_legal, is_single}
use Rattle.characters.proofs.Legals.{legal-basic}
use Rattle.calm.specs.WorkingCalm.{is_mark}
use Rattle.calm.proofs.Marks.{mark-least, mark-most, mark-other, mark-shows, white}
use Rattle.pieces.specs.Classes.{is_plain}
use Rattle.pieces.proofs.Goes.{Goes}
use Rattle.values.specs.Chars.{next_at, text_at}
use Rattle.values.specs.Value.{trimmed, spaced, runs, collapsed, value_at}
use Rattle.values.specs.WorkingSteps.{rest_at, first_at, gap_at, step_at, placed, lead_at}
use Rattle.values.specs.declared.Found.{Found}
use Rattle.values.specs.declared.Next.TheVariants.{Char, Over, Last}
use Rattle.std.specs.Prelude.{Option, Some, None}
use Rattle.values.proofs.Folds.{char-forth, over-forth, along, fold-char, fold_over, fold-last, byte_next}
use Rattle.values.proofs.Texts.{text-char, text-over, text-last, text-past}

module _ (s : List ℕ) where
  -- what follows white space
  pub gap-space : (i c j : ℕ) → next_at s i ≡ Char c j → is_space c ≡ true → gap_at s i ≡ gap_at s j
  unfolding gap_at
  gap-space i c j e b = fold-char s _ _ i c j e ∙ rw b

  pub gap_here : (i c j : ℕ) → next_at s i ≡ Char c j → is_space c ≡ false → gap_at s i ≡ Some (32, i)
  unfolding gap_at
  gap_here i c j e b = fold-char s _ _ i c j e ∙ rw b

  pub gap-over : (i j : ℕ) → next_at s i ≡ Over j → gap_at s i ≡ gap_at s j
  unfolding gap_at
  gap-over i j e = fold_over s _ _ i j e

  pub gap-last : (i : ℕ) → next_at s i ≡ Last → gap_at s i ≡ None
  unfolding gap_at
  gap-last i e = fold-last s _ _ i e

  -- a step
  pub step-gap : (i c j : ℕ) → next_at s i ≡ Char c j → is_space c ≡ true → step_at s i ≡ gap_at s j
  unfolding step_at
  step-gap i c j e b = fold-char s _ _ i c j e ∙ rw b

  pub step_is : (i c j : ℕ) → next_at s i ≡ Char c j → is_space c ≡ false → step_at s i ≡ Some (c, j)
  unfolding step_at
  step_is i c j e b = fold-char s _ _ i c j e ∙ rw b

  pub step-over : (i j : ℕ) → next_at s i ≡ Over j → step_at s i ≡ step_at s j
  unfolding step_at
  step-over i j e = fold_over s _ _ i j e

  pub step-last : (i : ℕ) → next_at s i ≡ Last → step_at s i ≡ None
  unfolding step_at
  step-last i e = fold-last s _ _ i e

  -- the first character that passes
  module _ (p : ℕ → Bool) where
    pub first-here : (i c j : ℕ) → next_at s i ≡ Char c j → p c ≡ true → first_at p s i ≡ Some (record { c = c; at = i; next = j })
    unfolding first_at
    first-here i c j e b = fold-char s _ _ i c j e ∙ rw b

    pub first-past : (i c j : ℕ) → next_at s i ≡ Char c j → p c ≡ false → first_at p s i ≡ first_at p s j
    unfolding first_at
    first-past i c j e b = fold-char s _ _ i c j e ∙ rw b

    pub first-over : (i j : ℕ) → next_at s i ≡ Over j → first_at p s i ≡ first_at p s j
    unfolding first_at
    first-over i j e = fold_over s _ _ i j e

    pub first-last : (i : ℕ) → next_at s i ≡ Last → first_at p s i ≡ None
    unfolding first_at
    first-last i e = fold-last s _ _ i e

  abbrev pub gap_by : Option Found → Option (ℕ × ℕ)
  gap_by (Some f) = Some (32, f.at)
  gap_by None = None

  -- what follows white space begins with the first that is none
  pub gap-first : (i : ℕ) → gap_by (first_at (λ c. not (is_space c)) s i) ≡ gap_at s i
  gap-first i = along s (λ i. gap_by (first_at (λ c. not (is_space c)) s i) ≡ gap_at s i)
      (λ i e. rw (gap-last i e, first-last (λ c. not (is_space c)) i e))
      (λ i j e h. rw (gap-over i j e, first-over (λ c. not (is_space c)) i j e) h)
      (λ i c j e h. go i c j e h (is_space c) refl) i
    where
      go : (i c j : ℕ) → next_at s i ≡ Char c j → gap_by (first_at (λ c. not (is_space c)) s j) ≡ gap_at s j → (b : Bool) → is_space c ≡ b
          → gap_by (first_at (λ c. not (is_space c)) s i) ≡ gap_at s i
      go i c j e h true b = rw (gap-space i c j e b, first-past (λ c. not (is_space c)) i c j e (ap not b)) h
      go i c j e h false b = rw (gap_here i c j e b, first-here (λ c. not (is_space c)) i c j e (ap not b))

  abbrev pub step_by : Option Found → Option (ℕ × ℕ)
  step_by (Some f) = pick (is_space f.c) (gap_at s f.next) (Some (f.c, f.next))
  step_by None = None

  -- a step is by the first character of all
  pub step-first : (i : ℕ) → step_by (first_at (λ _. true) s i) ≡ step_at s i
  step-first i = along s (λ i. step_by (first_at (λ _. true) s i) ≡ step_at s i)
      (λ i e. rw (step-last i e, first-last (λ _. true) i e))
      (λ i j e h. rw (step-over i j e, first-over (λ _. true) i j e) h)
      (λ i c j e h. go i c j e (is_space c) refl) i
    where
      go : (i c j : ℕ) → next_at s i ≡ Char c j → (b : Bool) → is_space c ≡ b → step_by (first_at (λ _. true) s i) ≡ step_at s i
      go i c j e true b = rw (step-gap i c j e b, first-here (λ _. true) i c j e refl, b)
      go i c j e false b = rw (step_is i c j e b, first-here (λ _. true) i c j e refl, b)

-- ---- collapsing

module _ (c : ℕ) (cs : List ℕ) where
  runs-space : is_space c ≡ true → runs (c ∷ cs) ≡ spaced (runs cs)
  unfolding runs
  runs-space b = rw b

  runs-char : is_space c ≡ false → runs (c ∷ cs) ≡ c ∷ runs cs
  unfolding runs
  runs-char b = rw b

  spaced-char : is_space c ≡ false → spaced (c ∷ cs) ≡ 32 ∷ c ∷ cs
  unfolding spaced
  spaced-char b = rw b

  trimmed-space : is_space c ≡ true → trimmed (c ∷ cs) ≡ trimmed cs
  unfolding trimmed
  trimmed-space b = rw b

  trimmed-char : is_space c ≡ false → trimmed (c ∷ cs) ≡ c ∷ cs
  unfolding trimmed
  trimmed-char b = rw b

runs_none : runs [] ≡ []
unfolding runs
runs_none = refl

trimmed-none : trimmed [] ≡ []
unfolding trimmed
trimmed-none = refl

spaced-none : spaced [] ≡ []
unfolding spaced
spaced-none = refl

spaced-twice : (r : List ℕ) → spaced (spaced r) ≡ spaced r
unfolding spaced is_space one_of
spaced-twice [] = refl
spaced-twice (c ∷ r) = go (is_space c) refl
  where
    go : (b : Bool) → is_space c ≡ b → spaced (spaced (c ∷ r)) ≡ spaced (c ∷ r)
    go true e = rw (e, spaced) (rw (e, spaced))
    go false e = rw (e, spaced)

-- a run of white space is one space before what follows it
spaced-trimmed : (cs : List ℕ) → spaced (runs cs) ≡ spaced (runs (trimmed cs))
unfolding trimmed
spaced-trimmed [] = refl
spaced-trimmed (c ∷ cs) = go (is_space c) refl (spaced-trimmed cs)
  where
    go : (b : Bool) → is_space c ≡ b → spaced (runs cs) ≡ spaced (runs (trimmed cs)) → spaced (runs (c ∷ cs)) ≡ spaced (runs (trimmed (c ∷ cs)))
    go true e h = rw (e, trimmed) (ap spaced (runs-space c cs e) ∙ spaced-twice (runs cs) ∙ h)
    go false e h = rw (e, trimmed) refl

-- ---- the rest of a value

module _ (s : List ℕ) where
  -- at k the text from i on begins that is not white space, with the character x
  record First (i c k : ℕ) : Type 0 where
    pub is-space : c ≡ 32
    pub trims : text_at s k ≡ trimmed (text_at s i)
    pub x : ℕ
    pub y : ℕ
    pub begins : rest_at s k ≡ x ∷ rest_at s y
    pub shows : is_space x ≡ false
    pub on : i ≤ k
    pub in-it : k < length s

  abbrev Leads : ℕ → Option (ℕ × ℕ) → Type 0
  Leads i (Some (c, k)) = First i c k
  Leads i None = trimmed (text_at s i) ≡ []

  leads : (i : ℕ) → Leads i (gap_at s i)
  leads i = along s (λ i. Leads i (gap_at s i))
      (λ i e. rw (gap-last s i e) (ap trimmed (text-last s i e) ∙ trimmed-none))
      (λ i j e h. rw (gap-over s i j e) (back i j (over-forth s i j e) (ap trimmed (text-over s i j e)) (gap_at s j) h))
      (λ i c j e h. go i c j e h (is_space c) refl) i
    where
      back : (i j : ℕ) → Goes s i j → trimmed (text_at s i) ≡ trimmed (text_at s j) → (x : Option (ℕ × ℕ)) → Leads j x → Leads i x
      back i j g q (Some (c, k)) h = let l = g.on in let o = h.on in
          record { is-space = h.is-space; trims = h.trims ∙ sym q; x = h.x; y = h.y; begins = h.begins; shows = h.shows; on = omega arith; in-it = h.in-it }
      back i j g q None h = q ∙ h

      go : (i c j : ℕ) → next_at s i ≡ Char c j → Leads j (gap_at s j) → (b : Bool) → is_space c ≡ b → Leads i (gap_at s i)
      go i c j e h true b = rw (gap-space s i c j e b) (back i j (char-forth s i c j e) (ap trimmed (text-char s i c j e) ∙ trimmed-space c (text_at s j) b) (gap_at s j) h)
      go i c j e h false b = let g = char-forth s i c j e in let l = g.on in let m = g.in-it in
          rw (gap_here s i c j e b) (record {
            is-space = refl;
            trims = text-char s i c j e ∙ sym (ap trimmed (text-char s i c j e) ∙ trimmed-char c (text_at s j) b);
            x = c;
            y = j;
            begins = ap runs (text-char s i c j e) ∙ runs-char c (text_at s j) b;
            shows = b;
            on = omega arith;
            in-it = omega arith;
          })

  pub value-start : (i : ℕ) → rest_at s (lead_at s i) ≡ value_at s i
  unfolding lead_at placed value_at collapsed
  value-start i = go (gap_at s i) (leads i)
    where
      go : (x : Option (ℕ × ℕ)) → Leads i x → rest_at s (placed (length s) x) ≡ runs (trimmed (text_at s i))
      go (Some (c, k)) h = ap runs h.trims
      go None h = ap runs (text-past s (length s) (omega arith) ∙ sym h)

  pub value-past : (i : ℕ) → length s ≤ i → value_at s i ≡ []
  unfolding value_at collapsed
  value-past i h = ap (λ (t : List ℕ). runs (trimmed t)) (text-past s i h) ∙ ap runs trimmed-none ∙ runs_none

  -- the value is empty where no character stands but white space
  pub value-some : (i c k : ℕ) → gap_at s i ≡ Some (c, k) → same (value_at s i) [] ≡ false
  unfolding value_at collapsed same
  value-some i c k e = let h : First i c k = rw e at (leads i) in ap (λ (v : List ℕ). same v []) (ap runs (sym h.trims) ∙ h.begins)

  pub value_none : (i : ℕ) → gap_at s i ≡ None → same (value_at s i) [] ≡ true
  unfolding value_at collapsed same
  value_none i e = let h : trimmed (text_at s i) ≡ [] = rw e at (leads i) in ap (λ (v : List ℕ). same v []) (ap runs h ∙ runs_none)

  -- ---- a step

  abbrev Spells : ℕ → Option (ℕ × ℕ) → Type 0
  Spells i (Some (c, j)) = (rest_at s i ≡ c ∷ rest_at s j) × Goes s i j
  Spells i None = rest_at s i ≡ []

  gap-spells : (i c j : ℕ) → next_at s i ≡ Char c j → is_space c ≡ true → Spells i (gap_at s j)
  gap-spells i c j e b = go (gap_at s j) (leads j)
    where
      left : rest_at s i ≡ spaced (runs (trimmed (text_at s j)))
      left = ap runs (text-char s i c j e) ∙ runs-space c (text_at s j) b ∙ spaced-trimmed (text_at s j)

      go : (x : Option (ℕ × ℕ)) → Leads j x → Spells i x
      go (Some (d, k)) h =
          let l = (char-forth s i c j e).on in let o = h.on in let m = h.in-it in
          let q : spaced (rest_at s k) ≡ 32 ∷ rest_at s k = rw h.begins (spaced-char h.x (rest_at s h.y) h.shows) in
          (left ∙ ap (λ (t : List ℕ). spaced (runs t)) (sym h.trims) ∙ q ∙ ap (λ (z : ℕ). z ∷ rest_at s k) (sym h.is-space), record { on = omega arith; in-it = omega arith })
      go None h = left ∙ ap (λ (t : List ℕ). spaced (runs t)) h ∙ ap spaced runs_none ∙ spaced-none

  step-spells : (i : ℕ) → Spells i (step_at s i)
  step-spells i = along s (λ i. Spells i (step_at s i))
      (λ i e. rw (step-last s i e) (ap runs (text-last s i e) ∙ runs_none))
      (λ i j e h. rw (step-over s i j e) (back i j e (step_at s j) h))
      (λ i c j e h. go i c j e (is_space c) refl) i
    where
      back : (i j : ℕ) → next_at s i ≡ Over j → (x : Option (ℕ × ℕ)) → Spells j x → Spells i x
      back i j e (Some (c, m)) h = let l = (over-forth s i j e).on in let h1 = h.1.on in
          (ap runs (text-over s i j e) ∙ h.0, record { on = omega arith; in-it = h.1.in-it })
      back i j e None h = ap runs (text-over s i j e) ∙ h

      go : (i c j : ℕ) → next_at s i ≡ Char c j → (b : Bool) → is_space c ≡ b → Spells i (step_at s i)
      go i c j e true b = rw (step-gap s i c j e b) (gap-spells i c j e b)
      go i c j e false b = rw (step_is s i c j e b) (ap runs (text-char s i c j e) ∙ runs-char c (text_at s j) b, char-forth s i c j e)

  pub step-more : (i c j : ℕ) → step_at s i ≡ Some (c, j) → (rest_at s i ≡ c ∷ rest_at s j) × Goes s i j
  step-more i c j e = rw e at (step-spells i)

  pub step-done : (i : ℕ) → step_at s i ≡ None → rest_at s i ≡ []
  step-done i e = rw e at (step-spells i)

-- ---- a byte that is a character as it stands

module _ (b : ℕ) (h : is_mark b ≡ true) where
  mark-legal : is_legal b ≡ true
  mark-legal = let l = mark-least b h in let m = mark-most b h in sym (legal-basic b (omega arith) (omega arith))

  mark-single : is_single b ≡ true
  unfolding is_single
  mark-single = let m = mark-most b h in rw (lt-ltb b 128 (omega arith)) mark-legal

  mark-plain : is_plain b ≡ true
  unfolding is_plain
  mark-plain = rw (mark-legal, mark-other b h)

pub mark-next : (s : List ℕ) (i : ℕ) → is_mark (byte_at s i) ≡ true → next_at s i ≡ Char (byte_at s i) (i + 1)
mark-next s i h = byte_next s i (mark-single (byte_at s i) h) (mark-plain (byte_at s i) h)

pub mark-step : (s : List ℕ) (i : ℕ) → is_mark (byte_at s i) ≡ true → step_at s i ≡ Some (byte_at s i, i + 1)
mark-step s i h = step_is s i (byte_at s i) (i + 1) (mark-next s i h) (mark-shows (byte_at s i) h)

-- the first character of a value that begins with a mark
module _ (s : List ℕ) (i : ℕ) (h : is_mark (byte_at s i) ≡ true) where
  mark-gap : gap_at s i ≡ Some (32, i)
  mark-gap = gap_here s i (byte_at s i) (i + 1) (mark-next s i h) (mark-shows (byte_at s i) h)

  pub mark-lead : lead_at s i ≡ i
  unfolding lead_at placed
  mark-lead = ap (placed (length s)) mark-gap

  pub mark-some : same (value_at s i) [] ≡ false
  mark-some = value-some s i 32 i mark-gap

-- ---- white space

pub white-next : (s : List ℕ) (i : ℕ) → is_space (byte_at s i) ≡ true → next_at s i ≡ Char (byte_at s i) (i + 1)
unfolding is_plain is_single is_legal between every one_of
white-next s i h = byte_next s i (white (byte_at s i) (λ (b : ℕ). is_single b ≡ true) h refl refl refl refl) (white (byte_at s i) (λ (b : ℕ). is_plain b ≡ true) h refl refl refl refl)

-- white space before a mark
pub space-step : (s : List ℕ) (i : ℕ) → is_space (byte_at s i) ≡ true → is_mark (byte_at s (i + 1)) ≡ true → step_at s i ≡ Some (32, i + 1)
space-step s i e h =
    let n = byte_at s (i + 1) in
    step-gap s i (byte_at s i) (i + 1) (white-next s i e) e
    ∙ gap_here s (i + 1) n (i + 1 + 1) (mark-next s (i + 1) h) (mark-shows n h)
