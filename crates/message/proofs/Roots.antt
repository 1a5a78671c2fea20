-- From the root to the message: the pass over an accepted root gathers what is read in it, and the root's own tag says its prefix and namespace.
use Prim.Native.Nat.{ℕ, zero, suc, ◌+◌, ◌-◌, ◌≤◌, ◌<◌}
use mathlib.Core.Path.{◌≡◌, refl, sym, ap, ap₂, ◌∙◌}
use mathlib.Core.Bool.{Bool, true, false, not, cond}
use mathlib.Core.List.{List, [], ◌++◌}
use native.Mathlib.Omega.{arith}
use native.Mathlib.Decide.{dec_lt}
use Rattle.std.specs.Bool.{then_some}
use Rattle.std.specs.List.{prefix_len}
use lib.ListN.{length, take, drop}
use lib.Dec.{eqb}
use borrow.Author.Tests.{lt-ltb, le-ltb}
use Rattle.octets.specs.Bytes.{pick, byte_at, part, stands}
use Rattle.octets.specs.Text.{bytes}
use Rattle.octets.specs.Scan.{scan}
use Rattle.octets.proofs.Parts.{tail_step}
use Rattle.octets.proofs.Scans.{scan-ge, by-stop, by-more}
use Rattle.pieces.proofs.Goes.{name-goes}
use Rattle.pieces.specs.Walk.{walk_at}
use Rattle.pieces.specs.Pieces.{name_at}
use Rattle.std.specs.Prelude.{Option, Some, None}
use Rattle.pieces.proofs.Words.{differ, at-is}
use Rattle.tags.specs.Tags.{take_at, shut_at, tail_at, tailed, open_at, close_at}
use Rattle.tags.specs.declared.Open.{Open}
use Rattle.tags.specs.declared.Open.TheVariants.{Full, Empty, Shut}
use Rattle.markup.specs.Tree.{Tag, Forest, nil, elem, One, one, none, Held, held, bad, sealed, closed, opened, elem_at, content_at}
use Rattle.markup.specs.Document.{misc_at, ended, rooted}
use Rattle.reads.specs.WorkingLeaves.{nothing_read}
use Rattle.reads.specs.Names.{inside}
use Rattle.reads.specs.declared.Alert.{Alert}
use Rattle.reads.specs.declared.State.{State}
use Rattle.reads.specs.declared.Context.{Context}
use Rattle.gather.specs.WorkingVisit.{touch_in, left, visit, got_one}
use Rattle.gather.specs.WorkingRead.{alert_of}
use Rattle.gather.specs.declared.Gathered.{Gathered}
use Rattle.gather.proofs.Gathers.{gathers}
use Rattle.message.specs.Root.{before_colon, colon_at, prefix_of, xmlns_of, root_with, root_ok}
use Rattle.message.specs.WorkingMessage.{refused_as, judged, alert_judged, judged_root, root_context, of_root}

-- the pass over an accepted root gathers what is read in it
root-gathers : (s p : List ℕ) (g : Tag) (kids : Forest) → (visit s p (root_context true) (nothing_read (length s)) (elem g kids nil)).alert ≡ alert_of s p kids
unfolding root_context visit inside touch_in left
root-gathers s p g kids = ap (λ (x : State). x.alert) (gathers s p kids)

-- ---- what the pass answers

-- the pass, whose context is the root's
pub in-context : (s p : List ℕ) (ok : Bool) (o : One) (r : Gathered) (k : Context) → r ≡ got_one s p k (nothing_read (length s)) o → k ≡ root_context ok
    → r ≡ got_one s p (root_context ok) (nothing_read (length s)) o
in-context s p ok o r k e h = e ∙ ap (λ (c : Context). got_one s p c (nothing_read (length s)) o) h

module _ (s p : List ℕ) (ok : Bool) (o : One) (r : Gathered) (got : r ≡ got_one s p (root_context ok) (nothing_read (length s)) o) where
  end_is : (e : Option ℕ) → r.end ≡ e → (got_one s p (root_context ok) (nothing_read (length s)) o).end ≡ e
  end_is e q = ap (λ (x : Gathered). x.end) (sym got) ∙ q

  pub pass-none : r.end ≡ None → refused_as (length s) 5 ≡ judged_root s p ok (rooted s o)
  unfolding got_one judged_root rooted
  pass-none q = go o (end_is None q)
    where
      go : (o : One) → (got_one s p (root_context ok) (nothing_read (length s)) o).end ≡ None → refused_as (length s) 5 ≡ judged_root s p ok (rooted s o)
      go (one g kids k) e = absurd (differ (sym e))
      go none e = refl

  module _ (j : ℕ) (q : r.end ≡ Some j) where
    -- the root is one that ends at j
    by-root : {A : Type 0} → ((g : Tag) (kids : Forest) → o ≡ one g kids j → A) → A
    unfolding got_one
    by-root {A} f = go o refl (end_is (Some j) q)
      where
        go : (x : One) → o ≡ x → (got_one s p (root_context ok) (nothing_read (length s)) x).end ≡ Some j → A
        go (one g kids k) u e = f g kids (u ∙ ap (one g kids) (at-is e))
        go none u e = absurd (differ e)

    pub pass-unended : misc_at s j ≡ None → refused_as (length s) 5 ≡ judged_root s p ok (rooted s o)
    unfolding judged_root rooted ended
    pass-unended m = by-root (λ g kids u. rw (u, m))

    pub pass-is : (k : ℕ) → misc_at s j ≡ Some k → alert_judged s ok (then_some (eqb k (length s)) r.state.alert) ≡ judged_root s p ok (rooted s o)
    unfolding judged_root rooted ended got_one
    pass-is k m = by-root (λ g kids u.
        let e : ok ≡ true → r.state.alert ≡ alert_of s p kids = λ b. ap (λ (x : Gathered). x.state.alert) got ∙ rw (u, b) (root-gathers s p g kids) in
        rw (u, m) (go (eqb k (length s)) ok _ g kids e))
      where
        -- an alert that is gathered in a root that is accepted is its own
        go : (c b : Bool) (x : Alert) (g : Tag) (kids : Forest) → (b ≡ true → x ≡ alert_of s p kids) → alert_judged s b (then_some c x) ≡ judged_root s p b (pick c (one g kids j) none)
        go true true x g kids e = ap (judged s) (e refl)
        go true false x g kids e = refl
        go false b x g kids e = refl

-- ---- the root's tag

-- the name of a start tag ends at a
abbrev NameOf : ℕ → Open → Type 0
NameOf a (Full b j) = b ≡ a
NameOf a (Empty b j) = b ≡ a
NameOf a Shut = Unit {0}

open-named : (s : List ℕ) (i a : ℕ) → name_at s (i + 1) ≡ Some a → NameOf a (open_at s i)
unfolding open_at tailed tail_at shut_at
open-named s i a e = rw e (go (eqb (byte_at s i) 60) (walk_at (take_at s a) s a))
  where
    shut : (b c : Bool) (j : ℕ) → NameOf a (pick b (Full a (j + 1)) (pick c (Empty a (j + 2)) Shut))
    shut true c j = refl
    shut false true j = refl
    shut false false j = tt

    go : (b : Bool) (x : Option ℕ) → NameOf a (pick b (shut_at s a x) Shut)
    go true (Some j) = shut (eqb (byte_at s j) 62) (stands (bytes "/>") s j) j
    go true None = tt
    go false x = tt

-- an element's places, by its start tag
record Tagged (i a : ℕ) (g : Tag) : Type 0 where
  pub from : g.from ≡ i
  pub name : g.name ≡ a

tag_is : (s : List ℕ) (i a j : ℕ) (g : Tag) (kids : Forest) (inner : ℕ → Held) (o : Open) → NameOf a o → opened s i o inner ≡ one g kids j → Tagged i a g
unfolding opened closed sealed
tag_is s i a j g kids inner o n u = go o n u
  where
    none-not : none ≡ one g kids j → Tagged i a g
    none-not q = absurd (let z : ◌≡◌ {A = ℕ} 0 1 = cc in omega arith)

    tagged : (h : Tag) (f : Forest) (k : ℕ) → h.from ≡ i → h.name ≡ a → one h f k ≡ one g kids j → Tagged i a g
    tagged h f k x y q = let e : h ≡ g = cc in record { from = ap (λ (t : Tag). t.from) (sym e) ∙ x; name = ap (λ (t : Tag). t.name) (sym e) ∙ y }

    ends : (h : Tag) (f : Forest) → h.from ≡ i → h.name ≡ a → (x : Option ℕ) → sealed h f x ≡ one g kids j → Tagged i a g
    ends h f x y (Some k) q = tagged h f k x y q
    ends h f x y None q = none-not q

    full : (b k : ℕ) → b ≡ a → (h : Held) → closed s i b k h ≡ one g kids j → Tagged i a g
    full b k e (held f x) q = ends (record { from = i; name = b; body = k; shut = x }) f refl e (close_at s i b x) q
    full b k e bad q = none-not q

    go : (o : Open) → NameOf a o → opened s i o inner ≡ one g kids j → Tagged i a g
    go (Full b k) e q = full b k e (inner k) q
    go (Empty b k) e q = tagged (record { from = i; name = b; body = k; shut = k }) nil k refl e q
    go Shut e q = none-not q

module _ (s : List ℕ) (i : ℕ) where
  -- no name, no root
  pub root-unnamed : name_at s (i + 1) ≡ None → refused_as (length s) 5 ≡ of_root s (rooted s (elem_at s 12 i))
  unfolding elem_at opened open_at tailed rooted of_root
  root-unnamed e = rw e (go (eqb (byte_at s i) 60))
    where
      go : (b : Bool) → refused_as (length s) 5 ≡ of_root s (rooted s (opened s i (pick b Shut Shut) (content_at s 11)))
      go true = refl
      go false = refl

  -- a root whose name ends at a is judged by that name
  pub root-named : (a : ℕ) → name_at s (i + 1) ≡ Some a
      → judged_root s (prefix_of s (i + 1) a) (root_ok s (i + 1) a) (rooted s (elem_at s 12 i)) ≡ of_root s (rooted s (elem_at s 12 i))
  unfolding elem_at rooted ended judged_root of_root
  root-named a e = go (elem_at s 12 i) refl
    where
      Same : One → Type 0
      Same o = judged_root s (prefix_of s (i + 1) a) (root_ok s (i + 1) a) o ≡ of_root s o

      by-tag : (g : Tag) (kids : Forest) (j : ℕ) → Tagged i a g → Same (one g kids j)
      by-tag g kids j t = rw (t.from, t.name)

      kept : (g : Tag) (kids : Forest) (j : ℕ) → Tagged i a g → (b : Bool) → Same (pick b (one g kids j) none)
      kept g kids j t true = by-tag g kids j t
      kept g kids j t false = refl

      after : (g : Tag) (kids : Forest) (j : ℕ) → Tagged i a g → (m : Option ℕ) → Same (ended s (one g kids j) m)
      after g kids j t (Some k) = kept g kids j t (eqb k (length s))
      after g kids j t None = refl

      go : (o : One) → elem_at s 12 i ≡ o → Same (rooted s o)
      go (one g kids j) u = after g kids j (tag_is s i a j g kids (content_at s 11) (open_at s i) (open-named s i a e) u) (misc_at s j)
      go none u = refl

-- ---- the prefix, by where the colon stands

module _ (s : List ℕ) (i a c : ℕ) (colon : c ≡ colon_at s i a) where
  pub prefixed : c < a → part s i (c + 1 - i) ≡ prefix_of s i a
  unfolding prefix_of
  prefixed h = rw (sym colon, lt-ltb c a h)

  pub root-prefixed : c < a → root_with s (part s i (c + 1 - i)) (bytes "xmlns:" ++ part s i (c - i)) i a ≡ root_ok s i a
  unfolding root_ok prefix_of xmlns_of
  root-prefixed h = rw (sym colon, lt-ltb c a h)

  pub unprefixed : a ≤ c → [] ≡ prefix_of s i a
  unfolding prefix_of
  unprefixed h = rw (sym colon, le-ltb c a h)

  pub root-unprefixed : a ≤ c → root_with s [] (bytes "xmlns") i a ≡ root_ok s i a
  unfolding root_ok prefix_of xmlns_of
  root-unprefixed h = rw (sym colon, le-ltb c a h)

  -- it stands in the name or at its end
  pub colon_from : i ≤ c
  unfolding colon_at
  colon_from = rw colon (scan-ge (before_colon s a) (length s) i)

-- a name ends behind where it begins, inside the message
pub name-ends : (s : List ℕ) (i a : ℕ) → name_at s i ≡ Some a → (i ≤ a) × (a ≤ length s)
name-ends s i a e = let g = name-goes s i a e in let g0 = g.on in (omega arith, g.in-it)

-- what is asked of the name of a root that begins at i, and of where a colon stands in it
pub root_ends : (s : List ℕ) (i a : ℕ) {o : Option ℕ} → o ≡ name_at s (i + 1) → o ≡ Some a → (i + 1 ≤ a) × (a ≤ length s)
root_ends s i a e is = name-ends s (i + 1) a (sym e ∙ is)

-- ---- where the colon stands

module _ (s : List ℕ) (a : ℕ) where
  -- what stands from i to a, before a colon
  abbrev pub before : ℕ → ℕ
  before i = prefix_len (λ b. not (eqb b 58)) (part s i (a - i))

  nothing-before : (i : ℕ) → a ≤ i → before i ≡ 0
  nothing-before i h = let z : a - i ≡ 0 = omega arith in ap (λ (n : ℕ). prefix_len (λ b. not (eqb b 58)) (take n (drop i s))) z

  before-step : (i : ℕ) → i < a → a ≤ length s → before i ≡ cond (not (eqb (byte_at s i) 58)) (1 + before (i + 1)) 0
  before-step i k l =
      let n : a - i ≡ suc (a - (i + 1)) = omega arith in
      ap₂ (λ (n : ℕ) (t : List ℕ). prefix_len (λ b. not (eqb b 58)) (take n t)) n (tail_step s i (omega arith))

  scanned : (n i : ℕ) → a ≤ length s → i ≤ a → a ≤ i + n → scan (before_colon s a) n i ≡ i + before i
  unfolding before_colon
  scanned zero i l h r = by-stop (λ j. 1) (before_colon s a) 0 i (rw (le-ltb i a (omega arith))) ∙ omega (arith, nothing-before i (omega arith))
  scanned (suc n) i l h r = go (dec_lt i a) (λ k. scanned n (i + 1) l (omega (arith, k)) (omega (arith, r)))
    where
      go : Dec (i < a) → (i < a → scan (before_colon s a) n (i + 1) ≡ i + 1 + before (i + 1)) → scan (before_colon s a) (suc n) i ≡ i + before i
      go (no k) m = by-stop (λ j. 1) (before_colon s a) (suc n) i (rw (le-ltb i a (omega arith))) ∙ omega (arith, nothing-before i (omega arith))
      go (yes k) m = turn (eqb (byte_at s i) 58) refl (before-step i k l)
        where
          turn : (b : Bool) → eqb (byte_at s i) 58 ≡ b → before i ≡ cond (not b) (1 + before (i + 1)) 0 → scan (before_colon s a) (suc n) i ≡ i + before i
          turn true e q = by-stop (λ j. 1) (before_colon s a) (suc n) i (rw (lt-ltb i a k, e)) ∙ omega (arith, q)
          turn false e q = by-more (λ j. 1) (before_colon s a) n i (rw (lt-ltb i a k, e)) ∙ m k ∙ omega (arith, q)

  -- the colon stands behind what has none
  pub colon_is : (i : ℕ) → i ≤ a → a ≤ length s → colon_at s i a ≡ i + before i
  unfolding colon_at
  colon_is i h l = scanned (length s) i l h (omega arith)
