-- Whether two messages differ only in what is unread, as a test that computes.
--     pair-exactly     it holds of just these
use Prim.Native.Nat.{ℕ}
use mathlib.Core.Path.{◌≡◌, refl, sym, ◌∙◌}
use mathlib.Core.Logic.{◌↔◌}
use mathlib.Core.Bool.{Bool, true, false, not, ◌&&◌, false≢true}
use mathlib.Core.List.{List, [], ◌∷◌}
use lib.ListN.{length}
use Rattle.octets.specs.Bytes.{same, every, holds, between}
use Rattle.octets.proofs.Sames.{same-is, same_refl}
use Rattle.octets.proofs.Tests.{and_left, and_right, each_of, every_of}
use Rattle.markup.specs.Tree.{One}
use Rattle.markup.specs.Document.{doc_at}
use Rattle.demands.specs.Numbers.{is_read, root_is}
use Rattle.unread.specs.Kept.{KeptTree, done, leaf, node, kept_of, OnlyUnreadDiffers}

-- ---- equal, as a test

unfoldable pub agree : Bool → Bool → Bool
agree true b = b
agree false b = not b

unfoldable pub same_kept : KeptTree → KeptTree → Bool
same_kept done done = true
same_kept done (leaf n l rest) = false
same_kept done (node n t rest) = false
same_kept (leaf n l rest) done = false
same_kept (leaf n l rest) (leaf m k more) = same n m && (same l.value k.value && (agree l.holds k.holds && same_kept rest more))
same_kept (leaf n l rest) (node m t more) = false
same_kept (node n t rest) done = false
same_kept (node n t rest) (leaf m k more) = false
same_kept (node n t rest) (node m u more) = same n m && (same_kept t u && same_kept rest more)

agree-is : (a b : Bool) → agree a b ≡ true → a ≡ b
unfolding agree
agree-is true true h = refl
agree-is true false h = sym h
agree-is false true h = h
agree-is false false h = refl

agree-self : (b : Bool) → agree b b ≡ true
unfolding agree
agree-self true = refl
agree-self false = refl

kept-is : (k l : KeptTree) → same_kept k l ≡ true → k ≡ l
unfolding same_kept
kept-is done done h = refl
kept-is done (leaf n l rest) h = absurd (false≢true h)
kept-is done (node n t rest) h = absurd (false≢true h)
kept-is (leaf n l rest) done h = absurd (false≢true h)
kept-is (leaf n l rest) (leaf m k more) h =
    let v = and_right (same n m) _ h in
    let o = and_right (same l.value k.value) _ v in
    let p = same-is n m (and_left (same n m) _ h) in
    let q = same-is l.value k.value (and_left (same l.value k.value) _ v) in
    let r = agree-is l.holds k.holds (and_left (agree l.holds k.holds) _ o) in
    let t = kept-is rest more (and_right (agree l.holds k.holds) _ o) in
    λ i. leaf (p i) (record { value = q i; holds = r i }) (t i)
kept-is (leaf n l rest) (node m t more) h = absurd (false≢true h)
kept-is (node n t rest) done h = absurd (false≢true h)
kept-is (node n t rest) (leaf m k more) h = absurd (false≢true h)
kept-is (node n t rest) (node m u more) h =
    let v = and_right (same n m) _ h in
    let p = same-is n m (and_left (same n m) _ h) in
    let q = kept-is t u (and_left (same_kept t u) _ v) in
    let r = kept-is rest more (and_right (same_kept t u) _ v) in
    λ i. node (p i) (q i) (r i)

kept_self : (k : KeptTree) → same_kept k k ≡ true
unfolding same_kept
kept_self done = refl
kept_self (leaf n l rest) = rw (same_refl n, same_refl l.value, agree-self l.holds) (kept_self rest)
kept_self (node n t rest) = rw (same_refl n, kept_self t) (kept_self rest)

-- ---- two messages, whose documents are x and y

abbrev asked : List ℕ → List ℕ → One → One → List Bool
asked s r x y =
    between 1 32768 (length s)
    ∷ between 1 32768 (length r)
    ∷ is_read x
    ∷ is_read y
    ∷ agree (root_is s x) (root_is r y)
    ∷ same_kept (kept_of s x) (kept_of r y)
    ∷ []

unfoldable pub is_pair : List ℕ → List ℕ → Bool
is_pair s r = every holds (asked s r (doc_at s) (doc_at r))

pub pair-exactly : (s r : List ℕ) → (is_pair s r ≡ true) ↔ OnlyUnreadDiffers s r
unfolding is_pair
pair-exactly s r = (there, back)
  where
    there : every holds (asked s r (doc_at s) (doc_at r)) ≡ true → OnlyUnreadDiffers s r
    there h =
        let e = each_of (asked s r (doc_at s) (doc_at r)) h in
        record {
          length-s = e.0;
          length-r = e.1.0;
          subset-s = e.1.1.0;
          subset-r = e.1.1.1.0;
          root = agree-is (root_is s (doc_at s)) (root_is r (doc_at r)) e.1.1.1.1.0;
          kept = kept-is (kept_of s (doc_at s)) (kept_of r (doc_at r)) e.1.1.1.1.1.0;
        }

    back : OnlyUnreadDiffers s r → every holds (asked s r (doc_at s) (doc_at r)) ≡ true
    back d =
        every_of (asked s r (doc_at s) (doc_at r)) (
          d.length-s,
          (
            d.length-r,
            (
              d.subset-s,
              (
                d.subset-r,
                (
                  rw d.root (agree-self (root_is r (doc_at r))),
                  (
                    rw d.kept (kept_self (kept_of r (doc_at r))),
                    tt,
                  ),
                ),
              ),
            ),
          ),
        )

pub alike : (s r : List ℕ) → is_pair s r ≡ true → OnlyUnreadDiffers s r
alike s r h = (pair-exactly s r).0 h

pub unlike : (s r : List ℕ) → is_pair s r ≡ false → OnlyUnreadDiffers s r → ⊥
unlike s r h d = false≢true (sym h ∙ (pair-exactly s r).1 d)
