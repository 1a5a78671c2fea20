-- Lists with one more at the end, and folds over elements of a message.
--     fold-tells     what each element more tells, all of them tell
--     fold-sound     the same where every one is sound
--     fold-fault     a fault where not every one is sound
use Prim.Native.Nat.{ℕ}
use mathlib.Core.Path.{◌≡◌, refl, sym, ap, ap₂, ◌∙◌}
use mathlib.Core.Bool.{Bool, true, false, ◌&&◌, not, and-true, and-false, and_assoc}
use mathlib.Core.List.{List, [], ◌∷◌, ◌++◌, foldl, append_assoc, append-nil}
use Rattle.octets.specs.Bytes.{pick, every}
use Rattle.octets.proofs.Tests.{every-left, every-right, every_first}
use Rattle.gather.specs.Read.{Element}
use Rattle.leaves.proofs.Reals.{Real, AllReal}
use Rattle.leaves.proofs.Places.{Reals}
use Rattle.told.specs.Values.{passing, Pair, values_where}

-- ---- one more

-- the last decides with those before it
pub every-last : {A : Type 0} (f : A → Bool) (xs : List A) (x : A) → every f (xs ++ (x ∷ [])) ≡ (every f xs && f x)
unfolding every
every-last f [] x = and-true (f x)
every-last f (y ∷ xs) x = ap (λ (b : Bool). f y && b) (every-last f xs x) ∙ sym (and_assoc (f y) (every f xs) (f x))

-- what is before a list or is not, is so before a longer one
kept_append : {A : Type 0} (b : Bool) (x : A) (xs ys : List A) → pick b (x ∷ (xs ++ ys)) (xs ++ ys) ≡ pick b (x ∷ xs) xs ++ ys
kept_append true x xs ys = refl
kept_append false x xs ys = refl

-- those that pass
pub passing-last : {A : Type 0} (f : A → Bool) (xs : List A) (x : A) → passing f (xs ++ (x ∷ [])) ≡ passing f xs ++ pick (f x) (x ∷ []) []
passing-last f [] x = refl
passing-last {A} f (y ∷ xs) x =
    ap (λ (zs : List A). pick (f y) (y ∷ zs) zs) (passing-last f xs x)
    ∙ kept_append (f y) y (passing f xs) (pick (f x) (x ∷ []) [])

-- the values of those that pass
pub values-last : (f : Pair → Bool) (xs : List Pair) (x : Pair) → values_where f (xs ++ (x ∷ [])) ≡ values_where f xs ++ pick (f x) (x.value ∷ []) []
values-last f [] x = refl
values-last f (y ∷ xs) x =
    ap (λ (zs : List (List ℕ)). pick (f y) (y.value ∷ zs) zs) (values-last f xs x)
    ∙ kept_append (f y) y.value (values_where f xs) (pick (f x) (x.value ∷ []) [])

-- what is seen of a choice
pub pick-of : {A B : Type 0} (f : A → B) (b : Bool) (x y : A) → f (pick b x y) ≡ pick b (f x) (f y)
pick-of f true x y = refl
pick-of f false x y = refl

-- ---- elements of a message

pub reals-append : (s : List ℕ) (es fs : List Element) → Reals s es → Reals s fs → Reals s (es ++ fs)
reals-append s [] fs r q = q
reals-append s (e ∷ es) fs r q = (r.0, r.1, reals-append s es fs r.2 q)

-- what each element more tells, all of them tell
pub fold-tells : (s : List ℕ) {A : Type 0} (P : A → List Element → Type 0) (f : A → Element → A)
    → ((x : A) (ds : List Element) (e : Element) → Real s e.tag e.holds → AllReal s e.holds → P x ds → P (f x e) (ds ++ (e ∷ [])))
    → (es : List Element) → Reals s es → (x : A) → P x [] → P (foldl f x es) es
fold-tells s {A} P f k es r x h = behind es r x [] h
  where
    behind : (es : List Element) → Reals s es → (x : A) (ds : List Element) → P x ds → P (foldl f x es) (ds ++ es)
    behind [] r x ds h = rw (append-nil ds) h
    behind (e ∷ es) r x ds h = rw (← append_assoc ds (e ∷ []) es) (behind es r.2 (f x e) (ds ++ (e ∷ [])) (k x ds e r.0 r.1 h))

-- what is sound adds no fault, and what is not adds one
pub step-fault : {A : Type 0} (fault : A → Bool) (b c : Bool) (x y z : A) → b ≡ c → fault y ≡ fault x → fault z ≡ true
    → fault (pick b y z) ≡ pick c (fault x) true
step-fault fault b c x y z e g h = pick-of fault b y z ∙ ap₂ (λ (u v : Bool). pick b u v) g h ∙ ap (λ (d : Bool). pick d (fault x) true) e

-- where each element adds its own fault, there is one where not every element is sound
pub fold-fault : (s : List ℕ) {A : Type 0} (fault : A → Bool) (f : A → Element → A) (ok : Element → Bool)
    → ((x : A) (e : Element) → AllReal s e.holds → fault (f x e) ≡ pick (ok e) (fault x) true)
    → (es : List Element) → Reals s es → (x : A) → fault x ≡ false → fault (foldl f x es) ≡ not (every ok es)
unfolding every
fold-fault s {A} fault f ok k es r x h = fold-tells s (λ (x : A) (ds : List Element). fault x ≡ not (every ok ds)) f one es r x h
  where
    joined : (a b : Bool) → pick b (not a) true ≡ not (a && b)
    joined a true = ap not (sym (and-true a))
    joined a false = ap not (sym (and-false a))

    one : (x : A) (ds : List Element) (e : Element) → Real s e.tag e.holds → AllReal s e.holds
        → fault x ≡ not (every ok ds) → fault (f x e) ≡ not (every ok (ds ++ (e ∷ [])))
    one x ds e q a h = k x e a ∙ ap (λ (b : Bool). pick (ok e) b true) h ∙ joined (every ok ds) (ok e) ∙ ap not (sym (every-last ok ds e))

-- what each sound element more tells, all of them tell where every one is sound
pub fold-sound : (s : List ℕ) {A : Type 0} (P : A → List Element → Type 0) (f : A → Element → A) (ok : Element → Bool)
    → ((x : A) (ds : List Element) (e : Element) → AllReal s e.holds → ok e ≡ true → P x ds → P (f x e) (ds ++ (e ∷ [])))
    → (es : List Element) → Reals s es → every ok es ≡ true → (x : A) → P x [] → P (foldl f x es) es
fold-sound s {A} P f ok k es r o x h = fold-tells s (λ (x : A) (ds : List Element). every ok ds ≡ true → P x ds) f one es r x (λ _. h) o
  where
    one : (x : A) (ds : List Element) (e : Element) → Real s e.tag e.holds → AllReal s e.holds
        → (every ok ds ≡ true → P x ds) → every ok (ds ++ (e ∷ [])) ≡ true → P (f x e) (ds ++ (e ∷ []))
    one x ds e q a h o = k x ds e a (every_first ok e [] (every-right ok ds (e ∷ []) o)) (h (every-left ok ds (e ∷ []) o))
