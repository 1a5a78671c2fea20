-- Sentence 2 of demand 3, of a board as the list of its filled records: what is due after calls on a board that began empty.
--     in-records       the records of an alert
--     due-exactly      a header that was not aired is due exactly if an alert taken since then carried it that none of them names
--     airs-nothing     offers air nothing
--     offered-each     a list of alerts as offers
use Prim.Native.Nat.{ℕ}
use mathlib.Core.Bool.{Bool, true, false}
use mathlib.Core.Path.{◌≡◌, refl, sym, ap, ◌∙◌, subst}
use mathlib.Core.Logic.{◌⊎◌, inl, inr, ⊎_elim, ◌↔◌}
use mathlib.Core.List.{List, [], ◌∷◌, ◌++◌, map, append_assoc, append-nil}
use native.Mathlib.Omega.{arith}
use lib.Dec.{leb}
use lib.ListN.{length}
use Rattle.octets.specs.Bytes.{pick}
use Rattle.octets.proofs.Tests.{either_way}
use Rattle.records.specs.Record.{kind, key, carried, notice, withdrawal, aired}
use Rattle.records.proofs.Records.{withdrawal-inj, kind-notice, kind-withdrawal, kind-aired, key-notice}
use Rattle.ledger.specs.Sorted.{In, insert, insert_all}
use Rattle.ledger.specs.WorkingBoard.{due, Due, Alert, records, Shaped, Carried, offer, After, hand_out_of, hand_out, Call, offered, handed_out, ran, offers, taken_by, taken_in, Offered}
use Rattle.ledger.proofs.Sorts.{in_insert, in-insert_all, in-append, in_map}
use Rattle.ledger.proofs.Dues.{in-due}

-- a notice of a header that it carries, or a withdrawal of what it names
in-records : (y : List ℕ) (a : Alert) → In y (records a) ↔ (((h : List ℕ) × In h a.carries × (y ≡ notice a.own h)) ⊎ ((k : List ℕ) × In k a.names × (y ≡ withdrawal k)))
in-records y a = (
  λ m. ⊎_elim (λ k. inl ((in_map (notice a.own) y a.carries).0 k)) (λ k. inr ((in_map withdrawal y a.names).0 k)) ((in-append y (map (notice a.own) a.carries) (map withdrawal a.names)).0 m),
  ⊎_elim (λ w. (in-append y (map (notice a.own) a.carries) (map withdrawal a.names)).1 (inl ((in_map (notice a.own) y a.carries).1 w)))
      (λ w. (in-append y (map (notice a.own) a.carries) (map withdrawal a.names)).1 (inr ((in_map withdrawal y a.names).1 w))),
)

-- two of different kinds are not the same
unlike : {A : Type 0} (r q : List ℕ) (m n : ℕ) → kind r ≡ m → kind q ≡ n → (m ≡ n → ⊥) → r ≡ q → A
unlike r q m n e f d p = absurd (d (sym e ∙ ap kind p ∙ f))

-- b holds the notices and withdrawals of the alerts l, and no others
record Holds (b : List (List ℕ)) (l : List Alert) : Type 0 where
  shaped : (a : Alert) → In a l → Shaped a
  notices : (n : List ℕ) → In n b → kind n ≡ 1 → (a : Alert) × In a l × ((h : List ℕ) × In h a.carries × (n ≡ notice a.own h))
  withdrawals : (k : List ℕ) → In (withdrawal k) b → (a : Alert) × In a l × In k a.names
  carried-held : (a : Alert) → In a l → (h : List ℕ) → In h a.carries → In (notice a.own h) b
  named-held : (a : Alert) → In a l → (k : List ℕ) → In k a.names → In (withdrawal k) b

holds-nothing : Holds [] []
holds-nothing = record {
  shaped = λ a i. absurd i;
  notices = λ n i. absurd i;
  withdrawals = λ k i. absurd i;
  carried-held = λ a i. absurd i;
  named-held = λ a i. absurd i;
}

-- ---- an offer that is taken

module _ (b : List (List ℕ)) (l : List Alert) (t : Holds b l) (a : Alert) (sh : Shaped a) where
  abbrev grown : List (List ℕ)
  grown = insert_all (records a) b

  abbrev more : List Alert
  more = l ++ (a ∷ [])

  old : (x : Alert) → In x l → In x more
  old x i = (in-append x l (a ∷ [])).1 (inl i)

  new : In a more
  new = (in-append a l (a ∷ [])).1 (inr (inl refl))

  -- of each of them, as of those before and of a
  each : (P : Alert → Type 0) → ((x : Alert) → In x l → P x) → P a → (x : Alert) → In x more → P x
  each P f p x i = ⊎_elim (λ k. f x k) (⊎_elim (λ q. subst P (sym q) p) absurd) ((in-append x l (a ∷ [])).0 i)

  stays : (r : List ℕ) → In r b → In r grown
  stays r i = (in-insert_all r (records a) b).1 (inr i)

  its : (r : List ℕ) → In r (records a) → In r grown
  its r i = (in-insert_all r (records a) b).1 (inl i)

  holds-offer : Holds grown more
  holds-offer = record {
    shaped = each Shaped t.shaped sh;
    notices = λ n i q. ⊎_elim
        (λ k. ⊎_elim (λ w. (a, new, w)) (λ w. unlike n (withdrawal w.0) 1 2 q (kind-withdrawal w.0) (λ z. omega arith) w.2) ((in-records n a).0 k))
        (λ k. let w = t.notices n k q in (w.0, old w.0 w.1, w.2))
        ((in-insert_all n (records a) b).0 i);
    withdrawals = λ k i. ⊎_elim
        (λ j. ⊎_elim
        (λ w. unlike (withdrawal k) (notice a.own w.0) 2 1 (kind-withdrawal k) (kind-notice a.own w.0) (λ z. omega arith) w.2)
        (λ w. (a, new, subst (λ (x : List ℕ). In x a.names) (sym (withdrawal-inj k w.0 w.2)) w.1))
        ((in-records (withdrawal k) a).0 j))
        (λ j. let w = t.withdrawals k j in (w.0, old w.0 w.1, w.2))
        ((in-insert_all (withdrawal k) (records a) b).0 i);
    carried-held = each (λ (x : Alert). (h : List ℕ) → In h x.carries → In (notice x.own h) grown)
        (λ x i h c. stays (notice x.own h) (t.carried-held x i h c))
        (λ h c. its (notice a.own h) ((in-records (notice a.own h) a).1 (inl (h, c, refl))));
    named-held = each (λ (x : Alert). (k : List ℕ) → In k x.names → In (withdrawal k) grown)
        (λ x i k n. stays (withdrawal k) (t.named-held x i k n))
        (λ k n. its (withdrawal k) ((in-records (withdrawal k) a).1 (inr (k, n, refl))));
  }

-- ---- a hand-out

module _ (b : List (List ℕ)) (l : List Alert) (t : Holds b l) (g : List ℕ) where
  was : (r : List ℕ) (n : ℕ) → kind r ≡ n → (n ≡ 3 → ⊥) → In r (insert (aired g) b) → In r b
  was r n q d i = ⊎_elim (unlike r (aired g) n 3 q (kind-aired g) d) (λ k. k) ((in_insert r (aired g) b).0 i)

  still : (r : List ℕ) → In r b → In r (insert (aired g) b)
  still r i = (in_insert r (aired g) b).1 (inr i)

  holds-hand : Holds (insert (aired g) b) l
  holds-hand = record {
    shaped = t.shaped;
    notices = λ n i q. t.notices n (was n 1 q (λ z. omega arith) i) q;
    withdrawals = λ k i. t.withdrawals k (was (withdrawal k) 2 (kind-withdrawal k) (λ z. omega arith) i);
    carried-held = λ a i h c. still (notice a.own h) (t.carried-held a i h c);
    named-held = λ a i k n. still (withdrawal k) (t.named-held a i k n);
  }

-- ---- any call

holds-offered : (cap : ℕ) (a : Alert) (b : List (List ℕ)) (l : List Alert) → Shaped a → Holds b l → Holds (offer cap a b) (l ++ taken_by cap (offered a) b)
holds-offered cap a b l sh t = go (leb (length (insert_all (records a) b)) cap)
  where
    go : (x : Bool) → Holds (pick x (insert_all (records a) b) b) (l ++ pick x (a ∷ []) [])
    go true = holds-offer b l t a sh
    go false = subst (Holds b) (sym (append-nil l)) t

holds-handed : (cap : ℕ) (b : List (List ℕ)) (l : List Alert) → Holds b l → Holds (hand_out cap b).board l
holds-handed cap b l t = go (due b)
  where
    go : (d : List (List ℕ)) → Holds (hand_out_of cap b d).board l
    go [] = t
    go (g ∷ gs) = either_way (λ (x : After). Holds x.board l) (leb (length (insert (aired g) b)) cap) (record { board = insert (aired g) b; given = g ∷ [] }) (record { board = b; given = [] }) (λ _. holds-hand b l t g) (λ _. t)

holds-ran : (cap : ℕ) (cs : List Call) (b : List (List ℕ)) (l : List Alert) → Offered Shaped cs → Holds b l → Holds (ran cap cs b) (l ++ taken_in cap cs b)
holds-ran cap [] b l w t = subst (Holds b) (sym (append-nil l)) t
holds-ran cap (offered a ∷ cs) b l w t =
    subst (Holds (ran cap cs (offer cap a b))) (append_assoc l (taken_by cap (offered a) b) (taken_in cap cs (offer cap a b)))
    (holds-ran cap cs (offer cap a b) (l ++ taken_by cap (offered a) b) w.1 (holds-offered cap a b l w.0 t))
holds-ran cap (handed_out ∷ cs) b l w t = holds-ran cap cs (hand_out cap b).board l w (holds-handed cap b l t)

-- ---- what is due

module _ (b : List (List ℕ)) (l : List Alert) (t : Holds b l) (g : List ℕ) where
  due-carried : Due b g → Carried l g
  due-carried d =
      let w = t.notices d.by d.held d.is-notice in
      let a : Alert = w.0 in
      let h : List ℕ = w.2.0 in
      let p : d.by ≡ notice a.own h = w.2.2 in
      let k : key d.by ≡ a.own = ap key p ∙ key-notice a.own h (t.shaped a w.1).own-long in
      record {
        by = a;
        taken = w.1;
        header = h;
        has-it = w.2.1;
        carries = ap carried (sym p) ∙ d.carries;
        not_named = λ x i n. d.not-withdrawn (subst (λ (y : List ℕ). In (withdrawal y) b) (sym k) (t.named-held x i a.own n));
      }

  carried-due : (In (aired g) b → ⊥) → Carried l g → Due b g
  carried-due na c =
      let n : List ℕ = notice c.by.own c.header in
      record {
        by = n;
        held = t.carried-held c.by c.taken c.header c.has-it;
        is-notice = kind-notice c.by.own c.header;
        carries = c.carries;
        not-withdrawn = λ m. let w = t.withdrawals (key n) m in
            c.not_named w.0 w.1 (subst (λ (x : List ℕ). In x w.0.names) (key-notice c.by.own c.header (t.shaped c.by c.taken).own-long) w.2);
        not-aired = na;
      }

-- on a board that began empty, whatever offers and hand-outs came since
pub due-exactly : (cap : ℕ) (cs : List Call) → Offered Shaped cs → (g : List ℕ) → (In (aired g) (ran cap cs []) → ⊥) → In g (due (ran cap cs [])) ↔ Carried (taken_in cap cs []) g
due-exactly cap cs w g na =
    let b : List (List ℕ) = ran cap cs [] in
    let l : List Alert = taken_in cap cs [] in
    let t : Holds b l = holds-ran cap cs [] [] w holds-nothing in (
      λ m. due-carried b l t g ((in-due b g).0 m),
      λ c. (in-due b g).1 (carried-due b l t g na c),
    )

-- ---- offers alone

offer-airs : (cap : ℕ) (a : Alert) (b : List (List ℕ)) (g : List ℕ) → (In (aired g) b → ⊥) → In (aired g) (offer cap a b) → ⊥
offer-airs cap a b g na = either_way (λ (x : List (List ℕ)). In (aired g) x → ⊥) (leb (length (insert_all (records a) b)) cap) (insert_all (records a) b) b
    (λ _ m. ⊎_elim
    (λ k. ⊎_elim
    (λ w. unlike (aired g) (notice a.own w.0) 3 1 (kind-aired g) (kind-notice a.own w.0) (λ z. omega arith) w.2)
    (λ w. unlike (aired g) (withdrawal w.0) 3 2 (kind-aired g) (kind-withdrawal w.0) (λ z. omega arith) w.2)
    ((in-records (aired g) a).0 k))
    na
    ((in-insert_all (aired g) (records a) b).0 m))
    (λ _. na)

pub airs-nothing : (cap : ℕ) (l : List Alert) (b : List (List ℕ)) (g : List ℕ) → (In (aired g) b → ⊥) → In (aired g) (offers cap l b) → ⊥
airs-nothing cap [] b g na = na
airs-nothing cap (a ∷ l) b g na = airs-nothing cap l (offer cap a b) g (offer-airs cap a b g na)

-- what is so of each alert is so of each that is offered
pub offered-each : (P : Alert → Type 0) (l : List Alert) → ((a : Alert) → In a l → P a) → Offered P (map offered l)
offered-each P [] f = tt
offered-each P (a ∷ l) f = (f a (inl refl), offered-each P l (λ x i. f x (inr i)))
