-- The laws of a record.
--     record-long, record-kind        384 bytes, of kind 1, 2 or 3
--     key-notice, header-notice, ..   what a maker was given stands in its field
--     notice-ok, withdrawal-ok        parts that keep their rules make records that keep theirs
--     made-aired                      and so does a header with its year
use Prim.Native.Nat.{ℕ, ◌≤◌, ◌<◌}
use mathlib.Core.Bool.{Bool, true, false, true≢false}
use mathlib.Core.List.{List, [], ◌∷◌, ◌++◌, append_cancel_left, append_cancel_right, tail-eq_of_cons-eq}
use mathlib.Core.Path.{◌≡◌, refl, sym, ap, ap₂, ◌∙◌}
use native.Mathlib.Omega.{arith}
use borrow.Author.Tests.{eqb-true, eq-eqb, lt-ltb, ltb-true}
use lib.Dec.{eqb}
use lib.ListN.{length, take, drop, replicate, length-append, length-replicate}
use lib.Seq.{take_at, drop_at, take_all}
use Rattle.octets.specs.Bytes.{every, holds, part, same}
use Rattle.octets.proofs.Tests.{never, Each, each_of, every_of}
use Rattle.octets.proofs.Everys.{last-decides}
use Rattle.octets.proofs.Parts.{length_part}
use Rattle.octets.proofs.Sames.{same_refl}
use Rattle.clock.specs.Time.{span}
use Rattle.clock.specs.Stamp.{stamped}
use Rattle.header.specs.Body.{times_part, body_form}
use Rattle.header.proofs.Reading.{body-long}
use Rattle.fields.specs.Fields.{identity_ok}
use Rattle.fields.proofs.Identities.{identity-short}
use Rattle.records.specs.Record.{kind, key, sent_in, sender_in, identifier_in, header, rest, aired_in, behind, zeros, zero_filled, key_tests, key_ok, header_ok, stamp_in, dated_ok, notice_tests, kind_tests, record_tests, record_ok, pad, key_of, notice, withdrawal, aired}
use Rattle.records.proofs.ZeroFill.{zeros-made, pad-long, filled-pad, filled_ok, identity-full, body-full}

-- ---- what a record keeps

pub of-record : (r : List ℕ) → record_ok r ≡ true → Each (record_tests r)
unfolding record_ok
of-record r h = each_of (record_tests r) h

pub record-long : (r : List ℕ) → record_ok r ≡ true → length r ≡ 384
record-long r h = eqb-true (length r) 384 (of-record r h).0

pub record-kind : (r : List ℕ) → record_ok r ≡ true → (1 ≤ kind r) × (kind r ≤ 3)
unfolding every
record-kind r h = go (eqb (kind r) 1) refl (eqb (kind r) 2) refl (eqb (kind r) 3) refl
  where
    among : (n : ℕ) → kind r ≡ n → 1 ≤ n → n ≤ 3 → (1 ≤ kind r) × (kind r ≤ 3)
    among n e l k = (omega arith, omega arith)

    go : (a : Bool) → eqb (kind r) 1 ≡ a → (b : Bool) → eqb (kind r) 2 ≡ b → (c : Bool) → eqb (kind r) 3 ≡ c → (1 ≤ kind r) × (kind r ≤ 3)
    go true a b _ c _ = among 1 (eqb-true (kind r) 1 a) (omega arith) (omega arith)
    go false a true b c _ = among 2 (eqb-true (kind r) 2 b) (omega arith) (omega arith)
    go false a false b true c = among 3 (eqb-true (kind r) 3 c) (omega arith) (omega arith)
    go false a false b false c = let n : false ≡ true = rw (a, b, c) at (of-record r h).1.0 in absurd (true≢false (sym n))

-- the tests of its kind
of-kind : (r : List ℕ) (n : ℕ) → record_ok r ≡ true → kind r ≡ n → Each (kind_tests n r)
of-kind r n h e = each_of (kind_tests n r) (ap (λ (k : ℕ). every holds (kind_tests k r)) (sym e) ∙ (of-record r h).1.0)

pub of-notice : (r : List ℕ) → record_ok r ≡ true → kind r ≡ 1 → Each (notice_tests r)
of-notice r h e = of-kind r 1 h e

-- and back
pub record-ok : (r : List ℕ) (n : ℕ) → length r ≡ 384 → kind r ≡ n → Each (kind_tests n r) → record_ok r ≡ true
unfolding record_ok
record-ok r n l e t = every_of (record_tests r) (eq-eqb (length r) 384 l, (ap (λ (k : ℕ). every holds (kind_tests k r)) e ∙ every_of (kind_tests n r) t, tt))

-- the kind decides, and there is none but these
pub kind-decides : (r : List ℕ) (n : ℕ) → length r ≡ 384 → kind r ≡ n → record_ok r ≡ every holds (kind_tests n r)
unfolding record_ok
kind-decides r n l e = last-decides (eqb (length r) 384 ∷ []) (every holds (kind_tests (kind r) r)) (eq-eqb (length r) 384 l, tt) ∙ ap (λ (k : ℕ). every holds (kind_tests k r)) e

pub no_kind : (r : List ℕ) → (kind r ≡ 1 → ⊥) → (kind r ≡ 2 → ⊥) → (kind r ≡ 3 → ⊥) → record_ok r ≡ false
no_kind r a b d = never (record_ok r) (λ e. let k = record-kind r e in omega arith)

-- sent is below 3,155,760,000
pub key-low : (k : List ℕ) → key_ok k ≡ true → sent_in k < span
unfolding key_ok
key-low k h = ltb-true (sent_in k) span (each_of (key_tests k) h).0

-- ---- the fields of what a maker makes

pub kind-notice : (k h : List ℕ) → kind (notice k h) ≡ 1
unfolding notice
kind-notice k h = refl

pub kind-withdrawal : (k : List ℕ) → kind (withdrawal k) ≡ 2
unfolding withdrawal
kind-withdrawal k = refl

pub kind-aired : (h : List ℕ) → kind (aired h) ≡ 3
unfolding aired
kind-aired h = refl

module _ (k h : List ℕ) (lk : length k ≡ 132) where
  pub key-notice : key (notice k h) ≡ k
  unfolding key notice
  key-notice = take_at k (h ++ replicate 8 0) 132 lk

  pub header-notice : length h ≡ 243 → header (notice k h) ≡ h
  unfolding header notice
  header-notice lh = ap (take 243) (drop_at k (h ++ replicate 8 0) 132 lk) ∙ take_at h (replicate 8 0) 243 lh

  rest-notice : length h ≡ 243 → rest (notice k h) ≡ replicate 8 0
  unfolding rest notice
  rest-notice lh =
      ap (take 8) (sym (lib.Seq.drop-drop 243 132 (k ++ (h ++ replicate 8 0))) ∙ ap (drop 243) (drop_at k (h ++ replicate 8 0) 132 lk) ∙ drop_at h (replicate 8 0) 243 lh)

  notice-long : length h ≡ 243 → length (notice k h) ≡ 384
  unfolding notice
  notice-long lh = omega (arith, length-append k (h ++ replicate 8 0), length-append h (replicate {A = ℕ} 8 0), length-replicate {A = ℕ} 8 0)

module _ (k : List ℕ) (lk : length k ≡ 132) where
  pub key-withdrawal : key (withdrawal k) ≡ k
  unfolding key withdrawal
  key-withdrawal = take_at k (replicate 251 0) 132 lk

  header-withdrawal : header (withdrawal k) ≡ replicate 243 0
  unfolding header withdrawal
  header-withdrawal = ap (take 243) (drop_at k (replicate 251 0) 132 lk)

  rest-withdrawal : rest (withdrawal k) ≡ replicate 8 0
  unfolding rest withdrawal
  rest-withdrawal = ap (take 8) (sym (lib.Seq.drop-drop 243 132 (k ++ replicate 251 0)) ∙ ap (drop 243) (drop_at k (replicate 251 0) 132 lk))

  withdrawal-long : length (withdrawal k) ≡ 384
  unfolding withdrawal
  withdrawal-long = omega (arith, length-append k (replicate {A = ℕ} 251 0), length-replicate {A = ℕ} 251 0)

module _ (g : List ℕ) (lg : length g ≡ 245) where
  key-aired : key (aired g) ≡ replicate 132 0
  unfolding key aired
  key-aired = take_at (replicate 132 0) (g ++ replicate 6 0) 132 (length-replicate {A = ℕ} 132 0)

  aired-in : aired_in (aired g) ≡ g
  unfolding aired_in aired
  aired-in = ap (take 245) (drop_at (replicate 132 0) (g ++ replicate 6 0) 132 (length-replicate {A = ℕ} 132 0)) ∙ take_at g (replicate 6 0) 245 lg

  behind-aired : behind (aired g) ≡ replicate 6 0
  unfolding behind aired
  behind-aired =
      ap (take 6) (sym (lib.Seq.drop-drop 245 132 (replicate 132 0 ++ (g ++ replicate 6 0))) ∙ ap (drop 245) (drop_at (replicate 132 0) (g ++ replicate 6 0) 132 (length-replicate {A = ℕ} 132 0)) ∙ drop_at g (replicate 6 0) 245 lg)

  aired-long : length (aired g) ≡ 384
  unfolding aired
  aired-long = omega (arith, length-append (replicate 132 0) (g ++ replicate 6 0), length-replicate {A = ℕ} 132 0, length-append g (replicate {A = ℕ} 6 0), length-replicate {A = ℕ} 6 0)

pub aired-inj : (g h : List ℕ) → aired g ≡ aired h → g ≡ h
unfolding aired
aired-inj g h e = append_cancel_right g h (replicate 6 0) (append_cancel_left (replicate 132 0) (g ++ replicate 6 0) (h ++ replicate 6 0) (tail-eq_of_cons-eq e))

pub withdrawal-inj : (j k : List ℕ) → withdrawal j ≡ withdrawal k → j ≡ k
unfolding withdrawal
withdrawal-inj j k e = append_cancel_right j k (replicate 251 0) (tail-eq_of_cons-eq e)

-- ---- a record by its fields

module _ (r : List ℕ) (l : length r ≡ 384) where
  pub header-long : length (header r) ≡ 243
  unfolding header
  header-long = length_part r 133 243 (omega arith)

-- ---- parts that keep their rules

made-notice : (k h : List ℕ) → length k ≡ 132 → length h ≡ 243 → key_ok k ≡ true → header_ok h ≡ true → same (stamp_in h) (stamped (sent_in k)) ≡ true → record_ok (notice k h) ≡ true
made-notice k h lk lh ok okₕ s =
    let a = key-notice k h lk in
    let b = header-notice k h lk lh in
    record-ok (notice k h) 1 (notice-long k h lk lh) (kind-notice k h)
    (ap key_ok a ∙ ok, (ap header_ok b ∙ okₕ, (ap₂ (λ (x y : List ℕ). same (stamp_in x) (stamped (sent_in y))) b a ∙ s, (ap zeros (rest-notice k h lk lh) ∙ zeros-made 8, tt))))

pub withdraws-ok : (k : List ℕ) → length k ≡ 132 → key_ok k ≡ true → record_ok (withdrawal k) ≡ true
withdraws-ok k l ok =
    record-ok (withdrawal k) 2 (withdrawal-long k l) (kind-withdrawal k)
    (ap key_ok (key-withdrawal k l) ∙ ok, (ap zeros (header-withdrawal k l) ∙ zeros-made 243, (ap zeros (rest-withdrawal k l) ∙ zeros-made 8, tt)))

pub made-aired : (g : List ℕ) → length g ≡ 245 → dated_ok g ≡ true → record_ok (aired g) ≡ true
made-aired g l ok =
    record-ok (aired g) 3 (aired-long g l) (kind-aired g)
    (ap zeros (key-aired g l) ∙ zeros-made 132, (ap dated_ok (aired-in g l) ∙ ok, (ap zeros (behind-aired g l) ∙ zeros-made 6, tt)))

module _ (sent : ℕ) (sender identifier : List ℕ) where
  pub key-of-long : length sender ≤ 64 → length identifier ≤ 64 → length (key_of sent sender identifier) ≡ 132
  unfolding key_of
  key-of-long h k = omega (arith, length-append (pad 64 sender) (pad 64 identifier), pad-long 64 sender h, pad-long 64 identifier k)

  pub sent_back : sent < span → sent_in (key_of sent sender identifier) ≡ sent
  unfolding sent_in key_of
  sent_back h = omega arith

  sender-back : length sender ≤ 64 → sender_in (key_of sent sender identifier) ≡ pad 64 sender
  unfolding key_of
  sender-back h = take_at (pad 64 sender) (pad 64 identifier) 64 (pad-long 64 sender h)

  identifier-back : length sender ≤ 64 → length identifier ≤ 64 → identifier_in (key_of sent sender identifier) ≡ pad 64 identifier
  unfolding key_of
  identifier-back h k = ap (take 64) (drop_at (pad 64 sender) (pad 64 identifier) 64 (pad-long 64 sender h)) ∙ take_all 64 (pad 64 identifier) (omega (arith, pad-long 64 identifier k))

  module _ (inside : sent < span) (a : identity_ok sender ≡ true) (b : identity_ok identifier ≡ true) where
    short : length (key_of sent sender identifier) ≡ 132
    short = key-of-long (identity-short sender a) (identity-short identifier b)

    pub key-ok : key_ok (key_of sent sender identifier) ≡ true
    unfolding key_ok
    key-ok =
        let h = identity-short sender a in
        let k = identity-short identifier b in
        every_of (key_tests (key_of sent sender identifier)) (
          lt-ltb (sent_in (key_of sent sender identifier)) span (rw (sent_back inside) inside),
          (
            ap (zero_filled identity_ok) (sender-back h) ∙ filled_ok identity_ok 64 sender (identity-full sender a) a,
            (ap (zero_filled identity_ok) (identifier-back h k) ∙ filled_ok identity_ok 64 identifier (identity-full identifier b) b, tt),
          ),
        )

    pub withdrawal-ok : record_ok (withdrawal (key_of sent sender identifier)) ≡ true
    withdrawal-ok = withdraws-ok (key_of sent sender identifier) short key-ok

    pub notice-ok : (h : List ℕ) → body_form h ≡ true → part (times_part h) 6 7 ≡ stamped sent → record_ok (notice (key_of sent sender identifier) (pad 243 h)) ≡ true
    unfolding header_ok stamp_in
    notice-ok h f s =
        let v = filled-pad 243 h (body-full h f) in
        made-notice (key_of sent sender identifier) (pad 243 h) short (pad-long 243 h (body-long h f).1) key-ok (filled_ok body_form 243 h (body-full h f) f)
        (ap₂ (λ (x : List ℕ) (n : ℕ). same (part (times_part x) 6 7) (stamped n)) v (sent_back inside) ∙ ap (λ (x : List ℕ). same x (stamped sent)) s ∙ same_refl (stamped sent))
