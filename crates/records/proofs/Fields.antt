-- A record is its fields: one of kind 2 or 3 that keeps its rules is the one that its maker makes.
--     withdrawal-is, aired-is
use Prim.Native.Nat.{ℕ, ◌+◌, ◌≤◌}
use mathlib.Core.Bool.{true}
use mathlib.Core.Path.{◌≡◌, refl, sym, ap, ap₂, ◌∙◌}
use mathlib.Core.List.{List, ◌∷◌, ◌++◌, append-nil}
use native.Mathlib.Omega.{arith}
use lib.ListN.{length, drop, replicate, drop_of_length-le, replicate-append-replicate}
use Rattle.octets.specs.Bytes.{part}
use Rattle.octets.proofs.Tests.{Each, each_of}
use Rattle.octets.proofs.Parts.{length_part, cut, tail_step}
use Rattle.records.specs.Record.{kind, key, header, rest, aired_in, behind, carried, zeros, kind_tests, record_ok, withdrawal, aired}
use Rattle.records.proofs.ZeroFill.{zeros-are}
use Rattle.records.proofs.Records.{record-long, kind-decides}
use Rattle.records.proofs.Carried.{carried_other}

-- what stands behind the key, cut behind n bytes
of_fields : (r : List ℕ) (n m : ℕ) → n + m ≡ 251 → length r ≡ 384 → r ≡ kind r ∷ (key r ++ (part r 133 n ++ part r (133 + n) m))
unfolding key
of_fields r n m e l =
    tail_step r 0 (omega arith)
    ∙ ap (λ (x : List ℕ). kind r ∷ x) (cut r 1 132 ∙ ap (λ (x : List ℕ). key r ++ x) (cut r 133 n ∙ ap (λ (x : List ℕ). part r 133 n ++ x) tail))
  where
    tail : drop (133 + n) r ≡ part r (133 + n) m
    tail = cut r (133 + n) m ∙ ap (λ (x : List ℕ). part r (133 + n) m ++ x) (drop_of_length-le r {i = 133 + n + m} (omega arith)) ∙ append-nil (part r (133 + n) m)

module _ (r : List ℕ) (ok : record_ok r ≡ true) where
  long : length r ≡ 384
  long = record-long r ok

  kind-holds : (n : ℕ) → kind r ≡ n → Each (kind_tests n r)
  kind-holds n e = each_of (kind_tests n r) (sym (kind-decides r n long e) ∙ ok)

  -- n bytes from i on that are tested to be zero
  zero-part : (i n : ℕ) → i + n ≤ 384 → zeros (part r i n) ≡ true → part r i n ≡ replicate n 0
  zero-part i n h z = zeros-are (part r i n) n (length_part r i n (omega (arith, long))) z

  pub withdrawal-is : kind r ≡ 2 → r ≡ withdrawal (key r)
  unfolding withdrawal header rest
  withdrawal-is e =
      let t = kind-holds 2 e in
      of_fields r 243 8 refl long
      ∙ ap₂ (λ (k : ℕ) (x : List ℕ). k ∷ (key r ++ x)) e
      (ap₂ ◌++◌ (zero-part 133 243 (omega arith) t.1.0) (zero-part 376 8 (omega arith) t.1.1.0) ∙ replicate-append-replicate 243 8 0)

  pub aired-is : kind r ≡ 3 → r ≡ aired (carried r)
  unfolding aired aired_in behind key
  aired-is e =
      let t = kind-holds 3 e in
      let g : carried r ≡ aired_in r = carried_other r (λ o. let z = sym o ∙ e in omega arith) in
      of_fields r 245 6 refl long
      ∙ ap₂ (λ (k : ℕ) (x : List ℕ). k ∷ x) e
      (ap₂ (λ (x y : List ℕ). x ++ (aired_in r ++ y)) (zero-part 1 132 (omega arith) t.0) (zero-part 378 6 (omega arith) t.1.1.0))
      ∙ ap aired (sym g)
