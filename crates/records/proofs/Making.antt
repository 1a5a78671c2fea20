-- A record is made field by field: what is put so far, and zeros behind it.
use Prim.Native.Nat.{ℕ, suc, ◌+◌, ◌-◌, ◌/◌, ◌%◌, ◌≤◌}
use mathlib.Core.Path.{◌≡◌, refl, sym, ap, ap₂, ◌∙◌}
use mathlib.Core.List.{List, [], ◌∷◌, ◌++◌, append_assoc, append-nil}
use native.Mathlib.Omega.{arith}
use lib.ListN.{length, take, drop, set, replicate, length-append, length-replicate, replicate-append-replicate}
use lib.Seq.{sets, sets-eq, take_at, drop_at, drop-drop}
use Rattle.std.specs.Int.{w32, to_be_bytes}
use Rattle.octets.proofs.Parts.{drop-zeros}
use Rattle.clock.specs.Stamp.{stamp_of}
use Rattle.records.specs.Record.{sent_in, be2, dated, pad, be4, key_of, notice, withdrawal, aired}
use Rattle.records.proofs.ZeroFill.{pad-long, pad-whole}
use Rattle.records.proofs.Records.{key-of-long}

-- a field of n bytes is put behind p, where m zeros were
module _ (p b x v : List ℕ) (at m n : ℕ) (e : b ≡ p ++ replicate m 0) (l : length p ≡ at) (s : length v ≤ n) (r : n ≤ m) (put : x ≡ sets b at v) where
  front : take at b ≡ p
  front = ap (take at) e ∙ take_at p (replicate m 0) at l

  back : drop (at + length v) b ≡ replicate (m - length v) 0
  back = ap (drop (at + length v)) e ∙ sym (drop-drop (length v) at (p ++ replicate m 0)) ∙ ap (drop (length v)) (drop_at p (replicate m 0) at l) ∙ drop-zeros (length v) m

  fits : at + length v ≤ length b
  fits = let a = ap length e in let c = length-append p (replicate {A = ℕ} m 0) in let d = length-replicate {A = ℕ} m 0 in omega arith

  pub field_put : x ≡ (p ++ pad n v) ++ replicate (m - n) 0
  unfolding pad
  field_put =
      let k : n - length v + (m - n) ≡ m - length v = omega arith in
      put ∙ sets-eq v b at fits ∙ ap₂ (λ (y z : List ℕ). (y ++ v) ++ z) front back
      ∙ sym (
      ap (λ (y : List ℕ). y ++ replicate (m - n) 0) (sym (append_assoc p v (replicate (n - length v) 0)))
      ∙ append_assoc (p ++ v) (replicate (n - length v) 0) (replicate (m - n) 0)
      ∙ ap (λ (y : List ℕ). (p ++ v) ++ y) (replicate-append-replicate (n - length v) (m - n) 0 ∙ ap (λ (j : ℕ). replicate j 0) k))

-- bytes put at the start of n zeros
pub laid : (n : ℕ) (v x : List ℕ) → length v ≤ n → x ≡ sets (replicate n 0) 0 v → x ≡ pad n v
laid n v x l put =
    let e : n - n ≡ 0 = omega arith in
    field_put [] (replicate n 0) x v 0 n n refl refl l (omega arith) put ∙ ap (λ (k : ℕ). pad n v ++ replicate k 0) e ∙ append-nil (pad n v)

pub be4-is : (n : ℕ) → to_be_bytes w32 n ≡ be4 n
be4-is n =
    let a : n / 16777216 % 256 ≡ n / 256 / 256 / 256 % 256 = omega arith in
    let b : n / 65536 % 256 ≡ n / 256 / 256 % 256 = omega arith in
    λ i. a i ∷ b i ∷ n / 256 % 256 ∷ n % 256 ∷ []

-- a new record: its kind, and zeros
abbrev pub fresh : ℕ → List ℕ
fresh kind = set (replicate 384 0) 0 kind

pub keyed-made : (kind sent : ℕ) (t sender identifier x y z : List ℕ) → t ≡ be4 sent → length sender ≤ 64 → length identifier ≤ 64 → x ≡ sets (fresh kind) 1 t → y ≡ sets x 5 sender → z ≡ sets y 69 identifier →
    z ≡ (kind ∷ key_of sent sender identifier) ++ replicate 251 0
unfolding key_of
keyed-made kind sent t sender identifier x y z t-is s i px py pz = z-is ∙ ap (λ (w : List ℕ). w ++ replicate 251 0) (append_assoc (kind ∷ be4 sent) (pad 64 sender) (pad 64 identifier))
  where
    x-is : x ≡ (kind ∷ be4 sent) ++ replicate 379 0
    x-is = field_put (kind ∷ []) (fresh kind) x (be4 sent) 1 383 4 refl refl (omega arith) (omega arith) (px ∙ ap (sets (fresh kind) 1) t-is) ∙ ap (λ (w : List ℕ). (kind ∷ w) ++ replicate 379 0) (pad-whole 4 (be4 sent) refl)

    y-is : y ≡ ((kind ∷ be4 sent) ++ pad 64 sender) ++ replicate 315 0
    y-is = field_put (kind ∷ be4 sent) x y sender 5 379 64 x-is refl s (omega arith) py

    z-is : z ≡ (((kind ∷ be4 sent) ++ pad 64 sender) ++ pad 64 identifier) ++ replicate 251 0
    z-is = field_put ((kind ∷ be4 sent) ++ pad 64 sender) y z identifier 69 315 64 y-is (length-append (kind ∷ be4 sent) (pad 64 sender) ∙ ap (λ (n : ℕ). 5 + n) (pad-long 64 sender s)) i (omega arith) pz

pub notice-made : (sent : ℕ) (sender identifier h x y : List ℕ) → length sender ≤ 64 → length identifier ≤ 64 → length h ≤ 243 → x ≡ (1 ∷ key_of sent sender identifier) ++ replicate 251 0 → y ≡ sets x 133 h →
    y ≡ notice (key_of sent sender identifier) (pad 243 h)
unfolding notice
notice-made sent sender identifier h x y s i l px py =
    let k = key_of sent sender identifier in
    field_put (1 ∷ k) x y h 133 251 243 px (ap suc (key-of-long sent sender identifier s i)) l (omega arith) py ∙ append_assoc (1 ∷ k) (pad 243 h) (replicate 8 0)

pub withdrawal-made : (k : List ℕ) → (2 ∷ k) ++ replicate 251 0 ≡ withdrawal k
unfolding withdrawal
withdrawal-made k = refl

pub withdrawal-put : (k x : List ℕ) → length k ≡ 132 → x ≡ sets (fresh 2) 1 k → x ≡ withdrawal k
withdrawal-put k x l px =
    field_put (2 ∷ []) (fresh 2) x k 1 383 132 refl refl (omega arith) (omega arith) px ∙ ap (λ (w : List ℕ). (2 ∷ w) ++ replicate 251 0) (pad-whole 132 k l) ∙ withdrawal-made k

pub aired-made : (g x : List ℕ) → length g ≡ 245 → x ≡ sets (fresh 3) 133 g → x ≡ aired g
unfolding aired
aired-made g x l px =
    field_put (3 ∷ replicate 132 0) (fresh 3) x g 133 251 245 (ap (λ (w : List ℕ). 3 ∷ w) (sym (replicate-append-replicate 132 251 0))) (ap suc (length-replicate {A = ℕ} 132 0)) (omega arith) (omega arith) px
    ∙ ap (λ (w : List ℕ). ((3 ∷ replicate 132 0) ++ w) ++ replicate 6 0) (pad-whole 245 g l)
    ∙ append_assoc (3 ∷ replicate 132 0) g (replicate 6 0)

-- ---- a header with its year

pub dated-made : (k h y x z : List ℕ) → length h ≡ 243 → y ≡ be2 (stamp_of (sent_in k)).year → x ≡ sets (replicate 245 0) 0 h → z ≡ sets x 243 y → z ≡ dated k h
unfolding dated
dated-made k h y x z l ey px pz =
    field_put h x z (be2 (stamp_of (sent_in k)).year) 243 2 2 x-is l (omega arith) (omega arith) (pz ∙ ap (sets x 243) ey)
    ∙ append-nil (h ++ pad 2 (be2 (stamp_of (sent_in k)).year))
    ∙ ap (λ (w : List ℕ). h ++ w) (pad-whole 2 (be2 (stamp_of (sent_in k)).year) refl)
  where
    x-is : x ≡ h ++ replicate 2 0
    x-is = field_put [] (replicate 245 0) x h 0 245 243 refl refl (omega arith) (omega arith) px ∙ ap (λ (w : List ℕ). w ++ replicate 2 0) (pad-whole 243 h l)
