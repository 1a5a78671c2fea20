-- What is put behind a pen: characters, as their bytes.
--     pen-at, pen-count                        how far a pen has come
--     pen-none, pen-first, pen-next, pen-all   writers one behind another
--     room-start, room_for, room-past          room, and what of it is left behind what was put
--     words-put, space-put                     characters that are one byte each
use Prim.Native.Nat.{ℕ, ◌+◌, ◌≤◌}
use mathlib.Core.Bool.{true}
use mathlib.Core.List.{List, [], ◌∷◌, ◌++◌}
use mathlib.Core.Path.{◌≡◌, refl, sym, ap, ap₂, ◌∙◌}
use native.Mathlib.Nat.{add-zero}
use native.Mathlib.Omega.{arith}
use lib.Dec.{ltb}
use lib.ListN.{length, length-append}
use lib.Seq.{sets, length-sets}
use Rattle.octets.specs.Bytes.{every}
use Rattle.octets.proofs.Runs.{Run, behind}
use Rattle.characters.specs.Utf8.{utf8}
use Rattle.characters.proofs.Texts.{utf8_append, utf8-most, utf8-plain}
use Rattle.wording.specs.Text.{most}
use Rattle.wording.specs.WorkingPen.{start_pen, pen_after, Room}
use Rattle.wording.specs.declared.Pen.{Pen}

-- ---- a pen by its two numbers

pub pen-made : (pen : Pen) (v : List ℕ) (a n : ℕ) → a ≡ pen.at + length (utf8 v) → n ≡ pen.count + length v → record { at = a; count = n } ≡ pen_after pen v
unfolding pen_after
pen-made pen v a n p q = ap₂ (λ (x y : ℕ). record { at = x; count = y }) p q

module _ (pen : Pen) (v : List ℕ) {q : Pen} (e : q ≡ pen_after pen v) where
  pub pen-at : q.at ≡ pen.at + length (utf8 v)
  unfolding pen_after
  pen-at = ap (λ (x : Pen). x.at) e

  pub pen-count : q.count ≡ pen.count + length v
  unfolding pen_after
  pen-count = ap (λ (x : Pen). x.count) e

-- ---- x is d with vs put behind the pen, which then is q

-- what a writer of ws promises of the pen that it gives back and of what it leaves
abbrev pub PenPut : List ℕ → Pen → List ℕ → List ℕ → Pen → Type 0
PenPut d pen ws x q = (q ≡ pen_after pen ws) × (x ≡ sets d pen.at (utf8 ws))

pub record Penned (d : List ℕ) (pen : Pen) (vs x : List ℕ) (q : Pen) : Type 0 where
  pub ends : q ≡ pen_after pen vs
  pub is : x ≡ sets d pen.at (utf8 vs)

pub pen-first : (d : List ℕ) (pen : Pen) (ws : List ℕ) {x : List ℕ} {q : Pen} → PenPut d pen ws x q → Penned d pen ws x q
pen-first d pen ws p = record { ends = p.0; is = p.1 }

pub pen-none : (d : List ℕ) (pen : Pen) → Penned d pen [] d pen
unfolding utf8
pen-none d pen = record { ends = pen-made pen [] pen.at pen.count (sym (add-zero pen.at)) (sym (add-zero pen.count)); is = refl }

module _ {d : List ℕ} {pen : Pen} {vs x : List ℕ} {q : Pen} (r : Penned d pen vs x q) where
  -- where all that has been put is ws
  pub pen-all : (ws : List ℕ) → ws ≡ vs → PenPut d pen ws x q
  pen-all ws s = (r.ends ∙ ap (pen_after pen) (sym s), r.is ∙ ap (λ (w : List ℕ). sets d pen.at (utf8 w)) (sym s))

  pub pen-next : (ws : List ℕ) {y : List ℕ} {f : Pen} → PenPut x q ws y f → Penned d pen (vs ++ ws) y f
  pen-next ws {y} {f} p =
      let a = pen-at pen vs r.ends in
      let n = pen-count pen vs r.ends in
      let long = ap length (utf8_append vs ws) ∙ length-append (utf8 vs) (utf8 ws) in
      record {
        ends = pen-made pen (vs ++ ws) f.at f.count (omega (arith, pen-at q ws p.0, long, a)) (omega (arith, pen-count q ws p.0, length-append vs ws, n));
        is = behind d pen.at (utf8 vs) (utf8 ws) r.is a p.1 ∙ ap (sets d pen.at) (sym (utf8_append vs ws));
      }

  -- as bytes
  pub pen-run : Run d pen.at (utf8 vs) x q.at
  pen-run = record { is = r.is; ends = pen-at pen vs r.ends }

-- ---- room

-- 1,800 characters have at most 7,200 bytes
pub bytes_le : (t : List ℕ) → length t ≤ most → length (utf8 t) ≤ 7200
bytes_le t h = omega (arith, utf8-most t)

pub room-start : (d : List ℕ) → 7200 ≤ length d → Room start_pen most d
room-start d h = record { wide = omega arith; short = omega arith; long = h }

module _ {pen : Pen} {n : ℕ} {d : List ℕ} (r : Room pen n d) where
  pub room_for : (v : List ℕ) → length v ≤ n → pen.at + length (utf8 v) ≤ length d
  room_for v h = omega (arith, r.wide, r.short, r.long, utf8-most v)

  pub room_of_lem : (m : ℕ) → pen.count + m ≤ most → Room pen m d
  room_of_lem m h = record { wide = r.wide; short = h; long = r.long }

  pub room-past : {vs x : List ℕ} {q : Pen} → Penned d pen vs x q → (m : ℕ) → length vs + m ≤ n → Room q m x
  room-past {vs} p m h =
      let a = pen-at pen vs p.ends in
      let c = pen-count pen vs p.ends in
      record {
        wide = omega (arith, a, c, r.wide, utf8-most vs);
        short = omega (arith, c, r.short);
        long = omega (arith, r.long, ap length p.is, length-sets d pen.at (utf8 vs));
      }

-- ---- characters that are one byte each

pub words-put : (d : List ℕ) (pen : Pen) (ws : List ℕ) → every (λ c. ltb c 128) ws ≡ true → {x : List ℕ} (a n : ℕ) → a ≡ pen.at + length ws → n ≡ pen.count + length ws → x ≡ sets d pen.at ws
    → PenPut d pen ws x (record { at = a; count = n })
words-put d pen ws low a n p q h =
    let e = utf8-plain ws low in
    (pen-made pen ws a n (omega (arith, p, ap length e)) q, h ∙ ap (sets d pen.at) (sym e))

pub space-put : (d : List ℕ) (pen : Pen) {x : List ℕ} → x ≡ sets d pen.at (32 ∷ []) → Penned d pen (32 ∷ []) x (record { at = pen.at + 1; count = pen.count + 1 })
unfolding every
space-put d pen h = pen-first d pen (32 ∷ []) (words-put d pen (32 ∷ []) refl (pen.at + 1) (pen.count + 1) refl refl h)
