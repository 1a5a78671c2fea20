-- What a writer leaves, piece by piece.
--     none-put, then, named     nothing is put; one run behind another; the same by another name
--     others-step, others-room  the locations one by one
--     Left, left_step, left-done   a run of which the rest has yet to be put
use Prim.Native.Nat.{ℕ, ◌+◌, ◌-◌, ◌/◌, ◌%◌, ◌≤◌, ◌<◌}
use mathlib.Core.List.{List, [], ◌∷◌, ◌++◌, append_assoc, append-nil}
use mathlib.Core.Path.{◌≡◌, refl, sym, ap, ◌∙◌}
use native.Mathlib.Omega.{arith}
use lib.ListN.{length, take, drop, get_or, length-append, take-append-drop}
use lib.Seq.{sets, length-sets}
use Rattle.std.proofs.lemmas.List.{take_more, take_all}
use Rattle.octets.proofs.Runs.{Run, behind, goes_on}
use Rattle.octets.specs.Digits.{digits}
use Rattle.octets.specs.Text.{bytes}
use Rattle.sentence.specs.Words.{location_word, others, location_words, when_words}
use Rattle.sentence.specs.WorkingWriter.{Wrote}
use Rattle.sentence.specs.declared.Writer.{Writer}

pub none-put : (w : Writer) → Wrote w w []
none-put w = record { same = refl; is = refl; ends = omega arith; long = refl }

pub then : {u v w : Writer} {a b : List ℕ} → Wrote u v a → Wrote v w b → Wrote u w (a ++ b)
then {u} {v} {w} {a} {b} p q = record {
  same = q.same ∙ p.same;
  is = behind u.out.now u.at a b p.is p.ends q.is;
  ends = omega (arith, length-append a b, p.ends, q.ends);
  long = q.long ∙ p.long;
}

-- what was put, by another name
pub named : {v w : Writer} {a : List ℕ} → Wrote v w a → (b : List ℕ) → b ≡ a → Wrote v w b
named p b e = rw e p

-- ---- the times as they are put

pub when-is : (period day hour minute : ℕ) → when_words period day hour minute ≡
    (((((bytes ", valid from " ++ digits 2 hour) ++ (bytes ":" ++ digits 2 minute)) ++ (bytes " UTC on day " ++ digits 3 day))
    ++ (bytes " for " ++ digits 2 (period / 60))) ++ (bytes " hours " ++ digits 2 (period % 60))) ++ bytes " minutes."
unfolding when_words
when-is period day hour minute = simp append_assoc

-- ---- the locations, one by one

others-append : (a b : List ℕ) → others (a ++ b) ≡ others a ++ others b
unfolding others
others-append [] b = refl
others-append (v ∷ a) b = simp append_assoc (ap (λ (z : List ℕ). bytes ", " ++ (location_word v ++ z)) (others-append a b))

module _ (list : List ℕ) (k : ℕ) (h : k < length list) where
  pub others-step : others (take (k + 1) list) ≡ (others (take k list) ++ bytes ", ") ++ location_word (get_or list k 0)
  unfolding others
  others-step = rw (take_more list k 0 h, others-append) (simp (append_assoc, append-nil))

  pub others-room : length (others (take k list)) + 2 + length (location_word (get_or list k 0)) ≤ length (others list)
  unfolding bytes
  others-room =
      let whole : take (k + 1) list ++ drop (k + 1) list ≡ list = take-append-drop (k + 1) list in
      let all : others list ≡ others (take (k + 1) list) ++ others (drop (k + 1) list) = ap others (sym whole) ∙ others-append _ _ in
      omega (arith, ap length all, ap length others-step, length-append {A = ℕ})

pub others-over : (list : List ℕ) (k : ℕ) → length list ≤ k → others list ≡ others (take k list)
others-over list k h = ap others (sym (take_all k list h))

-- ---- the first location, and the others

pub joined-first : (list : List ℕ) → 1 ≤ length list → location_words list ≡ location_word (get_or list 0 0) ++ others (take (length list - 1) (drop 1 list))
unfolding location_words
joined-first [] h = absurd (omega arith)
joined-first (v ∷ list) h = ap (λ (t : List ℕ). location_word v ++ others t) (sym (take_all (length (v ∷ list) - 1) list (omega arith)))

pub none-joined : (list : List ℕ) → length list < 1 → location_words list ≡ []
unfolding location_words
none-joined [] h = refl
none-joined (v ∷ list) h = absurd (omega arith)

-- ---- whole is being put into d from `at` on: x is d so far, and rest is to follow at e

pub record Left (d : List ℕ) (at : ℕ) (whole x : List ℕ) (e : ℕ) (rest : List ℕ) : Type 0 where
  pub is : sets x e rest ≡ sets d at whole
  pub ends : e + length rest ≡ at + length whole
  pub long : length x ≡ length d

pub left-all : (d : List ℕ) (at : ℕ) (whole : List ℕ) → Left d at whole d at whole
left-all d at whole = record { is = refl; ends = refl; long = refl }

module _ {d : List ℕ} {at : ℕ} {whole x : List ℕ} {e : ℕ} {rest : List ℕ} (l : Left d at whole x e rest) where
  pub left_step : (ws more : List ℕ) {y : List ℕ} {f : ℕ} → rest ≡ ws ++ more → Run x e ws y f → Left d at whole y f more
  left_step ws more s r = record {
    is = goes_on r more ∙ ap (sets x e) (sym s) ∙ l.is;
    ends = omega (arith, ap length s, length-append ws more, l.ends, r.ends);
    long = ap length r.is ∙ length-sets x e ws ∙ l.long;
  }

  pub left-done : rest ≡ [] → (e ≡ at + length whole) × (x ≡ sets d at whole)
  left-done s = (omega (arith, ap length s, l.ends), ap (sets x e) (sym s) ∙ l.is)
