-- Groups: their tests, that they have 155 bytes at most, and their parts by the places of their commas.
--     group-no, time-decides, group-long            a test that fails, what the last one says, and a run that is too long
--     group-kept, group-low                         a group's characters are such as a copy keeps, so a copy is judged as the run
--     no-first, no_second                           a comma that is missing
--     Parted: parted, sender-as, identifier-as, sent-as     both commas are there, and each part is judged as the run between them
use Prim.Native.Nat.{ℕ, ◌+◌, ◌-◌, ◌≤◌, ◌<◌}
use mathlib.Core.Path.{◌≡◌, refl, sym, ap, ◌∙◌}
use mathlib.Core.Bool.{Bool, true, false}
use mathlib.Core.List.{List, [], ◌∷◌, map}
use native.Mathlib.Omega.{arith}
use lib.ListN.{length, take, drop, get_or, length-drop, drop_of_length-le}
use lib.Seq.{take_all, drop-drop}
use Rattle.octets.specs.Bytes.{every}
use Rattle.octets.proofs.Tests.{never, each_of, one-fails, between_is, below-between}
use Rattle.octets.proofs.Everys.{last-decides}
use Rattle.clock.specs.Time.{time_of, is_time}
use Rattle.std.specs.Prelude.{Option, Some, None}
use Rattle.std.specs.Option.{is_some}
use Rattle.clock.proofs.Kept.{time-kept}
use Rattle.values.specs.WorkingSteps.{low}
use Rattle.values.proofs.Copies.{is_kept, low_same}
use Rattle.fields.specs.Fields.{identity_ok}
use Rattle.fields.specs.References.{up_to, behind, sender_of, identifier_of, sent_of}
use Rattle.fields.specs.WorkingFields.{group_ok}
use Rattle.fields.proofs.Partings.{up_to-none, up_to-take, up_to-short, behind-drop, parts-long, parts-pass}
use Rattle.fields.proofs.Identities.{identity-no, identity-short, identity-kept, time-not, time-short}

abbrev pub group_tests : List ℕ → List Bool
group_tests w = identity_ok (sender_of w) ∷ identity_ok (identifier_of w) ∷ is_time (time_of (sent_of w)) ∷ []

pub group-no : (i : ℕ) (w : List ℕ) → get_or (group_tests w) i true ≡ false → group_ok w ≡ false
unfolding group_ok
group-no i w h = one-fails i (group_tests w) h

pub time-decides : (w : List ℕ) → identity_ok (sender_of w) ≡ true → identity_ok (identifier_of w) ≡ true → group_ok w ≡ is_time (time_of (sent_of w))
unfolding group_ok
time-decides w a b = last-decides (identity_ok (sender_of w) ∷ identity_ok (identifier_of w) ∷ []) (is_time (time_of (sent_of w))) (a, (b, tt))

group-short : (w : List ℕ) → group_ok w ≡ true → length w ≤ 155
unfolding group_ok
group-short w h =
    let e = each_of (group_tests w) h in
    omega (arith, parts-long 44 w, parts-long 44 (behind 44 w), identity-short (sender_of w) e.0, identity-short (identifier_of w) e.1.0, time-short (sent_of w) e.1.1.0)

pub group-long : (w : List ℕ) (n : ℕ) → n ≡ length w → 155 < n → group_ok w ≡ false
group-long w n q l = never (group_ok w) (λ e. omega (arith, group-short w e))

-- ---- a copy

pub group-kept : (w : List ℕ) → group_ok w ≡ true → every is_kept w ≡ true
unfolding group_ok
group-kept w h =
    let e = each_of (group_tests w) h in
    let comma = between_is 1 127 44 (omega arith) (omega arith) in
    let rest = parts-pass 44 is_kept comma (behind 44 w) (identity-kept (identifier_of w) e.1.0) (time-kept (sent_of w) e.1.1.0) in
    parts-pass 44 is_kept comma w (identity-kept (sender_of w) e.0) rest

pub group-low : (w : List ℕ) → group_ok (map low w) ≡ group_ok w
group-low w = low_same group_ok group-kept w

-- ---- a group by the places of its commas: a is where the first stands, b where the second does

module _ (t : List ℕ) (a : ℕ) (e : a ≡ 0 + length (up_to 44 (drop 0 t))) where
  pub first-in : a ≤ length t
  first-in = omega (arith, up_to-short 44 t)

  behind-first : drop (a + 1) t ≡ behind 44 t
  behind-first = let q : a ≡ length (sender_of t) = omega arith in ap (λ (n : ℕ). drop (n + 1) t) q ∙ behind-drop 44 t

  pub no-first : a ≡ length t → group_ok t ≡ false
  no-first h =
      let n : length t ≤ a + 1 = omega arith in
      let q : identifier_of t ≡ [] = ap (up_to 44) (sym behind-first ∙ drop_of_length-le t n) ∙ up_to-none 44 in
      group-no 1 t (ap identity_ok q ∙ identity-no 0 [] (below-between 1 64 0 (omega arith)))

  module _ (b : ℕ) (f : b ≡ a + 1 + length (up_to 44 (drop (a + 1) t))) where
    behind-second : drop (b + 1) t ≡ sent_of t
    behind-second =
        let n : b + 1 ≡ a + 1 + (length (up_to 44 (drop (a + 1) t)) + 1) = omega arith in
        ap (λ (k : ℕ). drop k t) n
        ∙ sym (drop-drop (length (up_to 44 (drop (a + 1) t)) + 1) (a + 1) t)
        ∙ behind-drop 44 (drop (a + 1) t)
        ∙ ap (behind 44) behind-first

    pub no_second : b ≡ length t → group_ok t ≡ false
    no_second h =
        let n : length t ≤ b + 1 = omega arith in
        let q : sent_of t ≡ [] = sym behind-second ∙ drop_of_length-le t n in
        group-no 2 t (ap (λ (l : List ℕ). is_time (time_of l)) q ∙ ap is_time (time-not [] (omega arith)))

pub record Parted (t : List ℕ) (a b : ℕ) : Type 0 where
  pub sender : take (a - 0) (drop 0 t) ≡ sender_of t
  pub identifier : take (b - (a + 1)) (drop (a + 1) t) ≡ identifier_of t
  pub sent : take (length t - (b + 1)) (drop (b + 1) t) ≡ sent_of t
  pub order : a < b
  pub inside : b < length t

-- both commas are there
pub parted : (t : List ℕ) (a : ℕ) → a ≡ 0 + length (up_to 44 (drop 0 t)) → (a ≡ length t → ⊥) → (b : ℕ) → b ≡ a + 1 + length (up_to 44 (drop (a + 1) t)) → (b ≡ length t → ⊥) → Parted t a b
parted t a e ne b f nf =
    let l = first-in t a e in
    let k : length (drop (a + 1) t) ≡ length t - (a + 1) = length-drop (a + 1) t in
    let h = up_to-short 44 (drop (a + 1) t) in
    let p : a - 0 ≡ length (sender_of t) = omega arith in
    let q : b - (a + 1) ≡ length (up_to 44 (drop (a + 1) t)) = omega arith in
    record {
      sender = ap (λ (n : ℕ). take n t) p ∙ up_to-take 44 t;
      identifier = ap (λ (n : ℕ). take n (drop (a + 1) t)) q ∙ up_to-take 44 (drop (a + 1) t) ∙ ap (up_to 44) (behind-first t a e);
      sent = take_all (length t - (b + 1)) (drop (b + 1) t) (simp length-drop (omega arith)) ∙ behind-second t a e b f;
      order = omega arith;
      inside = omega arith;
    }

time-there : (x : Option ℕ) → is_time x ≡ is_some x
time-there (Some n) = refl
time-there None = refl

module _ {t : List ℕ} {a b : ℕ} (g : Parted t a b) where
  pub sender-as : {r : Bool} → r ≡ identity_ok (take a t) → identity_ok (sender_of t) ≡ r
  sender-as e =
      let q : a ≡ a - 0 = omega arith in
      sym (e ∙ ap (λ (n : ℕ). identity_ok (take n t)) q ∙ ap identity_ok g.sender)

  pub identifier-as : {r : Bool} → r ≡ identity_ok (take (b - (a + 1)) (drop (a + 1) t)) → identity_ok (identifier_of t) ≡ r
  identifier-as e = sym (e ∙ ap identity_ok g.identifier)

  pub sent-as : (x : Option ℕ) {r : Bool} → x ≡ time_of (take (length t - (b + 1)) (drop (b + 1) t)) → is_some x ≡ r → is_time (time_of (sent_of t)) ≡ r
  sent-as x e h = sym (ap is_time (e ∙ ap time_of g.sent)) ∙ time-there x ∙ h
