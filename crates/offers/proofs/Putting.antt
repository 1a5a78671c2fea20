-- Records put into a batch, one behind another.
--     identity-fits, notice-laid                  the notice, from its values' fronts and a zero-filled header
--     group-laid, word_back                       a withdrawal, from a group's parts and from the next word
--     Putting, put-starts, put_last, put-more     the withdrawals of the references that are left, from record k on
--     put-none, put_one_lem, put_alone, put_both  the records of a message
use Prim.Native.Nat.{ℕ, ◌+◌, ◌-◌, ◌*◌, ◌≤◌, ◌<◌}
use mathlib.Core.Path.{◌≡◌, refl, sym, ap, ap₂, ◌∙◌, subst}
use mathlib.Core.Bool.{Bool, true, false, true≢false}
use mathlib.Core.List.{List, [], ◌∷◌, ◌++◌, map, append_assoc, append-nil}
use native.Mathlib.Omega.{arith}
use native.Mathlib.Decide.{dec_lt}
use lib.ListN.{length, take, drop, replicate, length-append}
use lib.Seq.{sets, length-sets, length-take-le, take_all}
use Rattle.octets.specs.Bytes.{pick, every, one_of}
use Rattle.octets.proofs.Tests.{each_of, every_first, every_rest}
use Rattle.octets.proofs.Runs.{sets-append}
use Rattle.clock.specs.Time.{time_of, instant_in}
use Rattle.std.specs.Prelude.{Option, Some, None, unwrap_or}
use Rattle.values.specs.Value.{value_at}
use Rattle.values.specs.WorkingSteps.{rest_at, lead_at, low}
use Rattle.values.proofs.Steps.{value-start}
use Rattle.values.proofs.Copies.{keeps}
use Rattle.fields.specs.Fields.{identity_ok}
use Rattle.fields.specs.References.{up_to, sender_of, identifier_of, words}
use Rattle.fields.specs.WorkingFields.{group_ok, references_ok}
use Rattle.fields.specs.WorkingWords.{word_in, next_word, word_at}
use Rattle.fields.specs.declared.Word.{Word}
use Rattle.fields.proofs.Identities.{identity-short, identity-kept}
use Rattle.fields.proofs.Groups.{group_tests, group-long, group-kept, no-first, no_second, Parted, parted}
use Rattle.fields.proofs.Words.{value-words, len_is, more-is, last-is}
use Rattle.fields.proofs.Lists.{word_room, word-long, word_copied}
use Rattle.judgement.specs.WorkingRules.{asks_references}
use Rattle.judgement.specs.declared.Judged.{Judged}
use Rattle.records.specs.Record.{pad, key_of, notice, withdrawal}
use Rattle.records.proofs.ZeroFill.{pad-long, pad-whole}
use Rattle.records.proofs.Making.{laid}
use Rattle.records.proofs.Records.{record-long}
use Rattle.ledger.specs.WorkingBoard.{records}
use Rattle.slots.specs.WorkingSlots.{flat}
use Rattle.offers.specs.WorkingRecords.{own_references, own_in, zero_filled_header, named_by, alert_by}
use Rattle.offers.proofs.Taken.{named-good, references-are, map-long, Ready}

-- ---- the notice

-- an identity's front is all of it
identity-back : (v x : List ℕ) → identity_ok v ≡ true → x ≡ map low (take 64 v) → x ≡ v
identity-back v x ok p = p ∙ ap (map low) (take_all 64 v (identity-short v ok)) ∙ keeps v (identity-kept v ok)

pub identity-fits : (v x : List ℕ) → identity_ok v ≡ true → x ≡ map low (take 64 v) → length x ≤ 64
identity-fits v x ok p = omega (arith, ap length (identity-back v x ok p), identity-short v ok)

pub notice-laid : (sent : ℕ) (a b h x y z r : List ℕ) → identity_ok a ≡ true → identity_ok b ≡ true → length h ≤ 243 → x ≡ map low (take 64 a) →
    y ≡ map low (take 64 b) → z ≡ sets (replicate 243 0) 0 h → r ≡ notice (key_of sent x y) (pad 243 z) → r ≡ notice (key_of sent a b) (pad 243 h)
notice-laid sent a b h x y z r oa ob lh px py pz e =
    let qx = identity-back a x oa px in
    let qy = identity-back b y ob py in
    let qz = ap (pad 243) (laid 243 h z lh pz) ∙ pad-whole 243 (pad 243 h) (pad-long 243 h lh) in
    e ∙ (λ i. notice (key_of sent (qx i) (qy i)) (qz i))

-- ---- a withdrawal

-- both commas of a group are there
pub commas : (t : List ℕ) (a b : ℕ) → group_ok t ≡ true → a ≡ 0 + length (up_to 44 (drop 0 t)) → b ≡ a + 1 + length (up_to 44 (drop (a + 1) t)) → Parted t a b
commas t a b ok e f = parted t a e (λ h. true≢false (sym ok ∙ no-first t a e h)) b f (λ h. true≢false (sym ok ∙ no_second t a e b f h))

seconds-are : (x : Option ℕ) → unwrap_or x 0 ≡ instant_in x
seconds-are (Some n) = refl
seconds-are None = refl

module _ (t : List ℕ) (a b : ℕ) (ok : group_ok t ≡ true) (p : Parted t a b) where
  sender : take a t ≡ sender_of t
  sender = ap (λ (k : ℕ). take k t) (let q : a ≡ a - 0 = omega arith in q) ∙ p.sender

  pub sender-fits : a ≡ length (take a t)
  sender-fits = sym (length-take-le a t (omega (arith, p.order, p.inside)))

  pub names-short : (length (take a t) ≤ 64) × (length (take (b - (a + 1)) (drop (a + 1) t)) ≤ 64)
  unfolding group_ok
  names-short =
      let g = each_of (group_tests t) ok in
      (rw sender (identity-short (sender_of t) g.0), rw p.identifier (identity-short (identifier_of t) g.1.0))

  pub group-laid : (n : ℕ) (x : Option ℕ) (r : List ℕ) → x ≡ time_of (take (length t - (b + 1)) (drop (b + 1) t)) → n ≡ unwrap_or x 0 → r ≡ withdrawal (key_of n (take a t) (take (b - (a + 1)) (drop (a + 1) t))) → r ≡ withdrawal (named_by t)
  unfolding named_by
  group-laid n x r e f g =
      let q = f ∙ seconds-are x ∙ ap instant_in (e ∙ ap time_of p.sent) in
      g ∙ (λ i. withdrawal (key_of (q i) (sender i) (p.identifier i)))

pub group-fits : (w : List ℕ) → group_ok w ≡ true → length w ≤ 155
group-fits w ok = go (dec_lt 155 (length w))
  where
    go : Dec (155 < length w) → length w ≤ 155
    go (yes h) = absurd (true≢false (sym ok ∙ group-long w (length w) refl h))
    go (no h) = omega arith

-- the next word of the references, as its copy was put into a buffer of 155 bytes
module _ (s : List ℕ) (at : ℕ) (w : Word) (x : List ℕ) (told : w ≡ word_at s at) (put : x ≡ sets (replicate {A = ℕ} 155 0) 0 (map low (word_in s at))) (ok : group_ok (word_in s at) ≡ true) where
  short : w.len ≤ 155
  short = omega (arith, len_is s at w told, group-fits (word_in s at) ok)

  pub word_fits : w.len ≤ length x
  word_fits = omega (arith, short, word_room s at w x told put)

  pub word_whole : w.len ≡ length (take w.len x)
  word_whole = word-long s at w x told put short

  pub word_back : take w.len x ≡ word_in s at
  word_back = word_copied s at w x told put short ∙ keeps (word_in s at) (group-kept (word_in s at) ok)

  module _ (r : List ℕ) (made : r ≡ withdrawal (named_by (take w.len x))) where
    pub withdrawal-is : r ≡ withdrawal (named_by (word_in s at))
    withdrawal-is = made ∙ ap (λ (l : List ℕ). withdrawal (named_by l)) word_back

    pub withdrawal-long : length r ≡ 384
    withdrawal-long = ap length withdrawal-is ∙ record-long (withdrawal (named_by (word_in s at))) (named-good (word_in s at) ok)

-- ---- the withdrawals

abbrev pub withdrawals : List (List ℕ) → List ℕ
withdrawals ws = flat (map withdrawal (map named_by ws))

-- the references are at `at`, x is the batch d with the records from n to k put, and the words that are left begin at i
pub record Putting (s : List ℕ) (at : ℕ) (d : List ℕ) (n : ℕ) (x : List ℕ) (i k : ℕ) : Type 0 where
  pub groups : every group_ok (words (rest_at s i)) ≡ true
  pub few : length (words (value_at s at)) ≤ 16
  pub counts : k + length (words (rest_at s i)) ≡ n + length (words (value_at s at))
  pub puts : sets x (k * 384) (withdrawals (words (rest_at s i))) ≡ sets d (n * 384) (withdrawals (words (value_at s at)))
  pub long : length x ≡ length d

pub put-starts : (s : List ℕ) (at : ℕ) (d : List ℕ) (n i : ℕ) → references_ok (value_at s at) ≡ true → i ≡ lead_at s at → Putting s at d n d i n
put-starts s at d n i ok e =
    let r = references-are (value_at s at) ok in
    let v = ap (rest_at s) e ∙ value-start s at in
    record {
      groups = ap (λ (l : List ℕ). every group_ok (words l)) v ∙ r.1;
      few = r.0;
      counts = ap (λ (l : List ℕ). n + length (words l)) v;
      puts = ap (λ (l : List ℕ). sets d (n * 384) (withdrawals (words l))) v;
      long = refl;
    }

module _ {s : List ℕ} {at : ℕ} {d : List ℕ} {n : ℕ} {x : List ℕ} {i k : ℕ} (p : Putting s at d n x i k) where
  left : every group_ok (word_in s i ∷ pick (one_of (rest_at s i) 32) (words (rest_at s (next_word s i))) []) ≡ true
  left = sym (ap (every group_ok) (value-words s i)) ∙ p.groups

  pub next-group : group_ok (word_in s i) ≡ true
  next-group = every_first group_ok (word_in s i) _ left

  some : 1 ≤ length (words (rest_at s i))
  some = let e = ap length (value-words s i) in omega arith

  pub next_low : n ≤ 1 → k ≤ 16
  next_low h = let a = p.few in let c = p.counts in let e = some in omega arith

  made : length (withdrawal (named_by (word_in s i))) ≡ 384
  made = record-long (withdrawal (named_by (word_in s i))) (named-good (word_in s i) next-group)

  module _ (w : Word) (y : List ℕ) (told : w ≡ word_at s i) (put : y ≡ sets x (k * 384) (withdrawal (named_by (word_in s i)))) where
    module _ (e : w.next ≡ None) where
      alone : words (rest_at s i) ≡ word_in s i ∷ []
      alone = value-words s i ∙ ap (λ (b : Bool). word_in s i ∷ pick b (words (rest_at s (next_word s i))) []) (last-is s i w told e)

      pub put_last : (k + 1 ≡ n + length (words (value_at s at))) × (y ≡ sets d (n * 384) (withdrawals (words (value_at s at))))
      put_last = (
        sym (ap (λ (ws : List (List ℕ)). k + length ws) alone) ∙ p.counts,
        put ∙ ap (sets x (k * 384)) (sym (append-nil (withdrawal (named_by (word_in s i))))) ∙ sym (ap (λ (ws : List (List ℕ)). sets x (k * 384) (withdrawals ws)) alone) ∙ p.puts,
      )

    module _ (j : ℕ) (e : w.next ≡ Some j) where
      first : words (rest_at s i) ≡ word_in s i ∷ words (rest_at s j)
      first =
          value-words s i
          ∙ ap (λ (b : Bool). word_in s i ∷ pick b (words (rest_at s (next_word s i))) []) (more-is s i w told j e).0
          ∙ ap (λ (q : ℕ). word_in s i ∷ words (rest_at s q)) (sym (more-is s i w told j e).1)

      pub fewer : length (words (rest_at s j)) < length (words (rest_at s i))
      fewer = let q = ap length first in omega arith

      pub put-more : Putting s at d n y j (k + 1)
      put-more =
          let r = withdrawal (named_by (word_in s i)) in
          let m = made in
          let q = ap length first in
          let c = p.counts in
          let at_next : (k + 1) * 384 ≡ k * 384 + length r = omega arith in
          record {
            groups = every_rest group_ok (word_in s i) (words (rest_at s j)) (sym (ap (every group_ok) first) ∙ p.groups);
            few = p.few;
            counts = omega arith;
            puts = ap₂ (λ (z : List ℕ) (o : ℕ). sets z o (withdrawals (words (rest_at s j)))) put at_next
                ∙ sets-append x (k * 384) r (withdrawals (words (rest_at s j)))
                ∙ sym (ap (λ (ws : List (List ℕ)). sets x (k * 384) (withdrawals ws)) first) ∙ p.puts;
            long = ap length put ∙ length-sets x (k * 384) r ∙ p.long;
          }

-- ---- the records of a message that answers 0

flat_append : (a b : List (List ℕ)) → flat (a ++ b) ≡ flat a ++ flat b
flat_append [] b = refl
flat_append (r ∷ a) b = ap (λ (l : List ℕ). r ++ l) (flat_append a b) ∙ sym (append_assoc r (flat a) (flat b))

-- what is put, and how many records it is
abbrev pub Put : List ℕ → List (List ℕ) → ℕ → List ℕ → Type 0
Put d rs n x = (n ≡ length rs) × (x ≡ sets d 0 (flat rs))

module _ (s : List ℕ) (j : Judged) (d : List ℕ) where
  abbrev pub notices : List (List ℕ)
  notices = map (notice (own_in s j.message)) (alert_by s j).carries

  pub put-none : j.quiet ≡ true → (0 ≡ length (alert_by s j).carries) × (d ≡ sets d 0 (flat notices))
  unfolding alert_by
  put-none q = (rw q, rw q)

  pub put_one_lem : (r x : List ℕ) → j.quiet ≡ false → r ≡ notice (own_in s j.message) (zero_filled_header j) → x ≡ sets d 0 r → (1 ≡ length (alert_by s j).carries) × (x ≡ sets d 0 (flat notices))
  unfolding alert_by zero_filled_header
  put_one_lem r x q e p = (rw q, rw q (p ∙ ap (sets d 0) (e ∙ sym (append-nil (notice (own_in s j.message) (zero_filled_header j))))))

  records-are : records (alert_by s j) ≡ notices ++ map withdrawal (alert_by s j).names
  unfolding alert_by
  records-are = refl

  names-are : asks_references j.message.msg_type ≡ true → map withdrawal (alert_by s j).names ≡ map withdrawal (map named_by (words (own_references s j.message)))
  unfolding alert_by
  names-are q = rw q

  notices-long : Ready s j → length (flat notices) ≡ length (alert_by s j).carries * 384
  unfolding alert_by
  notices-long r = go j.quiet refl
    where
      go : (q : Bool) → j.quiet ≡ q → length (flat (map (notice (own_in s j.message)) (pick q [] (zero_filled_header j ∷ [])))) ≡ length (pick q [] (zero_filled_header j ∷ [])) * 384
      go true e = omega arith
      go false e = ap length (append-nil (notice (own_in s j.message) (zero_filled_header j))) ∙ record-long (notice (own_in s j.message) (zero_filled_header j)) (r.notice e)

  module _ (n : ℕ) (x : List ℕ) (t : n ≡ length (alert_by s j).carries) (p : x ≡ sets d 0 (flat notices)) where
    pub put_alone : asks_references j.message.msg_type ≡ false → Put d (records (alert_by s j)) n x
    unfolding alert_by
    put_alone q = rw (q, append-nil) (t ∙ sym (map-long (notice (own_in s j.message)) (alert_by s j).carries), p)

    pub put_both : Ready s j → (m : ℕ) (y : List ℕ) → asks_references j.message.msg_type ≡ true → m ≡ n + length (words (own_references s j.message)) → y ≡ sets x (n * 384) (withdrawals (words (own_references s j.message))) → Put d (records (alert_by s j)) m y
    put_both r m y q c e =
        let ws = words (own_references s j.message) in
        let rest = map withdrawal (map named_by ws) in
        let k = names-are q in
        let from : n * 384 ≡ 0 + length (flat notices) = omega (arith, t, notices-long r) in
        subst (λ (rs : List (List ℕ)). Put d rs m y) (sym records-are) (
          omega (
            arith,
            c,
            t,
            map-long (notice (own_in s j.message)) (alert_by s j).carries,
            length-append notices (map withdrawal (alert_by s j).names),
            ap length k,
            map-long withdrawal (map named_by ws),
            map-long named_by ws,
          ),
          e ∙ ap₂ (λ (z : List ℕ) (o : ℕ). sets z o (flat rest)) p from ∙ sets-append d 0 (flat notices) (flat rest)
              ∙ ap (sets d 0) (sym (flat_append notices rest)) ∙ ap (λ (l : List (List ℕ)). sets d 0 (flat (notices ++ l))) (sym k),
        )
