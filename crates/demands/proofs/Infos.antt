-- What is said in the selected info of a message s, on its tree, where no field is at fault.
--     told             its events, parameters, locations, audio and leaves
--     event-said, known-said, places-said, ended-said      what 11, 12, 13 and 14 ask
--     quiet-said       whether it is a quiet Cancel
use Prim.Native.Nat.{ℕ, zero, suc, ◌-◌, ◌<◌, min}
use mathlib.Core.Path.{◌≡◌, refl, sym, ◌∙◌, subst}
use mathlib.Core.Bool.{Bool, true, false, ◌&&◌, ◌||◌, not, and-true, and-false}
use mathlib.Core.List.{List, [], ◌∷◌, ◌++◌, map}
use native.Mathlib.Omega.{arith}
use native.Mathlib.Decide.{dec_lt}
use borrow.Author.Tests.{eq-eqb, ne_eqb, lt-ltb, le-ltb}
use lib.Dec.{eqb, ltb}
use lib.ListN.{length, get_or}
use Rattle.octets.specs.Bytes.{pick, every, same}
use Rattle.octets.specs.Text.{bytes}
use Rattle.octets.proofs.Tests.{each_of, every_first, every_rest}
use Rattle.clock.specs.Time.{time_of, is_time, instant_in}
use Rattle.values.specs.Value.{value_at}
use Rattle.parts.specs.Originator.{originator_bytes, originator_of, is_known}
use Rattle.parts.specs.Parts.{event_ok}
use Rattle.parts.specs.declared.Originator.TheVariants.{Pep, Eas, Wxr, Civ}
use Rattle.std.specs.Prelude.{Option, Some, None}
use Rattle.reads.specs.WorkingLeaves.{no_leaf, eas_org_leaf}
use Rattle.reads.specs.declared.Info.{Info}
use Rattle.reads.specs.declared.Leaf.{Leaf}
use Rattle.reads.specs.declared.Locations.{Locations}
use Rattle.gather.specs.Read.{Element, named}
use Rattle.gather.specs.WorkingRead.{info_of}
use Rattle.leaves.specs.Leaf.{leaf_value}
use Rattle.message.specs.WorkingMessage.{judged}
use Rattle.judgement.specs.WorkingRules.{event_is, origin_of, located, seconds_to, unplaced, quiet_of}
use Rattle.judgement.specs.WorkingJudged.{lasting}
use Rattle.told.specs.Values.{is_none, passing, first_value, is, is_one, parameters, is_six, audio_in}
use Rattle.told.proofs.Leaves.{leaf-value, leaf-none}
use Rattle.told.proofs.Infos.{FoundTells, events-tell, ParametersTell, parameters-tell, AudioTells, audio-tells}
use Rattle.told.proofs.Locations.{LocationsTell, locations-tell}
use Rattle.told.proofs.Alerts.{selected-tells, selected-none, selected-real}
use Rattle.demands.specs.Message.{prefix, alert, info, expires, sender_name, description, instruction, events, locations, parameters_named, originator, is_quiet}
use Rattle.demands.specs.Message.{sent_seconds, expires_seconds}
use Rattle.demands.specs.Numbers.{is_event}
use Rattle.demands.proofs.Fields.{alert-real, read, Faultless}
use Rattle.demands.proofs.Alerts.{said, sent-said, cancel-said}

-- ---- what is read

-- the value of the leaf k: 1 expires, 2 senderName, 3 description, 4 instruction
abbrev pub leaf_of : Info → ℕ → Leaf
leaf_of i k = get_or i.leaf k (no_leaf 0)

pub record Told (s : List ℕ) (i : Info) : Type 0 where
  pub events : FoundTells s i.events.same (events s)
  pub parameters : ParametersTell s i.parameters (parameters s (prefix s) (info s))
  pub locations : LocationsTell i.locations (locations s)
  pub audio : AudioTells s i.audio (audio_in s (prefix s) (info s))
  pub endless : eqb (leaf_of i 1).count 0 ≡ is_none (named s (prefix s) "expires" (info s))
  pub expires : value_at s (leaf_of i 1).at ≡ expires s
  pub sender_name : value_at s (leaf_of i 2).at ≡ sender_name s
  pub description : value_at s (leaf_of i 3).at ≡ description s
  pub instruction : value_at s (leaf_of i 4).at ≡ instruction s

pub told : (s : List ℕ) → Faultless s → Told s (read s).info
unfolding info_of
told s k =
    let p = prefix s in
    let t = info s in
    let r = selected-real s p (alert s) (alert-real s) in
    let e = each_of _ k.info-sound in
    subst (Told s) (sym (selected-tells s p (alert s) (alert-real s)))
    (record {
      events = events-tell s p t r e.1.1.1.1.0;
      parameters = parameters-tell s p t r e.1.1.1.1.1.0;
      locations = locations-tell s p t r e.1.1.1.1.1.1.0;
      audio = audio-tells s p t r e.1.1.1.1.1.1.1.0;
      endless = leaf-none s p "expires" t r;
      expires = leaf-value s p "expires" t r;
      sender_name = leaf-value s p "senderName" t r;
      description = leaf-value s p "description" t r;
      instruction = leaf-value s p "instruction" t r;
    })

-- ---- found, counted to two

two_none : (vs : List (List ℕ)) → eqb (min 2 (length vs)) 0 ≡ is_none vs
two_none [] = refl
two_none (v ∷ vs) = ne_eqb (min 2 (length (v ∷ vs))) 0 (omega arith)

two-one : (n : ℕ) → eqb (min 2 n) 1 ≡ eqb n 1
two-one zero = refl
two-one (suc zero) = refl
two-one (suc (suc n)) = ne_eqb (min 2 (suc (suc n))) 1 (omega arith) ∙ sym (ne_eqb (suc (suc n)) 1 (omega arith))

-- ---- locations

pub all_pass : (f : List ℕ → Bool) (vs : List (List ℕ)) → every f vs ≡ true → passing f vs ≡ vs
all_pass f [] h = refl
all_pass f (v ∷ vs) h = rw (every_first f v vs h, all_pass f vs (every_rest f v vs h))

six-none : (vs : List (List ℕ)) → every is_six vs ≡ true → eqb (min 31 (length (passing is_six vs))) 0 ≡ is_none vs
six-none [] h = refl
six-none (v ∷ vs) h = rw (all_pass is_six (v ∷ vs) h) (ne_eqb (min 31 (length (v ∷ vs))) 0 (omega arith))

one-bad : (vs : List (List ℕ)) → every is_six vs ≡ false → is_none vs ≡ false
unfolding every
one-bad [] h = h
one-bad (v ∷ vs) h = refl

module _ (l : Locations) (vs : List (List ℕ)) (t : LocationsTell l vs) where
  unplaced-is : unplaced l ≡ is_none vs
  unfolding unplaced every
  unplaced-is = go (every is_six vs) refl
    where
      go : (b : Bool) → every is_six vs ≡ b → unplaced l ≡ is_none vs
      go true e = rw (t.bad, t.count, e, six-none vs e) (and-true (is_none vs))
      go false e = rw (t.bad, e, one-bad vs e)

  located-is : located l ≡ (not (is_none vs) && every is_six vs)
  unfolding located every
  located-is = go (every is_six vs) refl
    where
      go : (b : Bool) → every is_six vs ≡ b → located l ≡ (not (is_none vs) && every is_six vs)
      go true e = rw (t.bad, t.count, e, six-none vs e)
      go false e = rw (t.bad, e, and-false (not (is_none vs)))

-- ---- the originator

known_is : (v : List ℕ) → is_known (originator_of v) ≡ is_one ("PEP" ∷ "EAS" ∷ "WXR" ∷ "CIV" ∷ []) v
unfolding originator_of originator_bytes
known_is v = go (is "PEP" v) (is "EAS" v) (is "WXR" v) (is "CIV" v)
  where
    go : (a b c d : Bool) →
        is_known (pick a (Some Pep) (pick b (Some Eas) (pick c (Some Wxr) (pick d (Some Civ) None)))) ≡ (a || (b || (c || (d || false))))
    go true b c d = refl
    go false true c d = refl
    go false false true d = refl
    go false false false true = refl
    go false false false false = refl

-- absent means CIV
first-origin : (vs : List (List ℕ)) → pick (is_none vs) (Some Civ) (originator_of (first_value vs)) ≡ originator_of (first_value (vs ++ (bytes "CIV" ∷ [])))
unfolding originator_of originator_bytes same bytes
first-origin [] = refl
first-origin (v ∷ vs) = refl

-- ---- expires

-- not after: 0 seconds are left
left-none : (x : Option ℕ) (n : ℕ) → eqb (instant_in x - n) 0 ≡ not (is_time x && ltb n (instant_in x))
left-none None n = eq-eqb (0 - n) 0 (omega arith)
left-none (Some m) n = go (dec_lt n m)
  where
    go : Dec (n < m) → eqb (m - n) 0 ≡ not (ltb n m)
    go (yes l) = rw (lt-ltb n m l) (ne_eqb (m - n) 0 (omega arith))
    go (no l) = rw (le-ltb n m (omega arith)) (eq-eqb (m - n) 0 (omega arith))

-- absent leaves none
seconds-left : (f : Element → List ℕ) (es : List Element) (n : ℕ) →
    pick (is_none es) 0 (instant_in (time_of (first_value (map f es))) - n) ≡ instant_in (time_of (first_value (map f es))) - n
unfolding time_of every
seconds-left f [] n = omega arith
seconds-left f (e ∷ es) n = refl

-- ---- what is said

-- what 11 to 14 ask of a message that is not quiet
abbrev pub has_event : List ℕ → Bool
has_event s = eqb (length (events s)) 1 && is_event (first_value (events s))

abbrev pub has_origin : List ℕ → Bool
has_origin s = is_one ("PEP" ∷ "EAS" ∷ "WXR" ∷ "CIV" ∷ []) (originator s)

abbrev pub has_places : List ℕ → Bool
has_places s = not (is_none (locations s)) && every is_six (locations s)

abbrev pub has_end : List ℕ → Bool
has_end s = is_time (time_of (expires s)) && ltb (sent_seconds s) (expires_seconds s)

one-lacks : (a b c d : Bool) → not (not a && (not b && (not c && (not d && true)))) ≡ (a || (b || (c || d)))
one-lacks true b c d = refl
one-lacks false true c d = refl
one-lacks false false true d = refl
one-lacks false false false true = refl
one-lacks false false false false = refl

module _ (s : List ℕ) (k : Faultless s) where
  pub event-said : event_is s (read s).info.events.same ≡ has_event s
  unfolding event_is event_ok
  event-said = let x = (told s k).events in rw (x.count, two-one (length (events s)), x.value)

  pub origin-said : origin_of s (eas_org_leaf (read s).info) ≡ originator_of (originator s)
  unfolding origin_of
  origin-said =
      let x = (told s k).parameters.each 0 (omega arith) in
      let vs = parameters_named "EAS-ORG" s in
      rw (x.count, two_none vs, x.value) (first-origin vs)

  pub known-said : is_known (origin_of s (eas_org_leaf (read s).info)) ≡ has_origin s
  known-said = rw origin-said (known_is (originator s))

  pub places-said : located (read s).info.locations ≡ has_places s
  places-said = located-is (read s).info.locations (locations s) (told s k).locations

  pub lasting-said : lasting s (said s) ≡ expires_seconds s - sent_seconds s
  unfolding judged seconds_to
  lasting-said =
      let t = told s k in
      rw (sent-said s k, t.endless, t.expires)
      (seconds-left (λ (e : Element). leaf_value s e.holds) (named s (prefix s) "expires" (info s)) (sent_seconds s))

  pub ended-said : eqb (lasting s (said s)) 0 ≡ not (has_end s)
  ended-said = rw lasting-said (left-none (time_of (expires s)) (sent_seconds s))

  pub quiet-said : quiet_of (said s) ≡ is_quiet s
  unfolding quiet_of judged every
  quiet-said =
      let p = prefix s in
      let t = told s k in
      rw (
        cancel-said s k,
        selected-none s p (alert s),
        t.events.count,
        two_none (events s),
        unplaced-is (read s).info.locations (locations s) t.locations,
        t.endless,
        one-lacks (is_none (named s p "info" (alert s))) (is_none (events s)) (is_none (locations s)) (is_none (named s p "expires" (info s))),
      )
