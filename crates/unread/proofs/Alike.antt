-- What is read of two messages, s and r, alike but for the places: the same counts, and the same values at the places.
--     LeafAs, InfoAs, AlertAs                                     a leaf, an info, an alert
--     both_ways                                                   what holds of both choices holds of what equal tests pick
--     found_as, event-as, parameter-as, location-as, audio-as     what is alike stays so by each step
use Prim.Native.Nat.{ℕ, ◌<◌}
use mathlib.Core.Path.{◌≡◌, refl, sym, ap, ◌∙◌}
use mathlib.Core.Bool.{Bool, true, false, ◌&&◌}
use mathlib.Core.List.{List}
use native.Mathlib.Omega.{arith}
use lib.ListN.{length, get_or, get_or-replicate}
use lib.Dec.{eqb}
use Rattle.octets.specs.Bytes.{pick, same}
use Rattle.octets.specs.Text.{bytes}
use Rattle.values.specs.Value.{value_at}
use Rattle.values.proofs.Steps.{value-past}
use Rattle.reads.specs.WorkingLeaves.{no_leaf, marked, found, sound_of, pair_ok, no_info, nothing_read}
use Rattle.reads.specs.WorkingSteps.{says, event_step, row_step, parameter_step, location_step, audio_of, is_audio, audio_step, english}
use Rattle.reads.specs.declared.Leaf.{Leaf}
use Rattle.reads.specs.declared.Events.{Events}
use Rattle.reads.specs.declared.Parameters.{Parameters}
use Rattle.reads.specs.WorkingParameters.{ReadParameter, exactly, read_parameters, parameter_count, is_of}
use Rattle.reads.proofs.ParameterRows.{row_step_lem, rows_long}
use Rattle.reads.specs.declared.Locations.{Locations}
use Rattle.reads.specs.declared.Audio.{Audio}
use Rattle.reads.specs.declared.Info.{Info}
use Rattle.reads.specs.declared.Alert.{Alert}

-- what holds of both choices holds of those that two equal tests pick
pub both_ways : {A B : Type 0} (R : A → B → Type 0) (b c : Bool) (x y : A) (z w : B) → b ≡ c → R x z → R y w → R (pick b x y) (pick c z w)
both_ways R true true x y z w e h k = h
both_ways R false false x y z w e h k = k
both_ways R true false x y z w e h k = absurd (let n : ◌≡◌ {A = ℕ} 0 1 = cc in omega arith)
both_ways R false true x y z w e h k = absurd (let n : ◌≡◌ {A = ℕ} 0 1 = cc in omega arith)

module _ (s r : List ℕ) where
  pub record LeafAs (l m : Leaf) : Type 0 where
    pub count : l.count ≡ m.count
    pub value : value_at s l.at ≡ value_at r m.at
    pub holds : l.holds ≡ m.holds

  pub record EventsAs (x y : Events) : Type 0 where
    pub same : LeafAs x.same y.same
    pub fault : x.fault ≡ y.fault

  pub record ParametersAs (x y : Parameters) : Type 0 where
    pub all : length x.leaf ≡ parameter_count
    pub as_many : length y.leaf ≡ parameter_count
    pub each : (k : ℕ) → k < parameter_count → LeafAs (get_or x.leaf k (no_leaf 0)) (get_or y.leaf k (no_leaf 0))
    pub fault : x.fault ≡ y.fault

  pub record AudioAs (x y : Audio) : Type 0 where
    pub number : x.number ≡ y.number
    pub uri : value_at s x.uri ≡ value_at r y.uri
    pub fault : x.fault ≡ y.fault

  abbrev pub InfoLeafAs : ℕ → Info → Info → Type 0
  InfoLeafAs k i j = LeafAs (get_or i.leaf k (no_leaf 0)) (get_or j.leaf k (no_leaf 0))

  pub record InfoAs (i j : Info) : Type 0 where
    pub language : InfoLeafAs 0 i j
    pub expires : InfoLeafAs 1 i j
    pub sender_name : InfoLeafAs 2 i j
    pub description : InfoLeafAs 3 i j
    pub instruction : InfoLeafAs 4 i j
    pub events : EventsAs i.events j.events
    pub parameters : ParametersAs i.parameters j.parameters
    pub locations : i.locations ≡ j.locations
    pub audio : AudioAs i.audio j.audio

  abbrev pub AlertLeafAs : ℕ → Alert → Alert → Type 0
  AlertLeafAs k a b = LeafAs (get_or a.leaf k (no_leaf 0)) (get_or b.leaf k (no_leaf 0))

  pub record AlertAs (a b : Alert) : Type 0 where
    pub identifier : AlertLeafAs 0 a b
    pub sender : AlertLeafAs 1 a b
    pub sent : AlertLeafAs 2 a b
    pub status : AlertLeafAs 3 a b
    pub msg_type : AlertLeafAs 4 a b
    pub scope : AlertLeafAs 5 a b
    pub references : AlertLeafAs 6 a b
    pub kept : a.kept ≡ b.kept
    pub info : InfoAs a.info b.info
    pub fault : a.fault ≡ b.fault

  -- ---- nothing read

  pub blank-as : LeafAs (no_leaf (length s)) (no_leaf (length r))
  blank-as = record { count = refl; value = value-past s (length s) (omega arith) ∙ sym (value-past r (length r) (omega arith)); holds = refl }

  pub no-events-as : EventsAs (no_info (length s)).events (no_info (length r)).events
  no-events-as = record { same = blank-as; fault = refl }

  pub no-parameters-as : ParametersAs (no_info (length s)).parameters (no_info (length r)).parameters
  no-parameters-as = record {
    all = refl;
    as_many = refl;
    each = λ k h.
        rw (
          get_or-replicate parameter_count k (no_leaf (length s)) (no_leaf 0) h,
          get_or-replicate parameter_count k (no_leaf (length r)) (no_leaf 0) h,
        )
        blank-as;
    fault = refl;
  }

  pub no-audio-as : AudioAs (no_info (length s)).audio (no_info (length r)).audio
  no-audio-as = record { number = refl; uri = blank-as.value; fault = refl }

  pub no-info-as : InfoAs (no_info (length s)) (no_info (length r))
  no-info-as = record {
    language = blank-as;
    expires = blank-as;
    sender_name = blank-as;
    description = blank-as;
    instruction = blank-as;
    events = no-events-as;
    parameters = no-parameters-as;
    locations = refl;
    audio = no-audio-as;
  }

  pub fresh-as : AlertAs (nothing_read (length s)).alert (nothing_read (length r)).alert
  fresh-as = record {
    identifier = blank-as;
    sender = blank-as;
    sent = blank-as;
    status = blank-as;
    msg_type = blank-as;
    scope = blank-as;
    references = blank-as;
    kept = refl;
    info = no-info-as;
    fault = refl;
  }

  -- ---- a leaf more

  pub marked-as : (b : Bool) (l m : Leaf) → LeafAs l m → LeafAs (pick b (marked l) l) (pick b (marked m) m)
  marked-as true l m h = record { count = h.count; value = h.value; holds = refl }
  marked-as false l m h = h

  pub found_as : (l m : Leaf) (i j : ℕ) → LeafAs l m → value_at s i ≡ value_at r j → LeafAs (found l i) (found m j)
  found_as l m i j h v = record { count = ap (λ (n : ℕ). pick (eqb n 0) 1 2) h.count; value = go; holds = h.holds }
    where
      Same : ℕ → ℕ → Type 0
      Same x y = value_at s x ≡ value_at r y

      go : Same (pick (eqb l.count 0) i l.at) (pick (eqb m.count 0) j m.at)
      go = both_ways Same (eqb l.count 0) (eqb m.count 0) _ _ _ _ (ap (λ (n : ℕ). eqb n 0) h.count) v h.value

  -- ---- what is asked of leaves

  pub sound-as : (l m : Leaf) → LeafAs l m → sound_of l ≡ sound_of m
  unfolding sound_of
  sound-as l m h = rw (h.count, h.holds)

  pub pair-as : (l m x y : Leaf) → LeafAs l m → LeafAs x y → pair_ok l x ≡ pair_ok m y
  unfolding pair_ok sound_of
  pair-as l m x y h k = rw (h.count, k.count, h.holds, k.holds)

  pub says-as : (l m : Leaf) (w : List ℕ) → LeafAs l m → says s l.at w ≡ says r m.at w
  says-as l m w h = ap (λ (v : List ℕ). same v w) h.value

  pub english-as : (l m : Leaf) → LeafAs l m → english s l ≡ english r m
  unfolding english
  english-as l m h = rw h.value

  -- ---- steps

  module _ (l m v w : Leaf) (a : LeafAs l m) (b : LeafAs v w) where
    pub event-as : (x y : Events) → EventsAs x y → EventsAs (event_step s x l v) (event_step r y m w)
    unfolding event_step
    event-as x y h =
        both_ways EventsAs (pair_ok l v) (pair_ok m w) _ _ _ _ (pair-as l m v w a b)
        (both_ways EventsAs (says s l.at (bytes "SAME")) (says r m.at (bytes "SAME")) _ _ _ _ (says-as l m (bytes "SAME") a)
        (record { same = found_as x.same y.same v.at w.at h.same b.value; fault = h.fault }) h)
        (record { same = h.same; fault = refl })

    row_as : (row : ReadParameter) (x y : Leaf) → LeafAs x y → LeafAs (row_step s l v row x) (row_step r m w row y)
    row_as row x y h =
        both_ways LeafAs (is_of row (value_at s l.at) (value_at s v.at)) (is_of row (value_at r m.at) (value_at r w.at)) _ _ _ _ (rw (a.value, b.value))
        (found_as x y v.at w.at h b.value) h

    pub parameter-as : (x y : Parameters) → ParametersAs x y → ParametersAs (parameter_step s x l v) (parameter_step r y m w)
    unfolding parameter_step
    parameter-as x y h =
        both_ways ParametersAs (pair_ok l v) (pair_ok m w) _ _ _ _ (pair-as l m v w a b)
        (record {
          all = rows_long s l v read_parameters x.leaf h.all;
          as_many = rows_long r m w read_parameters y.leaf h.as_many;
          each = λ k q.
              rw (
                row_step_lem s l v read_parameters x.leaf h.all k q,
                row_step_lem r m w read_parameters y.leaf h.as_many k q,
              )
              (row_as (get_or read_parameters k (exactly "")) _ _ (h.each k q));
          fault = h.fault;
        })
        (record { all = h.all; as_many = h.as_many; each = h.each; fault = refl })

    pub location-as : (x y : Locations) → x ≡ y → location_step s x l v ≡ location_step r y m w
    unfolding location_step
    location-as x y h = rw (h, pair-as l m v w a b, a.value, b.value)

    pub audio-is : audio_of s l.at ≡ audio_of r m.at
    unfolding audio_of
    audio-is = rw a.value

    pub audio-as : (x y : Audio) → AudioAs x y → AudioAs (audio_step s x l v) (audio_step r y m w)
    unfolding audio_step
    audio-as x y h =
        both_ways AudioAs (sound_of l && sound_of v) (sound_of m && sound_of w) _ _ _ _ (rw (sound-as l m a, sound-as v w b))
        (both_ways AudioAs (eqb x.number 0 && is_audio s l v) (eqb y.number 0 && is_audio r m w) _ _ _ _ (rw (h.number, audio-is, b.value))
        (record { number = audio-is; uri = b.value; fault = h.fault }) h)
        (record { number = h.number; uri = h.uri; fault = refl })
