-- The leaves of the alert of a message s, said on its tree: the fields at fault.
--     field_is       the field is the lowest of 1 to 7 at fault, and 0 where none is
--     place-test     a test of the place of a leaf's value among the values that it may have
--     typed-once     the msgType of a leaf's value
--     faultless      what holds of the leaves where no field is at fault
use Prim.Native.Nat.{ℕ}
use Prim.Native.String.{String}
use mathlib.Core.Path.{◌≡◌, refl, sym}
use mathlib.Core.Bool.{Bool, true, false, ◌&&◌, ◌||◌, not}
use mathlib.Core.List.{List, [], ◌∷◌}
use lib.Dec.{eqb}
use Rattle.octets.specs.Bytes.{pick, every, is_visible}
use Rattle.clock.specs.Time.{time_of, is_time}
use Rattle.std.specs.Prelude.{Option, None}
use Rattle.fields.specs.Fields as fields
use Rattle.fields.specs.WorkingFields as working-fields
use Rattle.fields.specs.WorkingFields.{group_ok, references_ok}
use Rattle.fields.specs.declared.MsgType.{MsgType}
use Rattle.faults.specs.WorkingField.{lowest}
use Rattle.markup.specs.Tree.{Forest, One, one, none}
use Rattle.markup.specs.Document.{doc_at}
use Rattle.reads.specs.declared.Alert.{Alert}
use Rattle.gather.specs.WorkingRead.{leaf_in, alert_of}
use Rattle.leaves.proofs.Reals.{AllReal, leaf-is}
use Rattle.message.specs.WorkingJudged.{identified, timed, place_among, typed, is_unknown, info_ok, field_of}
use Rattle.judgement.specs.WorkingRules.{referenced}
use Rattle.told.specs.Values.{is_one, value_of, once, info_sound, languages_sound}
use Rattle.told.proofs.Leaves.{leaf-once, leaf-value}
use Rattle.told.proofs.Alerts.{info-sound, selected-tells, selected-real, languages-fault}
use Rattle.demands.specs.Message.{content_in, prefix, alert, info, sent}
use Rattle.demands.specs.Numbers.{row, lowest_in, none_applies, is_identity, are_groups, field_rows}
use Rattle.demands.proofs.Rows.{none-lowest, each-off}
use Rattle.demands.proofs.Indices.{distinct, places_pass, index-test, index-none}
use Rattle.demands.proofs.MsgTypes.{msg_types, unknown-is}

-- ---- one leaf

module _ (s p : List ℕ) (w : String) (t : Forest) (r : AllReal s t) where
  identified-is : identified s (leaf_in s p w t) ≡ (once s p w t && is_identity (value_of s p w t))
  unfolding identified fields.identity_ok fields.is_identity_byte is_visible
  identified-is = rw (leaf-once s p w t r, leaf-value s p w t r)

  pub timed-is : timed s (leaf_in s p w t) ≡ pick (once s p w t) (time_of (value_of s p w t)) None
  unfolding timed
  timed-is = rw (leaf-once s p w t r, leaf-value s p w t r)

  pub referenced-is : referenced s (leaf_in s p w t) ≡ (once s p w t && are_groups (value_of s p w t))
  unfolding referenced references_ok group_ok fields.identity_ok fields.is_identity_byte is_visible
  referenced-is = rw (leaf-once s p w t r, leaf-value s p w t r)

  valued-is : (ws : List String) → place_among s ws (leaf_in s p w t) ≡ pick (once s p w t) (working-fields.index_in ws (value_of s p w t)) 0
  unfolding place_among
  valued-is ws = rw (leaf-once s p w t r, leaf-value s p w t r)

  unvalued-is : (ws : List String) → eqb (place_among s ws (leaf_in s p w t)) 0 ≡ not (once s p w t && is_one ws (value_of s p w t))
  unvalued-is ws = rw (valued-is ws) (go (once s p w t))
    where
      go : (b : Bool) → eqb (pick b (working-fields.index_in ws (value_of s p w t)) 0) 0 ≡ not (b && is_one ws (value_of s p w t))
      go true = index-none ws (value_of s p w t)
      go false = refl

  typed-is : typed s (leaf_in s p w t) ≡ pick (once s p w t) (working-fields.msg_type_in (value_of s p w t)) MsgType.Unknown
  unfolding typed
  typed-is = rw (leaf-once s p w t r, leaf-value s p w t r)

  untyped-is : is_unknown (typed s (leaf_in s p w t)) ≡ not (once s p w t && is_one msg_types (value_of s p w t))
  untyped-is = rw typed-is (go (once s p w t))
    where
      go : (b : Bool) → is_unknown (pick b (working-fields.msg_type_in (value_of s p w t)) MsgType.Unknown) ≡ not (b && is_one msg_types (value_of s p w t))
      go true = unknown-is (value_of s p w t)
      go false = refl

  pub typed-once : once s p w t ≡ true → typed s (leaf_in s p w t) ≡ working-fields.msg_type_in (value_of s p w t)
  typed-once o = rw (typed-is, o)

  pub place-test : (f : ℕ → Bool) → f 0 ≡ false → (ws : List String) → distinct ws ≡ true → once s p w t ≡ true →
      f (place_among s ws (leaf_in s p w t)) ≡ is_one (places_pass f ws) (value_of s p w t)
  place-test f z ws d o = rw (valued-is ws, o) (index-test f z ws d (value_of s p w t))

-- ---- the alert

pub alert-real : (s : List ℕ) → AllReal s (alert s)
alert-real s = go (doc_at s) refl
  where
    go : (o : One) → doc_at s ≡ o → AllReal s (content_in o)
    go (one g kids e) q = leaf-is s g kids e q
    go none q = tt

-- what is read in it
abbrev pub read : List ℕ → Alert
read s = alert_of s (prefix s) (alert s)

-- ---- the fields at fault

lowest-is : (a b c d e f g : Bool) →
    lowest (a ∷ b ∷ c ∷ d ∷ e ∷ f ∷ g ∷ []) ≡ lowest_in (row 1 a ∷ row 2 b ∷ row 3 c ∷ row 4 d ∷ row 5 e ∷ row 6 f ∷ row 7 g ∷ [])
unfolding lowest_in
lowest-is true b c d e f g = refl
lowest-is false true c d e f g = refl
lowest-is false false true d e f g = refl
lowest-is false false false true e f g = refl
lowest-is false false false false true f g = refl
lowest-is false false false false false true g = refl
lowest-is false false false false false false true = refl
lowest-is false false false false false false false = refl

time-read : (b : Bool) (x : Option ℕ) → is_time (pick b x None) ≡ (b && is_time x)
time-read true x = refl
time-read false x = refl

or-not : (a b : Bool) → (not a || not b) ≡ not (a && b)
or-not true b = refl
or-not false b = refl

module _ (s : List ℕ) where
  others-faulty : ((read s).fault || not (info_ok (read s).info)) ≡ not (languages_sound s (prefix s) (alert s) && info_sound s (prefix s) (info s))
  others-faulty =
      let p = prefix s in
      let t = alert s in
      let r = alert-real s in
      rw (languages-fault s p t r, selected-tells s p t r, info-sound s p (info s) (selected-real s p t r))
      (or-not (languages_sound s p t) (info_sound s p (info s)))

  pub field_is : field_of s (read s) ≡ lowest_in (field_rows s)
  unfolding alert_of
  field_is =
      let p = prefix s in
      let t = alert s in
      let r = alert-real s in
      rw (
        identified-is s p "identifier" t r,
        identified-is s p "sender" t r,
        timed-is s p "sent" t r,
        time-read (once s p "sent" t) (time_of (sent s)),
        unvalued-is s p "status" t r working-fields.statuses,
        untyped-is s p "msgType" t r,
        unvalued-is s p "scope" t r working-fields.scopes,
        others-faulty,
      )
      (lowest-is _ _ _ _ _ _ _)

-- ---- none at fault

pub record Faultless (s : List ℕ) : Type 0 where
  pub none-at-fault : lowest_in (field_rows s) ≡ 0
  pub sent-once : once s (prefix s) "sent" (alert s) ≡ true
  pub status-once : once s (prefix s) "status" (alert s) ≡ true
  pub type-once : once s (prefix s) "msgType" (alert s) ≡ true
  pub scope-once : once s (prefix s) "scope" (alert s) ≡ true
  pub info-sound : info_sound s (prefix s) (info s) ≡ true

pub faultless : (s : List ℕ) → none_applies (field_rows s) ≡ true → Faultless s
unfolding every
faultless s h =
    let p = prefix s in
    let t = alert s in
    record {
      none-at-fault = (none-lowest (field_rows s) refl).1 h;
      sent-once = first (once s p "sent" t) _ (each-off 2 (field_rows s) h);
      status-once = first (once s p "status" t) _ (each-off 3 (field_rows s) h);
      type-once = first (once s p "msgType" t) _ (each-off 4 (field_rows s) h);
      scope-once = first (once s p "scope" t) _ (each-off 5 (field_rows s) h);
      info-sound = second (languages_sound s p t) _ (each-off 6 (field_rows s) h);
    }
  where
    first : (a b : Bool) → not (a && b) ≡ false → a ≡ true
    first true b h = refl
    first false b h = sym h

    second : (a b : Bool) → not (a && b) ≡ false → b ≡ true
    second true true h = refl
    second true false h = sym h
    second false b h = cc
