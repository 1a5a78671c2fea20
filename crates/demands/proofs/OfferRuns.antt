-- Messages that are offered to a board, and the ledger's alerts that the taken ones of them leave.
--     in-alerts                          an alert is left by a taken message
--     all-records, all-shaped            the alerts' records keep their rules, and their fields have their lengths
--     taken-offer, runs                  an offer of a message, and a run of offers, are those of the alerts
--     carried-by                         a header that an alert carries and none names is one that a taken message carried
use Prim.Native.Nat.{ℕ, ◌/◌, ◌%◌, ◌≤◌}
use mathlib.Core.Bool.{Bool, true, false, true≢false}
use mathlib.Core.Path.{◌≡◌, refl, sym, ap, ap₂, ◌∙◌, subst}
use mathlib.Core.Logic.{inl, ⊎_elim, ◌↔◌}
use mathlib.Core.List.{List, [], ◌∷◌, ◌++◌, map}
use native.Mathlib.Omega.{arith}
use borrow.Author.Tests.{eq-eqb}
use Rattle.octets.specs.Bytes.{pick}
use Rattle.clock.specs.Stamp.{stamp_of}
use Rattle.clock.proofs.Times.{instant-low}
use Rattle.clock.proofs.Stamps.{stamp-fits}
use Rattle.parts.specs.declared.Body.{Body}
use Rattle.header.specs.Body.{body_bytes}
use Rattle.judgement.specs.WorkingJudged.{judged_of}
use Rattle.records.specs.Record.{sent_in, be2, dated, carried, record_ok, pad, notice}
use Rattle.records.proofs.Records.{sent_back}
use Rattle.records.proofs.Carried.{carried-notice}
use Rattle.ledger.specs.Sorted.{In}
use Rattle.ledger.specs.WorkingBoard.{Alert, records, Shaped, Carried}
use Rattle.ledger.proofs.Sorts.{every_in, in_map}
use Rattle.board.specs.WorkingRules.{Records}
use Rattle.board.specs.WorkingCalls as calls
use Rattle.board.specs.WorkingRuns.{offers_to, AllTaken, AllRuled}
use Rattle.offers.specs.WorkingRecords.{zero_filled_header, alert_by, records_of}
use Rattle.offers.specs.Offer.{MessageOffering}
use Rattle.offers.specs.WorkingOffer.{offer_given, message_offer}
use Rattle.offers.proofs.Taken.{shaped, records-ok}
use Rattle.offers.proofs.Offering.{offer-zero}
use Rattle.told.specs.Values.{passing}
use Rattle.demands.specs.Calls.{library}
use Rattle.demands.specs.Message.{identifier, sender, sent, sent_seconds, is_quiet}
use Rattle.demands.specs.Board.{own_key, own_header, own_dated, named_keys}
use Rattle.demands.specs.Numbers.{none_applies, taken_rows, is_board}
use Rattle.demands.specs.Runs.{after_offers, NoneFull, Takes, CarriedBy}
use Rattle.demands.proofs.Messages.{quiet_is, body_is, key-is, names-are}
use Rattle.demands.proofs.Members.{in-passing}
use Rattle.demands.proofs.Outcomes.{offer-cases}
use Rattle.demands.proofs.Demand3Calls.{takes-is, offer-keeps, taken-exactly}

-- what a taken message leaves
abbrev pub alert_of : List ℕ → Alert
alert_of m = alert_by m (judged_of m)

abbrev takes : List ℕ → Bool
takes m = none_applies (taken_rows m)

abbrev pub alerts_of : List (List ℕ) → List Alert
alerts_of ms = map alert_of (passing takes ms)

pub in-alerts : (ms : List (List ℕ)) (a : Alert) → In a (alerts_of ms) ↔ ((m : List ℕ) × In m ms × Takes m × (a ≡ alert_of m))
in-alerts ms a =
    let f = in_map alert_of a (passing takes ms) in (
      λ i. let w = f.0 i in let v = (in-passing takes w.0 ms).0 w.1 in (w.0, v.0, v.1, w.2),
      λ w. f.1 (w.0, (in-passing takes w.0 ms).1 (w.1, w.2), w.3),
    )

-- ---- one message that is taken

module _ (m : List ℕ) (t : Takes m) where
  zero : (judged_of m).number ≡ 0
  zero = (takes-is m).0 t

  left : records_of m ≡ records (alert_of m)
  unfolding records_of
  left = rw (eq-eqb (judged_of m).number 0 zero)

  pub alert-records : Records (records (alert_of m))
  alert-records = subst Records left (every_in record_ok (records_of m) (records-ok m))

  -- an offer of it is one of its records
  pub taken-offer : (b : List ℕ) → message_offer b m ≡ offer_given (calls.offer_of b (records (alert_of m)))
  taken-offer b = offer-zero b m zero ∙ ap (λ (rs : List (List ℕ)). offer_given (calls.offer_of b rs)) left

-- and one that is not changes nothing
pub not_taken : (b m : List ℕ) → takes m ≡ false → (message_offer b m).bytes ≡ b
not_taken b m f = offer-cases b m (λ (o : MessageOffering). o.bytes ≡ b) (λ n g k. refl) (λ t. absurd (true≢false (sym ((takes-is m).1 t.judged) ∙ f)))

pub all-records : (ms : List (List ℕ)) → AllRuled (alerts_of ms)
all-records ms a i = let w = (in-alerts ms a).0 i in subst (λ (x : Alert). Records (records x)) (sym w.3) (alert-records w.0 w.2)

pub all-shaped : (ms : List (List ℕ)) (a : Alert) → In a (alerts_of ms) → Shaped a
all-shaped ms a i = let w = (in-alerts ms a).0 i in subst Shaped (sym w.3) (shaped w.0 ((takes-is w.0).0 w.2))

-- ---- runs of offers

pub record Ran (ms : List (List ℕ)) (b : List ℕ) : Type 0 where
  pub is : after_offers library ms b ≡ offers_to (alerts_of ms) b
  pub taken : AllTaken (alerts_of ms) b

pub runs : (ms : List (List ℕ)) (b : List ℕ) → is_board b ≡ true → NoneFull library ms b → Ran ms b
runs [] b ok n = record { is = refl; taken = tt }
runs (m ∷ ms) b ok n = go (takes m) refl (runs ms (message_offer b m).bytes (offer-keeps b m ok).0 n.1)
  where
    go : (t : Bool) → takes m ≡ t → Ran ms (message_offer b m).bytes → Ran (m ∷ ms) b
    go true e r =
        let same = ap (λ (o : MessageOffering). o.bytes) (taken-offer m e b) in
        let number = sym (ap (λ (o : MessageOffering). o.answer.number) (taken-offer m e b)) ∙ (taken-exactly b m ok n.0).1 e in
        record { is = rw e (r.is ∙ ap (offers_to (alerts_of ms)) same); taken = rw e (number, subst (AllTaken (alerts_of ms)) same r.taken) }
    go false e r =
        let same = not_taken b m e in
        record { is = rw e (r.is ∙ ap (offers_to (alerts_of ms)) same); taken = rw e (subst (AllTaken (alerts_of ms)) same r.taken) }

-- ---- what is carried and not named

-- in the words of a message
module _ (m : List ℕ) (t : Takes m) where
  own_is : (alert_of m).own ≡ own_key m
  unfolding alert_by
  own_is = key-is m (zero m t)

  names : (alert_of m).names ≡ named_keys m
  names = names-are m (zero m t)

  header_is : is_quiet m ≡ false → zero_filled_header (judged_of m) ≡ own_header m
  unfolding zero_filled_header
  header_is q = ap (λ (y : Body). pad 243 (body_bytes y)) (body_is m (zero m t) q)

  carries-is : (h : List ℕ) → In h (alert_of m).carries ↔ ((is_quiet m ≡ false) × (own_header m ≡ h))
  unfolding alert_by
  carries-is h = subst Said (sym (quiet_is m (zero m t))) (go (is_quiet m) refl)
    where
      Said : Bool → Type 0
      Said q = In h (pick q [] (zero_filled_header (judged_of m) ∷ [])) ↔ ((is_quiet m ≡ false) × (own_header m ≡ h))

      go : (q : Bool) → is_quiet m ≡ q → Said q
      go true e = (absurd, λ w. absurd (true≢false (sym e ∙ w.0)))
      go false e = (⊎_elim (λ p. (e, sym (p ∙ header_is e))) absurd, λ w. inl (sym w.1 ∙ sym (header_is e)))

  sent-back-is : sent_in (alert_of m).own ≡ sent_seconds m
  sent-back-is = ap sent_in own_is ∙ sent_back (sent_seconds m) (sender m) (identifier m) (instant-low (sent m))

  -- its header with its year is the one that its notice carries
  carried-is : is_quiet m ≡ false → carried (notice (alert_of m).own (zero_filled_header (judged_of m))) ≡ own_dated m
  unfolding dated
  carried-is q =
      let h : List ℕ = zero_filled_header (judged_of m) in
      let sh = shaped m (zero m t) in
      carried-notice (alert_of m).own h sh.own-long (sh.carried-long h ((carries-is h).1 (q, sym (header_is q))))
      ∙ ap₂ (λ (x : List ℕ) (n : ℕ). x ++ be2 (stamp_of n).year) (header_is q) sent-back-is
      ∙ ap (λ (high : ℕ). own_header m ++ (high ∷ (stamp_of (sent_seconds m)).year % 256 ∷ [])) (small (stamp_of (sent_seconds m)).year (stamp-fits (sent_seconds m) (instant-low (sent m))).last)
    where
      small : (y : ℕ) → y ≤ 2099 → y / 256 % 256 ≡ y / 256
      small y l = omega arith

pub carried-by : (ms : List (List ℕ)) (h : List ℕ) → Carried (alerts_of ms) h ↔ CarriedBy ms h
carried-by ms h = (to, from)
  where
    to : Carried (alerts_of ms) h → CarriedBy ms h
    to c =
        let w = (in-alerts ms c.by).0 c.taken in
        let m : List ℕ = w.0 in
        let k = (carries-is m w.2 c.header).0 (subst (λ (a : Alert). In c.header a.carries) w.3 c.has-it) in
        let own : c.by.own ≡ own_key m = ap (λ (a : Alert). a.own) w.3 ∙ own_is m w.2 in
        let is : c.header ≡ zero_filled_header (judged_of m) = sym k.1 ∙ sym (header_is m w.2 k.0) in
        record {
          by = m;
          offered = w.1;
          taken = w.2;
          not-quiet = k.0;
          carries = sym (carried-is m w.2 k.0) ∙ ap₂ (λ (a : Alert) (x : List ℕ). carried (notice a.own x)) (sym w.3) (sym is) ∙ c.carries;
          not_named = λ x i t n. c.not_named (alert_of x) ((in-alerts ms (alert_of x)).1 (x, i, t, refl))
              (subst (λ (y : List ℕ). In y (alert_of x).names) (sym own) (subst (In (own_key m)) (sym (names x t)) n));
        }

    from : CarriedBy ms h → Carried (alerts_of ms) h
    from c = record {
      by = alert_of c.by;
      taken = (in-alerts ms (alert_of c.by)).1 (c.by, c.offered, c.taken, refl);
      header = zero_filled_header (judged_of c.by);
      has-it = (carries-is c.by c.taken (zero_filled_header (judged_of c.by))).1 (c.not-quiet, sym (header_is c.by c.taken c.not-quiet));
      carries = carried-is c.by c.taken c.not-quiet ∙ c.carries;
      not_named = λ a i n.
          let w = (in-alerts ms a).0 i in
          c.not_named w.0 w.1 w.2
          (subst (λ (x : List ℕ). In x (named_keys w.0)) (own_is c.by c.taken)
          (subst (In (alert_of c.by).own) (ap (λ (x : Alert). x.names) w.3 ∙ names w.0 w.2) n));
    }
