-- Nothing unread matters, over the functions themselves: two calls that differ only in a message, and there only in what is unread, return the same and
-- leave the same bytes, refusals too. Learnt is a function's contract as the toolchain reads it: what a caller learns of lifetimes, arguments, a result and
-- the arguments at exit.
--     header-same, text_same, canadian-same, offer-same, program-same                  number, field, all else that is returned, and every lent byte
--     host-header-same, host-text-same, host-canadian-same, host-offer-same            for a host in C
--     read_alike, judge-alike                    these answer places in the message: the same number and field, and the same values at the places
use Prim.Native.Nat.{ℕ}
use mathlib.Core.Path.{◌≡◌, sym, ap, ◌∙◌}
use mathlib.Core.List.{List}
use lib.ListN.{length}
use lib.Seq.{sets}
use Rattle.message.specs.declared.Message.{Message}
use Rattle.message.proofs.read.Reads as read
use Rattle.judgement.specs.declared.Judged.{Judged}
use Rattle.judgement.proofs.judge.Reads as judge
use Rattle.outputs.specs.Outputs.{TextOutcome, text_answer_of}
use Rattle.outputs.specs.declared.TextAudio.{TextAudio}
use Rattle.canadian.proofs.convert.Reads as canadian
use Rattle.convert.specs.Convert.{HeaderOutcome, header_answer_of}
use Rattle.convert.specs.declared.Headed.{Headed}
use Rattle.convert.proofs.header.Reads as header
use Rattle.convert.proofs.text.Reads as text
use Rattle.offers.specs.Offer.{MessageOffering}
use Rattle.offers.specs.declared.Offered.{Offered}
use Rattle.offers.proofs.offer.Reads as offer
use Rattle.report.proofs.program.Reads as program
use Rattle.stuiverhaag.specs.Packed.{packed_headed, packed_text, packed_offered}
use Rattle.stuiverhaag.proofs.stuiverhaag_header.Reads as host-header
use Rattle.stuiverhaag.proofs.stuiverhaag_text.Reads as host-text
use Rattle.stuiverhaag.proofs.stuiverhaag_canadian.Reads as host-canadian
use Rattle.stuiverhaag.proofs.stuiverhaag_offer.Reads as host-offer
use Rattle.demands.specs.Calls.{library}
use Rattle.demands.proofs.Arguments.{Lifetimes, Lent, Output, Outputs, Behind, Slices}
use Rattle.unread.specs.Kept.{OnlyUnreadDiffers}
use Rattle.unread.proofs.Messages.{MessageAs, message-as}
use Rattle.unread.proofs.Judges.{JudgedAs, judged-as}
use Rattle.unread.proofs.Calls.{nothing-unread-matters, same-program}

-- what is made of two that are equal is equal
made : {A B : Type 0} {x y : B} {z w : A} (f : A → B) → x ≡ f z → z ≡ w → y ≡ f w → x ≡ y
made f p e q = p ∙ ap f e ∙ sym q

-- ---- header and must-carry: the messages are m and n; station and header are b in both calls

module _ (κs κs' : Lifetimes 3) (m n : Lent) (d : OnlyUnreadDiffers m.now n.now) (b : Behind 1 (Outputs 1)) (x x' : Behind 2 (Outputs 1)) where
  abbrev headed : Lent → HeaderOutcome
  headed k = library.heading k.now b.0.now (length b.1.0.now)

  headed-same : headed m ≡ headed n
  headed-same = nothing-unread-matters.heading-same m.now n.now d b.0.now _

  -- the header at exit
  abbrev SameHeader : Type 0
  SameHeader = x.1.1.0.now ≡ x'.1.1.0.now

  headers-same : x.1.1.0.now ≡ sets b.1.0.now 0 (headed m).given.header → x'.1.1.0.now ≡ sets b.1.0.now 0 (headed n).given.header → SameHeader
  headers-same p q = made (λ (o : HeaderOutcome). sets b.1.0.now 0 o.given.header) p headed-same q

  pub header-same : (r r' : Headed) → header.Learnt κs (m, b) r x → header.Learnt κs' (n, b) r' x' → (r ≡ r') × SameHeader
  header-same r r' p q = (made header_answer_of p.0 headed-same q.0, headers-same p.1 q.1)

  pub host-header-same : (r r' : ℕ) → host-header.Learnt κs (m, b) r x → host-header.Learnt κs' (n, b) r' x' → (r ≡ r') × SameHeader
  host-header-same r r' p q = (made (λ (o : HeaderOutcome). packed_headed (header_answer_of o)) p.0 headed-same q.0, headers-same p.1 q.1)

-- ---- text and audio: of two outcomes that are equal, into the same text and uri

module _ (text uri : List ℕ) (o o' : TextOutcome) (same : o ≡ o') where
  -- text and uri at exit are those of the outcome
  abbrev FilledBy : TextOutcome → List ℕ → List ℕ → Type 0
  FilledBy p x y = (x ≡ sets text 0 p.given.text) × (y ≡ sets uri 0 p.given.uri)

  texts-same : {x y x' y' : List ℕ} → FilledBy o x y → FilledBy o' x' y' → (x ≡ x') × (y ≡ y')
  texts-same p q = (
    made (λ (z : TextOutcome). sets text 0 z.given.text) p.0 same q.0,
    made (λ (z : TextOutcome). sets uri 0 z.given.uri) p.1 same q.1,
  )

  packed-same : {r r' : ℕ} → r ≡ packed_text (text_answer_of o) → r' ≡ packed_text (text_answer_of o') → r ≡ r'
  packed-same p q = made (λ (z : TextOutcome). packed_text (text_answer_of z)) p same q

-- the messages are m and n; station, text and uri are b in both calls
module _ (κs κs' : Lifetimes 4) (m n : Lent) (d : OnlyUnreadDiffers m.now n.now) (b : Behind 1 (Outputs 2)) (x x' : Behind 2 (Outputs 2)) where
  abbrev worded : Lent → TextOutcome
  worded k = library.texting k.now b.0.now (length b.1.0.now) (length b.1.1.0.now)

  worded-same : worded m ≡ worded n
  worded-same = nothing-unread-matters.texting-same m.now n.now d b.0.now _ _

  -- text and uri at exit are the same
  abbrev SameTexts : Type 0
  SameTexts = (x.1.1.0.now ≡ x'.1.1.0.now) × (x.1.1.1.0.now ≡ x'.1.1.1.0.now)

  pub text_same : (r r' : TextAudio) → text.Learnt κs (m, b) r x → text.Learnt κs' (n, b) r' x' → (r ≡ r') × SameTexts
  text_same r r' p q = (made text_answer_of p.0 worded-same q.0, texts-same b.1.0.now b.1.1.0.now _ _ worded-same p.1 q.1)

  pub host-text-same : (r r' : ℕ) → host-text.Learnt κs (m, b) r x → host-text.Learnt κs' (n, b) r' x' → (r ≡ r') × SameTexts
  host-text-same r r' p q =
      (packed-same b.1.0.now b.1.1.0.now _ _ worded-same p.0 q.0, texts-same b.1.0.now b.1.1.0.now _ _ worded-same p.1 q.1)

-- ---- the Canadian mode: the messages are m and n; text and uri are b in both calls

module _ (κs κs' : Lifetimes 3) (m n : Lent) (d : OnlyUnreadDiffers m.now n.now) (b : Outputs 2) (x x' : Behind 1 (Outputs 2)) where
  abbrev in_canada : Lent → TextOutcome
  in_canada k = library.canadian k.now (length b.0.now) (length b.1.0.now)

  in-canada-same : in_canada m ≡ in_canada n
  in-canada-same = nothing-unread-matters.canadian-same m.now n.now d _ _

  abbrev SameInCanada : Type 0
  SameInCanada = (x.1.0.now ≡ x'.1.0.now) × (x.1.1.0.now ≡ x'.1.1.0.now)

  pub canadian-same : (r r' : TextAudio) → canadian.Learnt κs (m, b) r x → canadian.Learnt κs' (n, b) r' x' → (r ≡ r') × SameInCanada
  canadian-same r r' p q = (made text_answer_of p.0 in-canada-same q.0, texts-same b.0.now b.1.0.now _ _ in-canada-same p.1 q.1)

  pub host-canadian-same : (r r' : ℕ) → host-canadian.Learnt κs (m, b) r x → host-canadian.Learnt κs' (n, b) r' x' → (r ≡ r') × SameInCanada
  host-canadian-same r r' p q =
      (packed-same b.0.now b.1.0.now _ _ in-canada-same p.0 q.0, texts-same b.0.now b.1.0.now _ _ in-canada-same p.1 q.1)

-- ---- offer and program: the messages are m and n; the board, or the program's output, is b in both calls

module _ (κs κs' : Lifetimes 2) (m n : Lent) (d : OnlyUnreadDiffers m.now n.now) (b : Output) (x x' : Output × Slices 1) where
  offering-same : library.offering b.now m.now ≡ library.offering b.now n.now
  offering-same = nothing-unread-matters.offering-same m.now n.now d b.now

  pub offer-same : (r r' : Offered) →
      offer.Learnt κs (b, (m, tt)) r x → offer.Learnt κs' (b, (n, tt)) r' x' → (r ≡ r') × (x.0.now ≡ x'.0.now)
  offer-same r r' p q =
      (made (λ (o : MessageOffering). o.answer) p.0 offering-same q.0, made (λ (o : MessageOffering). o.bytes) p.1.0 offering-same q.1.0)

  pub host-offer-same : (r r' : ℕ) →
      host-offer.Learnt κs (b, (m, tt)) r x → host-offer.Learnt κs' (b, (n, tt)) r' x' → (r ≡ r') × (x.0.now ≡ x'.0.now)
  host-offer-same r r' p q =
      (made (λ (o : MessageOffering). packed_offered o.answer) p.0 offering-same q.0, made (λ (o : MessageOffering). o.bytes) p.1 offering-same q.1)

module _ (κs κs' : Lifetimes 2) (m n : Lent) (d : OnlyUnreadDiffers m.now n.now) (b : Output) (x x' : Behind 1 (Outputs 1)) where
  pub program-same : (r r' : ℕ) →
      program.Learnt κs (m, (b, tt)) r x → program.Learnt κs' (n, (b, tt)) r' x' → (r ≡ r') × (x.1.0.now ≡ x'.1.0.now)
  program-same r r' p q =
      let e = same-program m.now n.now d (length b.now) in
      (made length p.0 e q.0, made (λ (o : List ℕ). sets b.now 0 o) p.1 e q.1)

-- ---- reading and judging: the messages are m and n

module _ (κs κs' : Lifetimes 1) (m n : Lent) (d : OnlyUnreadDiffers m.now n.now) (x x' : Slices 1) where
  pub read_alike : (r r' : Message) → read.Learnt κs (m, tt) r x → read.Learnt κs' (n, tt) r' x' → MessageAs m.now n.now r r'
  read_alike r r' p q = rw (p, q) (message-as m.now n.now d)

  pub judge-alike : (r r' : Judged) → judge.Learnt κs (m, tt) r x → judge.Learnt κs' (n, tt) r' x' → JudgedAs m.now n.now r r'
  judge-alike r r' p q = rw (p, q) (judged-as m.now n.now d)
