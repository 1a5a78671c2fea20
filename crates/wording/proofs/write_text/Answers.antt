-- The sentence, and behind it EASText cut to what is left, or the phrase and the parts.
use Prim.Native.Nat.{ℕ, ◌+◌, ◌-◌, ◌≤◌}
use mathlib.Core.Bool.{true}
use mathlib.Core.List.{List, ◌++◌}
use mathlib.Core.Path.{◌≡◌, sym, ap, ◌∙◌}
use native.Mathlib.Omega.{arith}
use lib.ListN.{length, take, length-append}
use lib.Seq.{sets, take_all}
use Rattle.parts.proofs.Has.{has}
use Rattle.parts.specs.Parts.{body_ok}
use Rattle.parts.specs.declared.Body.{Body}
use Rattle.sentence.proofs.Lengths.{sentence-le}
use Rattle.sentence.proofs.Plains.{sentence-plain}
use Rattle.sentence.specs.Words.{sentence_of}
use Rattle.values.specs.Value.{value_at}
use Rattle.wording.proofs.Cuts.{plain-next, value_there, value-absent, absent-stays}
use Rattle.wording.proofs.Pens.{PenPut, Penned, pen-count, pen-first, pen-next, pen-all, room-start, room-past, words-put}
use Rattle.wording.proofs.Texts.{pen-start, phrase-le, front, text-eas, text-parts}
use Rattle.wording.specs.Text.{most, plain, empty, after_space, phrase, last_parts}
use Rattle.wording.specs.WorkingPen.{start_pen}
use Rattle.wording.specs.declared.Pen.{Pen}
use Rattle.wording.proofs.write_text.Goals as goal

short : (b : Body) → body_ok b ≡ true → length (sentence_of b) ≤ 389
short b ok = sentence-le b (has b ok).three (has b ok).few

-- the sentence ends at n
module _ (b : Body) (ok : body_ok b ≡ true) (d : List ℕ) {x : List ℕ} {n : ℕ} (ends : n ≡ 0 + length (sentence_of b)) (is : x ≡ sets d 0 (sentence_of b)) where
  begun : Penned d start_pen (sentence_of b) x (record { at = n; count = n })
  begun = pen-first d start_pen (sentence_of b) (words-put d start_pen (sentence_of b) (sentence-plain b ok) _ _ ends ends is)

  -- and behind it EASText, if there is one
  module _ (eas : List ℕ) {y : List ℕ} {e : Pen} (put : PenPut x (record { at = n; count = n }) (take (most - n) (after_space eas)) y e) where
    none : e.count ≡ n → empty eas ≡ true
    none h = value-absent eas _ put.0 (omega (arith, short b ok, ends)) h

    still : e.count ≡ n → Penned d start_pen (sentence_of b) y e
    still h = absent-stays eas (none h) begun put

    said : Penned d start_pen (plain (sentence_of b ++ after_space eas)) y e
    said = plain-next (sentence_of b) eas (pen-first d start_pen (plain (sentence_of b)) (pen-all begun _ (take_all 1800 (sentence_of b) (omega (arith, short b ok))))) put

    -- or else the sender's phrase
    module _ (h : e.count ≡ n) (sender : List ℕ) {z : List ℕ} {f : Pen} (phrased : PenPut y e (after_space (phrase sender)) z f) where
      named : Penned d start_pen (front (sentence_of b) sender) z f
      named = pen-next (still h) (after_space (phrase sender)) phrased

pub put_sentence-n-requires : goal.put_sentence-n-requires
put_sentence-n-requires c =
    let in_order = has c.args.b c.requires.b_value in
    record { at_in_bounds = omega (arith, c.requires.in_bounds); le_count = (in_order.some, in_order.few) }

pub put_plain-behind_eas-requires : goal.put_plain-behind_eas-requires
put_plain-behind_eas-requires c =
    let a = c.args in
    let one = begun a.b c.requires.b_value a.out.now c.put_sentence-n.ensures.value c.put_sentence-n.ensures.out_after in
    room-past (room-start a.out.now c.requires.in_bounds) one _ (omega (arith, short a.b c.requires.b_value))

pub returns-then-behind_eas-n : goal.returns-then-behind_eas-n
returns-then-behind_eas-n c =
    let a = c.args in
    let s = a.s.now in
    let put = said a.b c.requires.b_value a.out.now c.put_sentence-n.ensures.value c.put_sentence-n.ensures.out_after (value_at s a.eas) (c.put_plain-behind_eas.ensures.value, c.put_plain-behind_eas.ensures.out_after) in
    let there = value_there (value_at s a.eas) _ c.put_plain-behind_eas.ensures.value c.if-behind_eas-n.true in
    let both = pen-start put _ (text-eas (sentence_of a.b) (value_at s a.eas) (value_at s a.sender) (value_at s a.description) (value_at s a.instruction) there) in
    record { value = both.0; out_after = both.1 }

pub put_phrase-behind_phrase-requires : goal.put_phrase-behind_phrase-requires
put_phrase-behind_phrase-requires c =
    let a = c.args in
    let put = still a.b c.requires.b_value a.out.now c.put_sentence-n.ensures.value c.put_sentence-n.ensures.out_after (value_at a.s.now a.eas) (c.put_plain-behind_eas.ensures.value, c.put_plain-behind_eas.ensures.out_after) c.if-behind_eas-n.false in
    room-past (room-start a.out.now c.requires.in_bounds) put _ (omega (arith, short a.b c.requires.b_value))

pub put_parts-requires : goal.put_parts-requires
put_parts-requires c =
    let a = c.args in
    let sender = value_at a.s.now a.sender in
    let put = named a.b c.requires.b_value a.out.now c.put_sentence-n.ensures.value c.put_sentence-n.ensures.out_after (value_at a.s.now a.eas) (c.put_plain-behind_eas.ensures.value, c.put_plain-behind_eas.ensures.out_after)
    c.if-behind_eas-n.false sender (c.put_phrase-behind_phrase.ensures.value, c.put_phrase-behind_phrase.ensures.out_after) in
    room-past (room-start a.out.now c.requires.in_bounds) put _ (omega (arith, short a.b c.requires.b_value, phrase-le sender, length-append (sentence_of a.b) (after_space (phrase sender))))

pub returns : goal.returns
returns c =
    let a = c.args in
    let s = a.s.now in
    let eas = value_at s a.eas in
    let before = front (sentence_of a.b) (value_at s a.sender) in
    let vd = value_at s a.description in
    let vi = value_at s a.instruction in
    let put = named a.b c.requires.b_value a.out.now c.put_sentence-n.ensures.value c.put_sentence-n.ensures.out_after eas (c.put_plain-behind_eas.ensures.value, c.put_plain-behind_eas.ensures.out_after)
    c.if-behind_eas-n.false (value_at s a.sender) (c.put_phrase-behind_phrase.ensures.value, c.put_phrase-behind_phrase.ensures.out_after) in
    let no_eas = none a.b c.requires.b_value a.out.now c.put_sentence-n.ensures.value c.put_sentence-n.ensures.out_after eas (c.put_plain-behind_eas.ensures.value, c.put_plain-behind_eas.ensures.out_after) c.if-behind_eas-n.false in
    let n : c.put_phrase-behind_phrase.result.count ≡ length before = omega (arith, pen-count start_pen before put.ends) in
    let both = pen-start (pen-next put (last_parts c.put_phrase-behind_phrase.result.count vd vi) (c.put_parts.ensures.value, c.put_parts.ensures.out_after)) _
    (text-parts (sentence_of a.b) eas (value_at s a.sender) vd vi no_eas ∙ ap (λ (k : ℕ). before ++ last_parts k vd vi) (sym n)) in
    record { value = both.0; out_after = both.1 }
