-- Its key, its header and its last bytes in turn.
use Rattle.std.proofs.Common.{◌≡◌, ◌&&◌, ℕ, [], ◌∷◌, sym, ap, rules, ◌∙◌}
use Rattle.octets.specs.Bytes.{every, holds, same}
use Rattle.clock.specs.Stamp.{stamped}
use Rattle.records.specs.Record.{key, header, rest, sent_in, key_ok, header_ok, stamp_in}
use Rattle.records.proofs.Judging.{asked, not-asked, third-decides, third-not-asked, header-in-two}
use Rattle.records.proofs.Records.{key-low}
use Rattle.records.proofs.is_notice.Goals as goal
use Rattle.records.proofs.is_notice.Goals.{then-is_key, else-is_key}

pub is_header_of-requires : goal.is_header_of-requires
unfolding key
is_header_of-requires c = rw c.sent_of.ensures (key-low _ (sym c.if-is_key.ensures))

pub returns-then-is_header_of : goal.returns-then-is_header_of
unfolding key header rest
returns-then-is_header_of c =
    let r = c.args.r.now in
    let both : c.if-is_key.value ≡ (key_ok (key r) && every holds (header_ok (header r) ∷ same (stamp_in (header r)) (stamped (sent_in (key r))) ∷ [])) = elim c.if-is_key.branch [
      | then-is_key w ↦ asked _ _ _ (sym w.if-is_key.ensures) (w.value-is ∙ w.is_header_of.ensures ∙ ap (λ (n : ℕ). every holds (header_ok (header r) ∷ same (stamp_in (header r)) (stamped n) ∷ [])) w.sent_of.ensures)
      | else-is_key w ↦ search (rules, not-asked)
    ] in
    c.are_zeros.ensures ∙ third-decides _ _ _ both c.if-is_header_of.true _ ∙ header-in-two _ _ _ _

pub returns-else-is_header_of : goal.returns-else-is_header_of
unfolding key header rest
returns-else-is_header_of c =
    let r = c.args.r.now in
    let both : c.if-is_key.value ≡ (key_ok (key r) && every holds (header_ok (header r) ∷ same (stamp_in (header r)) (stamped (sent_in (key r))) ∷ [])) = elim c.if-is_key.branch [
      | then-is_key w ↦ asked _ _ _ (sym w.if-is_key.ensures) (w.value-is ∙ w.is_header_of.ensures ∙ ap (λ (n : ℕ). every holds (header_ok (header r) ∷ same (stamp_in (header r)) (stamped n) ∷ [])) w.sent_of.ensures)
      | else-is_key w ↦ search (rules, not-asked)
    ] in
    third-not-asked _ _ _ both c.if-is_header_of.false _ ∙ header-in-two _ _ _ _
