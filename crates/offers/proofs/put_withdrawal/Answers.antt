-- The next word is a group, and the withdrawal of what it names is put.
use mathlib.Core.Path.{ap, ◌∙◌}
use native.Mathlib.Omega.{arith}
use Prim.Native.Nat.{◌*◌}
use lib.Seq.{sets}
use Rattle.fields.specs.WorkingFields.{group_ok}
use Rattle.offers.proofs.Putting.{word_fits, word_whole, word_back, withdrawal-is, withdrawal-long}
use Rattle.offers.proofs.put_withdrawal.Goals as goal

pub slice_bounds-group-end : goal.slice_bounds-group-end
slice_bounds-group-end c =
    word_fits _ _ _ _ c.next_word-w.ensures.value c.next_word-w.ensures.out_after c.requires.at_value

pub slice_bounds-withdrawal_by-end : goal.slice_bounds-withdrawal_by-end
slice_bounds-withdrawal_by-end c =
    word_whole _ _ _ _ c.next_word-w.ensures.value c.next_word-w.ensures.out_after c.requires.at_value

pub withdrawal_by-r-requires : goal.withdrawal_by-r-requires
withdrawal_by-r-requires c =
    let ok = c.requires.at_value in
    ap group_ok (word_back _ _ _ _ c.next_word-w.ensures.value c.next_word-w.ensures.out_after ok) ∙ ok

pub put_bytes-requires : goal.put_bytes-requires
put_bytes-requires c =
    omega (arith, withdrawal-long _ _ _ _ c.next_word-w.ensures.value c.next_word-w.ensures.out_after c.requires.at_value _ c.withdrawal_by-r.ensures, c.requires.k_in_bounds)

pub returns : goal.returns
returns c =
    let e = withdrawal-is _ _ _ _ c.next_word-w.ensures.value c.next_word-w.ensures.out_after c.requires.at_value _ c.withdrawal_by-r.ensures in
    record { value = c.next_word-w.ensures.value; batch_after = c.put_bytes.ensures ∙ ap (sets c.args.batch.now (c.args.k * 384)) e }
