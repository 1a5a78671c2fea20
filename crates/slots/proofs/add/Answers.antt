-- Where the record is held nothing changes; else the records behind its place are moved and it is put there.
use native.Mathlib.Omega.{arith}
use Rattle.slots.proofs.Records.{held-count, held_bytes, new-room, new-count, new-bytes}
use Rattle.slots.proofs.add.Goals as goal

pub overflow_mul-from : goal.overflow_mul-from
overflow_mul-from c = let p = new-room c.args.s.now c.args.r.now c.args.n c.in-Err.k c.in-Err.ensures c.requires.1 in omega (arith, p.0, p.1)

pub shift-requires : goal.shift-requires
shift-requires c = let p = new-room c.args.s.now c.args.r.now c.args.n c.in-Err.k c.in-Err.ensures c.requires.1 in (omega (arith, p.0), omega (arith, p.1))

pub put_bytes-requires : goal.put_bytes-requires
put_bytes-requires c = let p = new-room c.args.s.now c.args.r.now c.args.n c.in-Err.k c.in-Err.ensures c.requires.1 in omega (arith, p.0, p.1, c.requires.2, c.shift.auto.s)

pub returns-in-Ok : goal.returns-in-Ok
returns-in-Ok c = let at = c.in-Ok.ensures in record { value = held-count _ _ _ _ at; s_after = held_bytes _ _ _ _ at }

pub returns-in-Err : goal.returns-in-Err
returns-in-Err c =
    let at = c.in-Err.ensures in
    record {
      value = new-count _ _ _ _ at;
      s_after = new-bytes _ _ _ _ at _ _ (new-room _ _ _ _ at c.requires.1).1 c.requires.2 c.shift.auto.s c.shift.ensures c.put_bytes.ensures;
    }
