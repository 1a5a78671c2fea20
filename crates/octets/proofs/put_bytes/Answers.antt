use native.Mathlib.Omega.{arith}
use Rattle.octets.proofs.Runs.{copied}
use Rattle.octets.proofs.put_bytes.Goals as goal

pub returns : goal.returns
returns c =
    let a = c.args in
    copied a.out.now a.t.now _ a.at _ c.copy_from_slice.ensures.after (omega arith) c.requires
