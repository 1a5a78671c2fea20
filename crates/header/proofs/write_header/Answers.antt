-- One number after the other, and where none applies the header is put.
use Prim.Native.Nat.{ℕ}
use mathlib.Core.Path.{sym, ap, ◌∙◌}
use native.Mathlib.Omega.{arith}
use Rattle.header.proofs.Lengths.{length-header}
use Rattle.header.proofs.Writing.{write-refused, write_done, number_short, number-station, number-parts, number-none}
use Rattle.parts.proofs.Has.{has}
use Rattle.header.proofs.write_header.Goals as goal

pub returns-then-out-lt-MOST : goal.returns-then-out-lt-MOST
returns-then-out-lt-MOST c = let r = write-refused _ c.args.p 1 (number_short _ _ (omega arith)) in record { value = sym r.0; out_after = sym r.1 }

pub returns-then-not-station_ok : goal.returns-then-not-station_ok
returns-then-not-station_ok c =
    let r = write-refused _ c.args.p 2 (number-station _ _ (omega arith) (sym c.station_ok.ensures ∙ c.if-not-station_ok.true)) in record { value = sym r.0; out_after = sym r.1 }

pub returns-then-not-body_ok : goal.returns-then-not-body_ok
returns-then-not-body_ok c =
    let station = sym c.station_ok.ensures ∙ c.if-not-station_ok.false in
    let r = write-refused _ c.args.p 16 (number-parts _ _ (omega arith) station (sym c.body_ok.ensures ∙ c.if-not-body_ok.true)) in record { value = sym r.0; out_after = sym r.1 }

pub overflow_mul-len : goal.overflow_mul-len
overflow_mul-len c = omega (arith, (has _ (sym c.body_ok.ensures ∙ c.if-not-body_ok.false)).few)

pub overflow_add-len : goal.overflow_add-len
overflow_add-len c = omega (arith, (has _ (sym c.body_ok.ensures ∙ c.if-not-body_ok.false)).few)

pub put_header-requires : goal.put_header-requires
put_header-requires c = omega (arith, (has _ (sym c.body_ok.ensures ∙ c.if-not-body_ok.false)).few)

pub returns : goal.returns
returns c =
    let p = c.args.p in
    let station = sym c.station_ok.ensures ∙ c.if-not-station_ok.false in
    let body = sym c.body_ok.ensures ∙ c.if-not-body_ok.false in
    let r = write_done c.args.out.now p (number-none _ _ (omega arith) station body) in
    record { value = ap (λ (n : ℕ). record { number = 0; len = n }) (sym (length-header p body station)) ∙ sym r.0; out_after = c.put_header.ensures ∙ sym r.1 }
