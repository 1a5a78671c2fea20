-- By the range that the byte is in.
use native.Mathlib.Omega.{arith}
use Rattle.pieces.proofs.Numerals.{figure-digit, figure-capital, figure-small-letter, figure-none}
use Rattle.pieces.proofs.figure.Goals as goal

pub returns-in-48-to-57 : goal.returns-in-48-to-57
returns-in-48-to-57 c = figure-digit c.args.b (omega arith) (omega arith)

pub returns-in-65-to-70 : goal.returns-in-65-to-70
returns-in-65-to-70 c = figure-capital c.args.b (omega arith) (omega arith)

pub returns-in-97-to-102 : goal.returns-in-97-to-102
returns-in-97-to-102 c = figure-small-letter c.args.b (omega arith) (omega arith)

pub returns-in_default : goal.returns-in_default
returns-in_default c = figure-none c.args.b (λ h. omega (arith, h)) (λ h. omega (arith, h)) (λ h. omega (arith, h))

pub returns-in_default-2 : goal.returns-in_default-2
returns-in_default-2 c = figure-none c.args.b (λ h. omega (arith, h)) (λ h. omega (arith, h)) (λ h. omega (arith, h))

pub returns-in_default-3 : goal.returns-in_default-3
returns-in_default-3 c = figure-none c.args.b (λ h. omega (arith, h)) (λ h. omega (arith, h)) (λ h. omega (arith, h))

pub returns-in_default-4 : goal.returns-in_default-4
returns-in_default-4 c = figure-none c.args.b (λ h. omega (arith, h)) (λ h. omega (arith, h)) (λ h. omega (arith, h))
