-- A first byte that may begin a name decides.
use Rattle.std.proofs.Common.{rules, ◌≡◌, true, false}
use Rattle.octets.specs.Bytes.{byte_at}
use Rattle.octets.specs.Scan.{past}
use Rattle.pieces.specs.Classes.{is_start, is_named}
use Rattle.pieces.specs.Pieces.{plain_at}
use Rattle.pieces.proofs.Inside.{no-name}
use Rattle.pieces.proofs.plain_name.Goals as goal

pub past-requires-clause-not_past_end : goal.past-requires-clause-not_past_end
past-requires-clause-not_past_end c = λ h. no-name (search rules)

pub returns-then-is_start : goal.returns-then-is_start
unfolding plain_at
returns-then-is_start c =
    let s = c.args.s.now in
    let i = c.args.at in
    let b : is_start (byte_at s i) ≡ true = cc in
    let e : c.past.result ≡ past is_named s i = search rules in
    rw b e

pub returns-else-is_start : goal.returns-else-is_start
unfolding plain_at
returns-else-is_start c =
    let s = c.args.s.now in
    let i = c.args.at in
    let b : is_start (byte_at s i) ≡ false = cc in
    rw b
