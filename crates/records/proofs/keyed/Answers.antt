-- Field by field behind the kind.
use Rattle.std.proofs.Common.{◌∙◌}
use Rattle.records.proofs.Making.{keyed-made, be4-is}
use Rattle.records.proofs.keyed.Goals as goal

pub returns : goal.returns
returns c =
    keyed-made c.args.kind c.args.sent _ _ _ _ _ _ (c.to_be_bytes.ensures ∙ be4-is c.args.sent) c.requires.0 c.requires.1 c.of_kind-bytes.ensures c.put_bytes.ensures c.put_bytes-2.ensures
