-- The header is put behind the key.
use Rattle.records.proofs.Making.{notice-made}
use Rattle.records.proofs.Record.notice.Goals as goal

pub returns : goal.returns
returns c =
    notice-made c.args.sent _ _ _ _ _ c.requires.0 c.requires.1 c.requires.2 c.keyed-bytes.ensures c.put_bytes.ensures
