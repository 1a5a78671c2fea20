use mathlib.Core.Path.{◌≡◌, ◌∙◌}
use borrow.Author.Rules.{rules}
use Rattle.octets.specs.Bytes.{every, between}
use Rattle.reads.proofs.Uris.{uri-between}
use Rattle.reads.proofs.is_uri.Goals as goal

pub returns : goal.returns
unfolding every between
returns c =
    let h : c.contains.result ≡ between 1 1024 c.printable_size.result = search rules in
    h ∙ uri-between _ _ c.printable_size.ensures
