-- Each originator has its three bytes.
use borrow.Author.Rules.{rules}
use Rattle.octets.specs.Text.{bytes}
use Rattle.parts.specs.Originator.{originator_bytes}
use Rattle.parts.proofs.Originator.code.Goals as goal

pub returns-in-Pep : goal.returns-in-Pep
unfolding originator_bytes bytes
returns-in-Pep c = search rules

pub returns-in-Eas : goal.returns-in-Eas
unfolding originator_bytes bytes
returns-in-Eas c = search rules

pub returns-in-Wxr : goal.returns-in-Wxr
unfolding originator_bytes bytes
returns-in-Wxr c = search rules

pub returns-in-Civ : goal.returns-in-Civ
unfolding originator_bytes bytes
returns-in-Civ c = search rules
