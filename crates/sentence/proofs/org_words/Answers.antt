-- Each arm gives the words of its originator.
use mathlib.Core.Path.{sym, ap}
use Rattle.octets.specs.Text.{bytes}
use Rattle.sentence.specs.Words.{org_words}
use Rattle.sentence.proofs.org_words.Goals as goal

pub returns-in-Pep : goal.returns-in-Pep
unfolding org_words bytes
returns-in-Pep c = sym (ap org_words c.in-Pep.is)

pub returns-in-Eas : goal.returns-in-Eas
unfolding org_words bytes
returns-in-Eas c = sym (ap org_words c.in-Eas.is)

pub returns-in-Wxr : goal.returns-in-Wxr
unfolding org_words bytes
returns-in-Wxr c = sym (ap org_words c.in-Wxr.is)

pub returns-in-Civ : goal.returns-in-Civ
unfolding org_words bytes
returns-in-Civ c = sym (ap org_words c.in-Civ.is)
