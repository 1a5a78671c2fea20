use borrow.Author.Rules.{rules}
use Rattle.octets.specs.Bytes.{every, between, is_capital, is_digit, is_letter, is_visible}
use Rattle.octets.proofs.is_digit.Goals as goal

pub returns : goal.returns
unfolding every between is_capital is_digit is_letter is_visible
returns c = search rules
