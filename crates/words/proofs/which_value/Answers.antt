use borrow.Author.Rules.{rules}
use Rattle.octets.specs.Bytes.{same}
use Rattle.values.specs.Value.{value_at}
use Rattle.words.specs.WorkingWords.{words_of}
use Rattle.words.proofs.Places.{place}
use Rattle.words.proofs.which_value.Goals as goal

pub returns : goal.returns
returns c =
    let a = c.args in
    let v = value_at a.s.now a.i in
    let p = place v (words_of a.lens.now a.text.now) c.first.result (c.first.ensures (λ _ x. same v x) (λ k w r m. search rules)) in
    search (rules, p)
