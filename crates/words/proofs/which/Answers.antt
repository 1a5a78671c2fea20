use borrow.Author.Rules.{rules}
use Rattle.octets.specs.Bytes.{same}
use Rattle.words.specs.WorkingWords.{words_of}
use Rattle.words.proofs.Places.{place}
use Rattle.words.proofs.which.Goals as goal

pub returns : goal.returns
returns c =
    let a = c.args in
    let p = place a.name.now (words_of a.lens.now a.text.now) c.first.result (c.first.ensures (λ _ x. same a.name.now x) (λ k w r m. search rules)) in
    search (rules, p)
