use borrow.Author.Rules.{rules}
use lib.Dec.{eqb}
use Rattle.words.specs.WorkingWords.{words_of}
use Rattle.words.proofs.Places.{nth}
use Rattle.words.proofs.word.Goals as goal

pub returns-in-Some : goal.returns-in-Some
returns-in-Some c =
    let a = c.args in
    let n = nth a.i (words_of a.lens.now a.text.now) c.first.result (c.first.ensures (λ k _. eqb k a.i) (λ k w r m. search rules)) in
    rw c.in-Some.is at n

pub returns-in-None : goal.returns-in-None
returns-in-None c =
    let a = c.args in
    let n = nth a.i (words_of a.lens.now a.text.now) c.first.result (c.first.ensures (λ k _. eqb k a.i) (λ k w r m. search rules)) in
    rw c.in-None.is at n
