-- The text is put; how long it is tells whether there is one. Behind it comes the uri.
use Rattle.canadian.proofs.Outcomes.{no_words, some_words}
use Rattle.canadian.proofs.write.Goals as goal

pub returns-then-long-eq0 : goal.returns-then-long-eq0
returns-then-long-eq0 c =
    let both = no_words c.args.s.now c.args.m _ (c.put_text-long.ensures.value, c.put_text-long.ensures.out_after) c.if-long-eq0.true c.answer_alone.ensures in
    record { value = both.0; text_after = both.1.0; uri_after = both.1.1 }

pub returns : goal.returns
returns c =
    let both = some_words c.args.s.now c.args.m _ (c.put_text-long.ensures.value, c.put_text-long.ensures.out_after) _ c.if-long-eq0.false (c.put_uri.ensures.value, c.put_uri.ensures.out_after) in
    record { value = both.0; text_after = both.1.0; uri_after = both.1.1 }
