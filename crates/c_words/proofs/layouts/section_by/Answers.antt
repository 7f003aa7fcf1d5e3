-- `section_by`: too few words, or the layout that they name.
use Rattle.c_words.proofs.Laying.{few_words, by_words}
use Rattle.c_words.proofs.layouts.section_by.Goals as goal

pub returns-then-words-lt8 : goal.returns-then-words-lt8
returns-then-words-lt8 c = few_words c.args.words.now c.args.x c.args.y c.args.pass c.if-words-lt8.true _ c.refused.ensures

pub returns : goal.returns
returns c =
    by_words c.args.words.now c.args.x c.args.y c.args.pass c.if-words-lt8.false _ _ _ _ _ _ _ _ _
    c.low.ensures c.low-2.ensures c.low-3.ensures c.low-4.ensures c.low-5.ensures c.low-6.ensures c.low-7.ensures c.low-8.ensures c.section_in.ensures
