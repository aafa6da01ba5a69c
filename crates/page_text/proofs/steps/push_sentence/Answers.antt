use Rattle.page_text.proofs.Nested.{word_more, fewer_words}
use Rattle.page_text.proofs.steps.push_sentence.Goals as goal

pub words-preserved : goal.words-preserved
words-preserved c =
    word_more _ c.words.page c.push_word.new.page c.own.new.self c.words.rest.now c.in-Some.word.now c.in-Some.after.now c.words.invariant c.in-Some.ensures c.in_ok-push_word.ensures c.in_ok-own.ensures

pub words-smaller : goal.words-smaller
words-smaller c = fewer_words c.words.rest.now c.in-Some.word.now c.in-Some.after.now c.in-Some.ensures
