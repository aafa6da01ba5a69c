use Rattle.std.proofs.Common.{arith, inl, inr}
use Rattle.std.proofs.lemmas.Bool.{cases_eq}
use Rattle.win_vectors.proofs.WordOrders.{IsFirstOtherBit-word, same_from_words}
use Rattle.win_vectors.proofs.words.first_difference.Goals as goal

pub loop-word-init : goal.loop-word-init
loop-word-init c = λ word low. absurd (omega arith)

pub returns-then-mine-other-clause-some : goal.returns-then-mine-other-clause-some
returns-then-mine-other-clause-some c =
    IsFirstOtherBit-word c.args.ours.now c.args.theirs.now c.loop-word.word c.lowest_difference.result c.loop-word.invariant c.lowest_difference.ensures

pub loop-word-preserved : goal.loop-word-preserved
loop-word-preserved c = λ word low. elim (cases_eq word c.loop-word.word) [
  | inl here ↦ rw here c.if-mine-other.false
  | inr before ↦ c.loop-word.invariant word (omega arith)
]

pub returns-clause-none : goal.returns-clause-none
returns-clause-none c = λ none. same_from_words c.args.ours.now c.args.theirs.now 4 c.told-ours c.told-theirs (λ k low. c.loop-word.invariant k (omega arith))
