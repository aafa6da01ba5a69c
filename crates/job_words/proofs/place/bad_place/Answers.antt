use Rattle.job_words.proofs.PlaceLemmas.{ends_here, goes_on}
use Rattle.job_words.proofs.place.bad_place.Goals as goal

pub returns-then-not-branch-clause-place : goal.returns-then-not-branch-clause-place
returns-then-not-branch-clause-place c =
    ends_here c.args.words.now c.loop-place.place c.loop-place-test.true c.in_ok-are_begun.field-0 c.in_ok-are_begun.ensures c.loop-place.invariant c.if-not-branch.true

pub loop-place-preserved : goal.loop-place-preserved
loop-place-preserved c =
    goes_on c.args.words.now c.loop-place.place c.loop-place-test.true c.in_ok-are_begun.field-0 c.in_ok-are_begun.ensures c.loop-place.invariant c.if-not-branch.false
