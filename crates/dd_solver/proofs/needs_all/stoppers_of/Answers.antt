use Rattle.dd_solver.proofs.NeedsAll.{both_within, both_highest}
use Rattle.dd_solver.proofs.needs_all.stoppers_of.Goals as goal

pub returns-clause-held : goal.returns-clause-held
returns-clause-held c = both_within c.either.result c.either-2.result c.either-3.result c.args.theirs c.either-3.ensures.value
    (both_within c.stopper_in-spades.result c.stopper_in-hearts.result c.either.result c.args.theirs c.either.ensures.value c.stopper_in-spades.ensures.held c.stopper_in-hearts.ensures.held)
    (both_within c.stopper_in-diamonds.result c.stopper_in-clubs.result c.either-2.result c.args.theirs c.either-2.ensures.value c.stopper_in-diamonds.ensures.held c.stopper_in-clubs.ensures.held)

pub returns-clause-ours : goal.returns-clause-ours
returns-clause-ours c = both_highest c.either.result c.either-2.result c.either-3.result c.args.ours c.either-3.ensures.value
    (both_highest c.stopper_in-spades.result c.stopper_in-hearts.result c.either.result c.args.ours c.either.ensures.value c.stopper_in-spades.ensures.ours c.stopper_in-hearts.ensures.ours)
    (both_highest c.stopper_in-diamonds.result c.stopper_in-clubs.result c.either-2.result c.args.ours c.either-2.ensures.value c.stopper_in-diamonds.ensures.ours c.stopper_in-clubs.ensures.ours)

pub returns-clause-theirs : goal.returns-clause-theirs
returns-clause-theirs c = both_highest c.either.result c.either-2.result c.either-3.result c.args.theirs c.either-3.ensures.value
    (both_highest c.stopper_in-spades.result c.stopper_in-hearts.result c.either.result c.args.theirs c.either.ensures.value c.stopper_in-spades.ensures.theirs c.stopper_in-hearts.ensures.theirs)
    (both_highest c.stopper_in-diamonds.result c.stopper_in-clubs.result c.either-2.result c.args.theirs c.either-2.ensures.value c.stopper_in-diamonds.ensures.theirs c.stopper_in-clubs.ensures.theirs)
