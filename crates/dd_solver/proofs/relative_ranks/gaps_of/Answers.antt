use Rattle.dd_solver.proofs.GapAfterGap.{either_free}
use Rattle.dd_solver.proofs.relative_ranks.gaps_of.Goals as goal

pub returns-clause-free : goal.returns-clause-free
returns-clause-free c =
    let playing = c.args.playing in
    either_free playing c.either.result c.either-2.result c.either-3.result c.either-3.ensures.value c.either-3.ensures.a_set
    (either_free playing c.gaps_in-spades.result c.gaps_in-hearts.result c.either.result c.either.ensures.value c.either.ensures.a_set c.gaps_in-spades.ensures.free c.gaps_in-hearts.ensures.free)
    (either_free playing c.gaps_in-diamonds.result c.gaps_in-clubs.result c.either-2.result c.either-2.ensures.value c.either-2.ensures.a_set c.gaps_in-diamonds.ensures.free c.gaps_in-clubs.ensures.free)
