use Rattle.std.proofs.Common.{sym, subst}
use Rattle.root_workers.specs.declared.worker_results.Known.{Known}
use Rattle.root_workers.specs.Rounds.{IsKnownAt}
use Rattle.root_workers.proofs.KnownCards.{known_found}
use Rattle.root_workers.proofs.round_work.known_after.Goals as goal

pub returns-in-Ok-clause-known : goal.returns-in-Ok-clause-known
returns-in-Ok-clause-known c =
    subst (λ (k : Known). IsKnownAt c.args.round.now c.args.at.now.place k) (sym c.of.ensures)
    (known_found c.args.round.now c.args.at.now.place c.args.at.now.card c.args.at.now.alpha.now.vectors c.in-Ok.searched.found c.in-Ok.searched.entered c.requires.at.card c.requires.at.won c.in-Ok.ensures.searched.found c.in-Ok.ensures.searched.exact c.in-Ok.ensures.fits c.in-Ok.ensures.searched.within)
