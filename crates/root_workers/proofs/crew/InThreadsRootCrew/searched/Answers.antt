use Rattle.root_workers.proofs.crew.InThreadsRootCrew.searched.Goals as goal

pub returns-clause-right : goal.returns-clause-right
returns-clause-right g c = ((c.requires.ready _ _ _ _ c.requires.task c.requires.some c.requires.pass).1 _ _ _ c.search.ensures).0

pub returns-clause-pass : goal.returns-clause-pass
returns-clause-pass g c = ((c.requires.ready _ _ _ _ c.requires.task c.requires.some c.requires.pass).1 _ _ _ c.search.ensures).1

pub returns-clause-grown : goal.returns-clause-grown
returns-clause-grown g c = ((c.requires.ready _ _ _ _ c.requires.task c.requires.some c.requires.pass).1 _ _ _ c.search.ensures).2
