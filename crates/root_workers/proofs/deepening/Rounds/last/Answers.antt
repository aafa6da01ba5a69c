use Rattle.root_workers.proofs.RootEnds.{end_by}
use Rattle.root_workers.proofs.deepening.Rounds.last.Goals as goal

pub returns-else-self-clause-answer : goal.returns-else-self-clause-answer
returns-else-self-clause-answer g c =
    let q = c.args.self.now.question.now in
    end_by q.node.now q.moves q.options.now.nodes q.weights.now _ _ _ c.at_once.result c.at_once.ensures.answer _ _ _ (λ _. tt) (λ cut. cut) (λ plain. plain)
