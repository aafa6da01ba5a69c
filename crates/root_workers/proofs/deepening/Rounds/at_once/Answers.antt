use Rattle.std.proofs.Common.{◌≡◌, ◌∙◌, ap, sym}
use Rattle.cut_rules.specs.declared.CutRules.{CutRules}
use Rattle.cut_rules.specs.declared.Stop.TheVariants.{Never, SameWeight}
use Rattle.root_workers.proofs.RootEnds.{end_by}
use Rattle.root_workers.proofs.deepening.Rounds.at_once.Goals as goal

pub returns-clause-answer : goal.returns-clause-answer
returns-clause-answer g c =
    let q = c.args.self.now.question.now in
    end_by q.node.now q.moves q.options.now.nodes q.weights.now _ _ _ c.run_round.result c.run_round.ensures.end _ _ _
    (λ _ e. let no : Never ≡ SameWeight = sym (ap (λ (r : CutRules). r.stop) c.none.ensures) ∙ e in cc) (λ cut. absurd (cut c.none.ensures))
    (λ plain. record { cuts = c.none.ensures; table = plain.table })
