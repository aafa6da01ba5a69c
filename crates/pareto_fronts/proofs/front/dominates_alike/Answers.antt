use Rattle.std.proofs.Common.{◌≢◌, ◌∙◌, sym, length}
use Rattle.std.proofs.lemmas.Bool.{ne_eqb}
use Rattle.pareto_fronts.proofs.FrontLemmas.{dominates-apart}
use Rattle.pareto_fronts.proofs.front.dominates_alike.Goals as goal

pub returns-else-width : goal.returns-else-width
returns-else-width c =
    let apart : length c.args.vector ≢ length c.args.mine = λ e. c.if-width.false (c.width.ensures.value ∙ e ∙ sym c.width-2.ensures.value) in
    ne_eqb c.width.result c.width-2.result c.if-width.false ∙ sym (dominates-apart c.args.vector c.args.mine apart)
