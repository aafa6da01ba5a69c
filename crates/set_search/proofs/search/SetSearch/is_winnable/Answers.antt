use Rattle.std.proofs.Common.{◌∙◌, ◌≤◌, ℕ, List, sym, subst}
use Rattle.trick_rules.specs.Positions.{PositionValue}
use Rattle.set_nodes.specs.SetNodes.{AreLayoutsAt}
use Rattle.set_search.specs.Verdicts.{IsSetVerdict}
use Rattle.set_memo.specs.Known.{IsVerdictAt}
use Rattle.set_search.proofs.Roots.{if_ok, not_none, won_none, root_layouts, root_verdict}
use Rattle.set_search.proofs.search.SetSearch.is_winnable.Goals as goal

pub returns-then-count-eq0-clause-verdict : goal.returns-then-count-eq0-clause-verdict
returns-then-count-eq0-clause-verdict c =
    won_none c.args.node.now c.args.moves c.args.set c.lefts-layouts.ensures.a_node c.requires.width (sym c.count.ensures ∙ c.if-count-eq0.true)

pub ask-requires-clause-layouts : goal.ask-requires-clause-layouts
ask-requires-clause-layouts c =
    let n = c.args.node.now in
    let are = root_layouts n c.args.set c.lefts-layouts.ensures.a_node c.requires.width (subst (λ (k : ℕ). 1 ≤ k) c.count.ensures (not_none c.count.result c.if-count-eq0.false)) in
    subst (λ (t : PositionValue). AreLayoutsAt c.lefts-layouts.result.now t c.args.set) (sym c.position.ensures.value)
    (subst (λ (layouts : List (List ℕ)). AreLayoutsAt layouts n.position c.args.set) (sym c.lefts-layouts.ensures.value) are)

pub returns-clause-verdict : goal.returns-clause-verdict
returns-clause-verdict c =
    let n = c.args.node.now in
    let are = root_layouts n c.args.set c.lefts-layouts.ensures.a_node c.requires.width (subst (λ (k : ℕ). 1 ≤ k) c.count.ensures (not_none c.count.result c.if-count-eq0.false)) in
    if_ok (IsVerdictAt c.lefts-layouts.result.now c.position.result.now c.args.moves c.args.set) (IsSetVerdict n c.args.moves c.args.set)
    (λ v out. root_verdict n c.args.moves c.args.set c.lefts-layouts.ensures.a_node are v
    (subst (λ (t : PositionValue). IsVerdictAt n.lefts t c.args.moves c.args.set v) c.position.ensures.value
    (subst (λ (layouts : List (List ℕ)). IsVerdictAt layouts c.position.result.now c.args.moves c.args.set v) c.lefts-layouts.ensures.value out)))
    c.ask.result c.ask.ensures.verdict
