use Rattle.std.proofs.Common.{◌≡◌, ◌<◌, ◌-◌, ◌∙◌, [], Contains, sym, ap, subst, arith}
use Rattle.trick_rules.specs.Nodes.{choices, child}
use Rattle.strategy_games.specs.Plans.{tree_size}
use Rattle.strategy_games.specs.Choosing.{IsFirstOf}
use Rattle.strategy_games.proofs.Lists.{Contains-nil}
use Rattle.strategy_tree.specs.Bridge.{bridge}
use Rattle.strategy_tree.proofs.BridgeNodes.{tree_size-positive}
use Rattle.log_check.specs.declared.lines.Rule.TheVariants.{Leaf}
use Rattle.log_check.specs.LogsFor.{line_of}
use Rattle.log_maker.proofs.Depths.{decided_child}
use Rattle.log_maker.proofs.RootLogs.{leaf_text, some_nodes}
use Rattle.log_maker.proofs.root.log_where_decided.Goals as goal
use Rattle.log_maker.proofs.root.log_where_decided.Goals.{in-Some+else-nodes-eq0, in_default}

pub returns-then-nodes-eq0-clause-spent : goal.returns-then-nodes-eq0-clause-spent
returns-then-nodes-eq0-clause-spent c = λ card e.
    let none : c.args.nodes ≡ 0 = c.if-nodes-eq0.true in
    let some = tree_size-positive (child c.args.node.now c.in-Some.card) (c.args.moves - 1) in
    let same : c.in-Some.card ≡ card = cc in
    subst (λ d. IsFirstOf (λ k. c.args.nodes < tree_size bridge (child c.args.node.now k) (c.args.moves - 1)) (choices c.args.node.now) d) same
    ([], c.pop_first.new.self, sym c.choices-cards.ensures ∙ c.in-Some.ensures.value, λ k mem over. absurd (Contains-nil k mem), omega arith)

pub returns-clause-text : goal.returns-clause-text
returns-clause-text c =
    leaf_text c.args.node.now c.args.moves c.in_ok-log.log c.push.new.self c.in_ok-line.field-0-1.vectors c.in_ok-line.line c.in_ok-text.text
    c.requires.stops c.in_ok-line.ensures.front.front (c.in_ok-line.ensures.line ∙ ap (λ p. line_of Leaf p c.args.moves [] c.in_ok-line.field-0-1.vectors) c.new.ensures)
    c.in_ok-log.ensures c.in_ok-push.ensures c.in_ok-text.ensures

pub returns-clause-fits : goal.returns-clause-fits
returns-clause-fits c = λ card mem.
    let one = decided_child c.args.node.now c.args.moves card c.in_ok-line.ensures.a_node c.requires.some_moves c.requires.stops mem in
    elim c.match-pop_first.branch [
      | in-Some+else-nodes-eq0 w ↦ let some = some_nodes c.args.nodes w.if-nodes-eq0.false in omega arith
      | in_default w ↦ absurd (Contains-nil card (subst (λ cards. Contains cards card) (sym c.choices-cards.ensures ∙ w.in_default.ensures.value.0) mem))
    ]
