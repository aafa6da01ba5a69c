use Rattle.std.proofs.Common.{◌∙◌, ℕ, List, length, Err, ap, sym, subst}
use Rattle.std.proofs.lemmas.List.{length-replicate}
use Rattle.strategy_games.specs.Choosing.{IsBestCount, IsBestWeight, IsNamedByWeight}
use Rattle.strategy_tree.specs.Bridge.{bridge}
use Rattle.strategy_tree.specs.declared.root_fault.RootFault.TheVariants.{Spent}
use Rattle.job_search.proofs.Counts.{count_is, count_small, card_is}
use Rattle.am_answer.proofs.Passed.{passed_on}
use Rattle.job_search.proofs.counted.counted_front.Goals as goal

pub front-requires-clause-question : goal.front-requires-clause-question
front-requires-clause-question g c = λ κs outlives. record {
  ours = c.requires.ours;
  goes_on = c.requires.goes_on;
  some_moves = c.requires.some_moves;
  few_moves = c.requires.few_moves;
  weights = ap length c.requires.alike ∙ length-replicate (length c.args.question.now.node.now.lefts) 1;
}

pub returns-in_err-found-clause-spent : goal.returns-in_err-found-clause-spent
returns-in_err-found-clause-spent g c = λ card e.
    c.in_err-found.ensures.spent card (ap Err (passed_on c.from_residual.result c.in_err-found.field-0.0 (Spent card) c.from_residual.ensures.1 e))

pub count_of-requires : goal.count_of-requires
count_of-requires g c =
    let n = c.args.question.now.node.now in
    count_small n c.args.question.now.moves c.in_ok-found.found.weight c.width.ensures.a_node
    (subst (λ (ws : List ℕ). IsBestWeight bridge ws n c.args.question.now.moves c.in_ok-found.found.weight) c.requires.alike c.in_ok-found.ensures.weight)

pub returns-clause-count : goal.returns-clause-count
returns-clause-count g c =
    let n = c.args.question.now.node.now in
    subst (λ (k : ℕ). IsBestCount bridge n c.args.question.now.moves k) (sym c.count_of.ensures)
    (count_is n c.args.question.now.moves c.in_ok-found.found.weight
    (subst (λ (ws : List ℕ). IsBestWeight bridge ws n c.args.question.now.moves c.in_ok-found.found.weight) c.requires.alike c.in_ok-found.ensures.weight))

pub returns-clause-card : goal.returns-clause-card
returns-clause-card g c =
    let n = c.args.question.now.node.now in
    card_is n c.args.question.now.moves c.in_ok-found.found.card c.width.ensures.a_node c.requires.ours
    (subst (λ (ws : List ℕ). IsNamedByWeight bridge ws n c.args.question.now.moves c.in_ok-found.found.card) c.requires.alike c.in_ok-found.ensures.card)
