-- The laws of strategies and fronts at bridge, for the proofs of searches, finders and checkers to cite.
use Rattle.std.proofs.Common.{◌==◌, ℕ}
use Rattle.std.proofs.lemmas.Bool.Decides.{Decides-eqb}
use Rattle.win_vectors.specs.Fronts.{Vector}
use Rattle.win_vectors.specs.Weights.{IsMonotone}
use Rattle.trick_rules.specs.Nodes.{NodeValue, IsNode}
use Rattle.strategy_games.specs.Alike.{IsKeptByPlay}
use Rattle.strategy_games.specs.Laws.{EndsSomewhere, HasOneFront, HasRecursion, HasSteps, HasMoreMoves, HasChosenPlan, HasSizes, HasBestCount, HasNamedCard, HasCuts, HasFirstMisfit, HaveOneFront}
use Rattle.strategy_games.specs.SearchLaws.{HasEnoughCards, HasLeaders, HasMisses, HasExactness}
use Rattle.strategy_games.proofs.Nodes as theory
use Rattle.strategy_games.proofs.Cuts as theory_of_cuts
use Rattle.strategy_games.proofs.Chosen as theory_of_choice
use Rattle.strategy_games.proofs.Sizes as theory_of_sizes
use Rattle.strategy_games.proofs.Counts as theory_of_counts
use Rattle.strategy_games.proofs.Faults as theory_of_faults
use Rattle.strategy_games.proofs.Alike as theory_of_alike
use Rattle.strategy_games.proofs.Enough as theory_of_enough
use Rattle.strategy_games.proofs.Leaders as theory_of_leaders
use Rattle.strategy_games.proofs.Misses as theory_of_misses
use Rattle.strategy_games.proofs.Complete as theory_of_complete
use Rattle.strategy_tree.specs.Bridge.{bridge}
use Rattle.strategy_tree.proofs.Rules.{lawful, double_dummy, settled}

-- each strategy ends somewhere in each layout
pub strategy_ends : EndsSomewhere bridge IsNode
strategy_ends = theory.each_strategy_ends bridge IsNode lawful settled

-- exactly one list is the front
pub one_front : HasOneFront bridge IsNode
one_front = theory.one_front bridge IsNode lawful

-- the front of a node from the fronts of its children
pub recursion : HasRecursion bridge IsNode
recursion = theory.recursion bridge IsNode lawful settled

-- the same card by card
pub steps : HasSteps bridge IsNode
steps = theory.steps bridge IsNode lawful settled

-- a move more
pub more_moves : HasMoreMoves bridge IsNode
more_moves = theory_of_cuts.more_moves_law bridge IsNode lawful double_dummy

-- the plan that is printed
pub chosen_plan : HasChosenPlan bridge IsNode
chosen_plan = theory_of_choice.chosen_plan bridge IsNode lawful

-- the size of the tree
pub sizes : HasSizes bridge IsNode
sizes = theory_of_sizes.sizes bridge IsNode lawful

-- the greatest number of layouts that a strategy wins
pub best_count : HasBestCount bridge IsNode
best_count = theory_of_counts.best_count bridge IsNode lawful settled

-- the card that is named
pub named_card : HasNamedCard bridge IsNode
named_card = theory_of_counts.named_card bridge IsNode lawful settled

-- where a search may stop early
pub cuts : HasCuts bridge IsNode
cuts = theory_of_cuts.cuts bridge IsNode lawful double_dummy settled

-- the first node of a plan that is at fault
pub first_misfit : HasFirstMisfit bridge ◌==◌
first_misfit = theory_of_faults.misfits bridge ◌==◌ Decides-eqb

-- nodes in a relation that play keeps
pub alike : (R : NodeValue → NodeValue → Type 0) → IsKeptByPlay bridge IsNode R
    → HaveOneFront bridge IsNode R
alike = theory_of_alike.alike_law bridge IsNode lawful

-- where some cards are enough
pub enough_cards : HasEnoughCards bridge IsNode
enough_cards = theory_of_enough.enough_cards bridge IsNode lawful settled

-- the leader of a loop over declarer's cards
pub leaders : (measure : Vector → ℕ) → IsMonotone measure → HasLeaders bridge IsNode measure
leaders measure monotone =
    theory_of_leaders.leaders bridge measure IsNode lawful monotone settled double_dummy

-- the vectors that miss a 1
pub misses_tell : HasMisses bridge IsNode
misses_tell = theory_of_misses.misses_tell bridge IsNode lawful

-- plans that end where the result is decided
pub exactness : HasExactness bridge IsNode
exactness = theory_of_complete.exactness bridge IsNode lawful double_dummy
