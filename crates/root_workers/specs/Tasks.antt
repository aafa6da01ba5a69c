-- What workers are given to do, and what they may report.
use Rattle.std.specs.Prelude.{◌≡◌, ◌-◌, ⊤, ℕ, Some, take, slice_get, length}
use Rattle.win_vectors.specs.Fronts.{IsFrontOf}
use Rattle.trick_rules.specs.Nodes.{choices}
use Rattle.strategy_games.specs.Joins.{WinsByCard}
use Rattle.strategy_tree.specs.Bridge.{bridge}
use Rattle.root_workers.specs.declared.rounds.Help.{Help}
use Rattle.root_workers.specs.declared.rounds.Help.TheVariants.{Cards, Race, Layouts}
use Rattle.root_workers.specs.declared.rounds.CardSearch.{CardSearch}
use Rattle.root_workers.specs.declared.rounds.Round.{Round}
use Rattle.root_workers.specs.declared.rounds.Task.{Task}
use Rattle.root_workers.specs.declared.worker_results.Known.{Known}
use Rattle.root_workers.specs.Rounds.{IsRound, IsKnownAt, AreWonAfter}

-- the card is the root card at its place, and the cards before it win alpha
pub record IsCardSearch (r : Round) (it : CardSearch) : Type 0 where
  pub card : slice_get (choices r.node.now) it.place ≡ Some it.card
  pub won : AreWonAfter r (take it.place (choices r.node.now)) it.alpha.now.vectors
  pub width : it.alpha.now.width ≡ length r.node.now.lefts

-- the same, if alpha is the front of all that they win
pub record IsFrontSearch (r : Round) (it : CardSearch) : Type 0 where
  pub card : slice_get (choices r.node.now) it.place ≡ Some it.card
  pub won : IsFrontOf (WinsByCard bridge r.node.now (r.moves - 1) (take it.place (choices r.node.now))) it.alpha.now.vectors
  pub width : it.alpha.now.width ≡ length r.node.now.lefts

-- the round may be asked, and the help is for it
abbrev pub IsHelp : Round → Help → Type 0
IsHelp r Cards = ⊤
IsHelp r (Race it) = IsCardSearch r it.now
IsHelp r Layouts = ⊤

abbrev pub IsTask : Task → Type 0
IsTask task = IsRound task.round.now × IsHelp task.round.now task.help

-- what a worker may report by its place: of the root card there, or in a race of the card of the race
abbrev pub IsReported : Round → Help → ℕ → Known → Type 0
IsReported r Cards place known = IsKnownAt r place known
IsReported r (Race it) place known = IsKnownAt r it.now.place known
IsReported r Layouts place known = ⊥

abbrev pub IsKnownBy : Task → ℕ → Known → Type 0
IsKnownBy task place known = IsReported task.round.now task.help place known
