-- Bridge as a game of hidden layouts.
use Rattle.std.specs.Prelude.{ℕ, is_some, ◌==◌}
use Rattle.card_sets.specs.SetWords.{has_card}
use Rattle.trick_rules.specs.Positions.{State, to_play}
use Rattle.trick_rules.specs.Play.{legal_in, after, is_declarers, is_over, decided, cards_left, makes}
use Rattle.trick_rules.specs.Nodes.{NodeValue, states, choices, child}
use Rattle.strategy_games.specs.Games.{Game}

-- All see the position, and none of declarer's side which of the layouts it is. A card of declarer or of dummy is a move of declarer's side
abbrev pub bridge : Game NodeValue State ℕ
bridge = record {
  states = λ n. states n;
  is_ours = λ n. is_declarers (to_play n.position);
  is_over = λ n. is_over n.position;
  is_decided = λ n. is_some (decided n.position);
  is_made = λ n. n.position.need == 0;
  cards_left = λ n. cards_left n.position;
  choices = λ n. choices n;
  child = λ n card. child n card;
  is_legal = λ card s. has_card (legal_in s) card;
  after = λ card s. after s card;
  makes = λ s. makes s;
}
