use Rattle.std.proofs.Common.{◌≡◌, map, take}
use Rattle.pbn_games.proofs.game.played_cards.Given as goal

abbrev pub invariant-loop-play : goal.invariant-loop-play
invariant-loop-play l = l.cards.items ≡ map (λ play. play.card) (take l.play-index l.plays)
