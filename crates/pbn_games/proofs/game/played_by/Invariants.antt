use Rattle.std.proofs.Common.{◌≡◌, take}
use Rattle.pbn_games.specs.GameText.{played_by}
use Rattle.pbn_games.proofs.game.played_by.Given as goal

abbrev pub invariant-loop-play : goal.invariant-loop-play
invariant-loop-play l = l.cards ≡ played_by (take l.play-index l.plays) l.seat
