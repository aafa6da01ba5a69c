use Rattle.std.proofs.Common.{◌≡◌, flat_map, take}
use Rattle.review_text.specs.Games.{told_in}
use Rattle.review_text.proofs.game.all_told.Given as goal

abbrev pub invariant-loop-game : goal.invariant-loop-game
invariant-loop-game l = l.told.items ≡ flat_map told_in (take l.game-index l.games)
