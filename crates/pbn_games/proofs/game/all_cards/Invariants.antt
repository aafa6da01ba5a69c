use Rattle.std.proofs.Common.{◌≡◌, ◌++◌, map, take}
use Rattle.pbn_games.proofs.game.all_cards.Given as goal

abbrev pub invariant-loop-place : goal.invariant-loop-place
invariant-loop-place l = l.all.items ≡ map (λ play. play.card) l.plays ++ take l.place l.line
