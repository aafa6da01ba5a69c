use Rattle.std.proofs.Common.{◌≡◌, ◌++◌, flat_map, take}
use Rattle.std.specs.List.{enumerate_from}
use Rattle.review_text.specs.Games.{game_text}
use Rattle.review_text.proofs.game.push_games.Given as goal

abbrev pub invariant-loop-place : goal.invariant-loop-place
invariant-loop-place l = l.text ≡ l.initial.text ++ flat_map game_text (enumerate_from 1 (take l.place l.games))
