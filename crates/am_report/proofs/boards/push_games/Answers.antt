use Rattle.am_report.proofs.Games.{game_more}
use Rattle.am_report.proofs.boards.push_games.Goals as goal

pub loop-place-preserved : goal.loop-place-preserved
loop-place-preserved c =
    game_more c.args.text.now c.loop-place.text c.push_game.new.text c.args.games.now c.loop-place.place c.index-games-place.result c.loop-place-test.true c.index-games-place.is c.loop-place.invariant c.in_ok-push_game.ensures
