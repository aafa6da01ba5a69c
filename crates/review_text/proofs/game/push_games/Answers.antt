use Rattle.review_text.specs.Games.{game_text}
use Rattle.review_text.proofs.Numbered.{text_more}
use Rattle.review_text.proofs.game.push_games.Goals as goal

pub loop-place-preserved : goal.loop-place-preserved
loop-place-preserved c =
    text_more game_text c.args.text.now c.loop-place.text c.push_game.new.text c.args.games.now c.loop-place.place c.index-games-place.result c.loop-place-test.true c.index-games-place.is
    c.loop-place.invariant c.in_ok-push_game.ensures
