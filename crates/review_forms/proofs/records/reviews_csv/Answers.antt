use Rattle.text_forms.specs.Records.{record_text}
use Rattle.review_text.proofs.Numbered.{text_more}
use Rattle.review_forms.specs.Records.{game_names, game_records}
use Rattle.review_forms.proofs.records.reviews_csv.Goals as goal

pub loop-place-preserved : goal.loop-place-preserved
loop-place-preserved c =
    text_more (game_records c.args.moves) (record_text game_names) c.loop-place.text c.push_game.new.text c.args.games.now c.loop-place.place c.index-games-place.result c.loop-place-test.true
    c.index-games-place.is c.loop-place.invariant c.in_ok-push_game.ensures
