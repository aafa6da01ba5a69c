use Rattle.pbn_games.proofs.Hands.{more_of_line}
use Rattle.pbn_games.proofs.game.all_cards.Goals as goal

pub loop-place-preserved : goal.loop-place-preserved
loop-place-preserved c = more_of_line _ _ c.loop-place.place c.get.result c.loop-place.all.items c.push.new.self.items c.get.ensures c.loop-place.invariant c.in_ok-push.ensures.items
