use Rattle.page_text.proofs.Grown.{rank_more}
use Rattle.page_text.proofs.signs.push_ranks.Goals as goal

pub loop-place-preserved : goal.loop-place-preserved
loop-place-preserved c =
    rank_more c.args.may c.args.sure c.args.suit c.args.page.now c.loop-place.page c.push_rank.new.page c.loop-place.place c.new-rank.result c.new.result c.new-rank.ensures c.new.ensures.value c.loop-place.invariant c.in_ok-push_rank.ensures
