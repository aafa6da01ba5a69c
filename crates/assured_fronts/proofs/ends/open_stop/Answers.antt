use Rattle.std.proofs.Common.{◌≤◌, length, ◌∙◌, rules}
use Rattle.assured_fronts.proofs.Leaves.{played_more, played_all}
use Rattle.assured_fronts.proofs.ends.open_stop.Goals as goal

pub loop-place-preserved : goal.loop-place-preserved
loop-place-preserved c = record {
  width = c.in_ok-insert.ensures.width ∙ c.loop-place.invariant.width;
  so_far = played_more c.args.node.now c.loop-place.place c.played_for.result c.loop-place.front.vectors c.insert.new.self.vectors c.played_for.ensures c.loop-place.invariant.so_far c.in_ok-insert.ensures.ok;
}

pub returns : goal.returns
returns c =
    let all : length c.args.node.now.lefts ≤ c.loop-place.place = search rules in
    record {
      front = played_all c.args.node.now c.loop-place.place c.loop-place.front.vectors c.width.ensures.a_node c.requires.goes_on all c.loop-place.invariant.so_far;
      width = c.loop-place.invariant.width;
    }
