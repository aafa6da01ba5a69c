use Rattle.std.proofs.Common.{◌≤◌, length, rules}
use Rattle.page_report.specs.Played.{IsPlayedOut}
use Rattle.page_report.proofs.Zipped.{layout_next, all_layouts}
use Rattle.page_report.proofs.plays.plays_of.Goals as goal

pub loop-place-preserved : goal.loop-place-preserved
loop-place-preserved c =
    layout_next (IsPlayedOut c.args.read.now) c.args.node.now c.loop-place.plays.items c.push.new.self.items c.loop-place.place c.play_at-play.result (search rules) c.play_at-play.ensures
    c.loop-place.invariant c.in_ok-push.ensures.items

pub returns : goal.returns
returns c =
    let over : length c.args.node.now.lefts ≤ c.loop-place.place = search rules in
    all_layouts (IsPlayedOut c.args.read.now) c.args.node.now c.loop-place.plays.items c.loop-place.place over c.loop-place.invariant
