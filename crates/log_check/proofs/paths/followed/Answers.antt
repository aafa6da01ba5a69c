use Rattle.std.proofs.Common.{◌+◌, ◌<◌, ◌≤◌, drop, length, arith}
use Rattle.std.proofs.lemmas.List.{drop_all}
use Rattle.log_check.proofs.Followed.{start, goes_on, stuck, arrived, card_at}
use Rattle.log_check.proofs.paths.followed.Goals as goal

pub loop-place-init : goal.loop-place-init
loop-place-init c = start c.args.root.now c.in_ok-node.node c.args.moves c.args.path.now c.in_ok-node.ensures

pub returns-in_default : goal.returns-in_default
returns-in_default c =
    let low : c.loop-place.place < length c.args.path.now = omega arith in
    stuck c.args.root.now c.args.moves c.args.path.now c.loop-place.node c.loop-place.left c.get.result
    (drop c.loop-place.place c.args.path.now) (drop (c.loop-place.place + 1) c.args.path.now) c.loop-place.invariant
    (card_at c.args.path.now c.loop-place.place c.get.result low c.get.ensures) (rw c.in_default.is at c.in_ok-child.ensures)

pub loop-place-preserved : goal.loop-place-preserved
loop-place-preserved c =
    let low : c.loop-place.place < length c.args.path.now = omega arith in
    goes_on c.args.root.now c.args.moves c.args.path.now c.loop-place.node c.in-Some.child c.loop-place.left c.in-Some.rest c.get.result
    (drop c.loop-place.place c.args.path.now) (drop (c.loop-place.place + 1) c.args.path.now) c.loop-place.invariant
    (card_at c.args.path.now c.loop-place.place c.get.result low c.get.ensures) (rw c.in-Some.is at c.in_ok-child.ensures)

pub returns : goal.returns
returns c =
    let past : length c.args.path.now ≤ c.loop-place.place = omega arith in
    arrived c.args.root.now c.args.moves c.args.path.now c.loop-place.node c.loop-place.left (drop c.loop-place.place c.args.path.now)
    c.loop-place.invariant (drop_all c.loop-place.place c.args.path.now past)
