use Rattle.std.proofs.Common.{◌≡◌, ◌<◌, ◌+◌, ◌-◌, ◌^◌, ◌++◌, suc, length, ap, ◌∙◌, sym, arith, append_assoc, append-nil, length-append}
use Rattle.std.proofs.lemmas.Result.{on_ok_weaker}
use Rattle.layout_maker.specs.Divisions.{hands_of_size}
use Rattle.layout_draw.specs.Fitting.{at_places}
use Rattle.layout_draw.specs.Walks.{fitting_from}
use Rattle.layout_draw.proofs.Walked.{fitting_from-none, fitting_from-split, length-hands_split, length-fitting_from, at_places-append}
use Rattle.layout_draw.proofs.walk.Progress.+walk.Goals as goal

pub returns-then-count-wanted-clause-count : goal.returns-then-count-wanted-clause-count
returns-then-count-wanted-clause-count t c =
    let task = c.args.task.now in
    let none = ap length (fitting_from-none task.conditions.now.left.items task.conditions.now.right.items task.unseen c.args.hand c.args.free c.args.wanted (omega (arith, c.count.ensures.value))) in
    omega (arith, none)

pub returns-then-count-wanted-clause-kept : goal.returns-then-count-wanted-clause-kept
returns-then-count-wanted-clause-kept t c =
    let task = c.args.task.now in
    let none = fitting_from-none task.conditions.now.left.items task.conditions.now.right.items task.unseen c.args.hand c.args.free c.args.wanted (omega (arith, c.count.ensures.value)) in
    sym (append-nil c.args.self.now.kept.items)
    ∙ ap (λ xs. c.args.self.now.kept.items ++ at_places task.places.now c.args.self.now.count xs) (sym none)

pub walk-requires-2 : goal.walk-requires-2
walk-requires-2 t c =
    let task = c.args.task.now in
    let rest = c.pop_first.new.self in
    let n = c.args.wanted - 1 in
    let more : c.args.wanted ≡ suc n = omega arith in
    let hands = length-hands_split c.in-Some.card c.args.wanted n c.args.free rest more c.in-Some.ensures.value in
    let most = length-fitting_from task.conditions.now.left.items task.conditions.now.right.items task.unseen c.with.result rest n in
    let room : c.walk.new.self.count + length (hands_of_size c.args.wanted rest) < 2 ^ 64 = omega (arith, hands, most, c.in_ok-walk.ensures.count, c.requires.room) in
    let size = ap length c.in-Some.ensures.value in
    (omega (arith, size, c.decreases), (c.requires.a_set, (c.requires.ascending, room)))

pub returns-clause-count : goal.returns-clause-count
returns-clause-count t c =
    let task = c.args.task.now in
    let left = task.conditions.now.left.items in
    let right = task.conditions.now.right.items in
    let rest = c.pop_first.new.self in
    let n = c.args.wanted - 1 in
    let more : c.args.wanted ≡ suc n = omega arith in
    let split = fitting_from-split left right task.unseen c.args.hand c.with.result c.args.free rest c.in-Some.card c.args.wanted n more c.in-Some.ensures.value c.with.ensures.value in
    let size = ap length split ∙ length-append (fitting_from left right task.unseen c.with.result n rest) (fitting_from left right task.unseen c.args.hand c.args.wanted rest) in
    on_ok_weaker c.walk-2.result (λ second. omega (arith, second, size, c.in_ok-walk.ensures.count)) c.walk-2.ensures.count

pub returns-clause-kept : goal.returns-clause-kept
returns-clause-kept t c =
    let task = c.args.task.now in
    let left = task.conditions.now.left.items in
    let right = task.conditions.now.right.items in
    let rest = c.pop_first.new.self in
    let n = c.args.wanted - 1 in
    let more : c.args.wanted ≡ suc n = omega arith in
    let with_it = fitting_from left right task.unseen c.with.result n rest in
    let without = fitting_from left right task.unseen c.args.hand c.args.wanted rest in
    let split = fitting_from-split left right task.unseen c.args.hand c.with.result c.args.free rest c.in-Some.card c.args.wanted n more c.in-Some.ensures.value c.with.ensures.value in
    let places = task.places.now in
    let first = c.args.self.now.count in
    let kept = c.args.self.now.kept.items in
    on_ok_weaker c.walk-2.result
    (λ second. second
    ∙ ap (λ xs. xs ++ at_places places c.walk.new.self.count without) c.in_ok-walk.ensures.kept
    ∙ append_assoc kept (at_places places first with_it) (at_places places c.walk.new.self.count without)
    ∙ ap (λ xs. kept ++ xs)
    (ap (λ m. at_places places first with_it ++ at_places places m without) c.in_ok-walk.ensures.count
    ∙ sym (at_places-append places first with_it without)
    ∙ ap (at_places places first) (sym split)))
    c.walk-2.ensures.kept
