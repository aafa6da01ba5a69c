use Rattle.std.proofs.Common.{◌∙◌, sym, ap, inr, arith}
use Rattle.layout_draw.specs.Walks.{fitting_from}
use Rattle.layout_draw.specs.Fitting.{at_places}
use Rattle.layout_draw.proofs.Drawing.{fitting-walked, fitting-none, made-none, made-counted_none, drawn-of}
use Rattle.layout_draw.proofs.drawn.draw_layouts.Goals as goal

pub returns-in_default-allowed_choices : goal.returns-in_default-allowed_choices
returns-in_default-allowed_choices c =
    let b = c.args.board.now in
    let left = c.args.conditions.now.left.items in
    let right = c.args.conditions.now.right.items in
    let unseen = c.in-Some.unseen in
    inr (made-none b left right unseen (sym c.unseen.ensures.value ∙ c.in-Some.is) (fitting-none b left right unseen c.in_default-allowed_choices.ensures.hands))

pub returns-then-count-eq0 : goal.returns-then-count-eq0
returns-then-count-eq0 c =
    let b = c.args.board.now in
    let left = c.args.conditions.now.left.items in
    let right = c.args.conditions.now.right.items in
    let unseen = c.in-Some.unseen in
    let choices = c.in-Some-allowed_choices.choices in
    let walk = fitting-walked b left right unseen choices.sure choices.free choices.wanted c.in-Some-allowed_choices.ensures.hands in
    inr (made-counted_none b left right unseen (fitting_from left right unseen choices.sure choices.wanted choices.free) (sym c.unseen.ensures.value ∙ c.in-Some.is) walk (omega (arith, c.in_ok-count.ensures.count)))

pub returns : goal.returns
returns c =
    let b = c.args.board.now in
    let left = c.args.conditions.now.left.items in
    let right = c.args.conditions.now.right.items in
    let unseen = c.in-Some.unseen in
    let choices = c.in-Some-allowed_choices.choices in
    let fitting = fitting_from left right unseen choices.sure choices.wanted choices.free in
    let walk = fitting-walked b left right unseen choices.sure choices.free choices.wanted c.in-Some-allowed_choices.ensures.hands in
    let placed = c.in_ok-layouts.ensures.kept ∙ ap (λ places. at_places places 0 fitting) c.deref.ensures.value in
    drawn-of b left right unseen fitting c.in_ok-layouts.field-0.kept.items c.args.amount c.in_ok-count.field-0.count c.min.result c.in_ok-places.places.items
    (sym c.unseen.ensures.value ∙ c.in-Some.is) walk c.in_ok-count.ensures.count (omega arith) c.min.ensures c.in_ok-places.ensures placed
