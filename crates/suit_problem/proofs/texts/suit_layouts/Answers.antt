use Rattle.std.proofs.Common.{◌++◌, flat_map, ap, ◌∙◌, ◌≡◌, ◌+◌, arith, length}
use Rattle.std.specs.List.{range_with_len}
use Rattle.suit_problem.specs.SuitTexts.{division_line, division_lines, suit_layouts}
use Rattle.suit_problem.proofs.Lists.{listed_more}
use Rattle.suit_problem.proofs.texts.suit_layouts.Goals as goal

pub loop-size-preserved : goal.loop-size-preserved
loop-size-preserved c =
    let ending = c.args.ending.now in
    listed_more (division_lines ending) c.loop-size.text c.push_divisions.new.text c.loop-size.size c.loop-size.invariant
    (c.in_ok-push_divisions.ensures ∙ ap (λ layouts. c.loop-size.text ++ flat_map (division_line ending) layouts) (c.deref-in-loop-size.ensures.value ∙ c.in_ok-layouts.ensures))

pub returns : goal.returns
unfolding suit_layouts
returns c =
    let ending = c.args.ending.now in
    let all : c.loop-size.size ≡ length ending.missing + 1 = omega (arith, c.count-size-end.ensures.value) in
    c.loop-size.invariant ∙ ap (λ n. flat_map (division_lines ending) (range_with_len 0 n)) all
