use Rattle.std.proofs.Common.{◌≡◌, ◌∙◌, ◌++◌, flat_map, ap, arith}
use Rattle.std.specs.List.{range_with_len}
use Rattle.layout_facts.specs.Facts.{lengths, all_lengths}
use Rattle.layout_facts.proofs.Growing.{listed_more}
use Rattle.layout_facts.proofs.listed.push_all_lengths.Goals as goal

pub loop-count-preserved : goal.loop-count-preserved
loop-count-preserved c = listed_more lengths c.args.listed.now.items c.loop-count.listed.items c.push_lengths.new.listed.items c.loop-count.count c.loop-count.invariant c.in_ok-push_lengths.ensures

pub returns : goal.returns
unfolding all_lengths
returns c =
    let all : c.loop-count.count ≡ 14 = omega arith in
    c.loop-count.invariant ∙ ap (λ n. c.args.listed.now.items ++ flat_map lengths (range_with_len 0 n)) all
