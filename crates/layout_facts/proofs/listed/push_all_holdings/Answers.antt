use Rattle.std.proofs.Common.{◌≡◌, ◌∙◌, ◌++◌, ◌-◌, flat_map, ap, arith}
use Rattle.std.specs.List.{range_with_len}
use Rattle.layout_facts.specs.Facts.{holdings, all_holdings}
use Rattle.layout_facts.proofs.Growing.{listed_more}
use Rattle.layout_facts.proofs.listed.push_all_holdings.Goals as goal

pub loop-place-preserved : goal.loop-place-preserved
loop-place-preserved c =
    listed_more (λ place. holdings (14 - place)) c.args.listed.now.items c.loop-place.listed.items c.push_holdings.new.listed.items c.loop-place.place c.loop-place.invariant
    (c.in_ok-push_holdings.ensures ∙ ap (λ rank. c.loop-place.listed.items ++ holdings rank) c.new.ensures)

pub returns : goal.returns
unfolding all_holdings
returns c =
    let all : c.loop-place.place ≡ 13 = omega arith in
    c.loop-place.invariant ∙ ap (λ n. c.args.listed.now.items ++ flat_map (λ place. holdings (14 - place)) (range_with_len 0 n)) all
