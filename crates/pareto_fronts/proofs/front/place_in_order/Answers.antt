use Rattle.std.proofs.Common.{rules}
use Rattle.std.proofs.lemmas.List.Sorted.{IsPartitionPoint-from_clause}
use Rattle.pareto_fronts.proofs.FrontLemmas.{stands_before, parted-by_order, place-parted}
use Rattle.pareto_fronts.proofs.front.place_in_order.Goals as goal

pub returns : goal.returns
returns c =
    let us = c.args.vectors.now in
    let v = c.args.vector in
    let point = IsPartitionPoint-from_clause (stands_before v) us _ c.partition_point.ensures.partitioned (parted-by_order us v c.requires.widths c.requires.ordered) (λ a r q k. search rules) in
    place-parted us v c.partition_point.result c.requires.widths c.requires.new c.partition_point.ensures.bound point
