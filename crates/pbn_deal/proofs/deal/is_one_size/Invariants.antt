use Rattle.std.proofs.Common.{◌≡◌, drop}
use Rattle.pbn_deal.specs.Deal.{are_one_size, shown_sizes}
use Rattle.pbn_deal.proofs.Sizes.{sizes_from}
use Rattle.pbn_deal.proofs.deal.is_one_size.Given as goal

abbrev pub invariant-loop-hand : goal.invariant-loop-hand
invariant-loop-hand l = sizes_from l.size (shown_sizes (drop l.hand-index l.hands)) ≡ are_one_size (shown_sizes l.hands)
