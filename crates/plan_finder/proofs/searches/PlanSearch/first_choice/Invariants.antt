use Rattle.std.proofs.Common.{length, IfSome}
use Rattle.alphamu_core.specs.Costs.{IsWithin}
use Rattle.plan_finder.specs.PlanSearches.{IsSameSearch}
use Rattle.plan_finder.proofs.Passed.{NoneKeeps}
use Rattle.plan_finder.proofs.searches.PlanSearch.first_choice.Given as goal

abbrev pub invariant-cards : goal.invariant-cards
invariant-cards g l = record {
  so : NoneKeeps l.node l.moves l.vector l.cards;
  same : IsSameSearch g.S.FrontStore.grown l.fn.self l.self;
  most : IfSome l.most (IsWithin l.fn.self.nodes);
}

abbrev pub decreases-cards : goal.decreases-cards
decreases-cards g l = length l.cards
