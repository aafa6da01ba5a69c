use Rattle.std.proofs.Common.{◌≡◌, ◌-◌, ◌⊎◌, None, IfSome, length}
use Rattle.std.specs.Prelude.{IsSome}
use Rattle.alphamu_core.specs.Costs.{IsWithin}
use Rattle.shared_table.specs.Passes.{IsPassOf}
use Rattle.root_workers.specs.Rounds.{IsPlainRound, IsKnownAt, HasSeenMore}
use Rattle.worker_pool.specs.Findings.{AreRight}
use Rattle.cut_rules.specs.Rules.{no_cuts}
use Rattle.root_workers.proofs.RootSoFar.{RootSoFar}
use Rattle.root_workers.proofs.Founds.{AreFoundSoFar}
use Rattle.root_workers.proofs.best_card.best_over.Given as goal

abbrev pub invariant-cards : goal.invariant-cards
invariant-cards g l = record {
  pass : IsPassOf l.round.table.now l.pass;
  grown : HasSeenMore l.fn.pass l.pass;
  right : AreRight (IsKnownAt l.round) l.findings.items;
  founds : AreFoundSoFar l.round.node.now l.round.moves (l.round.rules ≡ no_cuts → ⊥) l.founds.items;
  counted : length l.founds.items ≡ l.place;
  most : IfSome l.most (IsWithin l.round.nodes);
  searched : (l.best ≡ None) ⊎ IsSome l.most;
  so : (so : RootSoFar l.round.node.now (l.round.moves - 1) l.round.weights.now l.round.nodes (IsPlainRound l.round) l.cards l.front l.best) × (l.place ≡ length so.tried);
}

abbrev pub decreases-cards : goal.decreases-cards
decreases-cards g l = length l.cards
