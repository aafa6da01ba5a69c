-- The front of a reduced list.
use Rattle.std.proofs.Common.{List, subst}
use Rattle.win_vectors.specs.Fronts.{Vector, IsFrontOf, IsReduced}
use Rattle.win_vectors.proofs.Reduction.{reduced-unique}
use Rattle.strategy_games.proofs.Vectors.{Dominates-refl}

-- a front is its own reduced list, and a vector by itself
own_reduced : (Can : Vector → Type 0) (f : List Vector) → IsFrontOf Can f → IsReduced f f
own_reduced Can f front = record {
  reached = λ v member. member;
  covered = λ v member. (v, member, Dominates-refl v);
  apart = front.apart;
  ordered = front.ordered;
}

pub same_front : (Can : Vector → Type 0) (f new : List Vector) → IsFrontOf Can f → IsReduced f new → IsFrontOf Can new
same_front Can f new front reduced = subst (λ g. IsFrontOf Can g) (reduced-unique f f new (own_reduced Can f front) reduced) front
