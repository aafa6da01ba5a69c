-- An array to which nodes are added shows what it has shown.
use Rattle.std.proofs.Common.{◌≡◌, ℕ, zero, suc, List, [], ◌∷◌, ◌++◌}
use Rattle.std.specs.Prelude.{Some, slice_get}
use Rattle.strategy_games.specs.Plans.{Plan, Replies, Stop, Play, Hear, NoReply, Reply}
use Rattle.flat_plans.specs.declared.node.PlanNode.{PlanNode}
use Rattle.flat_plans.specs.Arrays.{ShowsAt, ShowEachAt}

pub still_there : {X : Type 0} (xs more : List X) (place : ℕ) (x : X) → slice_get xs place ≡ Some x → slice_get (xs ++ more) place ≡ Some x
still_there [] more place x there = absurd none
  where
    none : ⊥
    none = cc
still_there (y ∷ xs) more zero x there = there
still_there (y ∷ xs) more (suc place) x there = still_there xs more place x there

mutual
  pub shows_still : (nodes more : List PlanNode) (plan : Plan ℕ) (first count : ℕ) → ShowsAt nodes plan first count → ShowsAt (nodes ++ more) plan first count
  shows_still nodes more Stop first count shown = shown
  shows_still nodes more (Play card rest) first count (one, (node, there, same, next)) = (one, (node, still_there nodes more first node there, same, shows_still nodes more rest node.first_reply node.replies next))
  shows_still nodes more (Hear replies) first count (many, each) = (many, each_still nodes more replies first each)

  pub each_still : (nodes more : List PlanNode) (replies : Replies ℕ) (place : ℕ) → ShowEachAt nodes replies place → ShowEachAt (nodes ++ more) replies place
  each_still nodes more NoReply place shown = tt
  each_still nodes more (Reply card plan later) place ((node, there, same, next), rest) =
      ((node, still_there nodes more place node there, same, shows_still nodes more plan node.first_reply node.replies next), each_still nodes more later (suc place) rest)
