use Rattle.std.proofs.Common.{[], ◌∷◌, sym, subst, ◌∙◌}
use Rattle.sure_tricks.specs.Sure.{AreSafe}
use Rattle.sure_tricks.proofs.Crossing.{safe_at_no_trump}
use Rattle.dd_solver.proofs.HeadingHand.{from_not, safe_none}
use Rattle.dd_solver.proofs.headed.can_ruff.Goals as goal

pub returns-in-NoTrump : goal.returns-in-NoTrump
returns-in-NoTrump c = λ card same off. subst (λ t. AreSafe t (card ∷ []) c.args.hand) (sym c.in-NoTrump.is) (safe_at_no_trump (card ∷ []) c.args.hand)

pub returns-then-is_empty : goal.returns-then-is_empty
returns-then-is_empty c = λ card same off. safe_none c.args.trump c.in-Suit.trumps card c.args.hand c.in-Suit.is
    (sym c.of_suit-then-is_empty.ensures.value ∙ (c.is_empty-then-is_empty.ensures.value).0 (from_not c.is_empty-then-is_empty.result off))
