-- How a review ends: with what is told of each decision, with a layout file that is refused, or at a root card whose tree is too
-- large.
use Rattle.std.proofs.Common.{◌≡◌, ◌<◌, ℕ, List, [], ◌∷◌, length, Contains, ⊎_elim, refl, subst, arith}
use Rattle.std.specs.List.{AllZip}
use Rattle.card_brackets.specs.Rows.{IsSpentUpTo}
use Rattle.pbn_deal.specs.Boards.{BoardValue}
use Rattle.layout_list.specs.declared.fault.LayoutFault.{LayoutFault}
use Rattle.layout_list.specs.declared.fault.LayoutFault.TheVariants as faults
use Rattle.strategy_tree.specs.declared.root_fault.RootFault.{RootFault}
use Rattle.strategy_tree.specs.declared.root_fault.RootFault.TheVariants.{Spent, Memory}
use Rattle.am_answer.specs.Refusals.{layout_status, root_status}
use Rattle.board_decisions.specs.declared.list.Decision.{Decision}
use Rattle.board_decisions.specs.Decisions.{AreDecisions, IsFaultBefore}
use Rattle.review_text.specs.declared.reviewed.Reviewed.{Reviewed}
use Rattle.job_review.specs.Reviews.{IsToldOf, IsReview, IsRefusedBefore, IsReviewRefusal}

module _ (board : BoardValue) (layouts : List ℕ) (limit from : ℕ) where
  pub review_is : (decisions : List Decision) (told : List Reviewed) → 0 < length decisions → AreDecisions board layouts from decisions
      → AllZip (IsToldOf board limit) decisions told → IsReview board layouts limit from told
  review_is [] told some are is = absurd (omega arith)
  review_is (first ∷ later) told some are is = record {
    first = first;
    later = later;
    are_decisions = are;
    are_told = is;
  }

  -- what holds of a fault other than a failed allocation
  refused : (fault : LayoutFault) → (fault ≡ faults.Memory → ⊥) → IsFaultBefore board layouts from fault → IsRefusedBefore board layouts from fault
  refused fault other is = ⊎_elim (λ same. absurd (other same)) (λ before. before) is

  pub refusal_of : (nodes : ℕ) (fault : LayoutFault) → IsFaultBefore board layouts from fault → IsReviewRefusal board layouts limit from nodes (layout_status fault)
  refusal_of nodes (faults.BadLine line bad) is = refused (faults.BadLine line bad) (λ same. absurd cc) is
  refusal_of nodes (faults.OtherHands line) is = refused (faults.OtherHands line) (λ same. absurd cc) is
  refusal_of nodes (faults.TooMany line) is = refused (faults.TooMany line) (λ same. absurd cc) is
  refusal_of nodes (faults.BadWeight line) is = refused (faults.BadWeight line) (λ same. absurd cc) is
  refusal_of nodes faults.NoneLeft is = refused faults.NoneLeft (λ same. absurd cc) is
  refusal_of nodes faults.Memory is = tt

  spent_at : (nodes : ℕ) (decisions : List Decision) (decision : Decision) → AreDecisions board layouts from decisions → Contains decisions decision
      → (fault : RootFault) → ((card : ℕ) → fault ≡ Spent card → IsSpentUpTo decision.kept.node decision.kept.weights limit nodes card) → IsReviewRefusal board layouts limit from nodes (root_status fault)
  spent_at nodes decisions decision are among (Spent card) spent = record {
    decisions = decisions;
    decision = decision;
    are_decisions = are;
    among = among;
    spent = spent card refl;
  }
  spent_at nodes decisions decision are among Memory spent = tt

  -- the same decision, once as it is and once as it is opened; and the number of nodes as a search is given it
  pub spent_of : (opened decision : Decision) → opened ≡ decision → (given nodes : ℕ) → given ≡ nodes → (decisions : List Decision) → AreDecisions board layouts from decisions
      → Contains decisions decision → (fault : RootFault) → ((card : ℕ) → fault ≡ Spent card → IsSpentUpTo opened.kept.node opened.kept.weights limit given card)
      → IsReviewRefusal board layouts limit from nodes (root_status fault)
  spent_of opened decision same given nodes as_many decisions are among fault spent =
      spent_at nodes decisions decision are among fault (λ card is.
      subst (λ (d : Decision). IsSpentUpTo d.kept.node d.kept.weights limit nodes card) same
      (subst (λ number. IsSpentUpTo opened.kept.node opened.kept.weights limit number card) as_many (spent card is)))
