-- The first of declarer's cards, and what they win.
use Rattle.std.proofs.Common.{◌≡◌, ◌∙◌, ◌-◌, ℕ, suc, true, false, Option, None, Some, IfSome, List, [], ◌∷◌, ◌++◌, length, Contains, sym, ap, subst}
use Rattle.win_vectors.specs.Fronts.{Vector, CoversAll, IsFrontOf}
use Rattle.pareto_fronts.specs.FrontValue.{FrontValue}
use Rattle.trick_rules.specs.Nodes.{NodeValue, IsNode, choices, child}
use Rattle.strategy_games.specs.Plans.{stops, IsFront, IsBelow}
use Rattle.strategy_games.specs.Joins.{WinsByCard}
use Rattle.strategy_games.proofs.Vectors.{Dominates-trans}
use Rattle.strategy_tree.specs.Bridge.{bridge}
use Rattle.strategy_tree.proofs.CardLists.{has_card-from_Contains}
use Rattle.strategy_tree.proofs.Rules.{going_on}
use Rattle.strategy_tree.proofs.BridgeLaws.{one_front, steps, cuts}
use Rattle.front_table.specs.Proven.{IsFrontAt}
use Rattle.cut_rules.specs.declared.CutRules.{CutRules}
use Rattle.alphamu_core.specs.declared.answers.Found.{Found}
use Rattle.alphamu_core.specs.declared.answers.Found.TheVariants.{Exact, Below}
use Rattle.alphamu_core.specs.Findings.{IsAnswer, IsExactOfWidth}
use Rattle.alphamu_core.specs.Limits.{IsUpperBound, IsUnited, IsReached}
use Rattle.alphamu_core.specs.Kept.{AreEnough, IsTaken}
use Rattle.alphamu_core.proofs.Bounds.{upper_covers}
use Rattle.alphamu_core.proofs.Standing.{enough_cards}
use Rattle.alphamu_core.proofs.Trying.{IsTrying, trying_none, trying_more, trying_all}
use Rattle.alphamu_core.proofs.OpenNodes.{some_moves, is_open, length-our_child}

-- the cards that were tried, with this many moves after each, and the front of what they win
pub record OursSoFar (n : NodeValue) (below : ℕ) (cards : List ℕ) (best : FrontValue) : Type 0 where
  pub tried : List ℕ
  pub trying : IsTrying n tried cards
  pub won : IsFrontOf (WinsByCard bridge n below tried) best.vectors
  pub width : best.width ≡ length n.lefts

module _ (n : NodeValue) (below : ℕ) where
  pub ours_none : (cards : List ℕ) (best : FrontValue) → AreEnough n cards → best.vectors ≡ [] → best.width ≡ length n.lefts → OursSoFar n below cards best
  ours_none cards best enough empty width = record {
    tried = [];
    trying = trying_none n cards enough;
    won = subst (λ vectors. IsFrontOf (WinsByCard bridge n below []) vectors) (sym empty) (steps.no_card n below);
    width = width;
  }

  module _ {cards : List ℕ} {best : FrontValue} (so : OursSoFar n below cards best) where
    module _ (moves : ℕ) (sound : IsNode n) (goes_on : stops bridge n moves ≡ false) (ours : bridge.is_ours n ≡ true) (less : below ≡ moves - 1) where
      one_more : suc below ≡ moves
      one_more = ap (λ m. suc m) less ∙ sym (some_moves n moves goes_on)

      -- every card was tried
      pub ours_all : cards ≡ [] → IsFrontAt n moves best
      ours_all none =
          subst (λ moves. IsFrontAt n moves best) one_more (record {
            front = steps.all_cards n below best.vectors sound (going_on n.position (is_open n moves goes_on)) ours
                (enough_cards n sound below so.tried so.trying.within (trying_all n so.tried cards so.trying none) best.vectors so.won);
            width = so.width;
          })

      -- the cards that were tried win all that the upper bound allows
      pub ours_enough : (upper : Option FrontValue) → IfSome upper (IsUpperBound n moves) → IsReached upper best.vectors → IsFrontAt n moves best
      ours_enough None bound reached = absurd reached
      ours_enough (Some upper) bound reached =
          let h = one_front.exists n below sound in
          let within : CoversAll upper.vectors h.0 = upper_covers n sound below upper h.0 (subst (λ moves. IsUpperBound n moves upper) (sym one_more) bound) h.1 in
          subst (λ moves. IsFrontAt n moves best) one_more (record {
            front = cuts.same_front n below so.tried best.vectors h.0 sound (going_on n.position (is_open n moves goes_on)) ours
                so.trying.within
                so.won h.1
                (λ v among. let u = within v among in let w = reached u.0 u.1 in (w.0, w.1, Dominates-trans w.0 u.0 v w.2 u.2));
            width = so.width;
          })

    module _ {card : ℕ} {rest : List ℕ} (taken : IsTaken cards card rest) where
      pub ours_next : Contains (choices n) card
      ours_next = so.trying.rest card taken.among

      module _ {m : NodeValue} (is_child : m ≡ child n card) where
        pub ours_width : bridge.is_ours n ≡ true → best.width ≡ length m.lefts
        ours_width ours =
            so.width ∙ sym (ap (λ (m : NodeValue). length m.lefts) is_child ∙ length-our_child n card ours (has_card-from_Contains (choices n) card ours_next))

        pub ours_found_width : bridge.is_ours n ≡ true → (found : Found) (rules : CutRules) → IsAnswer m below best.vectors rules found → IsExactOfWidth best.width found
        ours_found_width ours (Exact won) rules answer = answer.width ∙ sym (ours_width ours)
        ours_found_width ours Below rules answer = tt

        won_more : (found : Found) (rules : CutRules) (more : List Vector) → IsAnswer m below best.vectors rules found → IsUnited found best.vectors more → IsFrontOf (WinsByCard bridge n below (so.tried ++ card ∷ [])) more
        won_more (Exact won) rules more answer united = steps.more_cards n below so.tried card best.vectors won.vectors more so.won (subst (λ m. IsFront bridge m below won.vectors) is_child answer.front) united
        won_more Below rules more answer united =
            subst (λ vectors. IsFrontOf (WinsByCard bridge n below (so.tried ++ card ∷ [])) vectors) (sym united)
            (steps.covered_card n below so.tried card best.vectors so.won (subst (λ m. IsBelow bridge m below best.vectors) is_child answer.0))

        pub ours_more : (found : Found) (rules : CutRules) (more : FrontValue) → IsAnswer m below best.vectors rules found → IsUnited found best.vectors more.vectors → more.width ≡ best.width → OursSoFar n below rest more
        ours_more found rules more answer united width = record {
          tried = so.tried ++ card ∷ [];
          trying = trying_more n so.tried cards card rest so.trying taken;
          won = won_more found rules more.vectors answer united;
          width = width ∙ so.width;
        }
