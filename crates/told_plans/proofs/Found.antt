-- What is found of two plans, if memory lasts.
use Rattle.std.proofs.Common.{◌≡◌, ◌≤◌, ℕ, Option, Some, None, Result, Ok, Err, IfOk, MatchOption, sym, subst, arith}
use Rattle.std.specs.Prelude.{max, ⊤}
use Rattle.std.specs.Option.{option_map}
use Rattle.strategy_games.specs.Plans.{Replies, Hear}
use Rattle.strategy_games.specs.Plans as games
use Rattle.strategy_tree.specs.declared.plan.Plan.{Plan}
use Rattle.strategy_tree.specs.PlanMeaning.{plan_of}
use Rattle.strategy_tree.specs.PlanText.{levels_of, levels_below}
use Rattle.told_plans.specs.Follows.{answer_to, Agree, IsBoth}
use Rattle.told_plans.specs.BothSteps.{IsBothAfter}
use Rattle.told_plans.proofs.Boths.{answer_level, same_answer}

pub none_found : {A : Type 0} (found : Option A) (N : Type 0) (S : A → Type 0) → found ≡ None → MatchOption found N S → N
none_found found N S is h = subst (λ o. MatchOption o N S) is h

pub some_found : {A : Type 0} (found : Option A) (N : Type 0) (S : A → Type 0) (x : A) → found ≡ Some x → MatchOption found N S → S x
some_found found N S x is h = subst (λ o. MatchOption o N S) is h

module _ {E : Type 0} (r : Result (Option Plan) E) where
  -- from the answers to a card
  pub answers_found : (rs ss : Replies ℕ) (card : ℕ) (p q : games.Plan ℕ) → answer_to rs card ≡ Some p → answer_to ss card ≡ Some q
      → IfOk r (λ found. MatchOption found (Agree p q → ⊥) (λ both. IsBoth p q (plan_of both)))
      → IfOk r (λ found. MatchOption found (Agree (Hear rs) (Hear ss) → ⊥) (λ both. IsBothAfter (answer_to rs card) (answer_to ss card) (Some (plan_of both))))
  answers_found rs ss card p q is_p is_q h = go r h
    where
      go : (r : Result (Option Plan) E) → IfOk r (λ found. MatchOption found (Agree p q → ⊥) (λ both. IsBoth p q (plan_of both)))
          → IfOk r (λ found. MatchOption found (Agree (Hear rs) (Hear ss) → ⊥) (λ both. IsBothAfter (answer_to rs card) (answer_to ss card) (Some (plan_of both))))
      go (Ok None) h = same_answer rs ss card p q is_p is_q h
      go (Ok (Some u)) h = subst (λ o. IsBothAfter o (answer_to ss card) (Some (plan_of u))) (sym is_p) (subst (λ o. IsBothAfter (Some p) o (Some (plan_of u))) (sym is_q) h)
      go (Err e) h = h

  pub levels_found : (a b c d : ℕ) → a ≤ c → b ≤ d → IfOk r (λ found. MatchOption found ⊤ (λ both. levels_of (plan_of both) ≤ max a b)) → IfOk r (λ found. MatchOption found ⊤ (λ both. levels_of (plan_of both) ≤ max c d))
  levels_found a b c d low_a low_b h = go r h
    where
      go : (r : Result (Option Plan) E) → IfOk r (λ found. MatchOption found ⊤ (λ both. levels_of (plan_of both) ≤ max a b)) → IfOk r (λ found. MatchOption found ⊤ (λ both. levels_of (plan_of both) ≤ max c d))
      go (Ok None) h = h
      go (Ok (Some u)) h = omega (arith, h)
      go (Err e) h = h

  -- of a copied answer
  pub copied_level : (rs ss : Replies ℕ) (card : ℕ) → IfOk r (λ found. option_map plan_of found ≡ answer_to ss card) → IfOk r (λ found. MatchOption found ⊤ (λ both. levels_of (plan_of both) ≤ max (levels_below rs) (levels_below ss)))
  copied_level rs ss card h = go r h
    where
      go : (r : Result (Option Plan) E) → IfOk r (λ found. option_map plan_of found ≡ answer_to ss card) → IfOk r (λ found. MatchOption found ⊤ (λ both. levels_of (plan_of both) ≤ max (levels_below rs) (levels_below ss)))
      go (Ok None) h = tt
      go (Ok (Some u)) h = omega (arith, answer_level ss card (plan_of u) (sym h))
      go (Err e) h = h
