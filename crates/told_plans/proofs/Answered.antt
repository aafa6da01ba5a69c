-- The replies to cards, and their answers.
use Rattle.std.proofs.Common.{◌≡◌, ◌∙◌, ◌==◌, ◌||◌, ℕ, Bool, true, cond, Some, refl, sym, ap, inl, inr}
use Rattle.std.proofs.lemmas.Bool.{cases_eq, eq-eqb, ne_eqb, or_right}
use Rattle.card_sets.specs.SetWords.{has_card}
use Rattle.strategy_games.specs.Plans.{Plan, Replies, NoReply, Reply, cards_of}
use Rattle.told_plans.specs.Follows.{answer_to}

-- the first reply to a card is its answer, if the cards differ
pub first_answer : (card : ℕ) (q : Plan ℕ) (later : Replies ℕ) → answer_to (Reply card q later) card ≡ Some q
first_answer card q later = ap (λ (b : Bool). cond b (Some q) (answer_to later card)) (eq-eqb card card refl)

pub later_answer : (c card : ℕ) (q : Plan ℕ) (later : Replies ℕ) → (c ≡ card → ⊥) → answer_to (Reply c q later) card ≡ answer_to later card
later_answer c card q later other = ap (λ (b : Bool). cond b (Some q) (answer_to later card)) (ne_eqb c card other)

-- a card that has an answer is replied to
pub replied : (rs : Replies ℕ) (card : ℕ) (q : Plan ℕ) → answer_to rs card ≡ Some q → has_card (cards_of rs) card ≡ true
replied NoReply card q is = absurd cc
replied (Reply c p later) card q is =
    elim (cases_eq c card) [
      | inl same ↦ ap (λ b. b || has_card (cards_of later) card) (eq-eqb c card same)
      | inr other ↦ or_right (c == card) (has_card (cards_of later) card) (replied later card q (sym (later_answer c card p later other) ∙ is))
    ]
