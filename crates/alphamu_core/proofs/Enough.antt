-- Of equal cards the lowest are enough.
use Rattle.std.proofs.Common.{◌≡◌, ◌∙◌, ◌≤◌, ◌↔◌, ℕ, true, List, filter, refl, sym, subst, arith}
use Rattle.std.proofs.lemmas.Bool.{and_parts, and_from}
use Rattle.card_sets.specs.SetWords.{has_card}
use Rattle.card_sets.proofs.Sets.{has_card-filter}
use Rattle.trick_rules.specs.Nodes.{NodeValue, choices}
use Rattle.strategy_tree.proofs.CardLists.{has_card-from_Contains, Contains-from_has_card}
use Rattle.equal_cards.specs.Equals.{IsLowest, ComeToTheSame}
use Rattle.alphamu_core.specs.Kept.{AreEnough}
use Rattle.alphamu_core.proofs.Standing.{sum_by-filter}

module _ (n : NodeValue) where
  -- all choices are enough
  pub enough_all : AreEnough n (choices n)
  enough_all = record {
    within = λ card among. among;
    each = λ card among. (card, among, record { same_layouts = refl; one_front = λ moves front. ((λ h. h), (λ h. h)) });
    sums = λ size. omega arith;
  }

  -- and so are the lowest of equal ones
  pub enough_part : (lowest cards : List ℕ) → cards ≡ filter (has_card lowest) (choices n)
      → ((card : ℕ) → (has_card lowest card ≡ true) ↔ IsLowest n card)
      → ((card : ℕ) → has_card (choices n) card ≡ true → (kept : ℕ) × (has_card lowest kept ≡ true) × (kept ≤ card) × ComeToTheSame n kept card)
      → AreEnough n cards
  enough_part lowest cards is low each = subst (λ cards. AreEnough n cards) (sym is) (record {
    within = λ card among. Contains-from_has_card (choices n) card
        (and_parts (has_card (choices n) card) (has_card lowest card) (sym (has_card-filter (has_card lowest) (choices n) card) ∙ has_card-from_Contains (filter (has_card lowest) (choices n)) card among)).0;
    each = λ card among.
        let kept = each card (has_card-from_Contains (choices n) card among) in (
          kept.0,
          Contains-from_has_card (filter (has_card lowest) (choices n)) kept.0
              (has_card-filter (has_card lowest) (choices n) kept.0 ∙ and_from (has_card (choices n) kept.0) (has_card lowest kept.0) ((low kept.0).0 kept.1).choice kept.1),
          kept.3,
        );
    sums = λ size. sum_by-filter size (has_card lowest) (choices n);
  })

  -- which are those that have no lower equal card
  pub lowest_part : (lowest cards : List ℕ) → cards ≡ filter (has_card lowest) (choices n)
      → ((card : ℕ) → (has_card lowest card ≡ true) ↔ IsLowest n card)
      → (card : ℕ) → (has_card cards card ≡ true) ↔ IsLowest n card
  lowest_part lowest cards is low card = subst (λ cards. (has_card cards card ≡ true) ↔ IsLowest n card) (sym is) (
    λ among. (low card).0 (and_parts (has_card (choices n) card) (has_card lowest card) (sym (has_card-filter (has_card lowest) (choices n) card) ∙ among)).1,
    λ is_low. has_card-filter (has_card lowest) (choices n) card ∙ and_from (has_card (choices n) card) (has_card lowest card) is_low.choice ((low card).1 is_low),
  )
