use Rattle.std.proofs.Common.{◌≡◌, ◌∙◌, true, Option, Some, None, ℕ, List, [], Contains, MatchOption, filter, sym, subst}
use Rattle.std.proofs.lemmas.Bool.{and_parts}
use Rattle.card_sets.specs.SetWords.{has_card, IsCardSet, first_card}
use Rattle.card_sets.proofs.Sets.{has_card-filter, first_card-some, first_card-none}
use Rattle.strategy_games.proofs.Lists.{Contains-here}
use Rattle.strategy_tree.proofs.CardLists.{has_card-from_Contains}
use Rattle.alphamu_core.proofs.kept.next_in_turn.Goals as goal

-- the first of some cards is one of them
first_has : (cards : List ℕ) (card : ℕ) → IsCardSet cards → first_card cards ≡ Some card → has_card cards card ≡ true
first_has cards card a_set found =
    has_card-from_Contains cards card (subst (λ xs. Contains xs card) (sym (first_card-some cards card a_set found)) (Contains-here card _))

-- so is the first of those of them that go first
first_of_both : (cards first both : List ℕ) (card : ℕ) → both ≡ filter (has_card first) cards → IsCardSet both → first_card both ≡ Some card → has_card cards card ≡ true
first_of_both cards first both card value a_set found =
    let has : has_card (filter (has_card first) cards) card ≡ true = subst (λ xs. has_card xs card ≡ true) value (first_has both card a_set found) in
    (and_parts (has_card cards card) (has_card first card) (sym (has_card-filter (has_card first) cards card) ∙ has)).0

pub returns-in-Some-clause-held : goal.returns-in-Some-clause-held
returns-in-Some-clause-held c =
    first_of_both c.args.cards c.args.first c.both.result c.in-Some.card c.both.ensures.value c.both.ensures.a_set (sym c.first.ensures.value ∙ c.in-Some.is)

-- the first of all, if there is one
first_of_all : (cards : List ℕ) (lowest : Option ℕ) → IsCardSet cards → lowest ≡ first_card cards → MatchOption lowest (cards ≡ []) (λ card. has_card cards card ≡ true)
first_of_all cards None a_set value = first_card-none cards (sym value)
first_of_all cards (Some card) a_set value = first_has cards card a_set (sym value)

pub returns-in-None-clause-held : goal.returns-in-None-clause-held
returns-in-None-clause-held c = first_of_all c.args.cards c.first-lowest.result c.first-lowest.ensures.a_set c.first-lowest.ensures.value
