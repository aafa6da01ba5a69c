-- A card of a set, as a member of its list.
use Rattle.std.proofs.Common.{◌≡◌, ℕ, Bool, true, ◌||◌, ◌==◌, List, [], ◌∷◌, Contains, refl, sym, subst, inl, inr}
use Rattle.std.proofs.lemmas.Bool.{cases_eq, ne_eqb, false≢true}
use Rattle.std.proofs.lemmas.Bool.Decides.{Decides-eqb}
use Rattle.std.proofs.lemmas.List.Folds.{list_any_at}
use Rattle.std.specs.List.{list_any, list_all}
use Rattle.card_sets.specs.SetWords.{has_card}
use Rattle.strategy_games.proofs.Lists.{Contains-here, Contains-there}

pub has_card-from_Contains : (cards : List ℕ) (card : ℕ) → Contains cards card → has_card cards card ≡ true
has_card-from_Contains cards card h = list_any_at (λ c. c == card) cards h.0 card h.1 ((Decides-eqb _ card).1 h.2)

pub Contains-from_has_card : (cards : List ℕ) (card : ℕ) → has_card cards card ≡ true → Contains cards card
Contains-from_has_card [] card h = absurd (false≢true h)
Contains-from_has_card (c ∷ cards) card h =
    elim (cases_eq c card) [
      | inl same ↦ subst (λ x. Contains (c ∷ cards) x) same (Contains-here c cards)
      | inr other ↦ Contains-there c cards card (Contains-from_has_card cards card (subst (λ b. (b || has_card cards card) ≡ true) (ne_eqb c card other) h))
    ]

-- ---- tests of lists, member by member

pub any_from : {X : Type 0} (p : X → Bool) (xs : List X) (x : X) → Contains xs x → p x ≡ true → list_any p xs ≡ true
any_from p xs x h holds = list_any_at p xs h.0 x h.1 (subst (λ y. p y ≡ true) (sym h.2) holds)

pub all_from : {X : Type 0} (p : X → Bool) (xs : List X) → ((x : X) → Contains xs x → p x ≡ true) → list_all p xs ≡ true
all_from p [] each = refl
all_from p (x ∷ xs) each = rw (each x (Contains-here x xs)) (all_from p xs (λ y among. each y (Contains-there x xs y among)))
