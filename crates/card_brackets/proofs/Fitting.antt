-- The trees after the first cards, and the first one that is too large.
use Rattle.std.proofs.Common.{◌≡◌, ◌∙◌, ◌+◌, ◌-◌, ◌<◌, ◌≤◌, ℕ, List, [], ◌∷◌, ◌++◌, Contains, take, drop, length, get_or, inl, inr, sym, ap, subst, arith}
use Rattle.std.proofs.lemmas.List.{take_more, take-append-drop}
use Rattle.std.proofs.lemmas.List.Elements.{Contains-push_cases}
use Rattle.trick_rules.specs.Nodes.{NodeValue, choices, child}
use Rattle.strategy_games.specs.Plans.{tree_size}
use Rattle.strategy_games.proofs.Lists.{Contains-nil}
use Rattle.strategy_tree.specs.Bridge.{bridge}
use Rattle.strategy_tree.specs.RootTrees.{IsTooLarge, IsFirstSpentAt, AllFit}
use Rattle.strategy_tree.proofs.Meanings.{drop_next}

module _ (n : NodeValue) (moves nodes : ℕ) where
  -- the tree after a card is small enough
  abbrev pub IsSmall : ℕ → Type 0
  IsSmall card = tree_size bridge (child n card) (moves - 1) ≤ nodes

  -- so are those after the first cards
  abbrev pub AreSmall : ℕ → Type 0
  AreSmall place = (d : ℕ) → Contains (take place (choices n)) d → IsSmall d

  pub small_after : (kept : NodeValue) (card : ℕ) → kept ≡ child n card → tree_size bridge kept (moves - 1) ≤ nodes → IsSmall card
  small_after kept card is small = subst (λ (k : NodeValue). tree_size bridge k (moves - 1) ≤ nodes) is small

  pub large_after : (kept : NodeValue) (card : ℕ) → kept ≡ child n card → nodes < tree_size bridge kept (moves - 1) → IsTooLarge n moves nodes card
  large_after kept card is large = subst (λ (k : NodeValue). nodes < tree_size bridge k (moves - 1)) is large

  pub small_none : AreSmall 0
  small_none d among = absurd (Contains-nil d among)

  pub small_all : (place : ℕ) → take place (choices n) ≡ choices n → AreSmall place → AllFit n moves nodes
  small_all place all small card choice = small card (subst (λ cards. Contains cards card) (sym all) choice)

  module _ (place card : ℕ) (inside : place < length (choices n)) (same : card ≡ get_or (choices n) place card) (small : AreSmall place) where
    pub small_more : IsSmall card → AreSmall (place + 1)
    small_more now d among =
        let cards : take (place + 1) (choices n) ≡ take place (choices n) ++ card ∷ [] = take_more (choices n) place card inside ∙ ap (λ c. take place (choices n) ++ c ∷ []) (sym same) in
        elim (Contains-push_cases (take place (choices n)) card d (subst (λ tried. Contains tried d) cards among)) [
          | inl old ↦ small d old
          | inr e ↦ subst IsSmall e now
        ]

    pub first_too_large : IsTooLarge n moves nodes card → IsFirstSpentAt n moves nodes card
    first_too_large large =
        let here : choices n ≡ take place (choices n) ++ card ∷ drop (place + 1) (choices n) =
        sym (take-append-drop place (choices n)) ∙ ap (λ later. take place (choices n) ++ later) (drop_next (choices n) place card inside same) in (
          take place (choices n),
          drop (place + 1) (choices n),
          here,
          (λ d among more. let few : IsSmall d = small d among in omega (arith, few, more)),
          large,
        )
