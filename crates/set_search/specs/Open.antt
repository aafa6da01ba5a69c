-- At declarer's turn: the cards after which double dummy makes each layout of a set still.
use Rattle.std.specs.Prelude.{◌≡◌, ◌⊎◌, ℕ, true, List, []}
use Rattle.card_sets.specs.SetWords.{has_card}
use Rattle.win_vectors.specs.Fronts.{Vector, Dominates}
use Rattle.trick_rules.specs.Positions.{PositionValue}
use Rattle.trick_rules.specs.Play.{after_card, legal_in}
use Rattle.set_nodes.specs.SetNodes.{node_at}
use Rattle.set_memo.specs.Known.{IsLostAt}
use Rattle.set_search.specs.Judged.{AreAllMade}

-- the legal cards of declarer's side, which don't depend on the layout
abbrev pub own_legal : PositionValue → List ℕ
own_legal t = legal_in (record { position = t; left = [] })

-- some of these layouts are a core after the card
abbrev pub LostAfter : List (List ℕ) → PositionValue → ℕ → ℕ → Vector → Type 0
LostAfter layouts t less card core = (part : Vector) × Dominates core part
    × IsLostAt layouts (after_card t card) less part

-- of the cards that are tried, those after which double dummy makes each layout of the set; after each other one some
-- layouts of the core are lost, which is a part of the set
pub record AreOpenCards (layouts : List (List ℕ)) (t : PositionValue) (set : Vector) (tried open_cards : List ℕ) (core : Vector) : Type 0 where
  pub within : Dominates set core
  pub legal : (card : ℕ) → has_card open_cards card ≡ true → has_card (own_legal t) card ≡ true
  pub made : (card : ℕ) → has_card open_cards card ≡ true → AreAllMade (node_at layouts (after_card t card) set)
  pub each : (card : ℕ) → has_card tried card ≡ true
      → (has_card open_cards card ≡ true) ⊎ ((less : ℕ) → LostAfter layouts t less card core)
