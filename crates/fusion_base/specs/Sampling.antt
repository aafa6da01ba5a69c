-- Plain sampling: each card judged by double dummy in each layout.
use Rattle.std.specs.Prelude.{ℕ, ◌&&◌, List, map}
use Rattle.card_sets.specs.SetWords.{has_card, cards_where}
use Rattle.win_vectors.specs.Fronts.{Vector}
use Rattle.trick_rules.specs.Play.{after, makes}
use Rattle.trick_rules.specs.Nodes.{NodeValue, states, choices}
use Rattle.fusion_base.specs.declared.table.CardVector.{CardVector}

-- whether declarer's side makes after a card, in each layout in order, with all cards seen by all
abbrev pub made_after : NodeValue → ℕ → Vector
made_after n card = map (λ s. makes (after s card)) (states n)

-- of the cards to choose from, those after which declarer's side makes where Left holds these cards
abbrev pub cards_that_make : NodeValue → List ℕ → List ℕ
cards_that_make n left = cards_where (λ card. has_card (choices n) card && makes (after (record { position = n.position; left = left }) card))

-- the cards to choose from, in card order, each with its vector
abbrev pub card_vectors : NodeValue → List CardVector
card_vectors n = map (λ card. record { card = card; vector = made_after n card }) (choices n)
