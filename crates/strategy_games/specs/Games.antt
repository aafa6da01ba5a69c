-- A game of hidden layouts: a node is what everybody sees, with the layouts that are still possible.
use Rattle.std.specs.Prelude.{◌≡◌, ◌<◌, ℕ, Bool, true, false, List, [], map, filter, Contains, All}
use Rattle.win_vectors.specs.Fronts.{Vector}

-- N: nodes. S: states, each a node with one of its layouts. C: cards
pub record Game (N S C : Type 0) : Type 0 where
  pub states : N → List S  -- one for each layout, in order
  pub is_ours : N → Bool  -- declarer's side is to play
  pub is_over : N → Bool  -- no card is left to play
  pub is_decided : N → Bool  -- the contract is made or failed already
  pub is_made : N → Bool  -- what a decided result is
  pub cards_left : N → ℕ
  pub choices : N → List C  -- the cards that are legal in at least one layout
  pub child : N → C → N
  pub is_legal : C → S → Bool
  pub after : C → S → S
  pub makes : S → Bool  -- double dummy

module _ {N S C : Type 0} (g : Game N S C) where
  -- a 1 at each layout in which the card is legal
  abbrev pub mask : N → C → Vector
  mask n c = map (λ s. g.is_legal c s) (g.states n)

  -- What the laws of strategies need of the rules, at sound nodes.
  module _ (Sound : N → Type 0) where
    -- how a card changes a node
    pub record IsLawful : Type 0 where
      -- a card leads to a sound node
      pub holds : (n : N) (c : C) → Sound n → Contains (g.choices n) c → Sound (g.child n c)
      -- a child keeps the layouts in which the card is legal, in order
      pub keeps : (n : N) (c : C) → Sound n → Contains (g.choices n) c → g.states (g.child n c) ≡ map (λ s. g.after c s) (filter (λ s. g.is_legal c s) (g.states n))
      -- the hands of declarer's side are seen by all
      pub seen : (n : N) (c : C) → Sound n → g.is_ours n ≡ true → Contains (g.choices n) c → All (λ s. g.is_legal c s ≡ true) (g.states n)
      -- what is over is decided
      pub ended : (n : N) → Sound n → g.is_decided n ≡ false → g.is_over n ≡ false
      -- until play is over there is a card to play
      pub some_card : (n : N) → Sound n → g.is_over n ≡ false → g.choices n ≡ [] → ⊥
      -- each card is one fewer
      pub falls : (n : N) (c : C) → Sound n → g.is_decided n ≡ false → Contains (g.choices n) c → g.cards_left (g.child n c) < g.cards_left n

    -- what double dummy says of one card
    pub record IsDoubleDummy : Type 0 where
      -- declarer's side makes where some card does
      pub ours : (n : N) (s : S) (c : C) → Sound n → Contains (g.states n) s → g.is_decided n ≡ false → g.is_ours n ≡ true → Contains (g.choices n) c → g.makes (g.after c s) ≡ true → g.makes s ≡ true
      -- against the defenders it makes if each of their legal cards lets it
      pub theirs : (n : N) (s : S) → Sound n → Contains (g.states n) s → g.is_decided n ≡ false → g.is_ours n ≡ false
          → ((c : C) → Contains (g.choices n) c → g.is_legal c s ≡ true → g.makes (g.after c s) ≡ true) → g.makes s ≡ true

    -- what a decided result says
    pub record IsSettled : Type 0 where
      -- it is double dummy's result in each layout
      pub same : (n : N) (s : S) → Sound n → g.is_decided n ≡ true → Contains (g.states n) s → g.makes s ≡ g.is_made n
      -- no card changes it
      pub stays : (n : N) (c : C) → Sound n → g.is_decided n ≡ true → Contains (g.choices n) c → (g.is_decided (g.child n c) ≡ true) × (g.is_made (g.child n c) ≡ g.is_made n)
      -- until play is over each layout has a legal card
      pub some_legal : (n : N) (s : S) → Sound n → g.is_over n ≡ false → Contains (g.states n) s → (c : C) × Contains (g.choices n) c × (g.is_legal c s ≡ true)
