-- Nodes that look alike to declarer's side: play goes on at both in the same way.
use Rattle.std.specs.Prelude.{◌≡◌, false, map, Contains}
use Rattle.strategy_games.specs.Games.{Game, mask}

module _ {N S C : Type 0} (g : Game N S C) (Sound : N → Type 0) where
  -- Play keeps the relation R between nodes. Where R holds of two sound nodes,
  pub record IsKeptByPlay (R : N → N → Type 0) : Type 0 where
    -- the same side is to play,
    pub turn : (n p : N) → Sound n → Sound p → R n p → g.is_ours n ≡ g.is_ours p
    -- the result is decided at both or at neither,
    pub decided : (n p : N) → Sound n → Sound p → R n p → g.is_decided n ≡ g.is_decided p
    -- they have as many layouts, and double dummy makes the same of them, in order,
    pub results : (n p : N) → Sound n → Sound p → R n p
        → map (λ s. g.makes s) (g.states n) ≡ map (λ s. g.makes s) (g.states p)
    -- and while the result is open each choice of one has a choice of the other that is legal in the same layouts, and
    -- R holds of the children,
    pub there : (n p : N) (c : C) → Sound n → Sound p → R n p → g.is_decided n ≡ false
        → Contains (g.choices n) c
        → (d : C) × Contains (g.choices p) d × (mask g n c ≡ mask g p d) × R (g.child n c) (g.child p d)
    -- both ways.
    pub back : (n p : N) (d : C) → Sound n → Sound p → R n p → g.is_decided n ≡ false
        → Contains (g.choices p) d
        → (c : C) × Contains (g.choices n) c × (mask g n c ≡ mask g p d) × R (g.child n c) (g.child p d)
