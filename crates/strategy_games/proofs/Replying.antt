-- Replies of a defender's node, each above one vector.
use Rattle.std.proofs.Common.{◌≡◌, ℕ, List, length, Contains, sym, subst}
use Rattle.win_vectors.specs.Vectors.{spread_of}
use Rattle.win_vectors.specs.Fronts.{Vector, Dominates}
use Rattle.strategy_games.specs.Games.{Game, mask, IsLawful}
use Rattle.strategy_games.specs.Plans.{Plan, Replies, Hear, cards_of, Fits, FitEach, wins, wins_vector}
use Rattle.strategy_games.proofs.Vectors.{Dominates-both}
use Rattle.strategy_games.proofs.Masks.{Dominates-map, Dominates-all}
use Rattle.strategy_games.proofs.Wins.{lets, wins_vector-first, spread-reply}
use Rattle.strategy_games.proofs.Nodes.{replies_from}
use Rattle.strategy_games.proofs.Chosen.{reply_for}

module _ {N S C : Type 0} (g : Game N S C) (Sound : N → Type 0) (law : IsLawful g Sound) where
  -- the vector that a reply spreads over its node dominates what the replies win
  pub spread_over : (rs : Replies C) (n : N) (m : ℕ) (c : C) → Sound n → Contains (g.choices n) c → Contains (cards_of rs) c → FitEach g rs n m
      → (q : Plan C) × Fits g q (g.child n c) m × Dominates (spread_of (wins_vector g q (g.child n c)) (mask g n c)) (wins_vector g (Hear rs) n)
  spread_over rs n m c sound mem among fit =
      let q = reply_for g rs n m c among fit in (
        q.0,
        q.1,
        subst (λ z. Dominates z (wins_vector g (Hear rs) n)) (sym (spread-reply g Sound law n c q.0 sound mem))
            (Dominates-map (λ s. lets g c q.0 s) (λ s. wins g (Hear rs) s) (g.states n) (λ s k h. q.2 s h)),
      )

  -- a plan after the card wins at least this vector, spread over the node
  abbrev pub Reaches : N → ℕ → Vector → C → Plan C → Type 0
  Reaches n m v c q = Contains (g.choices n) c × Fits g q (g.child n c) m
      × Dominates (spread_of (wins_vector g q (g.child n c)) (mask g n c)) v

  -- replies that each win at least this vector win it together
  pub replies_over : (n : N) (m : ℕ) (v : Vector) (cs : List C) → Sound n
      → length v ≡ length (g.states n)
      → ((c : C) → Contains cs c → (q : Plan C) × Reaches n m v c q)
      → (rs : Replies C) × (cards_of rs ≡ cs)
      × (FitEach g rs n m × Dominates (wins_vector g (Hear rs) n) v)
  replies_over n m v cs sound wide each = replies_from
      (λ rs. FitEach g rs n m × Dominates (wins_vector g (Hear rs) n) v) (λ c q. Reaches n m v c q)
      (tt, Dominates-all (g.states n) v (sym wide))
      (λ c q rs ok others. (
        (ok.1, others.0),
        subst (λ z. Dominates z v) (sym (wins_vector-first g Sound law n c q rs sound ok.0))
            (Dominates-both (wins_vector g (Hear rs) n)
            (spread_of (wins_vector g q (g.child n c)) (mask g n c)) v others.1 ok.2),
      ))
      cs each
