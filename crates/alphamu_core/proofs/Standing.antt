-- The cards that are tried are enough.
use Rattle.std.proofs.Common.{◌≡◌, ◌∙◌, ◌≤◌, ℕ, Bool, true, false, cond, List, [], ◌∷◌, Contains, filter, sum_by, refl, sym, ap, subst, arith}
use Rattle.std.proofs.lemmas.List.Sums.{sum_by-cons}
use Rattle.win_vectors.specs.Vectors.{spread_of}
use Rattle.win_vectors.specs.Fronts.{Vector, Dominates, IsFrontOf}
use Rattle.trick_rules.specs.Nodes.{NodeValue, IsNode, choices, child, states}
use Rattle.strategy_games.specs.Games.{mask}
use Rattle.strategy_games.specs.Plans.{Plan, Replies, Hear, NoReply, Reply, cards_of, Fits, FitEach, wins, wins_vector, IsFront}
use Rattle.strategy_games.specs.Joins.{WinsByCard, WinsByReply}
use Rattle.strategy_games.proofs.Lists.{Contains-here, Contains-there}
use Rattle.strategy_games.proofs.Vectors.{Dominates-trans, Dominates-both, Dominates-spread}
use Rattle.strategy_games.proofs.Fronts.{front_grows, front_level}
use Rattle.strategy_games.proofs.Masks.{Dominates-map}
use Rattle.strategy_games.proofs.Wins.{lets, spread-reply, wins_vector-first}
use Rattle.strategy_games.proofs.Chosen.{reply_for}
use Rattle.strategy_games.proofs.Cuts.{some_replies}
use Rattle.strategy_tree.specs.Bridge.{bridge}
use Rattle.strategy_tree.proofs.BridgeLaws.{one_front}
use Rattle.strategy_tree.proofs.BridgeNodes.{mask-bridge}
use Rattle.strategy_tree.proofs.Rules.{lawful}
use Rattle.equal_cards.specs.Equals.{ComeToTheSame}

-- of the choices of a node, these come to the same as all of them
abbrev pub StandForAll : NodeValue → List ℕ → Type 0
StandForAll n tried = (card : ℕ) → Contains (choices n) card → (kept : ℕ) × Contains tried kept × ComeToTheSame n kept card

module _ (n : NodeValue) (sound : IsNode n) (m : ℕ) (tried : List ℕ) (within : (card : ℕ) → Contains tried card → Contains (choices n) card) (stand : StandForAll n tried) where
  -- ---- declarer's side: what they win is what is won

  pub enough_cards : (f : List Vector) → IsFrontOf (WinsByCard bridge n m tried) f → IsFrontOf (WinsByCard bridge n m (choices n)) f
  enough_cards f won = front_grows (WinsByCard bridge n m tried) (WinsByCard bridge n m (choices n)) f
      (λ v w. (w.0, within w.0 w.1, w.2))
      (λ v w.
      let kept = stand w.0 w.1 in
      let h = one_front.exists (child n w.0) m (lawful.holds n w.0 sound w.1) in
      let u = h.1.covered v w.2 in
      let same : IsFront bridge (child n kept.0) m h.0 = (kept.2.one_front m h.0).1 h.1 in
      (u.0, (kept.0, kept.1, same.reached u.0 u.1), u.2)) won

  -- ---- a defender: what the replies to them win is what is won

  module _ (rs : Replies ℕ) (fit : FitEach bridge rs n m) (replied : cards_of rs ≡ tried) where
    -- a choice has a plan that lets through as much as the kept card's
    plan_above : (card : ℕ) → Contains (choices n) card → (q : Plan ℕ) × Fits bridge q (child n card) m
        × Dominates (spread_of (wins_vector bridge q (child n card)) (mask bridge n card)) (wins_vector bridge (Hear rs) n)
    plan_above card among =
        let kept = stand card among in
        let inside = within kept.0 kept.1 in
        let q = reply_for bridge rs n m kept.0 (subst (λ cards. Contains cards kept.0) (sym replied) kept.1) fit in
        let lets_more : Dominates (spread_of (wins_vector bridge q.0 (child n kept.0)) (mask bridge n kept.0)) (wins_vector bridge (Hear rs) n) =
        subst (λ v. Dominates v (wins_vector bridge (Hear rs) n)) (sym (spread-reply bridge IsNode lawful n kept.0 q.0 sound inside))
        (Dominates-map (λ s. lets bridge kept.0 q.0 s) (λ s. wins bridge (Hear rs) s) (states n) (λ s k h. q.2 s h)) in
        let h = one_front.exists (child n kept.0) m (lawful.holds n kept.0 sound inside) in
        let u = h.1.covered (wins_vector bridge q.0 (child n kept.0)) (q.0, q.1, refl) in
        let same : IsFront bridge (child n card) m h.0 = (kept.2.one_front m h.0).0 h.1 in
        let p = same.reached u.0 u.1 in
        let masks : mask bridge n kept.0 ≡ mask bridge n card = mask-bridge n kept.0 ∙ kept.2.same_layouts ∙ sym (mask-bridge n card) in
        let wide = Dominates-spread u.0 (wins_vector bridge q.0 (child n kept.0)) (mask bridge n kept.0) u.2 in
        let above = Dominates-trans (spread_of u.0 (mask bridge n kept.0)) (spread_of (wins_vector bridge q.0 (child n kept.0)) (mask bridge n kept.0)) (wins_vector bridge (Hear rs) n) wide lets_more in (
          p.0,
          p.1,
          subst (λ v. Dominates (spread_of v (mask bridge n card)) (wins_vector bridge (Hear rs) n)) (sym p.2)
              (subst (λ bits. Dominates (spread_of u.0 bits) (wins_vector bridge (Hear rs) n)) masks above),
        )

    -- and so have some choices together
    replies_above : (cards : List ℕ) → ((card : ℕ) → Contains cards card → Contains (choices n) card)
        → (more : Replies ℕ) × (cards_of more ≡ cards) × FitEach bridge more n m × Dominates (wins_vector bridge (Hear more) n) (wins_vector bridge (Hear rs) n)
    replies_above [] some = (NoReply, refl, tt, Dominates-map (λ s. wins bridge (Hear NoReply) s) (λ s. wins bridge (Hear rs) s) (states n) (λ s k h. refl))
    replies_above (card ∷ cards) some =
        let here = some card (Contains-here card cards) in
        let q = plan_above card here in
        let more = replies_above cards (λ other among. some other (Contains-there card cards other among)) in (
          Reply card q.0 more.0,
          ap (λ (cards : List ℕ). card ∷ cards) more.1,
          (q.1, more.2),
          subst (λ v. Dominates v (wins_vector bridge (Hear rs) n)) (sym (wins_vector-first bridge IsNode lawful n card q.0 more.0 sound here))
              (Dominates-both (wins_vector bridge (Hear more.0) n) (spread_of (wins_vector bridge q.0 (child n card)) (mask bridge n card)) (wins_vector bridge (Hear rs) n) more.3 q.2),
        )

  pub enough_replies : (f : List Vector) → IsFrontOf (WinsByReply bridge n m tried) f → IsFrontOf (WinsByReply bridge n m (choices n)) f
  enough_replies f won = front_level (WinsByReply bridge n m tried) (WinsByReply bridge n m (choices n)) f
      (λ v w.
      let more = replies_above w.0 w.2 w.1 (choices n) (λ card among. among) in
      (wins_vector bridge (Hear more.0) n, (more.0, more.1, more.2, refl), subst (λ v. Dominates (wins_vector bridge (Hear more.0) n) v) w.3 more.3))
      (λ v w.
      let less = some_replies bridge w.0 n m tried (λ card among. subst (λ cards. Contains cards card) (sym w.1) (within card among)) w.2 in (
        wins_vector bridge (Hear less.0) n,
        (less.0, less.1, less.2.0, refl),
        subst (λ v. Dominates (wins_vector bridge (Hear less.0) n) v) w.3
            (Dominates-map (λ s. wins bridge (Hear less.0) s) (λ s. wins bridge (Hear w.0) s) (states n) (λ s k h. less.2.1 s h)),
      )) won

-- ---- sums over a part of a list

pub sum_by-filter : (size : ℕ → ℕ) (p : ℕ → Bool) (xs : List ℕ) → sum_by size (filter p xs) ≤ sum_by size xs
sum_by-filter size p [] = omega arith
sum_by-filter size p (x ∷ xs) = go (p x) (sum_by-filter size p xs)
  where
    go : (b : Bool) → sum_by size (filter p xs) ≤ sum_by size xs → sum_by size (cond b (x ∷ filter p xs) (filter p xs)) ≤ sum_by size (x ∷ xs)
    go true h = omega (arith, sum_by-cons size x (filter p xs), sum_by-cons size x xs)
    go false h = omega (arith, sum_by-cons size x xs)
