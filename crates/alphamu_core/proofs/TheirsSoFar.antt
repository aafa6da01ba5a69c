-- The first of a defender's cards, and what the replies to them win.
use Rattle.std.proofs.Common.{◌≡◌, ◌∙◌, ◌-◌, ◌≤◌, ◌||◌, ℕ, zero, suc, true≢false, Bool, true, false, List, [], ◌∷◌, ◌++◌, length, map, replicate, Contains, refl, sym, ap, ap₂, subst, arith, ⊎_elim}
use Rattle.std.specs.List.{list_any}
use Rattle.std.proofs.Math.Bool.{or-false}
use Rattle.std.proofs.lemmas.List.Folds.{list_any-append}
use Rattle.win_vectors.specs.Vectors.{ones_of, either_of, spread_of}
use Rattle.win_vectors.specs.Fronts.{Vector, CoversAll, IsFrontOf, IsReduced, meets, spreads}
use Rattle.pareto_fronts.specs.FrontValue.{FrontValue}
use Rattle.front_join.specs.JoinerValue.{JoinerValue}
use Rattle.trick_rules.specs.Nodes.{NodeValue, IsNode, states, choices, child, child_mask, is_legal}
use Rattle.trick_rules.proofs.PlayLaws as play
use Rattle.strategy_games.specs.Plans.{stops, IsFront, IsBelow}
use Rattle.strategy_games.specs.Joins.{WinsByReply}
use Rattle.strategy_games.proofs.Lists.{Contains-here, Contains-there, Contains-cons, Contains-nil, Contains-map}
use Rattle.strategy_tree.specs.Bridge.{bridge}
use Rattle.strategy_tree.proofs.CardLists.{any_from, has_card-from_Contains}
use Rattle.strategy_tree.proofs.Rules.{going_on, settled}
use Rattle.strategy_tree.proofs.BridgeLaws.{one_front, steps, cuts}
use Rattle.strategy_tree.proofs.BridgeNodes.{mask-bridge, length-states, length-child_lefts}
use Rattle.front_table.specs.Proven.{IsFrontAt}
use Rattle.alphamu_core.proofs.OpenNodes.{some_moves, is_open}
use Rattle.alphamu_core.specs.Kept.{AreEnough, IsTaken}
use Rattle.alphamu_core.proofs.Standing.{StandForAll, enough_replies}
use Rattle.alphamu_core.proofs.Trying.{IsTrying, trying_none, trying_more, trying_all}
use Rattle.alphamu_core.proofs.Bounds.{front_of_reduced}

-- a 1 at each layout in which one of the cards is legal
abbrev pub legal_somewhere : NodeValue → List ℕ → Vector
legal_somewhere n cards = map (λ left. list_any (λ card. is_legal n.position card left) cards) n.lefts

-- the cards that were tried, with the join of what is won after them
pub record TheirsSoFar (n : NodeValue) (moves : ℕ) (cards : List ℕ) (join : JoinerValue) : Type 0 where
  pub tried : List ℕ
  pub trying : IsTrying n tried cards
  pub won : IsFrontOf (WinsByReply bridge n moves tried) join.optimistic.vectors
  pub width : join.optimistic.width ≡ length n.lefts
  pub covered : join.covered ≡ legal_somewhere n tried

-- ---- which layouts are covered

none_covered : (lefts : List (List ℕ)) → replicate (length lefts) false ≡ map (λ left. false) lefts
none_covered [] = refl
none_covered (left ∷ lefts) = ap (λ bits. false ∷ bits) (none_covered lefts)

either-maps : (p q : List ℕ → Bool) (lefts : List (List ℕ)) → either_of (map p lefts) (map q lefts) ≡ map (λ left. p left || q left) lefts
either-maps p q [] = refl
either-maps p q (left ∷ lefts) = ap (λ bits. (p left || q left) ∷ bits) (either-maps p q lefts)

more_covered : (n : NodeValue) (cards : List ℕ) (card : ℕ) → either_of (legal_somewhere n cards) (child_mask n card) ≡ legal_somewhere n (cards ++ card ∷ [])
more_covered n cards card =
    either-maps (λ left. list_any (λ c. is_legal n.position c left) cards) (is_legal n.position card) n.lefts ∙ go n.lefts
  where
    go : (lefts : List (List ℕ)) → map (λ left. list_any (λ c. is_legal n.position c left) cards || is_legal n.position card left) lefts ≡ map (λ left. list_any (λ c. is_legal n.position c left) (cards ++ card ∷ [])) lefts
    go [] = refl
    go (left ∷ lefts) = ap₂ (λ (bit : Bool) (bits : List Bool). bit ∷ bits) (sym (list_any-append (λ c. is_legal n.position c left) cards (card ∷ []) ∙ ap (λ b. list_any (λ c. is_legal n.position c left) cards || b) (or-false (is_legal n.position card left)))) (go lefts)

-- what holds of each of two maps at a place
same_at : (p q : List ℕ → Bool) (lefts : List (List ℕ)) (left : List ℕ) → map p lefts ≡ map q lefts → Contains lefts left → p left ≡ q left
same_at p q [] left e among = absurd (Contains-nil left among)
same_at p q (first ∷ lefts) left e among =
    let here : p first ≡ q first = cc in
    let rest : map p lefts ≡ map q lefts = cc in
    ⊎_elim (λ (same : first ≡ left). subst (λ left. p left ≡ q left) same here) (λ (k : Contains lefts left). same_at p q lefts left rest k) (Contains-cons first lefts left among)

-- while play goes on each layout has a legal card, and so one of the cards that stand for all
all_covered : (n : NodeValue) (tried : List ℕ) → IsNode n → bridge.is_decided n ≡ false → StandForAll n tried → legal_somewhere n tried ≡ replicate (length n.lefts) true
all_covered n tried sound live stand = go n.lefts (λ left among.
    let some = settled.some_legal n (record { position = n.position; left = left }) sound (going_on n.position live) (Contains-map (λ left. record { position = n.position; left = left }) n.lefts left among) in
    let kept = stand some.0 some.1 in
    let same : is_legal n.position kept.0 left ≡ is_legal n.position some.0 left = same_at (is_legal n.position kept.0) (is_legal n.position some.0) n.lefts left kept.2.same_layouts among in
    any_from (λ card. is_legal n.position card left) tried kept.0 kept.1 (same ∙ some.2))
  where
    go : (lefts : List (List ℕ)) → ((left : List ℕ) → Contains lefts left → list_any (λ card. is_legal n.position card left) tried ≡ true)
        → map (λ left. list_any (λ card. is_legal n.position card left) tried) lefts ≡ replicate (length lefts) true
    go [] each = refl
    go (left ∷ lefts) each = rw (each left (Contains-here left lefts)) (ap (λ bits. true ∷ bits) (go lefts (λ other among. each other (Contains-there left lefts other among))))

-- ---- card by card

module _ (n : NodeValue) (moves : ℕ) where
  pub theirs_none : (cards : List ℕ) (join : JoinerValue) (width : ℕ) → AreEnough n cards → width ≡ length n.lefts → join.optimistic.width ≡ width → IsReduced (replicate width true ∷ []) join.optimistic.vectors
      → join.covered ≡ replicate width false → TheirsSoFar n moves cards join
  theirs_none cards join width enough layouts same front covered =
      let states_width : length (states n) ≡ width = length-states n ∙ sym layouts in record {
        tried = [];
        trying = trying_none n cards enough;
        won = front_of_reduced (WinsByReply bridge n moves []) (replicate width true ∷ []) join.optimistic.vectors (subst (λ w. IsFrontOf (WinsByReply bridge n moves []) (replicate w true ∷ [])) states_width (steps.no_reply n moves)) front;
        width = same ∙ layouts;
        covered = covered ∙ ap (λ w. replicate w false) layouts ∙ none_covered n.lefts;
      }

  module _ {cards : List ℕ} {join : JoinerValue} (so : TheirsSoFar n moves cards join) where
    module _ (none : cards ≡ []) where
      stand : StandForAll n so.tried
      stand = trying_all n so.tried cards so.trying none

      pub theirs_covered : IsNode n → stops bridge n moves ≡ false → join.covered ≡ replicate join.optimistic.width true
      theirs_covered sound goes_on = so.covered ∙ all_covered n so.tried sound (is_open n moves goes_on) stand ∙ ap (λ w. replicate w true) (sym so.width)

      pub theirs_all : IsNode n → stops bridge n moves ≡ false → bridge.is_ours n ≡ false → IsFrontAt n moves join.optimistic
      theirs_all sound goes_on theirs = record {
        front = at_all (enough_replies n sound moves so.tried so.trying.within stand join.optimistic.vectors so.won);
        width = so.width;
      }
        where
          all_replies : (moves : ℕ) → stops bridge n moves ≡ false → IsFrontOf (WinsByReply bridge n moves (choices n)) join.optimistic.vectors → IsFront bridge n moves join.optimistic.vectors
          all_replies zero h f = absurd (true≢false h)
          all_replies (suc m) h f = steps.all_replies n m join.optimistic.vectors sound (going_on n.position h) theirs f

          at_all : IsFrontOf (WinsByReply bridge n moves (choices n)) join.optimistic.vectors → IsFront bridge n moves join.optimistic.vectors
          at_all f = all_replies moves goes_on f

    -- alpha covers what the cards so far leave
    pub theirs_cut : (alpha : List Vector) → IsNode n → stops bridge n moves ≡ false → bridge.is_ours n ≡ false → CoversAll alpha join.optimistic.vectors → IsBelow bridge n moves alpha
    theirs_cut alpha sound goes_on theirs covers =
        subst (λ m. IsBelow bridge n m alpha) (sym (some_moves n moves goes_on))
        (cuts.at_defender n (moves - 1) so.tried join.optimistic.vectors alpha sound (is_open n moves goes_on) theirs
        so.trying.within
        (subst (λ m. IsFrontOf (WinsByReply bridge n m so.tried) join.optimistic.vectors) (some_moves n moves goes_on) so.won)
        covers)

    module _ {card : ℕ} {rest : List ℕ} (taken : IsTaken cards card rest) where
      pub theirs_next : Contains (choices n) card
      theirs_next = so.trying.rest card taken.among

      module _ {m : NodeValue} (is_child : m ≡ child n card) where
        pub theirs_width : (won : FrontValue) (bits : Vector) → bits ≡ child_mask n card → IsFrontAt m moves won → won.width ≡ ones_of bits
        theirs_width won bits is_mask found = found.width ∙ ap (λ (m : NodeValue). length m.lefts) is_child ∙ length-child_lefts n card ∙ ap ones_of (sym is_mask)

        theirs_child : IsNode n → IsNode m
        theirs_child sound = subst (λ m. IsNode m) (sym is_child) (play.a_choice_leads_to_a_node n card sound (has_card-from_Contains (choices n) card theirs_next))

        pub theirs_filled : (won : FrontValue) → IsNode n → IsFrontAt m moves won → 1 ≤ length won.vectors
        theirs_filled won sound found =
            some_vector won.vectors (one_front.filled m moves won.vectors (theirs_child sound) found.front)
          where
            some_vector : (vectors : List Vector) → (vectors ≡ [] → ⊥) → 1 ≤ length vectors
            some_vector [] h = absurd (h refl)
            some_vector (v ∷ vectors) h = omega arith

        -- a child isn't below no vector
        pub theirs_exact : IsNode n → (alpha : List Vector) → alpha ≡ [] → IsBelow bridge m moves alpha → ⊥
        theirs_exact sound alpha empty below = cuts.never m moves (theirs_child sound) (subst (λ alpha. IsBelow bridge m moves alpha) empty below)

        pub theirs_more : (more : JoinerValue) (won : FrontValue) (bits : Vector) → IsNode n → bits ≡ child_mask n card → IsFrontAt m moves won
            → IsReduced (meets join.optimistic.vectors (map (λ v. spread_of v bits) won.vectors)) more.optimistic.vectors → more.optimistic.width ≡ join.optimistic.width → more.covered ≡ either_of join.covered bits
            → TheirsSoFar n moves rest more
        theirs_more more won bits sound is_mask found front width covered = record {
          tried = so.tried ++ card ∷ [];
          trying = trying_more n so.tried cards card rest so.trying taken;
          won = steps.more_replies n moves so.tried card join.optimistic.vectors won.vectors more.optimistic.vectors sound theirs_next so.won (subst (λ m. IsFrontAt m moves won) is_child found).front
              (subst (λ bits. IsReduced (meets join.optimistic.vectors (spreads bits won.vectors)) more.optimistic.vectors) (is_mask ∙ sym (mask-bridge n card)) front);
          width = width ∙ so.width;
          covered = covered ∙ ap₂ either_of so.covered is_mask ∙ more_covered n so.tried card;
        }
