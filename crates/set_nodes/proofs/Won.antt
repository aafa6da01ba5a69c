-- What is won throughout a node of bridge.
use Rattle.std.proofs.Common.{◌≡◌, ◌∙◌, ◌↔◌, ℕ, zero, suc, true, false, is_some, List, [], ◌∷◌, length, replicate, Contains, refl, sym, ap, subst, arith}
use Rattle.std.proofs.lemmas.List.{length-map, length-replicate}
use Rattle.card_sets.specs.SetWords.{has_card}
use Rattle.win_vectors.specs.Vectors.{ones_of, restrict_of}
use Rattle.win_vectors.specs.Fronts.{Vector, Dominates}
use Rattle.trick_rules.specs.Positions.{State, to_play}
use Rattle.trick_rules.specs.Play.{makes, decided, is_declarers}
use Rattle.trick_rules.specs.Nodes.{NodeValue, IsNode, states, choices, child}
use Rattle.strategy_games.specs.Games.{mask}
use Rattle.strategy_games.specs.Plans.{stops, IsFront}
use Rattle.strategy_games.proofs.Masks.{Dominates-map, Dominates-of_map, replicate-map}
use Rattle.strategy_games.proofs.Nodes.{front_exists}
use Rattle.strategy_games.proofs.Wins as wins
use Rattle.strategy_tree.specs.Bridge.{bridge}
use Rattle.strategy_tree.proofs.Rules.{lawful, double_dummy}
use Rattle.strategy_tree.proofs.CardLists.{has_card-from_Contains, Contains-from_has_card}
use Rattle.strategy_tree.proofs.BridgeNodes.{length-states, length-child_lefts, mask-bridge}
use Rattle.sure_nodes.proofs.PlayedOut.{played_out}
use Rattle.assured_games.specs.Made.{results}
use Rattle.winnable_sets.specs.Sets.{IsWinnable, IsWonThroughout}
use Rattle.winnable_sets.specs.Laws.{HasTurns, HasCores, HasSets}
use Rattle.winnable_sets.specs.Parts.{HasParts}
use Rattle.winnable_sets.proofs.Turns as of_turns
use Rattle.winnable_sets.proofs.Sets as of_sets
use Rattle.winnable_sets.proofs.Parts as of_parts
use Rattle.set_nodes.specs.SetNodes.{node_at, AreLayoutsAt}
use Rattle.set_nodes.proofs.Parts.{IsPart, node_parts}
use Rattle.set_nodes.proofs.Numbers.{states-there, part-there}

-- ---- the laws at bridge

pub turns : HasTurns bridge IsNode
turns = of_turns.turns bridge IsNode lawful

pub cores : HasCores bridge IsNode
cores = of_turns.cores bridge IsNode lawful double_dummy

pub sets : HasSets bridge IsNode
sets = of_sets.sets bridge IsNode lawful double_dummy played_out

pub parts : HasParts bridge IsNode IsPart
parts = of_parts.parts bridge IsNode lawful IsPart node_parts

-- ---- what double dummy makes

abbrev pub IsWon : NodeValue → ℕ → Type 0
IsWon n m = IsWonThroughout bridge n m

results_all : (n : NodeValue) → ((s : State) → Contains (states n) s → makes s ≡ true) → Dominates (results bridge n) (replicate (length (states n)) true)
results_all n each = subst (λ (v : Vector). Dominates (results bridge n) v) (sym (replicate-map true (states n)))
    (Dominates-map (λ s. makes s) (λ s. true) (states n) (λ s among is. each s among))

pub won_makes : (n : NodeValue) (m : ℕ) → IsNode n → IsWon n m → (s : State) → Contains (states n) s → makes s ≡ true
won_makes n m ok w s among = Dominates-of_map (λ s. makes s) (λ s. true) (states n)
    (subst (λ (v : Vector). Dominates (results bridge n) v) (replicate-map true (states n)) (sets.made n m (replicate (length (states n)) true) ok w)) s among refl

pub won_stop : (n : NodeValue) (m : ℕ) → stops bridge n m ≡ true → ((s : State) → Contains (states n) s → makes s ≡ true) → IsWon n m
won_stop n m stop each = (turns.at_stop n m (replicate (length (states n)) true) stop).1 (results_all n each)

ones-replicate : (k : ℕ) → ones_of (replicate k true) ≡ k
ones-replicate zero = refl
ones-replicate (suc k) = let rest = ones-replicate k in omega arith

pub won_one : (n : NodeValue) (m : ℕ) → IsNode n → length n.lefts ≡ 1 → ((s : State) → Contains (states n) s → makes s ≡ true) → IsWon n m
won_one n m ok only each = sets.one n m (replicate (length (states n)) true) ok (ones-replicate (length (states n)) ∙ length-states n ∙ only) (results_all n each)

-- ---- by turns

pub won_in_part : (k n : NodeValue) (m : ℕ) → IsNode k → IsNode n → IsPart k n → IsWon n m → IsWon k m
won_in_part = parts.fewer

pub won_set : (n : NodeValue) (m : ℕ) (set : Vector) → IsNode n → AreLayoutsAt n.lefts n.position set → IsWon (node_at n.lefts n.position set) m ↔ IsWinnable bridge n m set
won_set n m set ok are = parts.kept (node_at n.lefts n.position set) n m set are.node ok (part-there n set ok) (are.width ∙ sym (length-states n)) (states-there n set ok)

-- all ones, cut down
restrict_all : (ms : Vector) (k : ℕ) → length ms ≡ k → restrict_of (replicate k true) ms ≡ replicate (ones_of ms) true
restrict_all [] zero e = refl
restrict_all [] (suc k) e = absurd (omega (arith, e))
restrict_all (b ∷ ms) zero e = absurd (omega (arith, e))
restrict_all (true ∷ ms) (suc k) e = let more : suc (ones_of ms) ≡ ones_of (true ∷ ms) = omega arith in ap (λ (v : Vector). true ∷ v) (restrict_all ms k (omega (arith, e))) ∙ ap (λ (j : ℕ). replicate j true) more
restrict_all (false ∷ ms) (suc k) e = restrict_all ms k (omega (arith, e)) ∙ ap (λ (j : ℕ). replicate j true) (omega arith)

-- the layouts of a child, of those of the node
child_all : (n : NodeValue) (card : ℕ) → restrict_of (replicate (length (states n)) true) (mask bridge n card) ≡ replicate (length (states (child n card))) true
child_all n card =
    restrict_all (mask bridge n card) (length (states n)) (length-map (states n) (λ s. bridge.is_legal card s))
    ∙ ap (λ (k : ℕ). replicate k true) (ap ones_of (mask-bridge n card) ∙ sym (length-child_lefts n card) ∙ sym (length-states (child n card)))

-- a card of declarer's side is legal in each layout
our_width : (n : NodeValue) (card : ℕ) → IsNode n → is_declarers (to_play n.position) ≡ true → has_card (choices n) card ≡ true → length (states (child n card)) ≡ length (states n)
our_width n card ok ours choice =
    ap (λ (ss : List State). length ss) (wins.states-child bridge IsNode lawful n card ok ours (Contains-from_has_card (choices n) card choice))
    ∙ length-map (states n) (λ s. bridge.after card s)

module _ (n : NodeValue) (m : ℕ) (ok : IsNode n) (live : is_some (decided n.position) ≡ false) where
  pub won_by_card : (card : ℕ) → is_declarers (to_play n.position) ≡ true → has_card (choices n) card ≡ true → IsWon (child n card) m → IsWon n (suc m)
  won_by_card card ours choice w = (turns.at_declarer n m (replicate (length (states n)) true) ok live ours).1
      (card, Contains-from_has_card (choices n) card choice, subst (λ (k : ℕ). IsWinnable bridge (child n card) m (replicate k true)) (our_width n card ok ours choice) w)

  pub lost_by_cards : is_declarers (to_play n.position) ≡ true → ((card : ℕ) → has_card (choices n) card ≡ true → IsWon (child n card) m → ⊥) → IsWon n (suc m) → ⊥
  lost_by_cards ours each w =
      let by = (turns.at_declarer n m (replicate (length (states n)) true) ok live ours).0 w in
      let choice = has_card-from_Contains (choices n) by.0 by.1 in
      each by.0 choice (subst (λ (k : ℕ). IsWinnable bridge (child n by.0) m (replicate k true)) (sym (our_width n by.0 ok ours choice)) by.2)

  pub won_by_replies : is_declarers (to_play n.position) ≡ false → ((card : ℕ) → has_card (choices n) card ≡ true → IsWon (child n card) (suc m)) → IsWon n (suc m)
  won_by_replies theirs each = (turns.at_defender n m (replicate (length (states n)) true) ok live theirs (length-replicate (length (states n)) true)).1
      (λ card among. subst (λ (v : Vector). IsWinnable bridge (child n card) (suc m) v) (sym (child_all n card)) (each card (has_card-from_Contains (choices n) card among)))

  pub lost_by_reply : (card : ℕ) → is_declarers (to_play n.position) ≡ false → has_card (choices n) card ≡ true → (IsWon (child n card) (suc m) → ⊥) → IsWon n (suc m) → ⊥
  lost_by_reply card theirs choice out w =
      out (subst (λ (v : Vector). IsWinnable bridge (child n card) (suc m) v) (child_all n card)
      ((turns.at_defender n m (replicate (length (states n)) true) ok live theirs (length-replicate (length (states n)) true)).0 w card (Contains-from_has_card (choices n) card choice)))

-- ---- nodes with one front

pub won_alike : (a b : NodeValue) (m : ℕ) → IsNode a → length a.lefts ≡ length b.lefts → ((front : List Vector) → IsFront bridge a m front → IsFront bridge b m front) → IsWon a m → IsWon b m
won_alike a b m ok same fronts w =
    let f = front_exists bridge IsNode lawful a m ok in
    let all = replicate (length (states a)) true in
    let covered = (sets.front a m all f.0 f.1).0 w in
    subst (λ (k : ℕ). IsWinnable bridge b m (replicate k true)) (length-states a ∙ same ∙ sym (length-states b))
    ((sets.front b m all f.0 (fronts f.0 f.1)).1 covered)
