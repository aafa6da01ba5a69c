-- Nodes of bridge in the forms that a search, a finder or a checker meets them.
use Rattle.std.proofs.Common.{◌≡◌, ℕ, zero, suc, ◌+◌, ◌≤◌, Bool, true, false, is_some, None, ◌↔◌, ◌==◌, List, [], ◌∷◌, map, filter, length, replicate, Contains, cond, refl, sym, ap, subst, ◌∙◌, arith}
use Rattle.std.proofs.lemmas.Bool.{ne_eqb}
use Rattle.std.proofs.lemmas.List.{length-map}
use Rattle.card_sets.specs.SetWords.{has_card}
use Rattle.std.proofs.Math.Path.{fun_ext}
use Rattle.win_vectors.specs.Vectors.{ones_of}
use Rattle.win_vectors.specs.Fronts.{Vector, CoversAll, IsReduced, spreads}
use Rattle.trick_rules.specs.Positions.{PositionValue, State, to_play}
use Rattle.trick_rules.specs.Play.{legal_in, is_declarers, is_over, decided, take_out, cards_left}
use Rattle.trick_rules.specs.Nodes as nodes
use Rattle.trick_rules.specs.Nodes.{NodeValue, IsNode, states, is_legal, choices, child, child_mask}
use Rattle.trick_rules.proofs.PlayLaws as play
use Rattle.strategy_games.proofs.Lists.{All-at, Contains-here, Contains-there}
use Rattle.strategy_games.specs.Games.{mask}
use Rattle.strategy_games.specs.Plans.{stops, size_within, tree_size, IsFront, IsBelow}
use Rattle.strategy_games.specs.Joins.{joins, AreFronts}
use Rattle.strategy_games.specs.Choosing.{Keeps, misses}
use Rattle.strategy_tree.specs.Bridge.{bridge}
use Rattle.strategy_tree.proofs.BridgeLaws.{recursion, cuts, enough_cards, misses_tell}
use Rattle.strategy_tree.proofs.Rules.{no_result}

-- ---- where a plan stops

pub stops-bridge : (n : NodeValue) (moves : ℕ) → stops bridge n moves ≡ nodes.stops n moves
stops-bridge n zero = refl
stops-bridge n (suc moves) = let more : (suc moves == 0) ≡ false = ne_eqb (suc moves) 0 (λ e. omega arith) in rw more refl

-- ---- layouts and masks

pub length-states : (n : NodeValue) → length (states n) ≡ length n.lefts
length-states n = length-map n.lefts (λ left. record { position = n.position; left = left })

-- the theory's mask is the child's mask
pub mask-bridge : (n : NodeValue) (card : ℕ) → mask bridge n card ≡ child_mask n card
mask-bridge n card = go n.lefts
  where
    go : (lefts : List (List ℕ)) → map (λ s. has_card (legal_in s) card) (map (λ left. record { position = n.position; left = left }) lefts) ≡ map (is_legal n.position card) lefts
    go [] = refl
    go (left ∷ lefts) = ap (λ bits. is_legal n.position card left ∷ bits) (go lefts)

pub length-child_mask : (n : NodeValue) (card : ℕ) → length (child_mask n card) ≡ length n.lefts
length-child_mask n card = length-map n.lefts (is_legal n.position card)

length-filter-ones : {X : Type 0} (p : X → Bool) (xs : List X) → length (filter p xs) ≡ ones_of (map p xs)
length-filter-ones p [] = refl
length-filter-ones {X} p (x ∷ xs) = go (p x) (length-filter-ones p xs)
  where
    go : (b : Bool) → length (filter p xs) ≡ ones_of (map p xs) → length (cond b (x ∷ filter p xs) (filter p xs)) ≡ cond b 1 0 + ones_of (map p xs)
    go true rest = omega arith
    go false rest = omega arith

-- a child has as many layouts as its mask has ones
pub length-child_lefts : (n : NodeValue) (card : ℕ) → length (child n card).lefts ≡ ones_of (child_mask n card)
length-child_lefts n card = length-map (filter (is_legal n.position card) n.lefts) (take_out card) ∙ length-filter-ones (is_legal n.position card) n.lefts

-- a card of declarer's side is legal in each layout
legal_bits : (t : PositionValue) (card : ℕ) (lefts : List (List ℕ)) → ((s : State) → Contains (map (λ left. record { position = t; left = left }) lefts) s → has_card (legal_in s) card ≡ true) → map (is_legal t card) lefts ≡ replicate (length lefts) true
legal_bits t card [] each = refl
legal_bits t card (left ∷ lefts) each =
    let first : is_legal t card left ≡ true = each _ (Contains-here (record { position = t; left = left }) _) in
    rw first (ap (λ bits. true ∷ bits) (legal_bits t card lefts (λ s among. each s (Contains-there _ _ s among))))

pub our_mask : (n : NodeValue) (card : ℕ) → is_declarers (to_play n.position) ≡ true → has_card (choices n) card ≡ true → child_mask n card ≡ replicate (length n.lefts) true
our_mask n card ours choice = legal_bits n.position card n.lefts (All-at (λ s. has_card (legal_in s) card ≡ true) (states n) (play.our_choices_are_legal_everywhere n card ours choice))

-- some layout allows the card
pub some_layout : (n : NodeValue) (card : ℕ) → IsNode n → has_card (choices n) card ≡ true → 1 ≤ ones_of (child_mask n card)
some_layout n card sound choice = subst (λ width. 1 ≤ width) (length-child_lefts n card) (play.a_choice_leads_to_a_node n card sound choice).some

-- ---- the size of the tree

pub tree_size-positive : (n : NodeValue) (moves : ℕ) → 1 ≤ tree_size bridge n moves
tree_size-positive n moves = go (cards_left n.position) moves
  where
    open_node : (decided ours : Bool) (a b : ℕ) → 1 ≤ cond decided 1 (cond ours (1 + a) (1 + b))
    open_node true ours a b = omega arith
    open_node false true a b = omega arith
    open_node false false a b = omega arith

    go : (k m : ℕ) → 1 ≤ size_within bridge k n m
    go zero m = omega arith
    go (suc k) zero = omega arith
    go (suc k) (suc m) = open_node (bridge.is_decided n) (bridge.is_ours n) _ _

-- each card is one fewer, so that a search ends
pub cards_left-child : (n : NodeValue) (card : ℕ) → IsNode n → has_card (choices n) card ≡ true → cards_left (child n card).position + 1 ≡ cards_left n.position
cards_left-child n card sound choice = play.a_card_leaves_one_fewer n.position card sound.sound (play.a_choice_can_be_played n card sound choice)

-- ---- the theory's words at bridge

-- a result that isn't decided
pub live : (n : NodeValue) → decided n.position ≡ None → is_some (decided n.position) ≡ false
live n none = ap is_some none

-- and the other way round
pub undecided : (n : NodeValue) → is_some (decided n.position) ≡ false → decided n.position ≡ None
undecided n off = no_result n.position off

pub stopped : (n : NodeValue) (moves : ℕ) → nodes.stops n moves ≡ true → stops bridge n moves ≡ true
stopped n moves stop = stops-bridge n moves ∙ stop

-- the recursion at a defender, with the masks and the width of the node
pub front_at_defender : (n : NodeValue) (moves : ℕ) (fronts : List (List Vector)) (front : List Vector) → IsNode n → is_over n.position ≡ false → is_declarers (to_play n.position) ≡ false
    → AreFronts bridge n (suc moves) (choices n) fronts → IsFront bridge n (suc moves) front ↔ IsReduced (joins (length n.lefts) (map (λ card. child_mask n card) (choices n)) fronts) front
front_at_defender n moves fronts front sound going theirs are =
    subst (λ width. IsFront bridge n (suc moves) front ↔ IsReduced (joins width (map (λ card. child_mask n card) (choices n)) fronts) front) (length-states n)
    (subst (λ (masks : ℕ → Vector). IsFront bridge n (suc moves) front ↔ IsReduced (joins (length (states n)) (map masks (choices n)) fronts) front) (fun_ext (mask-bridge n))
    (recursion.at_defender n moves fronts front sound going theirs are))

-- where no layout is won with some moves, none is with more
pub lost : (n : NodeValue) (moves extra : ℕ) → IsNode n
    → IsFront bridge n moves (replicate (length n.lefts) false ∷ [])
    → IsFront bridge n (moves + extra) (replicate (length n.lefts) false ∷ [])
lost n moves extra sound = subst
    (λ width. IsFront bridge n moves (replicate width false ∷ [])
    → IsFront bridge n (moves + extra) (replicate width false ∷ []))
    (length-states n) (cuts.lost n moves extra sound)

-- one reply is enough for a cut, with the mask of the node
pub one_reply : (n : NodeValue) (moves card : ℕ) (beta alpha : List Vector) → IsNode n
    → is_some (decided n.position) ≡ false → is_declarers (to_play n.position) ≡ false
    → Contains (choices n) card → IsBelow bridge (child n card) (suc moves) beta
    → CoversAll alpha (spreads (child_mask n card) beta) → IsBelow bridge n (suc moves) alpha
one_reply n moves card beta alpha sound open_result theirs choice below covers =
    enough_cards.one_reply n moves card beta alpha sound open_result theirs choice below
    (subst (λ (bits : Vector). CoversAll alpha (spreads bits beta)) (sym (mask-bridge n card)) covers)

-- the vectors that miss a 1, with the layouts of the child
pub misses_below : (n : NodeValue) (moves card : ℕ) (u : Vector) → IsNode (child n card)
    → length (child n card).lefts ≡ length u
    → IsBelow bridge (child n card) moves (misses u) ↔ (Keeps bridge n moves u card → ⊥)
misses_below n moves card u sound wide =
    misses_tell.below n moves card u sound (length-states (child n card) ∙ wide)
