-- Layouts by their numbers: after a card, in part, and at the node that numbers them.
use Rattle.std.proofs.Common.{◌≡◌, ◌∙◌, ◌≤◌, ◌&&◌, ◌==◌, ℕ, suc, Bool, true, false, cond, not, List, [], ◌∷◌, length, map, filter, Contains, refl, sym, ap, subst, arith}
use Rattle.std.specs.List.{items_where_true}
use Rattle.std.proofs.lemmas.List.{length-map}
use Rattle.std.proofs.lemmas.List.Elements.{All-contains}
use Rattle.card_sets.specs.SetWords.{has_card, IsSubset}
use Rattle.win_vectors.specs.Vectors.{ones_of, meet_of}
use Rattle.win_vectors.specs.Fronts.{Vector, Dominates}
use Rattle.trick_rules.specs.Positions.{PositionValue, State, FitsLeft}
use Rattle.trick_rules.specs.Play.{after_card, take_out}
use Rattle.trick_rules.specs.Nodes.{NodeValue, IsNode, states, is_legal}
use Rattle.trick_rules.proofs.CardLists.{has_card-take_out}
use Rattle.trick_rules.proofs.States.{after_card-unseen}
use Rattle.strategy_games.proofs.Lists.{Contains-here, Contains-there, Contains-nil, Contains-map, Contains-of_map, each_cons, All-from}
use Rattle.strategy_games.proofs.Vectors.{Dominates-ones}
use Rattle.strategy_games.proofs.Masks.{filter_all}
use Rattle.strategy_tree.proofs.CardLists.{has_card-from_Contains}
use Rattle.set_nodes.specs.SetNodes.{still_held, node_at, AreLayoutsAt, legal_at, KeepsNumbers}
use Rattle.set_nodes.proofs.Parts.{IsPart, Contains-of_picked, length-picked, states-picked}

-- ---- after a card

filter_filter : {X : Type 0} (p q r : X → Bool) → ((x : X) → r x ≡ (p x && q x)) → (xs : List X) → filter q (filter p xs) ≡ filter r xs
filter_filter p q r same [] = refl
filter_filter {X} p q r same (x ∷ xs) = go (p x) (q x) (r x) refl (same x) (filter_filter p q r same xs)
  where
    go : (a b c : Bool) → q x ≡ b → c ≡ (a && b) → filter q (filter p xs) ≡ filter r xs
        → filter q (cond a (x ∷ filter p xs) (filter p xs)) ≡ cond c (x ∷ filter r xs) (filter r xs)
    go true true c is e rest = rw (is, e) (ap (λ (l : List X). x ∷ l) rest)
    go true false c is e rest = rw (is, e) rest
    go false b c is e rest = rw e rest

still_after : (t : PositionValue) (card : ℕ) (left : List ℕ) → take_out card (still_held t left) ≡ still_held (after_card t card) left
still_after t card left =
    filter_filter (has_card t.unseen) (λ c. not (c == card)) (has_card (after_card t card).unseen)
    (λ c. ap (λ (cards : List ℕ). has_card cards c) (after_card-unseen t card) ∙ has_card-take_out card t.unseen c) left

lefts_after : (t : PositionValue) (card : ℕ) (set : Vector) (layouts : List (List ℕ)) → length set ≡ length layouts
    → map (take_out card) (filter (is_legal t card) (map (still_held t) (items_where_true set layouts)))
    ≡ map (still_held (after_card t card)) (items_where_true (meet_of set (legal_at layouts t card)) layouts)
lefts_after t card [] [] e = refl
lefts_after t card [] (left ∷ layouts) e = absurd (omega (arith, e))
lefts_after t card (b ∷ set) [] e = absurd (omega (arith, e))
lefts_after t card (false ∷ set) (left ∷ layouts) e = lefts_after t card set layouts (omega (arith, e))
lefts_after t card (true ∷ set) (left ∷ layouts) e = go (is_legal t card (still_held t left)) (lefts_after t card set layouts (omega (arith, e)))
  where
    go : (b : Bool) → map (take_out card) (filter (is_legal t card) (map (still_held t) (items_where_true set layouts)))
        ≡ map (still_held (after_card t card)) (items_where_true (meet_of set (legal_at layouts t card)) layouts)
        → map (take_out card) (cond b (still_held t left ∷ filter (is_legal t card) (map (still_held t) (items_where_true set layouts))) (filter (is_legal t card) (map (still_held t) (items_where_true set layouts))))
        ≡ map (still_held (after_card t card)) (items_where_true (b ∷ meet_of set (legal_at layouts t card)) (left ∷ layouts))
    go true rest = λ i. still_after t card left i ∷ rest i
    go false rest = rest

pub keeps_numbers : KeepsNumbers
keeps_numbers layouts t set card wide = ap (λ (lefts : List (List ℕ)). record { position = after_card t card; lefts = lefts }) (lefts_after t card set layouts wide)

-- ---- in part

pub picked_more : {X : Type 0} (set part : Vector) (xs : List X) → Dominates set part → (x : X) → Contains (items_where_true part xs) x → Contains (items_where_true set xs) x
picked_more [] [] xs d x h = h
picked_more [] (b ∷ part) xs d x h = elim d [ ]
picked_more (a ∷ set) [] xs d x h = elim d [ ]
picked_more (a ∷ set) (b ∷ part) [] d x h = absurd (Contains-nil x h)
picked_more (true ∷ set) (true ∷ part) (y ∷ xs) d x h =
    each_cons (λ z. Contains (y ∷ items_where_true set xs) z) y (items_where_true part xs) (Contains-here y (items_where_true set xs))
    (λ z k. Contains-there y (items_where_true set xs) z (picked_more set part xs d.1 z k)) x h
picked_more (true ∷ set) (false ∷ part) (y ∷ xs) d x h = Contains-there y (items_where_true set xs) x (picked_more set part xs d.1 x h)
picked_more (false ∷ set) (true ∷ part) (y ∷ xs) d x h = absurd d.0
picked_more (false ∷ set) (false ∷ part) (y ∷ xs) d x h = picked_more set part xs d.1 x h

pub width_below : (u v : Vector) → Dominates u v → length u ≡ length v
width_below [] [] d = refl
width_below [] (b ∷ v) d = elim d [ ]
width_below (a ∷ u) [] d = elim d [ ]
width_below (a ∷ u) (b ∷ v) d = ap suc (width_below u v d.1)

pub length-node_at : (layouts : List (List ℕ)) (t : PositionValue) (set : Vector) → length set ≡ length layouts → length (node_at layouts t set).lefts ≡ ones_of set
length-node_at layouts t set wide = length-map (items_where_true set layouts) (still_held t) ∙ length-picked set layouts wide

module _ (layouts : List (List ℕ)) (t : PositionValue) where
  pub is_part : (set part : Vector) → Dominates set part → IsPart (node_at layouts t part) (node_at layouts t set)
  is_part set part d = record {
    position = refl;
    layouts = λ left among.
        let whole = Contains-of_map (still_held t) (items_where_true part layouts) left among in
        subst (λ x. Contains (map (still_held t) (items_where_true set layouts)) x) whole.2
        (Contains-map (still_held t) (items_where_true set layouts) whole.0 (picked_more set part layouts d whole.0 whole.1));
  }

  pub layouts_in_part : (set part : Vector) → AreLayoutsAt layouts t set → Dominates set part → 1 ≤ ones_of part → AreLayoutsAt layouts t part
  layouts_in_part set part are d some =
      let wide : length part ≡ length layouts = sym (width_below set part d) ∙ are.width in
      let count = length-node_at layouts t part wide in
      let all = length-node_at layouts t set are.width in
      let fewer = Dominates-ones set part d in
      let few = are.node.few in
      record {
        width = wide;
        node = record {
          sound = are.node.sound;
          fits = All-from (FitsLeft t) (node_at layouts t part).lefts
              (λ left among. All-contains (FitsLeft t) (node_at layouts t set).lefts left are.node.fits ((is_part set part d).layouts left among));
          some = omega arith;
          few = omega arith;
        };
      }

  pub some_layouts : (set : Vector) → AreLayoutsAt layouts t set → 1 ≤ ones_of set
  some_layouts set are = let count = length-node_at layouts t set are.width in let some = are.node.some in omega arith

-- ---- at the node that numbers them

map_same : {X : Type 0} (f : X → X) (xs : List X) → ((x : X) → Contains xs x → f x ≡ x) → map f xs ≡ xs
map_same f [] h = refl
map_same f (x ∷ xs) h = λ i. h x (Contains-here x xs) i ∷ map_same f xs (λ y k. h y (Contains-there x xs y k)) i

still_all : (t : PositionValue) (left : List ℕ) → IsSubset left t.unseen → still_held t left ≡ left
still_all t left part = filter_all (has_card t.unseen) left (λ c among. part c (has_card-from_Contains left c among))

-- there the layouts of a set are those at its ones
pub lefts-there : (n : NodeValue) (set : Vector) → IsNode n → (node_at n.lefts n.position set).lefts ≡ items_where_true set n.lefts
lefts-there n set ok = map_same (still_held n.position) (items_where_true set n.lefts)
    (λ left among. still_all n.position left (All-contains (FitsLeft n.position) n.lefts left ok.fits (Contains-of_picked set n.lefts left among)).part)

pub states-there : (n : NodeValue) (set : Vector) → IsNode n → states (node_at n.lefts n.position set) ≡ items_where_true set (states n)
states-there n set ok = ap (λ (lefts : List (List ℕ)). map {B = State} (λ left. record { position = n.position; left = left }) lefts) (lefts-there n set ok) ∙ states-picked n.position set n.lefts

pub part-there : (n : NodeValue) (set : Vector) → IsNode n → IsPart (node_at n.lefts n.position set) n
part-there n set ok = record {
  position = refl;
  layouts = λ left among. Contains-of_picked set n.lefts left (subst (λ (lefts : List (List ℕ)). Contains lefts left) (lefts-there n set ok) among);
}
