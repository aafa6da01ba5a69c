-- Gaps closed at a node between two tricks: one card after another moves up, and the front stays.
use Rattle.std.proofs.Common.{◌≡◌, ◌≢◌, ◌⊎◌, ℕ, zero, suc, ◌<◌, false, true, ltb, eqb, List, [], ◌∷◌, map, Contains, refl, sym, ap, subst, ◌∙◌, inl, inr, arith}
use Rattle.std.proofs.lemmas.Bool.{cases_Bool, both_ways, and_parts, ltb-true, false_from_ne_true, or_right}
use Rattle.std.proofs.lemmas.List.{map-id}
use Rattle.card_sets.specs.Cards.{suit_of, same_suit}
use Rattle.card_sets.specs.SetWords.{has_card, IsCardSet}
use Rattle.card_sets.specs.Raised.{is_below, with_raised}
use Rattle.card_sets.proofs.Sets.{has_card-below, tail-after, IsCardSet-tail}
use Rattle.card_sets.proofs.Suits.{same_suit-true, same_suit-refl}
use Rattle.trick_rules.specs.Positions.{State}
use Rattle.trick_rules.specs.Nodes.{NodeValue, IsNode}
use Rattle.trick_rules.proofs.CardLists.{first_has}
use Rattle.trick_rules.proofs.NodeLemmas.{state_of}
use Rattle.double_dummy.specs.Equals.{in_play}
use Rattle.strategy_games.proofs.Lists.{map-agree}
use Rattle.strategy_games.proofs.Masks.{map-map}
use Rattle.dd_solver.specs.RelativeRanks.{with_gap_closed, IsGapClosed}
use Rattle.dd_solver.proofs.MovedUp.{move_card, with_moved}
use Rattle.dd_solver.proofs.CarriedBack.{between_suit}
use Rattle.dd_solver.proofs.Gaps.{nothing_moves, other_moves, later-free}
use Rattle.equivalent_nodes.specs.Ranks.{with_gaps_closed, with_gaps_closed_at, AreEquivalent}
use Rattle.equivalent_nodes.proofs.MovedUp.{node_moved, layout_state, first_layout, moved_node, moved_front}

-- ---- equivalent nodes

pub same_node : (n : NodeValue) → AreEquivalent n n
same_node n = record { layouts = refl; one_front = λ moves front. (λ f. f, λ f. f) }

pub node_then : (n p q : NodeValue) → AreEquivalent n p → AreEquivalent p q → AreEquivalent n q
node_then n p q first then = record {
  layouts = first.layouts ∙ then.layouts;
  one_front = λ moves front. (
    λ f. (then.one_front moves front).0 ((first.one_front moves front).0 f),
    λ f. (first.one_front moves front).1 ((then.one_front moves front).1 f),
  );
}

-- an equivalent node between two tricks
pub record IsKept (n p : NodeValue) : Type 0 where
  pub node : IsNode p
  pub none : p.position.trick.cards ≡ []
  pub equivalent : AreEquivalent n p

kept_same : (n : NodeValue) → IsNode n → n.position.trick.cards ≡ [] → IsKept n n
kept_same n ok none = record { node = ok; none = none; equivalent = same_node n }

kept_then : (n p q : NodeValue) → AreEquivalent n p → IsKept p q → IsKept n q
kept_then n p q first then = record { node = then.node; none = then.none; equivalent = node_then n p q first then.equivalent }

-- ---- one gap

abbrev pub node_closed : ℕ → NodeValue → NodeValue
node_closed gap n = record { position = (with_gap_closed gap (state_of n.position [])).position; lefts = map (with_raised gap) n.lefts }

same_nodes : (a b : NodeValue) → a.position ≡ b.position → a.lefts ≡ b.lefts → a ≡ b
same_nodes a b e f = λ i. record { position = e i; lefts = f i }

module _ (gap : ℕ) (n : NodeValue) (ok : IsNode n) (none : n.position.trick.cards ≡ []) (fits : gap < 52) (free : in_play n.position gap ≡ false) where
  pub closed_at : (left : List ℕ) → IsGapClosed gap (state_of n.position left) (with_gap_closed gap (state_of n.position left))
  closed_at left = record { between_tricks = none; fits = fits; free = free; closed = refl }

  -- a gap below which no card of its suit stands
  module _ (lowest : (c : ℕ) → c < 52 → is_below gap c ≡ false) where
    still : (left : List ℕ) → Contains n.lefts left → with_gap_closed gap (state_of n.position left) ≡ state_of n.position left
    still left among =
        nothing_moves gap (state_of n.position left) (with_gap_closed gap (state_of n.position left)) (layout_state n ok left among) (closed_at left) lowest

    pub nothing_changes : node_closed gap n ≡ n
    nothing_changes =
        let at = first_layout n ok in
        same_nodes (node_closed gap n) n (ap (λ (x : State). x.position) (still at.0 at.1))
        (map-agree (with_raised gap) (λ l. l) n.lefts (λ left among. ap (λ (x : State). x.left) (still left among)) ∙ map-id n.lefts)

module _ (p : ℕ) (n : NodeValue) (ok : IsNode n) (none : n.position.trick.cards ≡ []) (fits : suc p < 52) (free : in_play n.position (suc p) ≡ false)
    (suit : suit_of p ≡ suit_of (suc p)) where
  then_closed : (left : List ℕ) → Contains n.lefts left
      → IsGapClosed p (with_moved p (suc p) (state_of n.position left)) (with_gap_closed (suc p) (state_of n.position left))
  then_closed left among =
      other_moves p (state_of n.position left) (with_gap_closed (suc p) (state_of n.position left)) (layout_state n ok left among)
      (closed_at (suc p) n ok none fits free left) suit

  pub one_then_rest : node_closed (suc p) n ≡ node_closed p (node_moved p n)
  one_then_rest =
      let at = first_layout n ok in
      same_nodes (node_closed (suc p) n) (node_closed p (node_moved p n)) (ap (λ (x : State). x.position) (then_closed at.0 at.1).closed)
      (map-agree (with_raised (suc p)) (λ l. with_raised p (move_card p (suc p) l)) n.lefts
      (λ left among. ap (λ (x : State). x.left) (then_closed left among).closed)
      ∙ sym (map-map (with_raised p) (move_card p (suc p)) n.lefts))

  pub free_there : in_play (node_moved p n).position p ≡ false
  free_there = (let at = first_layout n ok in (then_closed at.0 at.1).free)

-- the lowest place of all, and the lowest place of a suit
lowest-zero : (c : ℕ) → c < 52 → is_below 0 c ≡ false
lowest-zero c small = false_from_ne_true (is_below 0 c) (λ h.
    let both = and_parts (same_suit (suit_of c) (suit_of 0)) (ltb c 0) h in
    let less = ltb-true c 0 both.1 in absurd (omega (arith, less)))

lowest-suc : (p : ℕ) → suc p < 52 → suit_of p ≢ suit_of (suc p) → (c : ℕ) → c < 52 → is_below (suc p) c ≡ false
lowest-suc p fits other c small = false_from_ne_true (is_below (suc p) c) (λ h.
    let both = and_parts (same_suit (suit_of c) (suit_of (suc p))) (ltb c (suc p)) h in
    let suit = same_suit-true (suit_of c) (suit_of (suc p)) both.0 in
    let less = ltb-true c (suc p) both.1 in
    other (between_suit c p (suc p) (omega (arith, less)) (omega arith) fits suit ∙ suit))

one_suit_or_two : (p : ℕ) → (suit_of p ≡ suit_of (suc p)) ⊎ (suit_of p ≢ suit_of (suc p))
one_suit_or_two p = elim (cases_Bool (same_suit (suit_of p) (suit_of (suc p)))) as (λ _. (suit_of p ≡ suit_of (suc p)) ⊎ (suit_of p ≢ suit_of (suc p))) [
  | inl h ↦ inl (same_suit-true (suit_of p) (suit_of (suc p)) h)
  | inr h ↦ inr (λ e. both_ways (same_suit (suit_of p) (suit_of (suc p))) h (ap (λ u. same_suit u (suit_of (suc p))) e ∙ same_suit-refl (suit_of (suc p))))
]

pub closed_gap : (gap : ℕ) (n : NodeValue) → IsNode n → n.position.trick.cards ≡ [] → gap < 52 → in_play n.position gap ≡ false → IsKept n (node_closed gap n)
closed_gap zero n ok none fits free = subst (IsKept n) (sym (nothing_changes 0 n ok none fits free lowest-zero)) (kept_same n ok none)
closed_gap (suc p) n ok none fits free = elim (one_suit_or_two p) as (λ _. IsKept n (node_closed (suc p) n)) [
  | inl suit ↦
      subst (IsKept n) (sym (one_then_rest p n ok none fits free suit))
      (kept_then n (node_moved p n) (node_closed p (node_moved p n)) (moved_front p n ok none suit fits free)
      (closed_gap p (node_moved p n) (moved_node p n ok none suit fits free) none (omega (arith, fits)) (free_there p n ok none fits free suit)))
  | inr other ↦ subst (IsKept n) (sym (nothing_changes (suc p) n ok none fits free (lowest-suc p fits other))) (kept_same n ok none)
]

-- ---- several gaps, the lowest first

pub closed_gaps : (gaps : List ℕ) (n : NodeValue) → IsNode n → n.position.trick.cards ≡ [] → IsCardSet gaps
    → ((gap : ℕ) → has_card gaps gap ≡ true → in_play n.position gap ≡ false) → IsKept n (with_gaps_closed_at gaps n)
closed_gaps [] n ok none set free = subst (IsKept n) (same_nodes n (with_gaps_closed_at [] n) refl (sym (map-id n.lefts))) (kept_same n ok none)
closed_gaps (gap ∷ gaps) n ok none set free =
    subst (IsKept n) (same_nodes (with_gaps_closed_at gaps (node_closed gap n)) (with_gaps_closed_at (gap ∷ gaps) n) refl (map-map (with_gaps_closed gaps) (with_raised gap) n.lefts))
    (kept_then n (node_closed gap n) (with_gaps_closed_at gaps (node_closed gap n)) one.equivalent
    (closed_gaps gaps (node_closed gap n) one.node one.none (IsCardSet-tail gap gaps set) later))
  where
    here : in_play n.position gap ≡ false
    here = free gap (first_has gap gaps)

    fits : gap < 52
    fits = has_card-below (gap ∷ gaps) gap set (first_has gap gaps)

    one : IsKept n (node_closed gap n)
    one = closed_gap gap n ok none fits here

    later : (c : ℕ) → has_card gaps c ≡ true → in_play (node_closed gap n).position c ≡ false
    later c h =
        let at = first_layout n ok in
        later-free gap (state_of n.position at.0) (with_gap_closed gap (state_of n.position at.0)) c (closed_at gap n ok none fits here at.0)
        (tail-after gap gaps set c h) (has_card-below gaps c (IsCardSet-tail gap gaps set) h) (free c (or_right (eqb gap c) (has_card gaps c) h))
