-- The front of a node, card by card.
use Rattle.std.proofs.Common.{◌≡◌, ℕ, zero, suc, ◌+◌, ◌-◌, true, false, is_some, List, [], ◌∷◌, ◌++◌, map, replicate, length, Contains, refl, sym, ap, subst, ◌∙◌, arith, append-nil, inl, inr}
use Rattle.std.proofs.lemmas.Bool.{false≢true, cases_Bool}
use Rattle.card_sets.specs.SetWords.{has_card}
use Rattle.win_vectors.specs.Vectors.{ones_of}
use Rattle.win_vectors.specs.Fronts.{Vector, IsFrontOf, IsReduced, meets, spreads}
use Rattle.pareto_fronts.specs.FrontValue.{FrontValue}
use Rattle.trick_rules.specs.Positions.{to_play}
use Rattle.trick_rules.specs.Play.{is_declarers, decided, cards_left, makes}
use Rattle.trick_rules.specs.Nodes.{NodeValue, IsNode, states, stops, choices, child, child_mask}
use Rattle.strategy_games.specs.Plans as plans
use Rattle.strategy_games.specs.Plans.{IsFront}
use Rattle.strategy_games.specs.Joins.{WinsByCard, WinsByReply}
use Rattle.strategy_games.proofs.Lists.{Contains-here, Contains-append_second}
use Rattle.strategy_tree.specs.Bridge.{bridge}
use Rattle.strategy_tree.proofs.CardLists.{has_card-from_Contains}
use Rattle.strategy_tree.proofs.Rules.{going_on}
use Rattle.strategy_tree.proofs.BridgeLaws.{recursion, steps}
use Rattle.strategy_tree.proofs.BridgeNodes.{stops-bridge, length-states, mask-bridge, length-child_lefts, length-child_mask, our_mask, cards_left-child}
use Rattle.plain_fronts.proofs.SameFronts.{same_front}

-- ---- the card in hand

pub member : (all earlier rest : List ℕ) (card : ℕ) → all ≡ earlier ++ card ∷ rest → Contains all card
member all earlier rest card are = subst (λ cards. Contains cards card) (sym are) (Contains-append_second earlier (card ∷ rest) card (Contains-here card rest))

pub is_choice : (n : NodeValue) (earlier rest : List ℕ) (card : ℕ) → choices n ≡ earlier ++ card ∷ rest → has_card (choices n) card ≡ true
is_choice n earlier rest card are = has_card-from_Contains (choices n) card (member (choices n) earlier rest card are)

pub falls : (n kept : NodeValue) (earlier rest : List ℕ) (card : ℕ) → IsNode n → choices n ≡ earlier ++ card ∷ rest → kept ≡ child n card → cards_left kept.position + 1 ≡ cards_left n.position
falls n kept earlier rest card sound are is = subst (λ (k : NodeValue). cards_left k.position + 1 ≡ cards_left n.position) (sym is) (cards_left-child n card sound (is_choice n earlier rest card are))

ones-replicate : (w : ℕ) → ones_of (replicate w true) ≡ w
ones-replicate zero = refl
ones-replicate (suc w) = omega (arith, ones-replicate w)

-- a card of declarer's side keeps every layout
pub our_ones : (n : NodeValue) (earlier rest : List ℕ) (card : ℕ) → is_declarers (to_play n.position) ≡ true → choices n ≡ earlier ++ card ∷ rest → ones_of (child_mask n card) ≡ length n.lefts
our_ones n earlier rest card ours are = ap ones_of (our_mask n card ours (is_choice n earlier rest card are)) ∙ ones-replicate (length n.lefts)

pub our_width : (n kept : NodeValue) (earlier rest : List ℕ) (card : ℕ) → is_declarers (to_play n.position) ≡ true → choices n ≡ earlier ++ card ∷ rest → kept ≡ child n card → length kept.lefts ≡ length n.lefts
our_width n kept earlier rest card ours are is = ap (λ (k : NodeValue). length k.lefts) is ∙ length-child_lefts n card ∙ our_ones n earlier rest card ours are

pub their_width : (n kept : NodeValue) (card : ℕ) → kept ≡ child n card → length kept.lefts ≡ ones_of (child_mask n card)
their_width n kept card is = ap (λ (k : NodeValue). length k.lefts) is ∙ length-child_lefts n card

-- the widths of a child's front and of the layouts that it keeps, beside the front so far
pub record ChildFits (n : NodeValue) (mask : Vector) (width won : ℕ) : Type 0 where
  pub mask_width : length mask ≡ width
  pub child_width : won ≡ ones_of mask
  pub ours : is_declarers (to_play n.position) ≡ true → ones_of mask ≡ width

pub child_fits : (n kept : NodeValue) (earlier rest : List ℕ) (card : ℕ) (mask : Vector) (width won : ℕ) → choices n ≡ earlier ++ card ∷ rest → kept ≡ child n card → mask ≡ child_mask n card
    → width ≡ length n.lefts → won ≡ length kept.lefts → ChildFits n mask width won
child_fits n kept earlier rest card mask width won are is mask_is width_is won_is = record {
  mask_width = ap (λ (m : Vector). length m) mask_is ∙ length-child_mask n card ∙ sym width_is;
  child_width = won_is ∙ their_width n kept card is ∙ ap ones_of (sym mask_is);
  ours = λ o. ap ones_of mask_is ∙ our_ones n earlier rest card o are ∙ sym width_is;
}

-- ---- where strategies stop

pub at_stop : (n : NodeValue) (moves : ℕ) (results : Vector) (front : List Vector) → stops n moves ≡ true → results ≡ map (λ s. makes s) (states n) → IsReduced (results ∷ []) front → IsFront bridge n moves front
at_stop n moves results front stop are reduced =
    same_front (plans.CanWin bridge n moves) (results ∷ []) front (subst (λ v. IsFront bridge n moves (v ∷ [])) (sym are) (recursion.at_stop n moves (stops-bridge n moves ∙ stop))) reduced

-- and where they don't
pub more_moves : (n : NodeValue) (moves : ℕ) → stops n moves ≡ false → suc (moves - 1) ≡ moves
more_moves n zero off = absurd (false≢true (sym off))
more_moves n (suc moves) off = omega arith

pub live : (n : NodeValue) (moves : ℕ) → stops n moves ≡ false → is_some (decided n.position) ≡ false
live n zero off = absurd (false≢true (sym off))
live n (suc moves) off = stops-bridge n (suc moves) ∙ off

-- ---- at declarer's side

pub declarer_end : (n : NodeValue) (moves : ℕ) (earlier rest : List ℕ) (front : List Vector) → IsNode n → stops n moves ≡ false → is_declarers (to_play n.position) ≡ true
    → choices n ≡ earlier ++ rest → rest ≡ [] → IsFrontOf (WinsByCard bridge n (moves - 1) earlier) front → IsFront bridge n moves front
declarer_end n moves earlier rest front sound off ours are none so_far =
    subst (λ m. IsFront bridge n m front) (more_moves n moves off)
    (steps.all_cards n (moves - 1) front sound (going_on n.position (live n moves off)) ours
    (subst (λ cards. IsFrontOf (WinsByCard bridge n (moves - 1) cards) front) (sym (are ∙ ap (λ cards. earlier ++ cards) none ∙ append-nil earlier)) so_far))

-- ---- at a defender

pub defender_start : (n : NodeValue) (m width : ℕ) (front : List Vector) → width ≡ length n.lefts → IsReduced (replicate width true ∷ []) front → IsFrontOf (WinsByReply bridge n m []) front
defender_start n m width front is reduced =
    same_front (WinsByReply bridge n m []) (replicate width true ∷ []) front (subst (λ w. IsFrontOf (WinsByReply bridge n m []) (replicate w true ∷ [])) (length-states n ∙ sym is) (steps.no_reply n m)) reduced

pub defender_end : (n : NodeValue) (moves : ℕ) (earlier rest : List ℕ) (front : List Vector) → IsNode n → stops n moves ≡ false → is_declarers (to_play n.position) ≡ false
    → choices n ≡ earlier ++ rest → rest ≡ [] → IsFrontOf (WinsByReply bridge n moves earlier) front → IsFront bridge n moves front
defender_end n moves earlier rest front sound off theirs are none so_far =
    let more = more_moves n moves off in
    subst (λ m. IsFront bridge n m front) more
    (steps.all_replies n (moves - 1) front sound (going_on n.position (live n moves off)) theirs
    (subst (λ m. IsFrontOf (WinsByReply bridge n m (choices n)) front) (sym more)
    (subst (λ cards. IsFrontOf (WinsByReply bridge n moves cards) front) (sym (are ∙ ap (λ cards. earlier ++ cards) none ∙ append-nil earlier)) so_far)))

-- ---- the cards one after another

-- the front over some cards, with the moves that are left after each
pub record IsFrontOver (n : NodeValue) (m : ℕ) (cards : List ℕ) (front : List Vector) : Type 0 where
  pub ours : is_declarers (to_play n.position) ≡ true → IsFrontOf (WinsByCard bridge n m cards) front
  pub theirs : is_declarers (to_play n.position) ≡ false → IsFrontOf (WinsByReply bridge n m cards) front

pub over_no_card : (n : NodeValue) (m : ℕ) (front : List Vector) → (is_declarers (to_play n.position) ≡ true → front ≡ [])
    → (is_declarers (to_play n.position) ≡ false → IsReduced (replicate (length n.lefts) true ∷ []) front) → IsFrontOver n m [] front
over_no_card n m front none all = record {
  ours = λ o. subst (λ f. IsFrontOf (WinsByCard bridge n m []) f) (sym (none o)) (steps.no_card n m);
  theirs = λ t. defender_start n m (length n.lefts) front refl (all t);
}

pub over_one_more : (n kept : NodeValue) (m : ℕ) (earlier rest : List ℕ) (card : ℕ) (mask : Vector) (front won next : List Vector) → IsNode n → choices n ≡ earlier ++ card ∷ rest
    → IsFrontOver n m earlier front → kept ≡ child n card → mask ≡ child_mask n card → IsFront bridge kept m won
    → (is_declarers (to_play n.position) ≡ true → IsReduced (front ++ won) next) → (is_declarers (to_play n.position) ≡ false → IsReduced (meets front (spreads mask won)) next)
    → IsFrontOver n m (earlier ++ card ∷ []) next
over_one_more n kept m earlier rest card mask front won next sound are so_far is mask_is kept_front union join =
    let child_front = subst (λ k. IsFront bridge k m won) is kept_front in
    record {
      ours = λ o. steps.more_cards n m earlier card front won next (so_far.ours o) child_front (union o);
      theirs = λ t. steps.more_replies n m earlier card front won next sound (member (choices n) earlier rest card are) (so_far.theirs t) child_front
          (subst (λ bits. IsReduced (meets front (spreads bits won)) next) (mask_is ∙ sym (mask-bridge n card)) (join t));
    }

-- these cards are left, and the front is over the others
pub record CardsLeft (n : NodeValue) (m : ℕ) (cards : List ℕ) (front : FrontValue) : Type 0 where
  pub earlier : List ℕ
  pub are : choices n ≡ earlier ++ cards
  pub width : front.width ≡ length n.lefts
  pub so_far : IsFrontOver n m earlier front.vectors

pub next_is : {n : NodeValue} {m card : ℕ} {cards rest : List ℕ} {front : FrontValue} (left : CardsLeft n m cards front) → cards ≡ card ∷ rest → choices n ≡ left.earlier ++ card ∷ rest
next_is left next = left.are ∙ ap (λ cards. left.earlier ++ cards) next

pub over_all : (n : NodeValue) (moves m : ℕ) (earlier rest : List ℕ) (front : List Vector) → IsNode n → stops n moves ≡ false
    → (is_declarers (to_play n.position) ≡ true → m ≡ moves - 1) → (is_declarers (to_play n.position) ≡ false → m ≡ moves)
    → choices n ≡ earlier ++ rest → rest ≡ [] → IsFrontOver n m earlier front → IsFront bridge n moves front
over_all n moves m earlier rest front sound off less same are none so_far =
    elim (cases_Bool (is_declarers (to_play n.position))) as (λ _. IsFront bridge n moves front) [
      | inl o ↦ declarer_end n moves earlier rest front sound off o are none (subst (λ k. IsFrontOf (WinsByCard bridge n k earlier) front) (less o) (so_far.ours o))
      | inr t ↦ defender_end n moves earlier rest front sound off t are none (subst (λ k. IsFrontOf (WinsByReply bridge n k earlier) front) (same t) (so_far.theirs t))
    ]
