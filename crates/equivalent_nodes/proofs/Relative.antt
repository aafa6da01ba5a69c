-- A node in relative ranks is an equivalent node.
use Rattle.std.proofs.Common.{◌≡◌, ℕ, true, false, not, ◌&&◌, List, [], ◌∷◌, filter, map, sym, ap, ap₂, subst, ◌∙◌, IfOk, Result, Ok, Err}
use Rattle.std.proofs.lemmas.Bool.{not-true}
use Rattle.card_sets.specs.SetWords.{has_card, cards_where}
use Rattle.card_sets.specs.Raised.{with_raised}
use Rattle.card_sets.proofs.Sets.{has_card-cards_where, has_card-below, IsCardSet-cards_where, filter-cards_where, cards_where-agree}
use Rattle.trick_rules.specs.Positions.{TrickValue, PositionValue}
use Rattle.trick_rules.specs.Nodes.{NodeValue, IsNode}
use Rattle.double_dummy.specs.Equals.{in_play}
use Rattle.equivalent_nodes.specs.Ranks.{gaps_of, with_gaps_closed, with_gaps_closed_in, with_gaps_closed_at, AreEquivalent}
use Rattle.equivalent_nodes.proofs.Closing.{IsKept, closed_gaps}

-- ---- the gaps

pub gaps_are : (t : PositionValue) (pack playing gaps : List ℕ) → pack ≡ cards_where (λ _. true) → playing ≡ cards_where (in_play t)
    → gaps ≡ filter (λ c. not (has_card playing c)) pack → gaps ≡ gaps_of t
gaps_are t pack playing gaps all held is =
    is ∙ ap (filter (λ c. not (has_card playing c))) all ∙ filter-cards_where (λ c. not (has_card playing c)) (λ _. true)
    ∙ cards_where-agree (λ c. true && not (has_card playing c)) (λ c. not (in_play t c))
    (λ c low. ap not (ap (λ (l : List ℕ). has_card l c) held ∙ has_card-cards_where (in_play t) c low))

gaps_free : (t : PositionValue) (gap : ℕ) → has_card (gaps_of t) gap ≡ true → in_play t gap ≡ false
gaps_free t gap h =
    not-true (in_play t gap)
    (sym (has_card-cards_where (λ c. not (in_play t c)) gap (has_card-below (gaps_of t) gap (IsCardSet-cards_where (λ c. not (in_play t c))) h)) ∙ h)

pub all_closed : (n : NodeValue) → IsNode n → n.position.trick.cards ≡ [] → IsKept n (with_gaps_closed_at (gaps_of n.position) n)
all_closed n ok none = closed_gaps (gaps_of n.position) n ok none (IsCardSet-cards_where (λ c. not (in_play n.position c))) (gaps_free n.position)

-- ---- what is made

-- one gap more
pub one_more_closed : (gap : ℕ) (rest later cards raised target : List ℕ) → with_gaps_closed rest cards ≡ target → rest ≡ gap ∷ later → raised ≡ with_raised gap cards
    → with_gaps_closed later raised ≡ target
one_more_closed gap rest later cards raised target before first up =
    ap (with_gaps_closed later) up ∙ sym (ap (λ (l : List ℕ). with_gaps_closed l cards) first) ∙ before

pub position_is : (t : PositionValue) (gaps declarer dummy unseen : List ℕ) (trick : TrickValue) → declarer ≡ with_gaps_closed gaps t.declarer → dummy ≡ with_gaps_closed gaps t.dummy
    → unseen ≡ with_gaps_closed gaps t.unseen → trick ≡ t.trick
    → record { declarer = declarer; dummy = dummy; unseen = unseen; trick = trick; need = t.need; trump = t.trump } ≡ with_gaps_closed_in gaps t
position_is t gaps declarer dummy unseen trick a b c d = λ i. record { declarer = a i; dummy = b i; unseen = c i; trick = d i; need = t.need; trump = t.trump }

pub node_is : (n : NodeValue) (t position : PositionValue) (gaps : List ℕ) (lefts items : List (List ℕ)) → t ≡ n.position → gaps ≡ gaps_of t → position ≡ with_gaps_closed_in gaps t
    → lefts ≡ items → items ≡ map (with_gaps_closed gaps) n.lefts → record { position = position; lefts = lefts } ≡ with_gaps_closed_at (gaps_of n.position) n
node_is n t position gaps lefts items at free up same closed =
    let all : gaps ≡ gaps_of n.position = free ∙ ap gaps_of at in
    let first : position ≡ with_gaps_closed_in (gaps_of n.position) n.position = up ∙ ap₂ (λ g x. with_gaps_closed_in g x) all at in
    let second : lefts ≡ map (with_gaps_closed (gaps_of n.position)) n.lefts = same ∙ closed ∙ ap (λ (g : List ℕ). map (with_gaps_closed g) n.lefts) all in
    λ i. record { position = first i; lefts = second i }

-- what is equal to an equivalent node is one
pub if_equivalent : {E : Type 0} (n m : NodeValue) (result : Result NodeValue E) → AreEquivalent n m → IfOk result (λ p. p ≡ m) → IfOk result (AreEquivalent n)
if_equivalent n m (Ok p) same is = subst (AreEquivalent n) (sym is) same
if_equivalent n m (Err e) same is = tt
