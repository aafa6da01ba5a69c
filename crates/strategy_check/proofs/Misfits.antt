-- The first node that doesn't fit, node by node.
use Rattle.std.proofs.Common.{◌≡◌, ◌≤◌, ◌<◌, ◌+◌, ◌-◌, ◌^◌, ◌&&◌, ◌==◌, ◌∙◌, ℕ, zero, suc, Bool, true, false, not, cond, List, [], ◌∷◌, Contains, Option, Some, None, Result, Ok, refl, sym, ap, ap₂, subst, true≢false, arith}
use Rattle.std.proofs.lemmas.Bool.{and_parts}
use Rattle.std.proofs.lemmas.Bool.Decides.{Decides-eqb}
use Rattle.card_sets.specs.SetWords.{has_card}
use Rattle.trick_rules.specs.Nodes.{NodeValue, choices, child}
use Rattle.strategy_games.specs.Games.{Game}
use Rattle.strategy_games.specs.Plans.{Plan, Replies, Stop, Play, Hear, Reply, cards_of, stops}
use Rattle.strategy_games.proofs.Lists.{Contains-here, Contains-there}
use Rattle.strategy_games.specs.Misfits.{node_count, node_counts, further, same_cards, belongs, first_misfit, first_misfit_each}
use Rattle.strategy_tree.specs.Bridge.{bridge}
use Rattle.strategy_tree.proofs.CardLists.{has_card-from_Contains}
use Rattle.strategy_check.specs.Counting.{counted_nodes}
use Rattle.strategy_check.proofs.Counts.{counted_nodes-below, counted_nodes-passed, counted_nodes-last}

module _ {N S C : Type 0} (g : Game N S C) (same : C → C → Bool) where
  pub misfit-here : (plan : Plan C) (n : N) (moves : ℕ) → belongs g same plan n moves ≡ false → first_misfit g same plan n moves ≡ Some 1
  misfit-here Stop n moves h = ap (λ (b : Bool). cond b None (Some 1)) h
  misfit-here (Play c q) n zero h = refl
  misfit-here (Play c q) n (suc m) h = ap (λ (b : Bool). cond b (further 1 (first_misfit g same q (g.child n c) m)) (Some 1)) h
  misfit-here (Hear rs) n moves h = ap (λ (b : Bool). cond b (further 1 (first_misfit_each g same rs n moves)) (Some 1)) h

  pub misfit-Stop : (n : N) (moves : ℕ) → belongs g same Stop n moves ≡ true → first_misfit g same Stop n moves ≡ None
  misfit-Stop n moves h = ap (λ (b : Bool). cond b None (Some 1)) h

  pub misfit-Play : (c : C) (q : Plan C) (n : N) (moves : ℕ) → belongs g same (Play c q) n moves ≡ true → first_misfit g same (Play c q) n moves ≡ further 1 (first_misfit g same q (g.child n c) (moves - 1))
  misfit-Play c q n zero h = absurd (true≢false (sym h))
  misfit-Play c q n (suc m) h =
      let less : m ≡ suc m - 1 = omega arith in
      ap₂ (λ (b : Bool) (k : ℕ). cond b (further 1 (first_misfit g same q (g.child n c) k)) (Some 1)) h less

  pub misfit-Hear : (rs : Replies C) (n : N) (moves : ℕ) → belongs g same (Hear rs) n moves ≡ true → first_misfit g same (Hear rs) n moves ≡ further 1 (first_misfit_each g same rs n moves)
  misfit-Hear rs n moves h = ap (λ (b : Bool). cond b (further 1 (first_misfit_each g same rs n moves)) (Some 1)) h

-- ---- the cards of a node that fits

pub same_cards-gives : (cs ds : List ℕ) → same_cards ◌==◌ cs ds ≡ true → cs ≡ ds
same_cards-gives [] [] h = refl
same_cards-gives [] (d ∷ ds) h = absurd (true≢false (sym h))
same_cards-gives (c ∷ cs) [] h = absurd (true≢false (sym h))
same_cards-gives (c ∷ cs) (d ∷ ds) h =
    let parts = and_parts (c == d) (same_cards ◌==◌ cs ds) h in
    ap₂ (λ (x : ℕ) (l : List ℕ). x ∷ l) ((Decides-eqb c d).0 parts.0) (same_cards-gives cs ds parts.1)

pub moves-Play : (card : ℕ) (q : Plan ℕ) (n : NodeValue) (moves : ℕ) → belongs bridge ◌==◌ (Play card q) n moves ≡ true → 1 ≤ moves
moves-Play card q n zero h = absurd (true≢false (sym h))
moves-Play card q n (suc m) h = omega arith

pub choice-Play : (card : ℕ) (q : Plan ℕ) (n : NodeValue) (moves : ℕ) → belongs bridge ◌==◌ (Play card q) n moves ≡ true → has_card (choices n) card ≡ true
choice-Play card q n moves h = (and_parts (not (stops bridge n moves) && bridge.is_ours n) (has_card (choices n) card) h).1

pub choices-Hear : (rs : Replies ℕ) (n : NodeValue) (moves : ℕ) → belongs bridge ◌==◌ (Hear rs) n moves ≡ true → cards_of rs ≡ choices n
choices-Hear rs n moves h = same_cards-gives (cards_of rs) (choices n) (and_parts (not (stops bridge n moves) && not (bridge.is_ours n)) (same_cards ◌==◌ (cards_of rs) (choices n)) h).1

-- ---- counted plans

-- a card of declarer's side and the plan after it
pub count-Play : (plan : Plan ℕ) (card : ℕ) (q : Plan ℕ) (n m : NodeValue) (moves before : ℕ) (r : Result ℕ ℕ) → plan ≡ Play card q → belongs bridge ◌==◌ plan n moves ≡ true → m ≡ child n card
    → r ≡ counted_nodes (before + 1) (node_count q) (first_misfit bridge ◌==◌ q m (moves - 1)) → r ≡ counted_nodes before (node_count plan) (first_misfit bridge ◌==◌ plan n moves)
count-Play plan card q n m moves before r is fits is_child h =
    let here : belongs bridge ◌==◌ (Play card q) n moves ≡ true = subst (λ p. belongs bridge ◌==◌ p n moves ≡ true) is fits in
    subst (λ p. r ≡ counted_nodes before (node_count p) (first_misfit bridge ◌==◌ p n moves)) (sym is)
    (h ∙ ap (λ (x : NodeValue). counted_nodes (before + 1) (node_count q) (first_misfit bridge ◌==◌ q x (moves - 1))) is_child
    ∙ sym (counted_nodes-below before (node_count q) (first_misfit bridge ◌==◌ q (child n card) (moves - 1)))
    ∙ ap (λ (o : Option ℕ). counted_nodes before (1 + node_count q) o) (sym (misfit-Play bridge ◌==◌ card q n moves here)))

-- a defender's cards and the replies to them
pub count-Hear : (plan : Plan ℕ) (rs : Replies ℕ) (n : NodeValue) (moves before : ℕ) (r : Result ℕ ℕ) → plan ≡ Hear rs → belongs bridge ◌==◌ plan n moves ≡ true
    → r ≡ counted_nodes (before + 1) (node_counts rs) (first_misfit_each bridge ◌==◌ rs n moves) → r ≡ counted_nodes before (node_count plan) (first_misfit bridge ◌==◌ plan n moves)
count-Hear plan rs n moves before r is fits h =
    let here : belongs bridge ◌==◌ (Hear rs) n moves ≡ true = subst (λ p. belongs bridge ◌==◌ p n moves ≡ true) is fits in
    subst (λ p. r ≡ counted_nodes before (node_count p) (first_misfit bridge ◌==◌ p n moves)) (sym is)
    (h ∙ sym (counted_nodes-below before (node_counts rs) (first_misfit_each bridge ◌==◌ rs n moves))
    ∙ ap (λ (o : Option ℕ). counted_nodes before (1 + node_counts rs) o) (sym (misfit-Hear bridge ◌==◌ rs n moves here)))

-- one reply after another
module _ (n : NodeValue) (moves : ℕ) (rs : Replies ℕ) (card : ℕ) (q : Plan ℕ) (later : Replies ℕ) (next : rs ≡ Reply card q later) where
  pub next_choice : ((c : ℕ) → Contains (cards_of rs) c → Contains (choices n) c) → has_card (choices n) card ≡ true
  next_choice cards = has_card-from_Contains (choices n) card (cards card (subst (λ x. Contains (cards_of x) card) (sym next) (Contains-here card (cards_of later))))

  pub later_choices : ((c : ℕ) → Contains (cards_of rs) c → Contains (choices n) c) → (c : ℕ) → Contains (cards_of later) c → Contains (choices n) c
  later_choices cards c h = cards c (subst (λ x. Contains (cards_of x) c) (sym next) (Contains-there card (cards_of later) c h))

  module _ (m : NodeValue) (last after : ℕ) (is_child : m ≡ child n card) (passed : Ok after ≡ counted_nodes last (node_count q) (first_misfit bridge ◌==◌ q m moves)) where
    pub later_room : last + node_counts rs < 2 ^ 32 → after + node_counts later < 2 ^ 32
    later_room room =
        let all : node_counts rs ≡ node_count q + node_counts later = ap (λ x. node_counts x) next in
        let at : after ≡ last + node_count q = counted_nodes-last last (node_count q) after (first_misfit bridge ◌==◌ q m moves) passed in
        omega arith

    pub later_count : counted_nodes last (node_counts rs) (first_misfit_each bridge ◌==◌ rs n moves) ≡ counted_nodes after (node_counts later) (first_misfit_each bridge ◌==◌ later n moves)
    later_count =
        let here : Ok after ≡ counted_nodes last (node_count q) (first_misfit bridge ◌==◌ q (child n card) moves) =
        subst (λ (x : NodeValue). Ok after ≡ counted_nodes last (node_count q) (first_misfit bridge ◌==◌ q x moves)) is_child passed in
        ap (λ x. counted_nodes last (node_counts x) (first_misfit_each bridge ◌==◌ x n moves)) next
        ∙ counted_nodes-passed last (node_count q) (node_counts later) after (first_misfit bridge ◌==◌ q (child n card) moves) (first_misfit_each bridge ◌==◌ later n moves) here
