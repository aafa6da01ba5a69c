-- The cards of a defender that are replied to.
use Rattle.std.proofs.Common.{◌≡◌, ◌∙◌, ◌+◌, ◌*◌, ◌<◌, ◌≤◌, ◌++◌, ℕ, zero, suc, false, List, [], ◌∷◌, Contains, length, refl, sym, ap, subst, append_assoc, true≢false, arith}
use Rattle.std.proofs.lemmas.List.{append-nil}
use Rattle.win_vectors.specs.Vectors.{ones_of, restrict_of}
use Rattle.win_vectors.specs.Fronts.{Vector, Covers}
use Rattle.win_vectors.proofs.Orders.{length-restrict_of}
use Rattle.trick_rules.specs.Play.{cards_left}
use Rattle.trick_rules.specs.Nodes.{NodeValue, IsNode, choices, child, child_mask}
use Rattle.trick_rules.proofs.PlayLaws as play
use Rattle.strategy_games.specs.Games.{mask}
use Rattle.strategy_games.specs.Plans.{Plan, Replies, NoReply, Reply, cards_of, stops, tree_size, IsFront}
use Rattle.strategy_games.specs.Choosing.{IsPick, IsChosenPlan, AreChosenReplies}
use Rattle.strategy_games.proofs.Lists.{Contains-here, Contains-append_second}
use Rattle.strategy_tree.specs.Bridge.{bridge}
use Rattle.strategy_tree.proofs.CardLists.{has_card-from_Contains}
use Rattle.strategy_tree.proofs.BridgeLaws.{one_front, chosen_plan, sizes}
use Rattle.strategy_tree.proofs.BridgeNodes.{mask-bridge, length-child_mask, length-child_lefts, some_layout}
use Rattle.alphamu_core.proofs.OpenNodes.{fewer_cards}
use Rattle.plan_finder.specs.Targets.{IsOfFront}
use Rattle.plan_finder.specs.Choices.{KeepsNone}
use Rattle.plan_finder.proofs.Picks.{length-of_front, picked_of, chosen_for}

-- the replies so far are those that are printed for the vector's parts
pub record RepliedSoFar (n : NodeValue) (moves : ℕ) (vector : Vector) (cards : List ℕ) (replies : Replies ℕ) : Type 0 where
  pub split : choices n ≡ cards_of replies ++ cards
  pub chosen : AreChosenReplies bridge replies n moves vector

-- one more reply, after the others
abbrev pub then_reply : Replies ℕ → ℕ → Plan ℕ → Replies ℕ
then_reply NoReply card plan = Reply card plan NoReply
then_reply (Reply c q later) card plan = Reply c q (then_reply later card plan)

cards-then : (replies : Replies ℕ) (card : ℕ) (plan : Plan ℕ) → cards_of (then_reply replies card plan) ≡ cards_of replies ++ card ∷ []
cards-then NoReply card plan = refl
cards-then (Reply c q later) card plan = ap (λ cards. c ∷ cards) (cards-then later card plan)

chosen-then : (n : NodeValue) (moves : ℕ) (vector : Vector) (replies : Replies ℕ) (card : ℕ) (plan : Plan ℕ) → AreChosenReplies bridge replies n moves vector
    → IsChosenPlan bridge plan (child n card) moves (restrict_of vector (mask bridge n card)) → AreChosenReplies bridge (then_reply replies card plan) n moves vector
chosen-then n moves vector NoReply card plan so last = (last, so)
chosen-then n moves vector (Reply c q later) card plan so last = (so.0, chosen-then n moves vector later card plan so.1 last)

-- the child keeps the vector's part
part_kept_by : (n : NodeValue) (moves : ℕ) (vector : Vector) (card : ℕ) (m : NodeValue) (bits : Vector) → IsNode n → IsNode m → stops bridge n moves ≡ false → bridge.is_ours n ≡ false → IsOfFront n moves vector
    → Contains (choices n) card → m ≡ child n card → bits ≡ child_mask n card → KeepsNone m moves (restrict_of vector bits) → ⊥
part_kept_by n zero vector card m bits sound sound_m goes_on theirs of among is_child is_mask none = absurd (true≢false goes_on)
part_kept_by n (suc k) vector card m bits sound sound_m goes_on theirs of among is_child is_mask none =
    let front = one_front.exists m (suc k) sound_m in
    let here : IsFront bridge (child n card) (suc k) front.0 = subst (λ m. IsFront bridge m (suc k) front.0) is_child front.1 in
    let same : mask bridge n card ≡ bits = mask-bridge n card ∙ sym is_mask in
    none front.0 front.1 (subst (λ bits. Covers front.0 (restrict_of vector bits)) same (chosen_plan.part n k vector of.0 front.0 card sound goes_on theirs of.1 of.2 among here))

-- a child's tree is smaller than the node's
pub larger_below : (n : NodeValue) (moves : ℕ) (card : ℕ) (m : NodeValue) (nodes : ℕ) → IsNode n → stops bridge n moves ≡ false → bridge.is_ours n ≡ false → Contains (choices n) card → m ≡ child n card
    → nodes < tree_size bridge m moves → nodes < tree_size bridge n moves
larger_below n zero card m nodes sound goes_on theirs among is_child larger = absurd (true≢false goes_on)
larger_below n (suc k) card m nodes sound goes_on theirs among is_child larger =
    let below = subst (λ (m : NodeValue). nodes < tree_size bridge m (suc k)) is_child larger in
    let part = sizes.defenders_child n k card sound goes_on theirs among in
    omega arith

module _ (n : NodeValue) (moves : ℕ) (vector : Vector) where
  pub replied_none : (cards : List ℕ) → cards ≡ choices n → RepliedSoFar n moves vector cards NoReply
  replied_none cards e = record { split = sym e; chosen = tt }

  module _ {cards : List ℕ} {replies : Replies ℕ} (so : RepliedSoFar n moves vector cards replies) where
    pub replied_all : cards ≡ [] → cards_of replies ≡ choices n
    replied_all ended = sym (so.split ∙ ap (λ cards. cards_of replies ++ cards) ended ∙ append-nil (cards_of replies))

    module _ {card : ℕ} {rest : List ℕ} (taken : cards ≡ card ∷ rest) where
      parts : choices n ≡ cards_of replies ++ card ∷ rest
      parts = so.split ∙ ap (λ cards. cards_of replies ++ cards) taken

      pub next_reply : Contains (choices n) card
      next_reply = subst (λ cards. Contains cards card) (sym parts) (Contains-append_second (cards_of replies) (card ∷ rest) card (Contains-here card rest))

      module _ {m : NodeValue} (is_child : m ≡ child n card) where
        pub node_below : IsNode n → IsNode m
        node_below sound = subst (λ (m : NodeValue). IsNode m) (sym is_child) (play.a_choice_leads_to_a_node n card sound (has_card-from_Contains (choices n) card next_reply))

        pub fewer_below : IsNode n → 2 * cards_left m.position + 1 < 2 * cards_left n.position
        fewer_below sound = fewer_cards n m card sound next_reply is_child

        pub spent_below : (nodes : ℕ) → IsNode n → stops bridge n moves ≡ false → bridge.is_ours n ≡ false → nodes < tree_size bridge m moves → nodes < tree_size bridge n moves
        spent_below nodes sound goes_on theirs larger = larger_below n moves card m nodes sound goes_on theirs next_reply is_child larger

        module _ (bits : Vector) (is_mask : bits ≡ child_mask n card) where
          pub mask_width : IsOfFront n moves vector → length vector ≡ length bits
          mask_width of = length-of_front n moves vector of ∙ sym (length-child_mask n card) ∙ ap (λ (v : Vector). length v) (sym is_mask)

          pub mask_some : IsNode n → 1 ≤ ones_of bits
          mask_some sound = subst (λ (v : Vector). 1 ≤ ones_of v) (sym is_mask) (some_layout n card sound (has_card-from_Contains (choices n) card next_reply))

          pub part_width : IsOfFront n moves vector → length (restrict_of vector bits) ≡ length m.lefts
          part_width of =
              length-restrict_of vector bits (mask_width of) ∙ ap (λ (v : Vector). ones_of v) is_mask ∙ sym (length-child_lefts n card) ∙ ap (λ (m : NodeValue). length m.lefts) (sym is_child)

          pub part_kept : IsNode n → stops bridge n moves ≡ false → bridge.is_ours n ≡ false → IsOfFront n moves vector → KeepsNone m moves (restrict_of vector bits) → ⊥
          part_kept sound goes_on theirs of = part_kept_by n moves vector card m bits sound (node_below sound) goes_on theirs of next_reply is_child is_mask

          module _ {part above : Vector} (of_part : part ≡ restrict_of vector bits) (first : IsPick bridge m moves part above) where
            picked_here : IsPick bridge m moves (restrict_of vector bits) above
            picked_here = subst (λ t. IsPick bridge m moves t above) of_part first

            pub above_of : IsOfFront m moves above
            above_of = picked_of m moves (restrict_of vector bits) above picked_here

            pub replied_more : (plan : Plan ℕ) → IsChosenPlan bridge plan m moves above → RepliedSoFar n moves vector rest (then_reply replies card plan)
            replied_more plan chosen =
                let same : restrict_of vector bits ≡ restrict_of vector (mask bridge n card) = ap (restrict_of vector) (is_mask ∙ sym (mask-bridge n card)) in
                let for_part : IsChosenPlan bridge plan m moves (restrict_of vector bits) = chosen_for plan m moves (restrict_of vector bits) above picked_here chosen in
                let last : IsChosenPlan bridge plan (child n card) moves (restrict_of vector (mask bridge n card)) =
                subst (λ (t : Vector). IsChosenPlan bridge plan (child n card) moves t) same (subst (λ (m : NodeValue). IsChosenPlan bridge plan m moves (restrict_of vector bits)) is_child for_part) in
                record {
                  split = parts ∙ sym (append_assoc (cards_of replies) (card ∷ []) rest) ∙ ap (λ cards. cards ++ rest) (sym (cards-then replies card plan));
                  chosen = chosen-then n moves vector replies card plan so.chosen last;
                }
