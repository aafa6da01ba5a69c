-- What is assured after the cards of a defender, one after another.
use Rattle.std.proofs.Common.{◌≡◌, ◌∙◌, ◌+◌, ℕ, List, [], ◌∷◌, ◌++◌, Contains, append-nil, append_assoc, sum_by, sym, ap, subst}
use Rattle.std.specs.List.{AllZip}
use Rattle.trick_rules.specs.Nodes.{NodeValue, IsNode, choices, child, child_mask}
use Rattle.strategy_games.specs.Plans.{tree_size}
use Rattle.strategy_tree.specs.Bridge.{bridge}
use Rattle.alphamu_core.proofs.OpenNodes.{size_theirs}
use Rattle.alphamu_core.proofs.Paid.{size_after}
use Rattle.plain_fronts.proofs.CardByCard.{member}
use Rattle.assured_fronts.specs.declared.replies.AfterReply.{AfterReply}
use Rattle.assured_fronts.specs.AssuredAt.{IsAssuredAt}
use Rattle.assured_fronts.specs.AfterReplies.{Waits, IsAfterReply, AreAfterReplies}
use Rattle.assured_fronts.proofs.CardByCard.{live}

-- a pair more
pub zip_more : {A B : Type 0} (R : A → B → Type 0) (xs : List A) (ys : List B) (x : A) (y : B) → AllZip R xs ys → R x y → AllZip R (xs ++ x ∷ []) (ys ++ y ∷ [])
zip_more R [] [] x y none is = (is, tt)
zip_more R (z ∷ xs) (w ∷ ys) x y both is = (both.0, zip_more R xs ys x y both.1 is)
zip_more R [] (w ∷ ys) x y none is = absurd none
zip_more R (z ∷ xs) [] x y none is = absurd none

-- of a defender's cards these are left, and this was found after the others
pub record RepliesLeft (n : NodeValue) (moves : ℕ) (cards : List ℕ) (found : List AfterReply) : Type 0 where
  pub earlier : List ℕ
  pub are : choices n ≡ earlier ++ cards
  pub so_far : AllZip (IsAfterReply n moves) earlier found

pub replies_none : (n : NodeValue) (moves : ℕ) (cards : List ℕ) → cards ≡ choices n → RepliesLeft n moves cards []
replies_none n moves cards all = record { earlier = []; are = sym all; so_far = tt }

module _ {n : NodeValue} {moves : ℕ} {cards : List ℕ} {found : List AfterReply} (left : RepliesLeft n moves cards found) where
  module _ {card : ℕ} {rest : List ℕ} (next : cards ≡ card ∷ rest) where
    pub reply_choice : Contains (choices n) card
    reply_choice = member (choices n) left.earlier rest card (left.are ∙ ap (λ cards. left.earlier ++ cards) next)

    pub reply_more : (one : AfterReply) (kept : NodeValue) → kept ≡ child n card → one.mask ≡ child_mask n card → IsAssuredAt kept moves one.front → RepliesLeft n moves rest (found ++ one ∷ [])
    reply_more one kept is mask front = record {
      earlier = left.earlier ++ card ∷ [];
      are = left.are ∙ ap (λ cards. left.earlier ++ cards) next ∙ sym (append_assoc left.earlier (card ∷ []) rest);
      so_far = zip_more (IsAfterReply n moves) left.earlier found card one left.so_far
          (record { mask = mask; front = subst (λ (k : NodeValue). IsAssuredAt k moves one.front) is front });
    }

  pub replies_all : cards ≡ [] → AreAfterReplies n moves found
  replies_all none = subst (λ all. AllZip (IsAfterReply n moves) all found) (sym (left.are ∙ ap (λ cards. left.earlier ++ cards) none ∙ append-nil left.earlier)) left.so_far

-- the tree of the node is it and the trees after its cards
pub size_waiting : (n : NodeValue) (moves : ℕ) → IsNode n → Waits n moves → tree_size bridge n moves ≡ 1 + sum_by (size_after n moves) (choices n)
size_waiting n moves sound waits = size_theirs n moves sound (live n moves waits.goes_on waits.some) waits.theirs
