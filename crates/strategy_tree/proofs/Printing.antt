-- A strategy is a plan that is read back from its lines.
use Rattle.std.proofs.Common.{◌≡◌, ℕ, zero, suc, ◌+◌, ◌<◌, ◌≤◌, false, is_some, length, Contains, sym, subst, arith}
use Rattle.std.proofs.lemmas.Bool.{false≢true}
use Rattle.card_sets.proofs.Sets.{IsCardSet-cards_where, has_card-below}
use Rattle.card_sets.proofs.SetCounts.{length-le_52, has_card-length}
use Rattle.trick_rules.specs.Play.{decided, cards_left}
use Rattle.trick_rules.specs.Nodes.{NodeValue, IsNode, choices, child}
use Rattle.trick_rules.proofs.PlayLaws as play
use Rattle.strategy_games.specs.Plans.{Plan, Replies, Stop, Play, Hear, NoReply, Reply, cards_of, stops, Fits, FitEach}
use Rattle.strategy_games.proofs.Lists.{Contains-here, Contains-there}
use Rattle.strategy_tree.specs.Bridge.{bridge}
use Rattle.strategy_tree.specs.PlanText.{levels_of, levels_below, HasReplies, HaveReplies, HasCards, HaveCards}
use Rattle.strategy_tree.proofs.CardLists.{has_card-from_Contains}
use Rattle.strategy_tree.proofs.Rules.{going_on}
use Rattle.strategy_tree.proofs.PackSize.{cards_left-le_52}
use Rattle.strategy_tree.proofs.BridgeNodes.{cards_left-child}
use Rattle.strategy_tree.specs.PlanRead.{most_levels}

-- ---- what is printed of a strategy

-- each node below another is a card further, and the replies are to cards
pub record IsPrinted (p : Plan ℕ) (left : ℕ) : Type 0 where
  pub levels : levels_of p ≤ left + 1
  pub replies : HasReplies p
  pub cards : HasCards p

pub record ArePrinted (rs : Replies ℕ) (left : ℕ) : Type 0 where
  pub levels : levels_below rs ≤ left
  pub replies : HaveReplies rs
  pub cards : HaveCards rs

choice_below : (n : NodeValue) (card : ℕ) → Contains (choices n) card → card < 52
choice_below n card among = has_card-below (choices n) card (IsCardSet-cards_where _) (has_card-from_Contains (choices n) card among)

not_stopped : (n : NodeValue) (m : ℕ) → stops bridge n m ≡ false → is_some (decided n.position) ≡ false
not_stopped n zero off = absurd (false≢true (sym off))
not_stopped n (suc m) off = off

mutual
  printed : (p : Plan ℕ) (n : NodeValue) (m : ℕ) → IsNode n → Fits bridge p n m → IsPrinted p (cards_left n.position)
  printed Stop n m sound fits = record { levels = omega arith; replies = tt; cards = tt }
  printed (Play card q) n zero sound fits = absurd fits
  printed (Play card q) n (suc m) sound fits =
      let choice = has_card-from_Contains (choices n) card fits.2 in
      let below = printed q (child n card) m (play.a_choice_leads_to_a_node n card sound choice) fits.3 in
      record {
        levels = omega (arith, below.levels, cards_left-child n card sound choice);
        replies = below.replies;
        cards = (choice_below n card fits.2, below.cards);
      }
  printed (Hear rs) n m sound fits =
      let some = play.there_is_a_choice n sound (going_on n.position (not_stopped n m fits.0)) in
      let filled : 1 ≤ length (cards_of rs) = subst (λ cards. 1 ≤ length cards) (sym fits.2) (has_card-length (choices n) some.0 some.1) in
      let few : length (cards_of rs) ≤ 52 = subst (λ cards. length cards ≤ 52) (sym fits.2) (length-le_52 (choices n) (IsCardSet-cards_where _)) in
      let each = each_printed rs n m sound (λ card among. subst (λ cards. Contains cards card) fits.2 among) fits.3 in
      record { levels = omega (arith, each.levels); replies = (filled, few, each.replies); cards = each.cards }

  each_printed : (rs : Replies ℕ) (n : NodeValue) (m : ℕ) → IsNode n → ((card : ℕ) → Contains (cards_of rs) card → Contains (choices n) card) → FitEach bridge rs n m → ArePrinted rs (cards_left n.position)
  each_printed NoReply n m sound among fits = record { levels = omega arith; replies = tt; cards = tt }
  each_printed (Reply card q rs) n m sound among fits =
      let here = among card (Contains-here card (cards_of rs)) in
      let choice = has_card-from_Contains (choices n) card here in
      let first = printed q (child n card) m (play.a_choice_leads_to_a_node n card sound choice) fits.0 in
      let rest = each_printed rs n m sound (λ c h. among c (Contains-there card (cards_of rs) c h)) fits.1 in
      record {
        levels = omega (arith, first.levels, rest.levels, cards_left-child n card sound choice);
        replies = (first.replies, rest.replies);
        cards = (choice_below n card here, first.cards, rest.cards);
      }

-- a strategy has at most 64 levels, each defender's node has 1 to 52 replies, and each card is one of the 52
pub printed_plan : (p : Plan ℕ) (n : NodeValue) (m : ℕ) → IsNode n → Fits bridge p n m → (levels_of p ≤ most_levels) × HasReplies p × HasCards p
printed_plan p n m sound fits = let all = printed p n m sound fits in (omega (arith, all.levels, cards_left-le_52 n.position sound.sound), all.replies, all.cards)
