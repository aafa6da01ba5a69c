-- What the replies win, one after another.
use Rattle.std.proofs.Common.{◌≡◌, ◌&&◌, ◌∙◌, ℕ, Bool, true, false, cond, ap, ap₂}
use Rattle.card_sets.specs.SetWords.{has_card}
use Rattle.trick_rules.specs.Positions.{State}
use Rattle.trick_rules.specs.Play.{legal_in, after}
use Rattle.strategy_games.specs.Plans.{Plan, Replies, Reply, wins}
use Rattle.strategy_tree.specs.Bridge.{bridge}
use Rattle.strategy_tree.proofs.Winning.{wins_each-Reply}
use Rattle.strategy_check.specs.Following.{win_each}

module _ (rs : Replies ℕ) (card : ℕ) (plan : Plan ℕ) (later : Replies ℕ) (next : rs ≡ Reply card plan later) (s : State) where
  first_then_later : win_each rs s ≡ (cond (has_card (legal_in s) card) (wins bridge plan (after s card)) true && win_each later s)
  first_then_later = ap (λ x. win_each x s) next ∙ wins_each-Reply card plan later s

  pub lost_here : has_card (legal_in s) card ≡ true → wins bridge plan (after s card) ≡ false → win_each rs s ≡ false
  lost_here legal lost = first_then_later ∙ ap₂ (λ (a b : Bool). cond a b true && win_each later s) legal lost

  pub won_here : has_card (legal_in s) card ≡ true → wins bridge plan (after s card) ≡ true → win_each rs s ≡ win_each later s
  won_here legal won = first_then_later ∙ ap₂ (λ (a b : Bool). cond a b true && win_each later s) legal won

  pub not_legal : has_card (legal_in s) card ≡ false → win_each rs s ≡ win_each later s
  not_legal none = first_then_later ∙ ap (λ (a : Bool). cond a (wins bridge plan (after s card)) true && win_each later s) none
