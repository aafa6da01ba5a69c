-- What a plan wins in a layout, node by node, as a checker goes through it.
use Rattle.std.proofs.Common.{◌≡◌, ℕ, Bool, true, false, ◌&&◌, cond, List, [], refl, ◌∙◌, ap}
use Rattle.std.specs.List.{list_all}
use Rattle.std.proofs.lemmas.List.Folds.{list_all-append}
use Rattle.card_sets.specs.SetWords.{has_card}
use Rattle.trick_rules.specs.Positions.{State}
use Rattle.trick_rules.specs.Play.{legal_in, after, makes}
use Rattle.strategy_games.specs.Plans.{Plan, Replies, Stop, Play, Hear, NoReply, Reply, ends, ends_each, wins}
use Rattle.strategy_tree.specs.Bridge.{bridge}

-- whether each end of the replies makes
abbrev pub wins_each : Replies ℕ → State → Bool
wins_each rs s = list_all (λ e. makes e) (ends_each bridge rs s)

pub wins-Stop : (s : State) → wins bridge Stop s ≡ makes s
wins-Stop s = and_true (makes s)
  where
    and_true : (b : Bool) → (b && true) ≡ b
    and_true true = refl
    and_true false = refl

pub wins-Play : (card : ℕ) (rest : Plan ℕ) (s : State) → wins bridge (Play card rest) s ≡ wins bridge rest (after s card)
wins-Play card rest s = refl

pub wins-Hear : (rs : Replies ℕ) (s : State) → wins bridge (Hear rs) s ≡ wins_each rs s
wins-Hear rs s = refl

pub wins_each-NoReply : (s : State) → wins_each NoReply s ≡ true
wins_each-NoReply s = refl

-- a reply counts where its card is legal
pub wins_each-Reply : (card : ℕ) (plan : Plan ℕ) (rs : Replies ℕ) (s : State)
    → wins_each (Reply card plan rs) s ≡ (cond (has_card (legal_in s) card) (wins bridge plan (after s card)) true && wins_each rs s)
wins_each-Reply card plan rs s = list_all-append (λ e. makes e) (cond (has_card (legal_in s) card) (ends_of plan) []) (ends_each bridge rs s) ∙ ap (λ b. b && wins_each rs s) (go (has_card (legal_in s) card))
  where
    ends_of : Plan ℕ → List State
    ends_of p = ends bridge p (after s card)

    go : (b : Bool) → list_all (λ e. makes e) (cond b (ends_of plan) []) ≡ cond b (list_all (λ e. makes e) (ends_of plan)) true
    go true = refl
    go false = refl
