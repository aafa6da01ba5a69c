-- What a play-out against a defence that beats the plan shows.
use Rattle.std.proofs.Common.{◌≡◌, ◌==◌, ◌≤◌, ◌<◌, ◌+◌, ℕ, suc, true, false, List, [], ◌∷◌, ◌++◌, length, refl, sym, ap, subst, ◌∙◌, append_assoc, arith}
use Rattle.std.proofs.lemmas.List.{append-nil, length_push}
use Rattle.card_sets.specs.SetWords.{has_card}
use Rattle.trick_rules.specs.Positions.{PositionValue, State}
use Rattle.trick_rules.specs.Play.{legal_in, after, is_over, cards_left}
use Rattle.trick_rules.proofs.PlayLaws as play
use Rattle.strategy_games.specs.Plans.{Plan, wins}
use Rattle.strategy_tree.specs.Bridge.{bridge}
use Rattle.strategy_tree.proofs.PackSize.{cards_left-le_52}
use Rattle.strategy_check.specs.Following.{CanFollow}
use Rattle.strategy_check.proofs.Followed.{followed_state}
use Rattle.am_match.specs.Defences.{Sitter}
use Rattle.am_match.specs.PlayOuts.{plan_after, state_after, GoesOn, Follows}
use Rattle.am_match.proofs.OneCard.{follow_next, wins_at_the_end}
use Rattle.am_match.proofs.WonLines.{going_on}
use Rattle.line_plays.specs.Defended.{IsNextCard, GoesOnSo, PlaysOut}
use Rattle.line_plays.proofs.OneDefence.{as_next, win_same}

-- ---- the laws

shows : (plan : Plan ℕ) (s : State) (cards : List ℕ) → CanFollow plan s → GoesOnSo plan s cards → is_over (state_after s cards).position ≡ true
    → ((state_after s cards).position.need == 0) ≡ wins bridge plan s
shows plan s [] follow goes over = wins_at_the_end plan s follow over
shows plan s (card ∷ cards) follow goes over =
    shows (plan_after plan card) (after s card) cards (follow_next plan s [] card follow (as_next plan s card goes.0)) goes.1 over
    ∙ win_same plan s card follow (going_on s card (followed_state plan s follow) goes.0.legal) goes.0

pub made_exactly_if_won : (plan : Plan ℕ) (s : State) (cards : List ℕ) → CanFollow plan s → PlaysOut plan s cards
    → ((state_after s cards).position.need == 0) ≡ wins bridge plan s
made_exactly_if_won plan s cards follow played = shows plan s cards follow played.each played.ended

each_follows : (plan : Plan ℕ) (s : State) (number : ℕ) (cards : List ℕ) → GoesOnSo plan s cards → GoesOn plan s (λ number. []) number cards
each_follows plan s number [] goes = tt
each_follows plan s number (card ∷ cards) goes = (as_next plan s card goes.0, each_follows (plan_after plan card) (after s card) (suc number) cards goes.1)

pub it_follows_the_plan : (plan : Plan ℕ) (s : State) (cards : List ℕ) → PlaysOut plan s cards → Follows plan s (λ number. []) cards
it_follows_the_plan plan s cards played = record { each = each_follows plan s 1 cards played.each; ended = played.ended }

-- ---- on the way

-- some cards, where they lead, and what is left of the plan there
pub record IsUnderWay (plan : Plan ℕ) (start : State) (cards : List ℕ) (rest : Plan ℕ) (s : State) : Type 0 where
  pub whole : (more : List ℕ) → PlaysOut rest s more → PlaysOut plan start (cards ++ more)
  pub follow : CanFollow rest s
  pub same : wins bridge rest s ≡ wins bridge plan start
  pub few : length cards + cards_left s.position ≤ 52

pub sets_out : (plan : Plan ℕ) (s : State) → CanFollow plan s → IsUnderWay plan s [] plan s
sets_out plan s follow = record {
  whole = λ more played. played;
  follow = follow;
  same = refl;
  few = omega (arith, cards_left-le_52 s.position (followed_state plan s follow).sound);
}

pub goes_on : (plan : Plan ℕ) (start : State) (cards : List ℕ) (rest : Plan ℕ) (s : State) (card : ℕ)
    → IsUnderWay plan start cards rest s → is_over s.position ≡ false → IsNextCard rest s card
    → IsUnderWay plan start (cards ++ card ∷ []) (plan_after rest card) (after s card)
goes_on plan start cards rest s card way live next =
    let state = followed_state rest s way.follow in
    let fewer = play.a_card_leaves_one_fewer s.position card state.sound (play.a_legal_card_can_be_played s card state next.legal) in
    record {
      whole = λ more played.
          subst (λ (all : List ℕ). PlaysOut plan start all) (sym (append_assoc cards (card ∷ []) more))
          (way.whole (card ∷ more) (record { each = (next, played.each); ended = played.ended }));
      follow = follow_next rest s [] card way.follow (as_next rest s card next);
      same = win_same rest s card way.follow live next ∙ way.same;
      few = omega (arith, way.few, length_push cards card, fewer);
    }

pub room : (plan : Plan ℕ) (start : State) (cards : List ℕ) (rest : Plan ℕ) (s : State) (card : ℕ)
    → IsUnderWay plan start cards rest s → has_card (legal_in s) card ≡ true → length cards < 52
room plan start cards rest s card way legal =
    let state = followed_state rest s way.follow in
    omega (arith, way.few, play.a_card_leaves_one_fewer s.position card state.sound (play.a_legal_card_can_be_played s card state legal))

pub ended : (plan : Plan ℕ) (start : State) (cards : List ℕ) (rest : Plan ℕ) (s : State) → IsUnderWay plan start cards rest s → is_over s.position ≡ true
    → PlaysOut plan start cards × ((s.position.need == 0) ≡ wins bridge plan start)
ended plan start cards rest s way over = (
  subst (λ (all : List ℕ). PlaysOut plan start all) (append-nil cards) (way.whole [] (record { each = tt; ended = over })),
  wins_at_the_end rest s way.follow over ∙ way.same,
)
