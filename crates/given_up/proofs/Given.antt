-- The card that gives a layout up.
use Rattle.std.proofs.Common.{◌≡◌, ◌∙◌, ℕ, zero, suc, ◌+◌, ◌<◌, Bool, true, false, not, Option, Some, None, List, [], ◌∷◌, length, take, refl, ap, sym, subst, inl, inr, true≢false, arith}
use Rattle.std.specs.Prelude.{IsSome}
use Rattle.std.proofs.lemmas.Bool.{cases_Bool}
use Rattle.std.proofs.lemmas.List.{take_all}
use Rattle.card_sets.specs.SetWords.{has_card}
use Rattle.trick_rules.specs.Positions.{State, IsState, to_play}
use Rattle.trick_rules.specs.Play.{legal_in, after, makes, is_over, is_declarers, Makes}
use Rattle.trick_rules.proofs.PlayLaws as play
use Rattle.strategy_games.specs.Plans.{Plan}
use Rattle.am_match.specs.PlayOuts.{plan_after, state_after}
use Rattle.am_match.proofs.WonLines.{going_on}
use Rattle.line_plays.specs.Defended.{GoesOnSo}
use Rattle.line_plays.proofs.Shown.{made_exactly_if_won}
use Rattle.given_up.specs.GivenUp.{AreLegal, makes_after, giving_place}
use Rattle.given_up.specs.GivingLaws.{ALostLayoutIsGivenUp, DeclarersSideGivesUp}
use Rattle.given_up.proofs.FirstPlace.{found_first, none_passes}

-- the cards of a play-out are legal
pub played_legal : (plan : Plan ℕ) (s : State) (cards : List ℕ) → GoesOnSo plan s cards → AreLegal s cards
played_legal plan s [] goes = tt
played_legal plan s (card ∷ cards) goes = (goes.0.legal, played_legal (plan_after plan card) (after s card) cards goes.1)

is_false : (b : Bool) → not b ≡ true → b ≡ false
is_false true e = absurd (true≢false (sym e))
is_false false e = refl

is_true : (b : Bool) → not b ≡ false → b ≡ true
is_true true e = refl
is_true false e = absurd (true≢false e)

-- ---- before the card

-- a place of legal cards: the state there, its card, and the state after it
record IsPlaceOf (s : State) (cards : List ℕ) (place : ℕ) : Type 0 where
  pub card : ℕ
  pub state : IsState (state_after s (take place cards))
  pub legal : has_card (legal_in (state_after s (take place cards))) card ≡ true
  pub next : state_after s (take (suc place) cards) ≡ after (state_after s (take place cards)) card

place_of : (s : State) (cards : List ℕ) (place : ℕ) → IsState s → AreLegal s cards → place < length cards → IsPlaceOf s cards place
place_of s [] place state legal low = absurd (omega arith)
place_of s (c ∷ cards) zero state legal low = record { card = c; state = state; legal = legal.0; next = refl }
place_of s (c ∷ cards) (suc k) state legal low =
    let later = place_of (after s c) cards k (play.a_legal_card_leads_to_a_state s c state legal.0) legal.1 (omega arith) in
    record { card = later.card; state = later.state; legal = later.legal; next = later.next }

-- against the defenders double dummy makes after each legal card
against_each : (s : State) (card : ℕ) → is_over s.position ≡ false → is_declarers (to_play s.position) ≡ false → Makes s → has_card (legal_in s) card ≡ true → Makes (after s card)
against_each s card going theirs (Makes.ended over none) legal = absurd (true≢false (sym over ∙ going))
against_each s card going theirs (Makes.some_card left ours c h more) legal = absurd (true≢false (sym ours ∙ theirs))
against_each s card going theirs (Makes.each_card left not_ours each) legal = each card legal

-- if a legal card gives up, declarer's side plays it
ours_from : (s : State) (card : ℕ) → IsState s → has_card (legal_in s) card ≡ true → makes s ≡ true → makes (after s card) ≡ false → is_declarers (to_play s.position) ≡ true
ours_from s card state legal made failed =
    elim (cases_Bool (is_declarers (to_play s.position))) as (λ _. is_declarers (to_play s.position) ≡ true) [
      | inl ours ↦ ours
      | inr theirs ↦
          (let kept = (play.makes_by_the_rules (after s card) (play.a_legal_card_leads_to_a_state s card state legal)).1
          (against_each s card (going_on s card state legal) theirs ((play.makes_by_the_rules s state).0 made) legal) in
          absurd (true≢false (sym kept ∙ failed)))
    ]

made_before : (s : State) (cards : List ℕ) (place : ℕ) → makes s ≡ true → ((k : ℕ) → k < place → makes_after s cards (k + 1) ≡ true) → makes_after s cards place ≡ true
made_before s cards zero made so_far = made
made_before s cards (suc k) made so_far =
    let next : k + 1 ≡ suc k = omega arith in
    subst (λ m. makes_after s cards m ≡ true) next (so_far k (omega arith))

pub declarers_side_gives_up : DeclarersSideGivesUp
unfolding giving_place
declarers_side_gives_up s cards place state legal made is =
    let first = found_first (λ m. not (makes_after s cards (m + 1))) 0 (length cards) place is in
    let within : place < length cards = omega (arith, first.within) in
    let at = place_of s cards place state legal within in
    let next : place + 1 ≡ suc place = omega arith in
    let before = made_before s cards place made (λ k less. is_true (makes_after s cards (k + 1)) (first.first k (omega arith) less)) in
    let failed = is_false (makes_after s cards (place + 1)) first.passes in
    record {
      before = before;
      after = failed;
      ours = ours_from (state_after s (take place cards)) at.card at.state at.legal before
          (ap makes (sym at.next) ∙ ap (makes_after s cards) (sym next) ∙ failed);
    }

-- ---- there is one

some_from : (o : Option ℕ) → (o ≡ None → ⊥) → IsSome o
some_from None no_way = absurd (no_way refl)
some_from (Some x) no_way = refl

-- if double dummy makes at first and not at the end, it stops making at some card
stops_making : (s : State) (cards : List ℕ) → makes s ≡ true → makes (state_after s cards) ≡ false → giving_place s cards ≡ None → ⊥
unfolding giving_place
stops_making s [] made failed is = true≢false (sym made ∙ failed)
stops_making s (c ∷ cards) made failed is =
    let all = c ∷ cards in
    let last : length cards + 1 ≡ length all = omega arith in
    let kept = is_true (makes_after s all (length cards + 1)) (none_passes (λ m. not (makes_after s all (m + 1))) 0 (length all) is (length cards) (omega arith) (omega arith)) in
    let end : makes_after s all (length cards + 1) ≡ false = ap (makes_after s all) last ∙ ap (λ cs. makes (state_after s cs)) (take_all (length all) all (omega arith)) ∙ failed in
    true≢false (sym kept ∙ end)

pub a_lost_layout_is_given_up : ALostLayoutIsGivenUp
a_lost_layout_is_given_up plan s cards follow played made lost =
    let failed = play.makes_at_the_end (state_after s cards) played.ended ∙ made_exactly_if_won plan s cards follow played ∙ lost in
    some_from (giving_place s cards) (stops_making s cards made failed)
