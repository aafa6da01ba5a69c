-- A play-out as far as it has come.
use Rattle.std.proofs.Common.{◌≡◌, ◌∙◌, ℕ, ◌+◌, ◌<◌, ◌≤◌, true, false, not, Some, None, List, [], ◌∷◌, ◌++◌, length, take, drop, slice_get, refl, ap, sym, subst, inl, inr, arith}
use Rattle.std.proofs.lemmas.Bool.{cases_lt}
use Rattle.std.proofs.lemmas.List.{take_more, drop_more}
use Rattle.std.proofs.lemmas.Option.{get_or_from_slice_get}
use Rattle.card_sets.specs.SetWords.{has_card}
use Rattle.trick_rules.specs.Positions.{State, IsState}
use Rattle.trick_rules.specs.Play.{legal_in, after, makes}
use Rattle.trick_rules.proofs.PlayLaws as play
use Rattle.am_match.specs.PlayOuts.{state_after}
use Rattle.am_match.proofs.Lines.{state_after-push}
use Rattle.given_up.specs.GivenUp.{AreLegal, makes_after, giving_place}
use Rattle.given_up.proofs.FirstPlace.{first_at, none_first}

-- the cards so far lead here, the others are legal, and double dummy makes after each of those so far
pub record IsUnderWay (start : State) (cards : List ℕ) (place : ℕ) (s : State) : Type 0 where
  pub here : s ≡ state_after start (take place cards)
  pub state : IsState s
  pub legal : AreLegal s (drop place cards)
  pub so_far : (k : ℕ) → k < place → makes_after start cards (k + 1) ≡ true

pub sets_out : (s : State) (cards : List ℕ) → IsState s → AreLegal s cards → IsUnderWay s cards 0 s
sets_out s cards state legal = record { here = refl; state = state; legal = legal; so_far = λ k low. absurd (omega arith) }

module _ (start : State) (cards : List ℕ) (place : ℕ) (s : State) (card : ℕ) (way : IsUnderWay start cards place s) (low : place < length cards) (at : slice_get cards place ≡ Some card) where
  -- the next card is legal, and so are those after it
  next_legal : (has_card (legal_in s) card ≡ true) × AreLegal (after s card) (drop (place + 1) cards)
  next_legal =
      subst (λ (cs : List ℕ). AreLegal s cs) (drop_more cards place card low ∙ ap (λ (c : ℕ). c ∷ drop (place + 1) cards) (get_or_from_slice_get cards place card card at)) way.legal

  pub card_legal : has_card (legal_in s) card ≡ true
  card_legal = next_legal.0

  pub next_state : IsState (after s card)
  next_state = play.a_legal_card_leads_to_a_state s card way.state card_legal

  -- where the next card leads
  leads : after s card ≡ state_after start (take (place + 1) cards)
  leads =
      ap (λ (t : State). after t card) way.here ∙ sym (state_after-push start (take place cards) card)
      ∙ ap (state_after start) (ap (λ (c : ℕ). take place cards ++ c ∷ []) (sym (get_or_from_slice_get cards place card card at)) ∙ sym (take_more cards place card low))

  pub goes_on : makes (after s card) ≡ true → IsUnderWay start cards (place + 1) (after s card)
  goes_on made = record {
    here = leads;
    state = next_state;
    legal = next_legal.1;
    so_far = λ k less.
        elim (cases_lt k place) as (λ _. makes_after start cards (k + 1) ≡ true) [
          | inl earlier ↦ way.so_far k earlier
          | inr now ↦ (let same : k ≡ place = omega arith in subst (λ m. makes_after start cards (m + 1) ≡ true) (sym same) (sym (ap makes leads) ∙ made))
        ];
  }

  pub gives_up : makes (after s card) ≡ false → Some place ≡ giving_place start cards
  unfolding giving_place
  gives_up failed =
      let from_zero : (m : ℕ) → 0 + m ≡ m = λ m. omega arith in
      let fails : (j : ℕ) → j < place → not (makes_after start cards (0 + j + 1)) ≡ false = λ j less. ap not (ap (λ m. makes_after start cards (m + 1)) (from_zero j) ∙ way.so_far j less) in
      let passes : not (makes_after start cards (0 + place + 1)) ≡ true = ap not (ap (λ m. makes_after start cards (m + 1)) (from_zero place) ∙ sym (ap makes leads) ∙ failed) in
      sym (first_at (λ m. not (makes_after start cards (m + 1))) 0 (length cards) place low fails passes ∙ ap (λ (m : ℕ). Some m) (from_zero place))

pub never : (start : State) (cards : List ℕ) (place : ℕ) (s : State) → IsUnderWay start cards place s → length cards ≤ place → None ≡ giving_place start cards
unfolding giving_place
never start cards place s way all =
    let from_zero : (m : ℕ) → 0 + m ≡ m = λ m. omega arith in
    sym (none_first (λ m. not (makes_after start cards (m + 1))) 0 (length cards)
    (λ k less. ap not (ap (λ m. makes_after start cards (m + 1)) (from_zero k) ∙ way.so_far k (omega arith))))
