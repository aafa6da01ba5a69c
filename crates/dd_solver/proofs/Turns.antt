-- A turn of a trick, and the next one.
use Rattle.std.proofs.Common.{◌≡◌, ◌≢◌, ℕ, ◌<◌, Bool, true, false, ◌&&◌, ◌||◌, eqb, cond, None, [], ◌∷◌, length, refl, sym, subst, ◌∙◌, inl, inr, arith}
use Rattle.std.proofs.Math.Bool.{and-true, or-false}
use Rattle.std.proofs.lemmas.Bool.{cases_eq, eq-eqb, ne_eqb, or_right}
use Rattle.card_sets.specs.SetWords.{has_card, cards_where}
use Rattle.card_sets.proofs.Sets.{cards_where-agree}
use Rattle.trick_rules.specs.Positions.{PositionValue, to_play, tricks_left, IsSound}
use Rattle.trick_rules.specs.Play.{put_card, after_card, CanPlay, decided}
use Rattle.trick_rules.proofs.CardLists.{has_card-append, has_card-take_out}
use Rattle.trick_rules.proofs.Soundness.{after_short}
use Rattle.trick_rules.proofs.States.{tricks_left-after}
use Rattle.trick_rules.proofs.Decisions.{need-after}
use Rattle.double_dummy.specs.Equals.{in_play}
use Rattle.double_dummy.proofs.Mirror.{in_play-held, in_play-trick}

short : (t : PositionValue) → IsSound t → length t.trick.cards ≢ 3 → length t.trick.cards < 3
short t sound other = omega (arith, sound.trick_short, other)

-- ---- the cards in play

in_play-put : (t : PositionValue) (c d : ℕ) → CanPlay t c → in_play (put_card t c) d ≡ in_play t d
in_play-put t c d can =
    elim (cases_eq d c) as (λ _. in_play (put_card t c) d ≡ in_play t d) [
      | inl same ↦ in_play-trick (put_card t c) d (has_card-append t.trick.cards (c ∷ []) d
          ∙ or_right (has_card t.trick.cards d) (has_card (c ∷ []) d) (rw (eq-eqb c d (sym same)) refl))
          ∙ sym (in_play-held t (to_play t) d (subst (λ x. CanPlay t x) (sym same) can))
      | inr other ↦ rw (
        has_card-take_out c t.declarer d,
        has_card-take_out c t.dummy d,
        has_card-take_out c t.unseen d,
        has_card-append t.trick.cards (c ∷ []) d,
        ne_eqb d c other,
        ne_eqb c d (λ h. other (sym h)),
      ) (same (has_card t.declarer d) (has_card t.dummy d) (has_card t.unseen d) (has_card t.trick.cards d))
    ]
  where
    same : (a b e f : Bool) → (((a && true) || (b && true) || (e && true)) || (f || false)) ≡ ((a || b || e) || f)
    same a b e f = rw (and-true a, and-true b, and-true e, or-false f) refl

-- a card that doesn't end the trick leaves the same cards in play
pub playing-after : (t : PositionValue) (c : ℕ) → IsSound t → CanPlay t c → length t.trick.cards ≢ 3 → cards_where (in_play t) ≡ cards_where (in_play (after_card t c))
playing-after t c sound can other =
    rw (after_short t c (short t sound other)) (cards_where-agree (in_play t) (in_play (put_card t c)) (λ d low. sym (in_play-put t c d can)))

-- ---- the result

-- and the result stays open
pub open-after : (t : PositionValue) (c : ℕ) → IsSound t → CanPlay t c → length t.trick.cards ≢ 3 → decided t ≡ None → decided (after_card t c) ≡ None
open-after t c sound can other open' =
    let need = need-after t c sound in
    let tricks = tricks_left-after t c sound can in
    let none : ◌≡◌ {A = ℕ} (cond (eqb (length t.trick.cards) 3) 1 0) 0 = rw (ne_eqb (length t.trick.cards) 3 other) refl in
    by_numbers t (after_card t c) (omega (arith, need.0, need.1, none)) (omega (arith, tricks, none)) ∙ open'
  where
    by_numbers : (t u : PositionValue) → t.need ≡ u.need → tricks_left u ≡ tricks_left t → decided u ≡ decided t
    by_numbers t u e f = rw (e, f) refl
