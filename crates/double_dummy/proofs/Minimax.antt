-- Minimax, one card after another.
use Rattle.std.proofs.Common.{◌≡◌, ℕ, Bool, true, false, not, eqb, List, ◌∷◌, refl, sym}
use Rattle.std.proofs.lemmas.Bool.{eq-eqb, false≢true}
use Rattle.std.proofs.Math.Bool.{beq}
use Rattle.card_sets.specs.SetWords.{has_card, IsSubset}
use Rattle.double_dummy.specs.Choices.{choice_makes}
use Rattle.trick_rules.proofs.CardLists.{or_true}
use Rattle.trick_rules.specs.Positions.{State, to_play, IsState}
use Rattle.trick_rules.specs.Play.{is_over, is_declarers, legal_in, makes}
use Rattle.trick_rules.proofs.PlayLaws.{makes_by_some_card, makes_against_each_card}

pub choice-legal : (s : State) (ours : Bool) → IsState s → is_over s.position ≡ false → is_declarers (to_play s.position) ≡ ours → makes s ≡ choice_makes ours s (legal_in s)
choice-legal s true ok left turn = makes_by_some_card s ok left turn
choice-legal s false ok left turn = makes_against_each_card s ok left turn

pub first_legal : (cards rest whole : List ℕ) (card : ℕ) → cards ≡ card ∷ rest → IsSubset cards whole → has_card whole card ≡ true
first_legal cards rest whole card e part = part card (rw (e, eq-eqb card card refl) refl)

pub rest_legal : (cards rest whole : List ℕ) (card : ℕ) → cards ≡ card ∷ rest → IsSubset cards whole → IsSubset rest whole
rest_legal cards rest whole card e part c h = part c (rw (e, h) (or_true (eqb card c)))

-- ---- two answers compared

pub same_answer : (a b : Bool) → beq a b ≡ true → a ≡ b
same_answer true true h = refl
same_answer true false h = absurd (false≢true h)
same_answer false true h = absurd (false≢true h)
same_answer false false h = refl

pub other_answer : (a b : Bool) → beq a b ≡ false → a ≡ not b
other_answer true true h = absurd (false≢true (sym h))
other_answer true false h = refl
other_answer false true h = refl
other_answer false false h = absurd (false≢true (sym h))
