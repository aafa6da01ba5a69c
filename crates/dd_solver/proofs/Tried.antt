-- What cards give the seat to play, one after another.
use Rattle.std.proofs.Common.{◌≡◌, ℕ, Bool, true, false, not, ◌&&◌, eqb, List, [], ◌∷◌, refl, sym, ap, subst, ◌∙◌, inl, inr}
use Rattle.std.proofs.lemmas.Bool.{false≢true, cases_Bool, cases_eq, eq-eqb, ne_eqb, and_parts}
use Rattle.card_sets.specs.SetWords.{has_card, IsSubset}
use Rattle.trick_rules.specs.Positions.{State, to_play, IsState}
use Rattle.trick_rules.specs.Play.{after, is_declarers, is_over, legal_in, take_out}
use Rattle.trick_rules.proofs.CardLists.{has_card-take_out}
use Rattle.equivalent_positions.specs.Alike.{IsClosedUp, IsLike, SettlesEnd, HasAnswer, GivesAnswer}
use Rattle.equivalent_positions.proofs.Answers.{one_card_answers, more_cards_answer, more_cards_give_the_answer, like_cards_give_the_answer}
use Rattle.equivalent_positions.proofs.Enough.{one_of_equals_answers}
use Rattle.dd_solver.specs.declared.answer.Answer.{Answer}
use Rattle.dd_solver.specs.Answers.{IsAnswer, IsGiven}
use Rattle.dd_solver.specs.Closed.{IsClosedDown, AreSpokenFor}
use Rattle.dd_solver.proofs.EqualsDown.{enough}

-- of the cards, those that are not among the rest give the answer that isn't wanted
pub record AreTried (s : State) (cards rest : List ℕ) (wanted : Bool) (counting : List ℕ) : Type 0 where
  pub part : IsSubset rest cards
  pub closed : IsClosedUp counting
  pub each : (card : ℕ) → has_card cards card ≡ true → has_card rest card ≡ false → GivesAnswer counting s card (not wanted)

pub tried-none : (s : State) (cards counting : List ℕ) (wanted : Bool) → counting ≡ [] → AreTried s cards cards wanted counting
tried-none s cards counting wanted e = record {
  part = λ c h. h;
  closed = λ card higher h suit more low. absurd (false≢true (sym (ap (λ l. has_card l card) e) ∙ h));
  each = λ card h out. absurd (false≢true (sym out ∙ h));
}

-- what a card gives
pub given_by : (s : State) (card : ℕ) (made : Bool) (below part : List ℕ) → has_card (legal_in s) card ≡ true → IsClosedUp part → IsSubset below part → SettlesEnd part s card
    → HasAnswer below (after s card) made → GivesAnswer part s card made
given_by s card made below part legal closed within settles answer = record {
  part = part;
  within = λ c h. h;
  closed = closed;
  tried = card;
  legal = legal;
  like = inl refl;
  settles = settles;
  answer = more_cards_answer below part (after s card) made within answer;
}

-- a card fails, and with it those that are like it
pub tried-more : (s : State) (cards rest others new counting more part : List ℕ) (wanted : Bool) (card : ℕ) → AreTried s cards rest wanted counting → others ≡ take_out card rest
    → IsSubset new others → ((c : ℕ) → has_card others c ≡ true → has_card new c ≡ false → IsLike part card c)
    → IsClosedUp more → IsSubset counting more → IsSubset part more → GivesAnswer part s card (not wanted) → AreTried s cards new wanted more
tried-more s cards rest others new counting more part wanted card r e within like closed old added g = record {
  part = λ c h. r.part c ((and_parts (has_card rest c) (not (eqb c card)) (sym (is_other c) ∙ within c h)).0);
  closed = closed;
  each = λ c h out. elim (cases_Bool (has_card rest c)) as (λ _. GivesAnswer more s c (not wanted)) [
    | inl was ↦ more_cards_give_the_answer part more s c (not wanted) added (like_cards_give_the_answer part s card c (not wanted) (is_like c was out) g)
    | inr before ↦ more_cards_give_the_answer counting more s c (not wanted) old (r.each c h before)
  ];
}
  where
    is_other : (c : ℕ) → has_card others c ≡ (has_card rest c && not (eqb c card))
    is_other c = ap (λ l. has_card l c) e ∙ has_card-take_out card rest c

    is_like : (c : ℕ) → has_card rest c ≡ true → has_card new c ≡ false → IsLike part card c
    is_like c was out = elim (cases_eq c card) as (λ _. IsLike part card c) [
      | inl same ↦ inl (sym same)
      | inr other ↦ like c (is_other c ∙ rw (was, ne_eqb c card other) refl) out
    ]

-- one of the cards gives what is wanted
pub given-one : (s : State) (cards : List ℕ) (wanted : Bool) (card : ℕ) (answer : Answer) → IsState s → has_card (legal_in s) card ≡ true → is_declarers (to_play s.position) ≡ wanted
    → answer.made ≡ wanted → IsClosedUp answer.counting → GivesAnswer answer.counting s card wanted → IsGiven s cards wanted answer
given-one s cards wanted card answer ok legal turn made closed g = record {
  closed = closed;
  one = λ _. one_card_answers answer.counting s card wanted ok legal turn g;
  each = λ other. absurd (neither wanted (sym made ∙ other));
}
  where
    neither : (b : Bool) → b ≡ not b → ⊥
    neither true h = false≢true (sym h)
    neither false h = false≢true h

pub only_held : (cards : List ℕ) (card : ℕ) → cards ≡ card ∷ [] → has_card cards card ≡ true
only_held cards card e = ap (λ l. has_card l card) e ∙ rw (eq-eqb card card refl) refl

-- or the only one gives either
pub given-only : (s : State) (cards : List ℕ) (wanted : Bool) (card : ℕ) (answer : Answer) → IsState s → cards ≡ card ∷ [] → has_card (legal_in s) card ≡ true
    → is_declarers (to_play s.position) ≡ wanted → IsClosedUp answer.counting → GivesAnswer answer.counting s card answer.made → IsGiven s cards wanted answer
given-only s cards wanted card answer ok e legal turn closed g = record {
  closed = closed;
  one = λ same. one_card_answers answer.counting s card wanted ok legal turn (subst (λ b. GivesAnswer answer.counting s card b) same g);
  each = λ other c among. subst (λ d. GivesAnswer answer.counting s d (not wanted)) (is_it c among) (subst (λ b. GivesAnswer answer.counting s card b) other g);
}
  where
    is_it : (c : ℕ) → has_card cards c ≡ true → card ≡ c
    is_it c among = elim (cases_eq card c) as (λ _. card ≡ c) [
      | inl same ↦ same
      | inr other ↦ absurd (false≢true (sym (ap (λ l. has_card l c) e ∙ rw (ne_eqb card c other) refl) ∙ among))
    ]

-- or none does
pub given-none : (s : State) (cards rest : List ℕ) (wanted : Bool) (answer : Answer) → answer.made ≡ not wanted → rest ≡ [] → AreTried s cards rest wanted answer.counting → IsGiven s cards wanted answer
given-none s cards rest wanted answer made e r = record {
  closed = r.closed;
  one = λ same. absurd (neither wanted (sym same ∙ made));
  each = λ _ card h. r.each card h (ap (λ l. has_card l card) e);
}
  where
    neither : (b : Bool) → b ≡ not b → ⊥
    neither true h = false≢true (sym h)
    neither false h = false≢true h

-- ---- the whole answer

pub answer-one : (s : State) (cards : List ℕ) (wanted : Bool) (answer : Answer) → IsGiven s cards wanted answer → answer.made ≡ wanted → IsAnswer s answer
answer-one s cards wanted answer g same = record {
  closed = g.closed;
  answers = subst (λ b. HasAnswer answer.counting s b) (sym same) (g.one same);
}

pub answer-each : (s : State) (cards counting : List ℕ) (wanted : Bool) (given answer : Answer) → IsState s → is_over s.position ≡ false → IsGiven s cards wanted given → given.made ≡ not wanted
    → AreSpokenFor s cards → answer.made ≡ not wanted → counting ≡ answer.counting → IsClosedUp counting → IsSubset given.counting counting → IsClosedDown s counting → IsAnswer s answer
answer-each s cards counting wanted given answer ok on g failed spoken made e closed within down = record {
  closed = subst IsClosedUp e closed;
  answers = subst (λ b. HasAnswer answer.counting s b) (sym made) (subst (λ l. HasAnswer l s (not wanted)) e
      (one_of_equals_answers counting s (not wanted) cards closed ok on (enough counting s cards spoken down)
      (λ card among legal. more_cards_give_the_answer given.counting counting s card (not wanted) within (g.each failed card among))));
}
