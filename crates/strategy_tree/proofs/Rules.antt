-- Bridge keeps what the theory of strategies asks of a game, by the laws of play.
use Rattle.std.proofs.Common.{◌≡◌, ℕ, Bool, true, false, Option, Some, None, is_some, List, [], map, Contains, refl, sym, ap, ◌∙◌, ⊎_elim, ◌∷◌, subst, arith}
use Rattle.std.proofs.lemmas.Bool.{false≢true}
use Rattle.std.proofs.lemmas.List.Elements.{All-contains}
use Rattle.card_sets.specs.SetWords.{has_card}
use Rattle.trick_rules.specs.Positions.{PositionValue, State, IsState}
use Rattle.trick_rules.specs.Play.{legal_in, after, is_over, decided, after_card, makes}
use Rattle.trick_rules.specs.Nodes.{NodeValue, IsNode, states, choices}
use Rattle.trick_rules.proofs.PlayLaws as play
use Rattle.strategy_games.proofs.Lists.{Contains-nil, Contains-cons}
use Rattle.strategy_games.specs.Games.{IsLawful, IsDoubleDummy, IsSettled}
use Rattle.strategy_tree.specs.Bridge.{bridge}
use Rattle.strategy_tree.proofs.CardLists.{has_card-from_Contains, Contains-from_has_card, any_from, all_from}

-- each state of a node
state_of : (n : NodeValue) (s : State) → IsNode n → Contains (states n) s → IsState s
state_of n s sound among = All-contains (λ s. IsState s) (states n) s (play.a_layout_gives_a_state n sound) among

pub table_of : (n : NodeValue) (s : State) → Contains (states n) s → s.position ≡ n.position
table_of n s among = go n.lefts among
  where
    go : (lefts : List (List ℕ)) → Contains (map (λ left. record { position = n.position; left = left }) lefts) s → s.position ≡ n.position
    go [] h = absurd (Contains-nil s h)
    go (left ∷ lefts) h = ⊎_elim
        (λ (e : record { position = n.position; left = left } ≡ s). ap (λ (x : State). x.position) (sym e))
        (λ (k : Contains (map (λ left. record { position = n.position; left = left }) lefts) s). go lefts k)
        (Contains-cons (record { position = n.position; left = left }) (map (λ left. record { position = n.position; left = left }) lefts) s h)

-- ---- decided results

result_of : (t : PositionValue) → is_some (decided t) ≡ true → (made : Bool) × (decided t ≡ Some made)
result_of t h = go (decided t) h
  where
    go : (o : Option Bool) → is_some o ≡ true → (made : Bool) × (o ≡ Some made)
    go None h = absurd (false≢true h)
    go (Some made) h = (made, refl)

pub no_result : (t : PositionValue) → is_some (decided t) ≡ false → decided t ≡ None
no_result t h = go (decided t) h
  where
    go : (o : Option Bool) → is_some o ≡ false → o ≡ None
    go None h = refl
    go (Some made) h = absurd (false≢true (sym h))

-- where the result isn't decided, play isn't over
pub going_on : (t : PositionValue) → is_some (decided t) ≡ false → is_over t ≡ false
going_on t live = go (is_over t) refl
  where
    go : (b : Bool) → is_over t ≡ b → b ≡ false
    go false is = refl
    go true is = absurd (false≢true (sym live ∙ ap is_some (play.what_is_over_is_decided t is)))

-- ---- what the theory asks

pub lawful : IsLawful bridge IsNode
lawful = record {
  holds = λ n card sound among. play.a_choice_leads_to_a_node n card sound (has_card-from_Contains (choices n) card among);
  keeps = λ n card sound among. play.a_child_keeps_the_states n card;
  seen = λ n card sound ours among. play.our_choices_are_legal_everywhere n card ours (has_card-from_Contains (choices n) card among);
  ended = λ n sound live. going_on n.position live;
  some_card = λ n sound going none. let c = play.there_is_a_choice n sound going in false≢true (subst (λ cards. has_card cards c.0 ≡ true) none c.1);
  falls = λ n card sound live among. omega (arith, play.a_card_leaves_one_fewer n.position card sound.sound (play.a_choice_can_be_played n card sound (has_card-from_Contains (choices n) card among)));
}

pub double_dummy : IsDoubleDummy bridge IsNode
double_dummy = record {
  ours = λ n s card sound among live ours choice makes_after.
      let at = table_of n s among in
      let legal = All-contains (λ s. has_card (legal_in s) card ≡ true) (states n) s (lawful.seen n card sound ours choice) among in
      play.makes_by_some_card s (state_of n s sound among) (rw at (going_on n.position live)) (rw at ours)
      ∙ any_from (λ c. makes (after s c)) (legal_in s) card (Contains-from_has_card (legal_in s) card legal) makes_after;
  theirs = λ n s sound among live theirs each.
      let at = table_of n s among in
      play.makes_against_each_card s (state_of n s sound among) (rw at (going_on n.position live)) (rw at theirs)
      ∙ all_from (λ c. makes (after s c)) (legal_in s) (λ c h.
      let legal = has_card-from_Contains (legal_in s) c h in
      each c (Contains-from_has_card (choices n) c (play.what_is_legal_is_a_choice n c s sound among legal)) legal);
}

pub settled : IsSettled bridge IsNode
settled = record {
  same = λ n s sound over among.
      let result = result_of n.position over in
      play.makes_where_decided s result.0 (state_of n s sound among) (rw (table_of n s among) result.1) ∙ play.what_is_decided_is_the_need n.position result.0 result.1;
  stays = λ n card sound over among.
      let result = result_of n.position over in
      let after = play.what_is_decided_stays n.position card result.0 sound.sound (play.a_choice_can_be_played n card sound (has_card-from_Contains (choices n) card among)) result.1 in
      (ap is_some after, sym (play.what_is_decided_is_the_need (after_card n.position card) result.0 after) ∙ play.what_is_decided_is_the_need n.position result.0 result.1);
  some_legal = λ n s sound going among.
      let c = play.there_is_a_choice_everywhere n s sound going among in (c.0, Contains-from_has_card (choices n) c.0 c.1, c.2);
}
