-- A play-out that is under way.
use Rattle.std.proofs.Common.{◌≡◌, ◌≤◌, ◌<◌, ◌==◌, ◌+◌, ℕ, suc, true, false, IfSome, List, [], ◌∷◌, ◌++◌, length, Option, Some, slice_get, option_map, refl, sym, ap, ap₂, ◌∙◌, subst, arith}
use Rattle.std.proofs.lemmas.List.{length_push}
use Rattle.std.proofs.lemmas.Option.{slice_get-map}
use Rattle.card_sets.specs.SetWords.{has_card}
use Rattle.trick_rules.specs.Positions.{PositionValue, State}
use Rattle.trick_rules.specs.Play.{legal_in, after, is_over, cards_left}
use Rattle.trick_rules.specs.Nodes.{NodeValue, IsNode, states}
use Rattle.trick_rules.proofs.PlayLaws as play
use Rattle.strategy_games.specs.Plans.{Plan, Fits, wins}
use Rattle.strategy_tree.specs.Bridge.{bridge}
use Rattle.strategy_check.specs.Following.{CanFollow}
use Rattle.strategy_check.proofs.Compared.{follow_from}
use Rattle.strategy_check.proofs.Followed.{followed_state}
use Rattle.am_match.specs.Defences.{Sitter, Change, IsChange, table_at, tell_table, table_for_next, left_waiting}
use Rattle.am_match.specs.PlayOuts.{plan_after, IsNext, state_after, GoesOn, Follows}
use Rattle.am_match.proofs.Sitting.{IsSeated, seated_at_first, seated_for_next, seated_after}
use Rattle.am_match.proofs.OneCard.{follow_next, win_next, made_at_the_end, next_untold}
use Rattle.am_match.proofs.Lines.{plan_left, plan_left-push, state_after-push, GoesOn-push}
use Rattle.strategy_tree.proofs.PackSize.{cards_left-le_52}

-- ---- on the way

-- some cards of a play-out from a state, where it has come to, what is left of the plan, and who sits
pub record IsUnderWay (plan : Plan ℕ) (start : State) (first : List Sitter) (change : Option Change)
    (cards : List ℕ) (rest : Plan ℕ) (s : State) (table : List Sitter) (waiting : Option Change) : Type 0 where
  pub goes : GoesOn plan start (λ number. table_at first change number) 1 cards
  pub rest_is : plan_left plan cards ≡ rest
  pub state_is : state_after start cards ≡ s
  pub follow : CanFollow rest s
  pub won : wins bridge plan start ≡ true → wins bridge rest s ≡ true
  pub few : length cards + cards_left s.position ≤ 52
  pub seated : IsSeated first change cards table waiting

begins : (plan : Plan ℕ) (start : State) (first : List Sitter) (change : Option Change) → CanFollow plan start → IfSome change IsChange
    → IsUnderWay plan start first change [] plan start first change
begins plan start first change follow valid = record {
  goes = tt;
  rest_is = refl;
  state_is = refl;
  follow = follow;
  won = λ won. won;
  few = omega (arith, cards_left-le_52 start.position (followed_state plan start follow).sound);
  seated = seated_at_first first change valid;
}

-- the next card as the table's defenders play it
pub one_more : (plan : Plan ℕ) (start : State) (first : List Sitter) (change : Option Change)
    (cards : List ℕ) (rest : Plan ℕ) (s : State) (table : List Sitter) (waiting : Option Change) (card : ℕ)
    → IsUnderWay plan start first change cards rest s table waiting → is_over s.position ≡ false
    → IsNext rest s (table_for_next waiting cards table) card
    → IsUnderWay plan start first change (cards ++ card ∷ []) (plan_after rest card) (after s card)
    (tell_table (card ∷ []) (table_for_next waiting cards table)) (left_waiting waiting (length cards))
one_more plan start first change cards rest s table waiting card way live next =
    let seated = seated_for_next first table change cards waiting way.seated in
    let own : IsNext rest s (table_at first change (suc (length cards))) card =
    next_untold rest s cards (table_at first change (suc (length cards))) card (subst (λ (t : List Sitter). IsNext rest s t card) seated.table_is next) in
    let state = followed_state rest s way.follow in
    record {
      goes = GoesOn-push plan start (λ number. table_at first change number) 1 cards card way.goes (placed own);
      rest_is = plan_left-push plan cards card ∙ ap (λ p. plan_after p card) way.rest_is;
      state_is = state_after-push start cards card ∙ ap (λ t. after t card) way.state_is;
      follow = follow_next rest s (table_at first change (suc (length cards))) card way.follow own;
      won = λ won. win_next rest s (table_at first change (suc (length cards))) card way.follow live own (way.won won);
      few = fewer (play.a_card_leaves_one_fewer s.position card state.sound (play.a_legal_card_can_be_played s card state next.legal));
      seated = seated_after first (table_for_next waiting cards table) change cards card (left_waiting waiting (length cards)) seated;
    }
  where
    number : suc (length cards) ≡ 1 + length cards
    number = omega arith

    placed : IsNext rest s (table_at first change (suc (length cards))) card
        → IsNext (plan_left plan cards) (state_after start cards) (table_at first change (1 + length cards)) card
    placed own = subst (λ (k : ℕ). IsNext (plan_left plan cards) (state_after start cards) (table_at first change k) card) number
        (subst (λ (t : State). IsNext (plan_left plan cards) t (table_at first change (suc (length cards))) card) (sym way.state_is)
        (subst (λ (p : Plan ℕ). IsNext p s (table_at first change (suc (length cards))) card) (sym way.rest_is) own))

    fewer : cards_left (after s card).position + 1 ≡ cards_left s.position → length (cards ++ card ∷ []) + cards_left (after s card).position ≤ 52
    fewer is = omega (arith, way.few, length_push cards card)

-- at the end
pub followed : (plan : Plan ℕ) (start begin : State) (first : List Sitter) (change : Option Change)
    (cards : List ℕ) (rest : Plan ℕ) (s : State) (table : List Sitter) (waiting : Option Change)
    → IsUnderWay plan start first change cards rest s table waiting → is_over s.position ≡ true → start ≡ begin
    → Follows plan begin (λ number. table_at first change number) cards
followed plan start begin first change cards rest s table waiting way over is =
    let all : Follows plan start (λ number. table_at first change number) cards = record {
      each = way.goes;
      ended = ap (λ (t : State). is_over t.position) way.state_is ∙ over;
    } in
    subst (λ (t : State). Follows plan t (λ number. table_at first change number) cards) is all

pub made_as_won : (plan : Plan ℕ) (start : State) (first : List Sitter) (change : Option Change)
    (cards : List ℕ) (rest : Plan ℕ) (s : State) (table : List Sitter) (waiting : Option Change)
    → IsUnderWay plan start first change cards rest s table waiting → is_over s.position ≡ true
    → wins bridge plan start ≡ true → (s.position.need == 0) ≡ true
made_as_won plan start first change cards rest s table waiting way over won = made_at_the_end rest s way.follow over (way.won won)

-- the state of a layout
pub state_at_place : (n : NodeValue) (place : ℕ) (left : List ℕ) (s : State) → slice_get n.lefts place ≡ Some left → slice_get (states n) place ≡ Some s
    → record { position = n.position; left = left } ≡ s
state_at_place n place left s is_left is_s =
    let here : State = record { position = n.position; left = left } in
    let both : Some here ≡ Some s = ap (λ o. option_map (λ l. record { position = n.position; left = l }) o) (sym is_left)
    ∙ sym (slice_get-map (λ l. record { position = n.position; left = l }) n.lefts place) ∙ is_s in
    cc

-- while play goes on there is room for a card
pub room : (plan : Plan ℕ) (start : State) (first : List Sitter) (change : Option Change)
    (cards : List ℕ) (rest : Plan ℕ) (s : State) (table : List Sitter) (waiting : Option Change) (card : ℕ)
    → IsUnderWay plan start first change cards rest s table waiting → has_card (legal_in s) card ≡ true → length cards < 52
room plan start first change cards rest s table waiting card way legal =
    let state = followed_state rest s way.follow in
    omega (arith, way.few, play.a_card_leaves_one_fewer s.position card state.sound (play.a_legal_card_can_be_played s card state legal))

-- ---- step by step as it is played

pub sets_out : (plan : Plan ℕ) (n : NodeValue) (moves place : ℕ) (left : List ℕ) (position : PositionValue) (first : List Sitter) (change : Option Change) (cards : List ℕ)
    → IsNode n → Fits bridge plan n moves → slice_get n.lefts place ≡ Some left → position ≡ n.position → cards ≡ [] → IfSome change IsChange
    → IsUnderWay plan (record { position = position; left = left }) first change cards plan (record { position = position; left = left }) first change
sets_out plan n moves place left position first change cards sound fits is_left is_position is_none valid =
    let start : State = record { position = position; left = left } in
    subst (λ (cs : List ℕ). IsUnderWay plan start first change cs plan start first change) (sym is_none)
    (begins plan start first change
    (subst (λ (t : PositionValue). CanFollow plan (record { position = t; left = left })) (sym is_position) (follow_from plan n moves place left sound fits is_left))
    valid)

pub goes_on : (plan : Plan ℕ) (start : State) (first : List Sitter) (change : Option Change)
    (cards cards1 : List ℕ) (rest rest1 : Plan ℕ) (s : State) (position1 : PositionValue) (left1 : List ℕ)
    (table table1 table2 table3 : List Sitter) (waiting waiting1 : Option Change) (card : ℕ)
    → IsUnderWay plan start first change cards rest s table waiting → is_over s.position ≡ false
    → table1 ≡ table_for_next waiting cards table → waiting1 ≡ left_waiting waiting (length cards)
    → IsNext rest s table1 card → table2 ≡ table1
    → rest1 ≡ plan_after rest card → position1 ≡ (after s card).position → left1 ≡ (after s card).left
    → cards1 ≡ cards ++ card ∷ [] → table3 ≡ tell_table (card ∷ []) table2
    → IsUnderWay plan start first change cards1 rest1 (record { position = position1; left = left1 }) table3 waiting1
goes_on plan start first change cards cards1 rest rest1 s position1 left1 table table1 table2 table3 waiting waiting1 card way live is_table1 is_waiting1 next is_table2 is_rest1 is_position1 is_left1 is_cards1 is_table3 =
    let further = one_more plan start first change cards rest s table waiting card way live (subst (λ (t : List Sitter). IsNext rest s t card) is_table1 next) in
    let is_state1 : after s card ≡ record { position = position1; left = left1 } = ap₂ (λ p l. record { position = p; left = l }) (sym is_position1) (sym is_left1) in
    let is_table : tell_table (card ∷ []) (table_for_next waiting cards table) ≡ table3 = sym (is_table3 ∙ ap (λ t. tell_table (card ∷ []) t) (is_table2 ∙ is_table1)) in
    let with_cards = subst (λ (cs : List ℕ). IsUnderWay plan start first change cs (plan_after rest card) (after s card) (tell_table (card ∷ []) (table_for_next waiting cards table)) (left_waiting waiting (length cards))) (sym is_cards1) further in
    let with_rest = subst (λ (p : Plan ℕ). IsUnderWay plan start first change cards1 p (after s card) (tell_table (card ∷ []) (table_for_next waiting cards table)) (left_waiting waiting (length cards))) (sym is_rest1) with_cards in
    let with_state = subst (λ (t : State). IsUnderWay plan start first change cards1 rest1 t (tell_table (card ∷ []) (table_for_next waiting cards table)) (left_waiting waiting (length cards))) is_state1 with_rest in
    let with_table = subst (λ (t : List Sitter). IsUnderWay plan start first change cards1 rest1 (record { position = position1; left = left1 }) t (left_waiting waiting (length cards))) is_table with_state in
    subst (λ (w : Option Change). IsUnderWay plan start first change cards1 rest1 (record { position = position1; left = left1 }) table3 w) (sym is_waiting1) with_table
