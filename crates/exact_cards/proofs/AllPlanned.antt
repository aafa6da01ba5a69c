-- With as many moves as declarer's side has cards, all is planned.
use Rattle.std.proofs.Common.{◌≡◌, ◌∙◌, ◌≤◌, ◌<◌, ◌+◌, ◌-◌, ℕ, zero, suc, Bool, true, false, is_some, if◌then◌else◌, List, [], ◌∷◌, map, filter, length, Contains, refl, sym, ap, subst, true≢false, inl, inr, arith}
use Rattle.win_vectors.specs.Vectors.{restrict_of}
use Rattle.win_vectors.specs.Fronts.{Vector, Dominates, IsAtLeast}
use Rattle.card_sets.specs.SetWords.{has_card}
use Rattle.card_sets.specs.declared.seat.Seat.{Seat}
use Rattle.card_sets.specs.declared.seat.Seat.TheVariants.{Declarer, Left, Dummy, Right}
use Rattle.trick_rules.specs.Positions.{PositionValue, State, IsSound, to_play, has_played, played_count}
use Rattle.trick_rules.specs.Play.{after, after_card, cards_left, decided, is_declarers, makes, CanPlay}
use Rattle.trick_rules.specs.Nodes.{NodeValue, IsNode, most_moves, states, choices, child}
use Rattle.trick_rules.proofs.PlayLaws.{a_choice_can_be_played, a_choice_leads_to_a_node, there_is_a_choice}
use Rattle.trick_rules.proofs.Soundness.{hands_fall}
use Rattle.trick_rules.proofs.States.{after_card-declarer, after_card-dummy, cards_left-after}
use Rattle.trick_rules.proofs.Turns.{same_seat, count_in-turn}
use Rattle.strategy_games.specs.Games.{mask}
use Rattle.strategy_games.specs.Plans.{stops}
use Rattle.strategy_games.proofs.Lists.{Contains-here, Contains-there}
use Rattle.strategy_tree.specs.Bridge.{bridge}
use Rattle.strategy_tree.proofs.CardLists.{has_card-from_Contains, Contains-from_has_card}
use Rattle.strategy_tree.proofs.PackSize.{cards_left-le_52}
use Rattle.strategy_tree.proofs.Rules.{going_on, lawful}
use Rattle.sure_nodes.proofs.PlayedOut.{played_out}
use Rattle.assured_games.specs.Made.{results}
use Rattle.winnable_sets.specs.Sets.{IsWinnable}
use Rattle.winnable_sets.proofs.Turns.{width-winnable}
use Rattle.set_nodes.proofs.Won.{turns, sets}
use Rattle.exact_cards.specs.ExactRows.{moves_after}
use Rattle.exact_cards.specs.Laws.{IsOurNode, AllIsPlanned}

-- ---- how many cards declarer's side has

abbrev own_cards : PositionValue → ℕ
own_cards t = length t.declarer + length t.dummy

same_ours : (seat : Seat) → is_declarers seat ≡ true → same_seat seat Declarer + same_seat seat Dummy ≡ 1
same_ours Declarer ours = refl
same_ours Dummy ours = refl
same_ours Left ours = absurd (true≢false (sym ours))
same_ours Right ours = absurd (true≢false (sym ours))

same_theirs : (seat : Seat) → is_declarers seat ≡ false → same_seat seat Declarer + same_seat seat Dummy ≡ 0
same_theirs Declarer theirs = absurd (true≢false theirs)
same_theirs Dummy theirs = absurd (true≢false theirs)
same_theirs Left theirs = refl
same_theirs Right theirs = refl

module _ (t : PositionValue) (card : ℕ) (sound : IsSound t) (can : CanPlay t card) where
  -- each of its cards is one fewer,
  own_after_ours : is_declarers (to_play t) ≡ true → own_cards (after_card t card) + 1 ≡ own_cards t
  own_after_ours ours =
      let falls = hands_fall t sound card (to_play t) can in
      omega (arith, falls.declarer, falls.dummy, same_ours (to_play t) ours, ap (length {A = ℕ}) (after_card-declarer t card), ap (length {A = ℕ}) (after_card-dummy t card))

  -- and the defenders' are not its own
  own_after_theirs : is_declarers (to_play t) ≡ false → own_cards (after_card t card) ≡ own_cards t
  own_after_theirs theirs =
      let falls = hands_fall t sound card (to_play t) can in
      omega (arith, falls.declarer, falls.dummy, same_theirs (to_play t) theirs, ap (length {A = ℕ}) (after_card-declarer t card), ap (length {A = ℕ}) (after_card-dummy t card))

played_once : (b : Bool) → (if b then 1 else 0) ≤ 1
played_once true = omega arith
played_once false = omega arith

-- thirteen in each hand at most
own_few : (t : PositionValue) → IsSound t → is_declarers (to_play t) ≡ true → own_cards t ≤ most_moves
own_few t sound ours = go (to_play t) ours (count_in-turn (length t.trick.cards) t.trick.leader sound.trick_short)
  where
    go : (seat : Seat) → is_declarers seat ≡ true → played_count t seat ≡ 0 → own_cards t ≤ most_moves
    go Declarer ours none = omega (arith, none, sound.dummy_count, sound.unseen_count, cards_left-le_52 t sound, played_once (has_played t Dummy), played_once (has_played t Left), played_once (has_played t Right))
    go Dummy ours none = omega (arith, none, sound.dummy_count, sound.unseen_count, cards_left-le_52 t sound, played_once (has_played t Declarer), played_once (has_played t Left), played_once (has_played t Right))
    go Left ours none = absurd (true≢false (sym ours))
    go Right ours none = absurd (true≢false (sym ours))

-- ---- what is made is made after each card of a defender

made_after_each : (card : ℕ) (ss : List State) (set : Vector)
    → ((s : State) → Contains ss s → makes s ≡ true → bridge.is_legal card s ≡ true → makes (after s card) ≡ true)
    → Dominates (map (λ s. makes s) ss) set
    → Dominates (map (λ s. makes s) (map (λ s. after s card) (filter (λ s. bridge.is_legal card s) ss))) (restrict_of set (map (λ s. bridge.is_legal card s) ss))
made_after_each card [] [] each d = tt
made_after_each card [] (b ∷ set) each d = elim d [ ]
made_after_each card (s ∷ ss) [] each d = elim d [ ]
made_after_each card (s ∷ ss) (b ∷ set) each d = go (bridge.is_legal card s) refl (made_after_each card ss set (λ x among. each x (Contains-there s ss x among)) d.1)
  where
    first : (made wanted : Bool) → makes s ≡ made → bridge.is_legal card s ≡ true → IsAtLeast made wanted → IsAtLeast (makes (after s card)) wanted
    first made true is legal low = subst (λ (b : Bool). IsAtLeast b true) (sym (each s (Contains-here s ss) (is ∙ at_least_true made low) legal)) tt
      where
        at_least_true : (made : Bool) → IsAtLeast made true → made ≡ true
        at_least_true true low = refl
        at_least_true false low = absurd low
    first made false is legal low = anything (makes (after s card))
      where
        anything : (b : Bool) → IsAtLeast b false
        anything true = tt
        anything false = tt

    go : (legal : Bool) → bridge.is_legal card s ≡ legal
        → Dominates (map (λ s. makes s) (map (λ s. after s card) (filter (λ s. bridge.is_legal card s) ss))) (restrict_of set (map (λ s. bridge.is_legal card s) ss))
        → Dominates (map (λ s. makes s) (map (λ s. after s card) (filter (λ s. bridge.is_legal card s) (s ∷ ss)))) (restrict_of (b ∷ set) (map (λ s. bridge.is_legal card s) (s ∷ ss)))
    go true is rest = rw is (first (makes s) b refl is d.0, rest)
    go false is rest = rw is rest

-- ---- more moves

stop_decided : (n : NodeValue) (m : ℕ) → is_some (decided n.position) ≡ true → stops bridge n m ≡ true
stop_decided n zero over = refl
stop_decided n (suc m) over = over

abbrev Wins : NodeValue → ℕ → Vector → Type 0
Wins n m set = IsWinnable bridge n m set

-- with as many moves as declarer's side has cards, more win nothing less
abbrev MoreWin : NodeValue → Type 0
MoreWin n = (m extra : ℕ) (set : Vector) → own_cards n.position ≤ m → Wins n m set → Wins n (m + extra) set

module _ (n : NodeValue) (ok : IsNode n) (later : (card : ℕ) → has_card (choices n) card ≡ true → MoreWin (child n card)) where
  ours_fall : (card : ℕ) → is_declarers (to_play n.position) ≡ true → has_card (choices n) card ≡ true → own_cards (child n card).position + 1 ≡ own_cards n.position
  ours_fall card ours choice = own_after_ours n.position card ok.sound (a_choice_can_be_played n card ok choice) ours

  theirs_stay : (card : ℕ) → is_declarers (to_play n.position) ≡ false → has_card (choices n) card ≡ true → own_cards (child n card).position ≡ own_cards n.position
  theirs_stay card theirs choice = own_after_theirs n.position card ok.sound (a_choice_can_be_played n card ok choice) theirs

  -- with no card left to declarer's side the defenders play the last trick to its end
  last_cards : (e : ℕ) (set : Vector) → is_some (decided n.position) ≡ false → is_declarers (to_play n.position) ≡ false → own_cards n.position ≤ 0 → Wins n 0 set → Wins n e set
  last_cards zero set live theirs none w = w
  last_cards (suc e) set live theirs none w = (turns.at_defender n e set ok live theirs (width-winnable bridge n 0 set w)).1 (λ card among.
      let choice = has_card-from_Contains (choices n) card among in
      let made : Dominates (results bridge (child n card)) (restrict_of set (mask bridge n card)) =
      subst (λ (ss : List State). Dominates (map (λ s. makes s) ss) (restrict_of set (mask bridge n card))) (sym (lawful.keeps n card ok among))
      (made_after_each card (states n) set (λ s mem makes legal. played_out.theirs n s card ok mem live theirs makes among legal) ((turns.at_stop n 0 set refl).0 w)) in
      let all : 0 + suc e ≡ suc e = omega arith in
      subst (λ (m : ℕ). Wins (child n card) m (restrict_of set (mask bridge n card))) all
      (later card choice 0 (suc e) (restrict_of set (mask bridge n card)) (let same = theirs_stay card theirs choice in omega (arith, same, none))
      ((turns.at_stop (child n card) 0 (restrict_of set (mask bridge n card)) refl).1 made)))

  more_step : (over : Bool) → is_some (decided n.position) ≡ over → (ours : Bool) → is_declarers (to_play n.position) ≡ ours → MoreWin n
  more_step true over ours side m extra set enough w = (turns.at_stop n (m + extra) set (stop_decided n (m + extra) over)).1 ((turns.at_stop n m set (stop_decided n m over)).0 w)
  more_step false live true side zero extra set enough w =
      let card = there_is_a_choice n ok (going_on n.position live) in
      let falls = ours_fall card.0 side card.1 in
      absurd (omega (arith, falls, enough))
  more_step false live true side (suc m) extra set enough w =
      let by = (turns.at_declarer n m set ok live side).0 w in
      let choice = has_card-from_Contains (choices n) by.0 by.1 in
      let falls = ours_fall by.0 side choice in
      let more : suc (m + extra) ≡ suc m + extra = omega arith in
      subst (λ (j : ℕ). Wins n j set) more
      ((turns.at_declarer n (m + extra) set ok live side).1 (by.0, by.1, later by.0 choice m extra set (omega (arith, falls, enough)) by.2))
  more_step false live false side zero extra set enough w =
      let all : extra ≡ 0 + extra = omega arith in
      subst (λ (m : ℕ). Wins n m set) all (last_cards extra set live side enough w)
  more_step false live false side (suc m) extra set enough w =
      let more : suc (m + extra) ≡ suc m + extra = omega arith in
      subst (λ (j : ℕ). Wins n j set) more
      ((turns.at_defender n (m + extra) set ok live side (width-winnable bridge n (suc m) set w)).1 (λ card among.
      let choice = has_card-from_Contains (choices n) card among in
      let same = theirs_stay card side choice in
      subst (λ (j : ℕ). Wins (child n card) j (restrict_of set (mask bridge n card))) (sym more)
      (later card choice (suc m) extra (restrict_of set (mask bridge n card)) (omega (arith, same, enough))
      ((turns.at_defender n m set ok live side (width-winnable bridge n (suc m) set w)).0 w card among))))

more_moves : (k : ℕ) (n : NodeValue) → cards_left n.position < k → IsNode n → MoreWin n
more_moves zero n few ok = absurd (omega (arith, few))
more_moves (suc k) n few ok = more_step n ok
    (λ card choice. more_moves k (child n card)
    (let falls = cards_left-after n.position card ok.sound (a_choice_can_be_played n card ok choice) in omega (arith, falls, few))
    (a_choice_leads_to_a_node n card ok choice))
    (is_some (decided n.position)) refl (is_declarers (to_play n.position)) refl

pub all_planned : AllIsPlanned
all_planned n card moves set at among many =
    let ok = at.a_node in
    let after = a_choice_leads_to_a_node n card ok (has_card-from_Contains (choices n) card among) in
    let falls = own_after_ours n.position card ok.sound (a_choice_can_be_played n card ok (has_card-from_Contains (choices n) card among)) at.ours in
    let few = own_few n.position ok.sound at.ours in
    let enough : own_cards (child n card).position ≤ moves_after = omega (arith, falls, few) in
    let extra = moves - most_moves in
    let more : moves_after + extra ≡ moves - 1 = omega (arith, many) in (
      λ w. sets.fewer_moves (child n card) moves_after extra set after (subst (λ (m : ℕ). Wins (child n card) m set) (sym more) w),
      λ w. subst (λ (m : ℕ). Wins (child n card) m set) more
          (more_moves (suc (cards_left (child n card).position)) (child n card) (omega arith) after moves_after extra set enough w),
    )
