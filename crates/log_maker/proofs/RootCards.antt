-- How many cards a root has.
use Rattle.std.proofs.Common.{◌≡◌, ◌≤◌, ◌+◌, ◌||◌, ◌⊎◌, inl, inr, ℕ, Bool, true, false, List, [], ◌∷◌, map, length, Contains, refl, sym, subst, ◌∙◌, arith}
use Rattle.std.proofs.lemmas.Bool.{false≢true, cond_both}
use Rattle.std.proofs.lemmas.List.Elements.{All-contains}
use Rattle.card_sets.specs.declared.seat.Seat.{Seat}
use Rattle.card_sets.specs.declared.seat.Seat.TheVariants.{Declarer, Left, Dummy, Right}
use Rattle.card_sets.specs.SetWords.{has_card, cards_where, IsCardSet, IsSubset, Apart}
use Rattle.card_sets.proofs.Sets.{IsCardSet-cards_where, has_card-cards_where, has_card-below}
use Rattle.card_sets.proofs.SetCounts.{length-le_52, length-either, length-IsSubset}
use Rattle.trick_rules.specs.Positions.{PositionValue, State, IsSound, IsState, to_play, played_count, tricks_left, has_played}
use Rattle.trick_rules.specs.Play.{is_declarers, hand_of, legal_in, cards_left}
use Rattle.trick_rules.specs.Nodes.{NodeValue, IsNode, states, choices}
use Rattle.trick_rules.proofs.PlayLaws as play
use Rattle.strategy_games.proofs.Lists.{Contains-here}
use Rattle.strategy_tree.proofs.PackSize.{cards_left-le_52}

-- no more than fourteen tricks, which is enough here
few_tricks : (t : PositionValue) → IsSound t → tricks_left t ≤ 14
few_tricks t sound =
    let all = cards_left-le_52 t sound in
    let dummy = sound.dummy_count in
    let unseen = sound.unseen_count in
    omega (arith, one Declarer, one Left, one Dummy, one Right)
  where
    one : (seat : Seat) → played_count t seat ≤ 1
    one seat = cond_both (has_played t seat) 1 0 (λ x. x ≤ 1) (λ e. omega arith) (λ e. omega arith)

our_hand : (s : State) → IsState s → is_declarers (to_play s.position) ≡ true → IsCardSet (hand_of s (to_play s.position))
our_hand s ok = go (to_play s.position)
  where
    go : (seat : Seat) → is_declarers seat ≡ true → IsCardSet (hand_of s seat)
    go Declarer ours = ok.sound.declarer_set
    go Dummy ours = ok.sound.dummy_set
    go Left ours = absurd (false≢true ours)
    go Right ours = absurd (false≢true ours)

-- declarer's side has no more choices than tricks are left
pub few_choices : (n : NodeValue) → IsNode n → is_declarers (to_play n.position) ≡ true → length (choices n) ≤ 14
few_choices n sound ours = go n.lefts refl sound.some
  where
    at_layout : (left : List ℕ) → Contains (states n) (record { position = n.position; left = left }) → length (choices n) ≤ 14
    at_layout left mem =
        let s : State = record { position = n.position; left = left } in
        let ok = All-contains IsState (states n) s (play.a_layout_gives_a_state n sound) mem in
        let hand = hand_of s (to_play n.position) in
        let part : IsSubset (choices n) hand = λ card choice. play.a_legal_card_is_held s card
        (All-contains (λ t. has_card (legal_in t) card ≡ true) (states n) s (play.our_choices_are_legal_everywhere n card ours choice) mem) in
        let few = length-IsSubset hand (choices n) (our_hand s ok ours) (IsCardSet-cards_where _) part in
        let count = play.hands_have_one_length s (to_play n.position) ok in
        let tricks = few_tricks n.position sound.sound in
        omega arith

    go : (lefts : List (List ℕ)) → n.lefts ≡ lefts → 1 ≤ length lefts → length (choices n) ≤ 14
    go [] are some = absurd (omega arith)
    go (left ∷ lefts) are some = at_layout left
        (subst (λ (ls : List (List ℕ)). Contains (map (λ (l : List ℕ). let s : State = record { position = n.position; left = l } in s) ls) (record { position = n.position; left = left })) (sym are)
        (Contains-here (record { position = n.position; left = left }) (map (λ (l : List ℕ). let s : State = record { position = n.position; left = l } in s) lefts)))
