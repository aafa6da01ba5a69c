-- A side that needs all the tricks at no trump fails if its opponents' stoppers outlast its other suits: trick after trick.
use Rattle.std.proofs.Common.{◌≡◌, ◌≢◌, ◌⊎◌, ℕ, zero, suc, ◌<◌, ◌≤◌, Bool, true, false, not, max, List, [], length, filter, refl, sym, ap, ◌∙◌, subst, inl, inr, arith}
use Rattle.std.proofs.lemmas.Bool.{cases_lt, false≢true}
use Rattle.card_sets.specs.declared.card.Suit.{Suit}
use Rattle.card_sets.specs.declared.seat.Seat.{Seat}
use Rattle.card_sets.specs.Cards.{suit_of, rank_of, card_of}
use Rattle.card_sets.specs.SetWords.{has_card}
use Rattle.card_sets.proofs.Sets.{has_card-below}
use Rattle.card_sets.proofs.Suits.{card_of-suit_of}
use Rattle.trick_rules.specs.declared.trump.Trump.TheVariants.{NoTrump}
use Rattle.trick_rules.specs.Positions.{State, seat_after, to_play, tricks_left, IsState}
use Rattle.trick_rules.specs.Play.{of_suit, after, hand_of, legal_in, is_declarers, cards_left, makes}
use Rattle.trick_rules.proofs.States.{legal_can_play, legal_cards-low, cards_left-after}
use Rattle.trick_rules.proofs.PlayLaws.{hands_are_apart}
use Rattle.sure_tricks.specs.Stoppers.{rounds_of, AreStoppers}
use Rattle.sure_tricks.proofs.Hands.{hand_set, by_card, by_each, Suffices}
use Rattle.sure_tricks.proofs.Cash.{going}
use Rattle.sure_tricks.proofs.TopTrumps.{sides, two_sides}
use Rattle.sure_tricks.proofs.Stoppers.{IsRunning, IsOn, throw_from, side_card, led_card, next_card}
use Rattle.sure_tricks.proofs.LastButOne.{opponent, of_the_side}
use Rattle.sure_tricks.proofs.LastTwo.{last_two}

-- ---- card after card

runs : (n : ℕ) (b : Bool) (stoppers : List ℕ) (rounds : Suit → ℕ) (s : State) → IsRunning b stoppers rounds s
    → (s.position.trick.cards ≡ []) ⊎ ((v : Suit) × IsOn b stoppers rounds v s) → cards_left s.position < n → Suffices (not b) s.position 1 → makes s ≡ not b
runs zero b stoppers rounds s r at few h = absurd (omega arith)
runs (suc n) b stoppers rounds s r at few h = elim at as (λ _. makes s ≡ not b) [
  | inl none ↦ by_each s (not b) r.ok (going s.position on) (λ c legal.
      let out = side_card b stoppers rounds s r (to_play s.position)
      (ap (λ (l : List ℕ). is_declarers (seat_after (length l) s.position.trick.leader)) none ∙ r.side) c (held_by_player c legal) in
      led_card b stoppers rounds s r c legal out none h
      (λ rounds' r' at' h'. runs n b stoppers rounds' (after s c) r' at' (fewer_left c legal) h'))
  | inr (v, on_v) ↦ elim (sides (is_declarers (to_play s.position)) b) as (λ _. makes s ≡ not b) [
    | inl own ↦ by_each s (not b) r.ok (going s.position on) (λ c legal.
        next_card b stoppers rounds s r c legal (side_card b stoppers rounds s r (to_play s.position) own c (held_by_player c legal)) v on_v h
        (λ rounds' r' at' h'. runs n b stoppers rounds' (after s c) r' at' (fewer_left c legal) h'))
    | inr theirs ↦ elim (cases_lt (length (filter (has_card stoppers) (hand_of s (to_play s.position)))) (length (hand_of s (to_play s.position)))) as (λ _. makes s ≡ not b) [
      | inl more ↦ (let choice = throw_from s stoppers v on_v.some on_v.led on_v.plain more in
          by_card s (not b) choice.0 r.ok (going s.position on) theirs choice.1
          (next_card b stoppers rounds s r choice.0 choice.1 choice.2 v on_v h
          (λ rounds' r' at' h'. runs n b stoppers rounds' (after s choice.0) r' at' (fewer_left choice.0 choice.1) h')))
      | inr all ↦ last_two b stoppers rounds s r v on_v all h
    ]
  ]
]
  where
    on : 1 ≤ tricks_left s.position
    on = let less = r.few in omega arith

    held_by_player : (c : ℕ) → has_card (legal_in s) c ≡ true → has_card (hand_of s (to_play s.position)) c ≡ true
    held_by_player c legal = legal_cards-low s.position.trick.cards (hand_of s (to_play s.position)) c legal

    fewer_left : (c : ℕ) → has_card (legal_in s) c ≡ true → cards_left (after s c).position < n
    fewer_left c legal = let left = cards_left-after s.position c r.ok.sound (legal_can_play s r.ok c legal) in omega (arith, left, few)

-- ---- between two tricks

ranked : (c d : ℕ) → c < 52 → d < 52 → suit_of c ≡ suit_of d → c < d → rank_of c < rank_of d
ranked c d low_c low_d suit less =
    let one : card_of (suit_of d) (rank_of c) ≡ c = ap (λ u. card_of u (rank_of c)) (sym suit) ∙ card_of-suit_of c low_c in
    let other : card_of (suit_of d) (rank_of d) ≡ d = card_of-suit_of d low_d in
    omega (arith, one, other)

begun : (s : State) (stoppers : List ℕ) → IsState s → s.position.trick.cards ≡ [] → s.position.trump ≡ NoTrump → AreStoppers s (to_play s.position) stoppers
    → IsRunning (is_declarers (to_play s.position)) stoppers (rounds_of s (to_play s.position) stoppers) s
begun s stoppers ok none no_trump are = record {
  ok = ok;
  trumps = no_trump;
  side = ap (λ (l : List ℕ). is_declarers (seat_after (length l) s.position.trick.leader)) (sym none);
  held = theirs;
  highest = λ w stops seat side c h suit.
      let holder = theirs w stops in
      let low_w = has_card-below (hand_of s holder.0) w (hand_set s ok holder.0) holder.2 in
      let low_c = has_card-below (hand_of s seat) c (hand_set s ok seat) h in
      let most = are.highest w c seat stops h suit in
      let differ : c ≢ w = λ e. false≢true (sym (hands_are_apart s seat holder.0 ok (λ i. two_sides (is_declarers holder.0) (is_declarers x) (ap is_declarers (sym i) ∙ side) holder.1) c h)
      ∙ subst (λ d. has_card (hand_of s holder.0) d ≡ true) (sym e) holder.2) in
      ranked c w low_c low_w suit (omega (arith, most, differ));
  bound = λ seat side suit plain. elim (of_the_side x seat side) as (λ _. length (of_suit suit (hand_of s seat)) ≤ rounds_of s x stoppers suit) [
    | inl e ↦ rw plain (subst (λ y. length (of_suit suit (hand_of s y)) ≤ max (length (of_suit suit (hand_of s x))) (length (of_suit suit (hand_of s (seat_after 2 x))))) (sym e) (omega arith))
    | inr e ↦ rw plain (subst (λ y. length (of_suit suit (hand_of s y)) ≤ max (length (of_suit suit (hand_of s x))) (length (of_suit suit (hand_of s (seat_after 2 x))))) (sym e) (omega arith))
  ];
  few = are.lasting;
  room = are.kept;
}
  where
    x : Seat
    x = to_play s.position

    theirs : (w : ℕ) → has_card stoppers w ≡ true → (seat : Seat) × (is_declarers seat ≡ not (is_declarers x)) × (has_card (hand_of s seat) w ≡ true)
    theirs w stops = elim (are.held w stops) as (λ _. (seat : Seat) × (is_declarers seat ≡ not (is_declarers x)) × (has_card (hand_of s seat) w ≡ true)) [
      | inl next ↦ (seat_after 1 x, opponent x 1 (inl refl), next)
      | inr last ↦ (seat_after 3 x, opponent x 3 (inr refl), last)
    ]

stoppers_win : (s : State) (stoppers : List ℕ) (b : Bool) → IsState s → s.position.trick.cards ≡ [] → s.position.trump ≡ NoTrump → AreStoppers s (to_play s.position) stoppers
    → is_declarers (to_play s.position) ≡ b → Suffices (not b) s.position 1 → makes s ≡ not b
stoppers_win s stoppers b ok none no_trump are side h = runs (suc (cards_left s.position)) b stoppers (rounds_of s (to_play s.position) stoppers) s
    (subst (λ c. IsRunning c stoppers (rounds_of s (to_play s.position) stoppers) s) side (begun s stoppers ok none no_trump are)) (inl none) (omega arith) h

pub we_fail : (s : State) (stoppers : List ℕ) → IsState s → s.position.trick.cards ≡ [] → s.position.trump ≡ NoTrump → AreStoppers s (to_play s.position) stoppers
    → is_declarers (to_play s.position) ≡ true → tricks_left s.position ≤ s.position.need → makes s ≡ false
we_fail s stoppers ok none no_trump are side h = stoppers_win s stoppers true ok none no_trump are side (omega arith)

pub they_fail : (s : State) (stoppers : List ℕ) → IsState s → s.position.trick.cards ≡ [] → s.position.trump ≡ NoTrump → AreStoppers s (to_play s.position) stoppers
    → is_declarers (to_play s.position) ≡ false → s.position.need ≤ 1 → makes s ≡ true
they_fail s stoppers ok none no_trump are side h = stoppers_win s stoppers false ok none no_trump are side h
