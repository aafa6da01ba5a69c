-- Who takes a trick, told by the cards that count.
use Rattle.std.proofs.Common.{◌≡◌, ◌≢◌, ◌⊎◌, ℕ, ◌<◌, ◌≤◌, true, ltb, List, length, get_or, All, AllPairs, refl, sym, ap, subst, ◌∙◌, inl, inr, arith}
use Rattle.std.proofs.lemmas.Bool.{cases_Bool, lt-ltb}
use Rattle.card_sets.specs.declared.card.Suit.{Suit}
use Rattle.card_sets.specs.declared.seat.Seat.{Seat}
use Rattle.card_sets.specs.Cards.{suit_of, rank_of, same_suit, suit_place}
use Rattle.card_sets.specs.SetWords.{has_card}
use Rattle.card_sets.proofs.Suits.{card_of-suit_of, same_suit-true}
use Rattle.trick_rules.specs.declared.trump.Trump.{Trump}
use Rattle.trick_rules.specs.Positions.{seat_after}
use Rattle.trick_rules.specs.Play.{is_trump, beats, IsWonBy, winner_of}
use Rattle.trick_rules.proofs.TrickLemmas.{one_winner}
use Rattle.sure_tricks.proofs.Holding.{trump_of_suit}
use Rattle.double_dummy.proofs.Swap.{beaten_apart, two_suits, two_trumps}
use Rattle.equivalent_positions.specs.Alike.{IsClosedUp, IsLike, SettlesTrick}
use Rattle.equivalent_positions.proofs.Likes.{like_suit, like_counts, below_counting}

-- within a suit the lower card has the lower rank
rank_less : (c d : ℕ) → c < 52 → d < 52 → suit_of c ≡ suit_of d → d < c → rank_of d < rank_of c
rank_less c d one other suit less =
    let e = card_of-suit_of c one in
    let f = card_of-suit_of d other in
    let g = ap suit_place suit in
    omega (arith, e, f, g)

-- ---- one card and another

-- two cards beat as two others of their suits do, where cards of one suit are in the same order
beats_alike : (trump : Trump) (led : Suit) (c d c' d' : ℕ) → suit_of c ≡ suit_of c' → suit_of d ≡ suit_of d'
    → (suit_of c ≡ suit_of d → ltb (rank_of d) (rank_of c) ≡ ltb (rank_of d') (rank_of c')) → beats trump led c d ≡ beats trump led c' d'
beats_alike trump led c d c' d' sc sd order =
    let tc = trump_of_suit trump c c' sc in
    let td = trump_of_suit trump d d' sd in
    elim (cases_Bool (same_suit (suit_of c') (suit_of d'))) as (λ _. beats trump led c d ≡ beats trump led c' d') [
      | inl e ↦
          (let same : suit_of c ≡ suit_of d = sc ∙ same_suit-true (suit_of c') (suit_of d') e ∙ sym sd in
          rw (tc, td, sc, sd, order same) refl)
      | inr e ↦
          (let h = ltb (rank_of d) (rank_of c) in
          let k = ltb (rank_of d') (rank_of c') in
          rw (tc, td, sc, sd) (beaten_apart (is_trump trump c') (is_trump trump d') (same_suit (suit_of c') led) (same_suit (suit_of d') led) h k
          (two_trumps trump c' d' e) (two_suits (suit_of c') (suit_of d') led e)))
    ]

-- ---- the whole trick

module _ (counting : List ℕ) (closed : IsClosedUp counting) (trump : Trump) (cards others : List ℕ) (as_many : length cards ≡ length others)
    (likes : (k : ℕ) → k < length cards → IsLike counting (get_or cards k 0) (get_or others k 0))
    (low : All (λ c. c < 52) cards) (low' : All (λ c. c < 52) others) where
  -- against a card that counts each other card is as high as the one that is like it
  in_order : (place other : ℕ) → place < length cards → other < length cards → has_card counting (get_or cards place 0) ≡ true
      → suit_of (get_or cards place 0) ≡ suit_of (get_or cards other 0)
      → ltb (rank_of (get_or cards other 0)) (rank_of (get_or cards place 0)) ≡ ltb (rank_of (get_or others other 0)) (rank_of (get_or others place 0))
  in_order place other here there counts suit =
      let c = get_or cards place 0 in
      let d = get_or cards other 0 in
      let d' = get_or others other 0 in
      let same : c ≡ get_or others place 0 = like_counts counting c (get_or others place 0) counts (likes place here) in
      let low_c : c < 52 = low place 0 here in
      let low_d : d < 52 = low other 0 there in
      let low_d' : d' < 52 = low' other 0 (omega arith) in
      subst (λ x. ltb (rank_of d) (rank_of c) ≡ ltb (rank_of d') (rank_of x)) same
      (elim (likes other there) as (λ _. ltb (rank_of d) (rank_of c) ≡ ltb (rank_of d') (rank_of c)) [
        | inl e ↦ ap (λ x. ltb (rank_of x) (rank_of c)) e
        | inr e ↦ lt-ltb (rank_of d) (rank_of c) (rank_less c d low_c low_d suit (below_counting counting closed c d counts e.0 suit low_d))
            ∙ sym (lt-ltb (rank_of d') (rank_of c) (rank_less c d' low_c low_d' (suit ∙ e.2) (below_counting counting closed c d' counts e.1 (suit ∙ e.2) low_d')))
      ])

  won_alike : (place : ℕ) → IsWonBy trump cards place
      → (has_card counting (get_or cards place 0) ≡ true) ⊎ ((other : ℕ) → other < length cards → other ≢ place → suit_of (get_or cards other 0) ≢ suit_of (get_or cards place 0))
      → IsWonBy trump others place
  won_alike place won settled = record {
    within = omega (arith, won.within);
    beats_each = λ other at differs.
        (let there : other < length cards = omega arith in
        let here = won.within in
        let led : suit_of (get_or cards 0 0) ≡ suit_of (get_or others 0 0) = like_suit counting (get_or cards 0 0) (get_or others 0 0) (likes 0 (omega arith)) in
        let order : suit_of (get_or cards place 0) ≡ suit_of (get_or cards other 0)
        → ltb (rank_of (get_or cards other 0)) (rank_of (get_or cards place 0)) ≡ ltb (rank_of (get_or others other 0)) (rank_of (get_or others place 0)) =
        λ suit. elim settled as (λ _. ltb (rank_of (get_or cards other 0)) (rank_of (get_or cards place 0)) ≡ ltb (rank_of (get_or others other 0)) (rank_of (get_or others place 0))) [
          | inl counts ↦ in_order place other here there counts suit
          | inr only ↦ absurd (only other there differs (sym suit))
        ] in
        sym (beats_alike trump (suit_of (get_or others 0 0)) (get_or cards place 0) (get_or cards other 0) (get_or others place 0) (get_or others other 0)
        (like_suit counting (get_or cards place 0) (get_or others place 0) (likes place here))
        (like_suit counting (get_or cards other 0) (get_or others other 0) (likes other there))
        order)
        ∙ ap (λ suit. beats trump suit (get_or cards place 0) (get_or cards other 0)) (sym led)
        ∙ won.beats_each other there differs);
  }

  -- the same seat takes the trick
  pub winner_alike : (leader : Seat) → 1 ≤ length cards → AllPairs (λ c d. c ≢ d) cards → AllPairs (λ c d. c ≢ d) others → SettlesTrick counting trump cards
      → winner_of trump (record { leader = leader; cards = cards }) ≡ winner_of trump (record { leader = leader; cards = others })
  winner_alike leader some differ differ' settles =
      let old = one_winner trump (record { leader = leader; cards = cards }) some low differ in
      let new = one_winner trump (record { leader = leader; cards = others }) (omega arith) low' differ' in
      let same : old.0 ≡ new.0 = new.2 old.0 (won_alike old.0 old.1 (settles old.0 old.1)) in
      old.3 ∙ ap (λ place. seat_after place leader) same ∙ sym new.3
