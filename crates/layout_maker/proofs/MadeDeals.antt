-- Deals of five cards a hand are sound.
use Rattle.std.proofs.Common.{◌≡◌, ℕ, true, false, List, [], ◌∷◌, length, Option, Some, None, subst, refl, sym, ap, ◌∙◌, arith}
use Rattle.std.specs.Prelude.{◌==◌, is_some, Ok}
use Rattle.std.specs.List.{list_any}
use Rattle.card_sets.specs.declared.seat.Compass.{Compass}
use Rattle.card_sets.specs.declared.seat.Compass.TheVariants.{N, E, S, W}
use Rattle.card_sets.specs.SetWords.{has_card, IsCardSet, Apart}
use Rattle.card_sets.proofs.Sets.{IsCardSet-cards_where, Apart-sym}
use Rattle.pbn_deal.specs.declared.deal.DealValue.{DealValue}
use Rattle.pbn_deal.specs.Deal.{compass_place, deal_read, hand_at, IsSoundDeal}
use Rattle.pbn_deal.specs.Writing.{deal_text}
use Rattle.pbn_deal.proofs.ReadBack.{deal_text-read}
use Rattle.layout_maker.specs.MadeProblem.{set_of}
use Rattle.layout_maker.proofs.MadeHands.{IsDealt, length-set_of, apart_hands, AreHands, hands_once}

-- a hand of five cards, where it is shown
record IsFive (hand : Option (List ℕ)) : Type 0 where
  pub set : (cards : List ℕ) → hand ≡ Some cards → IsCardSet cards
  pub five : (cards : List ℕ) → hand ≡ Some cards → length cards ≡ 5

-- two hands with no card in common, where both are shown
abbrev AreApart : Option (List ℕ) → Option (List ℕ) → Type 0
AreApart hand other = (cards others : List ℕ) → hand ≡ Some cards → other ≡ Some others → Apart cards others

hidden_is_five : IsFive None
hidden_is_five = record { set = λ cards is. absurd cc; five = λ cards is. absurd cc }

shown_is_five : (cards : List ℕ) → IsDealt cards → length cards ≡ 5 → IsFive (Some (set_of cards))
shown_is_five cards inside five = record {
  set = λ set is. let same : set_of cards ≡ set = cc in subst IsCardSet same (IsCardSet-cards_where (has_card cards));
  five = λ set is. let same : set_of cards ≡ set = cc in ap length (sym same) ∙ length-set_of cards inside ∙ five;
}

apart_hidden : (hand : Option (List ℕ)) → AreApart hand None
apart_hidden hand cards others is is_other = absurd cc

apart_shown : (these those : List ℕ) → Apart (set_of these) (set_of those) → AreApart (Some (set_of these)) (Some (set_of those))
apart_shown these those apart cards others is is_other =
    let same : set_of these ≡ cards = cc in
    let same_other : set_of those ≡ others = cc in
    subst (λ (o : List ℕ). Apart cards o) same_other (subst (λ (c : List ℕ). Apart c (set_of those)) same apart)

turned : (hand other : Option (List ℕ)) → AreApart hand other → AreApart other hand
turned hand other apart cards others is is_other = Apart-sym others cards (apart others cards is_other is)

-- four hands of five cards, each two of them apart
record AreSound (n e s w : Option (List ℕ)) : Type 0 where
  pub n_five : IsFive n
  pub e_five : IsFive e
  pub s_five : IsFive s
  pub w_five : IsFive w
  pub n_e : AreApart n e
  pub n_s : AreApart n s
  pub n_w : AreApart n w
  pub e_s : AreApart e s
  pub e_w : AreApart e w
  pub s_w : AreApart s w

-- four hands
abbrev pub deal_of : Option (List ℕ) → Option (List ℕ) → Option (List ℕ) → Option (List ℕ) → DealValue
deal_of n e s w = record { hands = n ∷ e ∷ s ∷ w ∷ [] }

five_at : (n e s w : Option (List ℕ)) → AreSound n e s w → (seat : Compass) → IsFive (hand_at (deal_of n e s w) seat)
five_at n e s w sound N = sound.n_five
five_at n e s w sound E = sound.e_five
five_at n e s w sound S = sound.s_five
five_at n e s w sound W = sound.w_five

apart_at : (n e s w : Option (List ℕ)) → AreSound n e s w → (seat other : Compass) → (compass_place seat == compass_place other) ≡ false → AreApart (hand_at (deal_of n e s w) seat) (hand_at (deal_of n e s w) other)
apart_at n e s w sound N N differ = absurd cc
apart_at n e s w sound N E differ = sound.n_e
apart_at n e s w sound N S differ = sound.n_s
apart_at n e s w sound N W differ = sound.n_w
apart_at n e s w sound E N differ = turned n e sound.n_e
apart_at n e s w sound E E differ = absurd cc
apart_at n e s w sound E S differ = sound.e_s
apart_at n e s w sound E W differ = sound.e_w
apart_at n e s w sound S N differ = turned n s sound.n_s
apart_at n e s w sound S E differ = turned e s sound.e_s
apart_at n e s w sound S S differ = absurd cc
apart_at n e s w sound S W differ = sound.s_w
apart_at n e s w sound W N differ = turned n w sound.n_w
apart_at n e s w sound W E differ = turned e w sound.e_w
apart_at n e s w sound W S differ = turned s w sound.s_w
apart_at n e s w sound W W differ = absurd cc

sound_deal : (n e s w : Option (List ℕ)) → AreSound n e s w → list_any is_some (n ∷ e ∷ s ∷ w ∷ []) ≡ true → IsSoundDeal (deal_of n e s w)
sound_deal n e s w sound shown = record {
  four = refl;
  shown = shown;
  set = λ seat hand is. (five_at n e s w sound seat).set hand is;
  some = λ seat hand is. omega (arith, (five_at n e s w sound seat).five hand is);
  few = λ seat hand is. omega (arith, (five_at n e s w sound seat).five hand is);
  one_size = λ seat other hand cards is is_other. (five_at n e s w sound seat).five hand is ∙ sym ((five_at n e s w sound other).five cards is_other);
  apart = λ seat other hand cards differ is is_other. apart_at n e s w sound seat other differ hand cards is is_other;
}

-- the hands of declarer's side, with the others hidden
pub own_read : (south north west east : List ℕ) → AreHands south north west east
    → deal_read (deal_text (Some (set_of north) ∷ None ∷ Some (set_of south) ∷ None ∷ [])) ≡ Ok (deal_of (Some (set_of north)) None (Some (set_of south)) None)
own_read south north west east hands =
    let n = Some (set_of north) in
    let s = Some (set_of south) in
    let once = hands_once south north west east hands in
    deal_text-read (deal_of n None s None) (sound_deal n None s None (record {
      n_five = shown_is_five north (λ card. omega (arith, hands.inside card)) hands.north_five;
      e_five = hidden_is_five;
      s_five = shown_is_five south (λ card. omega (arith, hands.inside card)) hands.south_five;
      w_five = hidden_is_five;
      n_e = apart_hidden n;
      n_s = apart_shown north south (apart_hands north south (λ card. omega (arith, once card)));
      n_w = apart_hidden n;
      e_s = turned s None (apart_hidden s);
      e_w = apart_hidden None;
      s_w = apart_hidden s;
    }) refl)

-- all four hands
pub all_read : (south north west east : List ℕ) → AreHands south north west east
    → deal_read (deal_text (Some (set_of north) ∷ Some (set_of east) ∷ Some (set_of south) ∷ Some (set_of west) ∷ []))
    ≡ Ok (deal_of (Some (set_of north)) (Some (set_of east)) (Some (set_of south)) (Some (set_of west)))
all_read south north west east hands =
    let n = Some (set_of north) in
    let e = Some (set_of east) in
    let s = Some (set_of south) in
    let w = Some (set_of west) in
    let once = hands_once south north west east hands in
    deal_text-read (deal_of n e s w) (sound_deal n e s w (record {
      n_five = shown_is_five north (λ card. omega (arith, hands.inside card)) hands.north_five;
      e_five = shown_is_five east (λ card. omega (arith, hands.inside card)) hands.east_five;
      s_five = shown_is_five south (λ card. omega (arith, hands.inside card)) hands.south_five;
      w_five = shown_is_five west (λ card. omega (arith, hands.inside card)) hands.west_five;
      n_e = apart_shown north east (apart_hands north east (λ card. omega (arith, once card)));
      n_s = apart_shown north south (apart_hands north south (λ card. omega (arith, once card)));
      n_w = apart_shown north west (apart_hands north west (λ card. omega (arith, once card)));
      e_s = apart_shown east south (apart_hands east south (λ card. omega (arith, once card)));
      e_w = apart_shown east west (apart_hands east west (λ card. omega (arith, once card)));
      s_w = apart_shown south west (apart_hands south west (λ card. omega (arith, once card)));
    }) refl)
