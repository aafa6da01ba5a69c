-- Keys that are alike, and what an entry says of another key.
use Rattle.std.proofs.Common.{◌≡◌, ℕ, ◌+◌, ◌*◌, ◌<◌, Bool, true, false, ◌&&◌, List, [], length, filter, refl, sym, ap, ◌∙◌, arith}
use Rattle.card_sets.specs.declared.card.Suit.{Suit}
use Rattle.card_sets.specs.declared.card.Suit.TheVariants.{Spades, Hearts, Diamonds, Clubs}
use Rattle.card_sets.specs.declared.seat.Seat.{Seat}
use Rattle.card_sets.specs.Cards.{suit_of, same_suit}
use Rattle.card_sets.specs.SetWords.{has_card, IsCardSet}
use Rattle.card_sets.proofs.Sets.{has_card-filter, IsCardSet-filter}
use Rattle.trick_rules.specs.Positions.{TrickValue, IsState}
use Rattle.trick_rules.specs.Play.{of_suit}
use Rattle.double_dummy.specs.Needs.{IsSettled}
use Rattle.double_dummy.specs.Needs.{with_need}
use Rattle.double_dummy.proofs.Thresholds.{with_need-IsState}
use Rattle.equivalent_positions.specs.Alike.{IsLikeHand, AreAlike}
use Rattle.equivalent_positions.proofs.Counting.{like_hands_make_alike_states}
use Rattle.equivalent_positions.proofs.Answers.{an_alike_state_answers}
use Rattle.equivalent_positions.proofs.Needs.{an_answer_settles_other_needs}
use Rattle.dd_solver.specs.declared.key.Key.{Key}
use Rattle.dd_solver.specs.declared.shape.Shape.{Shape}
use Rattle.dd_solver.specs.declared.answer.Answer.{Answer}
use Rattle.dd_solver.specs.Shapes.{lengths_of, shape_of}
use Rattle.dd_solver.specs.Keys.{key_state, HasShape, AreLikeKeys}
use Rattle.dd_solver.specs.Answers.{IsAnswer}
use Rattle.dd_solver.proofs.Shapes.{at_most_13, lengths_small}

-- ---- cards that count

and_true : (b : Bool) → (b && true) ≡ b
and_true true = refl
and_true false = refl

counted_in : (counting xs : List ℕ) (c : ℕ) → has_card counting c ≡ true → has_card (filter (has_card counting) xs) c ≡ has_card xs c
counted_in counting xs c counts = has_card-filter (has_card counting) xs c ∙ ap (λ b. has_card xs c && b) counts ∙ and_true (has_card xs c)

pub same_counting : (counting these those : List ℕ) → filter (has_card counting) these ≡ filter (has_card counting) those → (c : ℕ) → has_card counting c ≡ true → has_card these c ≡ has_card those c
same_counting counting these those e c counts = sym (counted_in counting these c counts) ∙ ap (λ (l : List ℕ). has_card l c) e ∙ counted_in counting those c counts

-- ---- lengths

in_sixteens : (x y a b : ℕ) → y < 16 → b < 16 → x * 16 + y ≡ a * 16 + b → (x ≡ a) × (y ≡ b)
in_sixteens x y a b low low' e = (omega arith, omega arith)

suit_small : (xs : List ℕ) → IsCardSet xs → (suit : Suit) → length (of_suit suit xs) < 16
suit_small xs set suit = omega (arith, at_most_13 suit xs (IsCardSet-filter (λ c. same_suit (suit_of c) suit) xs set))

lengths_same : (xs ys : List ℕ) → IsCardSet xs → IsCardSet ys → lengths_of xs ≡ lengths_of ys → (suit : Suit) → length (of_suit suit xs) ≡ length (of_suit suit ys)
lengths_same xs ys set set' e suit = pick suit
  where
    n : Suit → ℕ
    n u = length (of_suit u xs)

    m : Suit → ℕ
    m u = length (of_suit u ys)

    one : ((n Spades * 16 + n Hearts) * 16 + n Diamonds ≡ (m Spades * 16 + m Hearts) * 16 + m Diamonds) × (n Clubs ≡ m Clubs)
    one = in_sixteens ((n Spades * 16 + n Hearts) * 16 + n Diamonds) (n Clubs) ((m Spades * 16 + m Hearts) * 16 + m Diamonds) (m Clubs) (suit_small xs set Clubs) (suit_small ys set' Clubs) e

    two : (n Spades * 16 + n Hearts ≡ m Spades * 16 + m Hearts) × (n Diamonds ≡ m Diamonds)
    two = in_sixteens (n Spades * 16 + n Hearts) (n Diamonds) (m Spades * 16 + m Hearts) (m Diamonds) (suit_small xs set Diamonds) (suit_small ys set' Diamonds) one.0

    three : (n Spades ≡ m Spades) × (n Hearts ≡ m Hearts)
    three = in_sixteens (n Spades) (n Hearts) (m Spades) (m Hearts) (suit_small xs set Hearts) (suit_small ys set' Hearts) two.0

    pick : (u : Suit) → n u ≡ m u
    pick Spades = three.0
    pick Hearts = three.1
    pick Diamonds = two.1
    pick Clubs = one.1

-- four numbers below 65536 in one
fours : (a b c d a' b' c' d' : ℕ) → b < 65536 → c < 65536 → d < 65536 → b' < 65536 → c' < 65536 → d' < 65536
    → a * 281474976710656 + b * 4294967296 + c * 65536 + d ≡ a' * 281474976710656 + b' * 4294967296 + c' * 65536 + d'
    → (a ≡ a') × (b ≡ b') × (c ≡ c') × (d ≡ d')
fours a b c d a' b' c' d' p q r p' q' r' e =
    let one : a ≡ a' = omega arith in
    let two : b ≡ b' = omega arith in
    let three : c ≡ c' = omega arith in
    (one, two, three, omega arith)

-- ---- alike keys

module _ (counting : List ℕ) (key other : Key) (ok : IsState (key_state key)) (ok' : IsState (key_state other)) (shape : HasShape key) (shape' : HasShape other) (like : AreLikeKeys counting key other) where
  shapes : shape_of (key_state key) ≡ shape_of (key_state other)
  shapes = sym shape ∙ ap (λ (w : Shape). w.lengths) like.shape ∙ shape'

  each : (lengths_of key.declarer ≡ lengths_of other.declarer) × (lengths_of key.dummy ≡ lengths_of other.dummy) × (lengths_of key.unseen ≡ lengths_of other.unseen) × (lengths_of key.left ≡ lengths_of other.left)
  each = fours (lengths_of key.declarer) (lengths_of key.dummy) (lengths_of key.unseen) (lengths_of key.left) (lengths_of other.declarer) (lengths_of other.dummy) (lengths_of other.unseen) (lengths_of other.left)
      (lengths_small key.dummy ok.sound.dummy_set) (lengths_small key.unseen ok.sound.unseen_set) (lengths_small key.left ok.fits.set)
      (lengths_small other.dummy ok'.sound.dummy_set) (lengths_small other.unseen ok'.sound.unseen_set) (lengths_small other.left ok'.fits.set) shapes

  abbrev no_cards : Seat → TrickValue
  no_cards seat = record { leader = seat; cards = [] }

  like_hand : (xs ys : List ℕ) → IsCardSet xs → IsCardSet ys → lengths_of xs ≡ lengths_of ys → ((c : ℕ) → has_card counting c ≡ true → has_card xs c ≡ has_card ys c) → IsLikeHand counting xs ys
  like_hand xs ys set set' e same = record { same = same; lengths = lengths_same xs ys set set' e }

  alike_there : AreAlike counting (with_need (key_state key) other.need) (key_state other)
  alike_there = like_hands_make_alike_states counting (with_need (key_state key) other.need) (key_state other)
      (with_need-IsState (key_state key) other.need ok ok'.sound.need_fits) ok'
      (ap no_cards like.leader) like.trump refl
      (like_hand key.declarer other.declarer ok.sound.declarer_set ok'.sound.declarer_set each.0 like.declarer)
      (like_hand key.dummy other.dummy ok.sound.dummy_set ok'.sound.dummy_set each.1 like.dummy)
      (like_hand key.unseen other.unseen ok.sound.unseen_set ok'.sound.unseen_set each.2 like.unseen)
      (like_hand key.left other.left ok.fits.set ok'.fits.set each.3 like.left)

pub known_there : (key other : Key) (answer : Answer) → IsState (key_state key) → IsState (key_state other) → HasShape key → HasShape other → AreLikeKeys answer.counting key other
    → IsAnswer (key_state key) answer → IsSettled answer.made key.need other.need → IsAnswer (key_state other) answer
known_there key other answer ok ok' shape shape' like known settled = record {
  closed = known.closed;
  answers = an_alike_state_answers answer.counting (with_need (key_state key) other.need) (key_state other) answer.made (alike_there answer.counting key other ok ok' shape shape' like)
      (an_answer_settles_other_needs answer.counting (key_state key) answer.made other.need ok known.answers settled);
}
