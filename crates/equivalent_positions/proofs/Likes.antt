-- Cards that are like each other, and what alike states have in common.
use Rattle.std.proofs.Common.{◌≡◌, ℕ, ◌<◌, true, false, List, length, get_or, refl, sym, ap, subst, ◌∙◌, inl, inr, arith}
use Rattle.std.proofs.lemmas.Bool.{both_ways, cases_order, false_from_ne_true}
use Rattle.card_sets.specs.declared.card.Suit.{Suit}
use Rattle.card_sets.specs.declared.card.Suit.TheVariants.{Spades, Hearts, Diamonds, Clubs}
use Rattle.card_sets.specs.declared.seat.Seat.TheVariants.{Declarer}
use Rattle.card_sets.specs.Cards.{suit_of}
use Rattle.card_sets.specs.SetWords.{has_card, IsSubset}
use Rattle.trick_rules.specs.Positions.{State, seat_after, to_play, tricks_left, played_count}
use Rattle.trick_rules.specs.Play.{of_suit, decided, is_over}
use Rattle.sure_tricks.proofs.Picking.{by_suits}
use Rattle.equivalent_positions.specs.Alike.{IsClosedUp, IsLike, AreAlike}

-- ---- cards

pub like_suit : (counting : List ℕ) (c d : ℕ) → IsLike counting c d → suit_of c ≡ suit_of d
like_suit counting c d h = elim h as (λ _. suit_of c ≡ suit_of d) [
  | inl e ↦ ap suit_of e
  | inr e ↦ e.2
]

pub like_back : (counting : List ℕ) (c d : ℕ) → IsLike counting c d → IsLike counting d c
like_back counting c d h = elim h as (λ _. IsLike counting d c) [
  | inl e ↦ inl (sym e)
  | inr e ↦ inr (e.1, e.0, sym e.2)
]

pub like_on : (counting : List ℕ) (c d e : ℕ) → IsLike counting c d → IsLike counting d e → IsLike counting c e
like_on counting c d e h k = elim h as (λ _. IsLike counting c e) [
  | inl same ↦ subst (λ x. IsLike counting x e) (sym same) k
  | inr out ↦ elim k as (λ _. IsLike counting c e) [
    | inl same ↦ subst (λ x. IsLike counting c x) same h
    | inr more ↦ inr (out.0, more.1, out.2 ∙ more.2)
  ]
]

-- a card that doesn't count doesn't count in a part either
pub out_of_part : (part counting : List ℕ) (c : ℕ) → IsSubset part counting → has_card counting c ≡ false → has_card part c ≡ false
out_of_part part counting c within out = false_from_ne_true (has_card part c) (λ h. both_ways (has_card counting c) out (within c h))

pub like_less : (part counting : List ℕ) (c d : ℕ) → IsSubset part counting → IsLike counting c d → IsLike part c d
like_less part counting c d within h = elim h as (λ _. IsLike part c d) [
  | inl e ↦ inl e
  | inr e ↦ inr (out_of_part part counting c within e.0, out_of_part part counting d within e.1, e.2)
]

-- only the card itself is like a card that counts
pub like_counts : (counting : List ℕ) (c d : ℕ) → has_card counting c ≡ true → IsLike counting c d → c ≡ d
like_counts counting c d counts h = elim h as (λ _. c ≡ d) [
  | inl e ↦ e
  | inr e ↦ absurd (both_ways (has_card counting c) e.0 counts)
]

-- what doesn't count is lower than what counts
pub below_counting : (counting : List ℕ) → IsClosedUp counting → (c d : ℕ) → has_card counting c ≡ true → has_card counting d ≡ false → suit_of c ≡ suit_of d → d < 52 → d < c
below_counting counting closed c d counts out suit low = elim (cases_order d c) as (λ _. d < c) [
  | inl e ↦ absurd (both_ways (has_card counting d) out (subst (λ x. has_card counting x ≡ true) (sym e) counts))
  | inr e ↦ elim e as (λ _. d < c) [
    | inl less ↦ less
    | inr more ↦ absurd (both_ways (has_card counting d) out (closed c d counts suit more low))
  ]
]

-- ---- states

pub alike_self : (counting : List ℕ) (s : State) → AreAlike counting s s
alike_self counting s = record {
  leader = refl;
  trump = refl;
  need = refl;
  played = refl;
  trick = λ place h. inl refl;
  hands = λ seat. record { same = λ card h. refl; lengths = λ suit. refl };
}

pub alike_back : (counting : List ℕ) (s t : State) → AreAlike counting s t → AreAlike counting t s
alike_back counting s t a = record {
  leader = sym a.leader;
  trump = sym a.trump;
  need = sym a.need;
  played = sym a.played;
  trick = λ place h. like_back counting (get_or s.position.trick.cards place 0) (get_or t.position.trick.cards place 0) (a.trick place (omega (arith, a.played)));
  hands = λ seat. record { same = λ card h. sym ((a.hands seat).same card h); lengths = λ suit. sym ((a.hands seat).lengths suit) };
}

pub alike_on : (counting : List ℕ) (s t u : State) → AreAlike counting s t → AreAlike counting t u → AreAlike counting s u
alike_on counting s t u a b = record {
  leader = a.leader ∙ b.leader;
  trump = a.trump ∙ b.trump;
  need = a.need ∙ b.need;
  played = a.played ∙ b.played;
  trick = λ place h. like_on counting (get_or s.position.trick.cards place 0) (get_or t.position.trick.cards place 0) (get_or u.position.trick.cards place 0)
      (a.trick place h) (b.trick place (omega (arith, a.played)));
  hands = λ seat. record { same = λ card h. (a.hands seat).same card h ∙ (b.hands seat).same card h; lengths = λ suit. (a.hands seat).lengths suit ∙ (b.hands seat).lengths suit };
}

pub alike_less : (part counting : List ℕ) (s t : State) → IsSubset part counting → AreAlike counting s t → AreAlike part s t
alike_less part counting s t within a = record {
  leader = a.leader;
  trump = a.trump;
  need = a.need;
  played = a.played;
  trick = λ place h. like_less part counting (get_or s.position.trick.cards place 0) (get_or t.position.trick.cards place 0) within (a.trick place h);
  hands = λ seat. record { same = λ card h. (a.hands seat).same card (within card h); lengths = (a.hands seat).lengths };
}

-- ---- whose turn it is, and how many tricks are left

pub alike_turn : (counting : List ℕ) (s t : State) → AreAlike counting s t → to_play s.position ≡ to_play t.position
alike_turn counting s t a = ap (λ n. seat_after n s.position.trick.leader) a.played ∙ ap (seat_after (length t.position.trick.cards)) a.leader

pub same_length : (xs ys : List ℕ) → ((suit : Suit) → length (of_suit suit xs) ≡ length (of_suit suit ys)) → length xs ≡ length ys
same_length xs ys same = omega (arith, by_suits xs, by_suits ys, same Spades, same Hearts, same Diamonds, same Clubs)

pub alike_tricks : (counting : List ℕ) (s t : State) → AreAlike counting s t → tricks_left s.position ≡ tricks_left t.position
alike_tricks counting s t a =
    let hand = same_length s.position.declarer t.position.declarer ((a.hands Declarer).lengths) in
    let played : played_count s.position Declarer ≡ played_count t.position Declarer = rw (a.leader, a.played) refl in
    omega arith

pub alike_decided : (counting : List ℕ) (s t : State) → AreAlike counting s t → decided s.position ≡ decided t.position
alike_decided counting s t a = rw (a.need, alike_tricks counting s t a) refl

pub alike_over : (counting : List ℕ) (s t : State) → AreAlike counting s t → is_over s.position ≡ is_over t.position
alike_over counting s t a = rw (alike_tricks counting s t a) refl
