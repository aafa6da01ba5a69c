-- Every fact about a defender's hand is listed.
use Rattle.std.proofs.Common.{◌≡◌, ◌∙◌, ℕ, zero, suc, ◌+◌, ◌-◌, ◌<◌, ◌≤◌, false, List, [], ◌∷◌, flat_map, Contains, refl, sym, subst, arith}
use Rattle.std.specs.List.{range_with_len}
use Rattle.std.proofs.lemmas.Bool.{true≢false}
use Rattle.std.proofs.lemmas.List.Elements.{Contains-append_left, Contains-append_right}
use Rattle.std.proofs.lemmas.List.FromFn.{length-range_with_len, get_or-range_with_len}
use Rattle.card_sets.specs.declared.card.Suit.{Suit}
use Rattle.card_sets.specs.declared.card.Suit.TheVariants.{Spades, Hearts, Diamonds, Clubs}
use Rattle.card_sets.specs.declared.seat.Seat.{Seat}
use Rattle.card_sets.specs.declared.seat.Seat.TheVariants.{Declarer, Left, Dummy, Right}
use Rattle.card_sets.specs.Cards.{card_of}
use Rattle.trick_rules.specs.Play.{is_declarers}
use Rattle.layout_facts.specs.declared.fact.Fact.{Fact}
use Rattle.layout_facts.specs.declared.fact.Fact.TheVariants.{Holds, Exactly, AtLeast}
use Rattle.layout_facts.specs.Facts.{suits, holding, holdings, all_holdings, suit_lengths, lengths, all_lengths, facts}
use Rattle.layout_facts.specs.FactLaws.{EachHoldingIsListed, EachLengthIsListed}

within : {X Y : Type 0} (f : X → List Y) (xs : List X) (x : X) (y : Y) → Contains xs x → Contains (f x) y → Contains (flat_map f xs) y
within f [] x y there here = absurd (omega (arith, there.1))
within f (z ∷ xs) x y (zero, low, is) here = Contains-append_left (f z) (flat_map f xs) y (subst (λ w. Contains (f w) y) (sym is) here)
within f (z ∷ xs) x y (suc k, low, is) here = Contains-append_right (f z) (flat_map f xs) y (within f xs x y (k, omega arith, is) here)

numbered : (n k : ℕ) → k < n → Contains (range_with_len 0 n) k
numbered n k low =
    let here : 0 + k ≡ k = omega arith in
    (k, omega (arith, length-range_with_len 0 n), get_or-range_with_len 0 n k k low ∙ here)

each_suit : (suit : Suit) → Contains suits suit
each_suit Spades = (0, omega arith, refl)
each_suit Hearts = (1, omega arith, refl)
each_suit Diamonds = (2, omega arith, refl)
each_suit Clubs = (3, omega arith, refl)

held : (seat : Seat) (suit : Suit) (rank : ℕ) → is_declarers seat ≡ false → Contains (holding rank suit) (Holds seat (card_of suit rank))
held Left suit rank theirs = (0, omega arith, refl)
held Right suit rank theirs = (1, omega arith, refl)
held Declarer suit rank theirs = absurd (true≢false theirs)
held Dummy suit rank theirs = absurd (true≢false theirs)

pub each_holding : EachHoldingIsListed
unfolding facts all_holdings
each_holding seat suit rank theirs low high =
    let place : 14 - (14 - rank) ≡ rank = omega arith in
    Contains-append_left all_holdings all_lengths (Holds seat (card_of suit rank))
    (within (λ k. holdings (14 - k)) (range_with_len 0 13) (14 - rank) (Holds seat (card_of suit rank)) (numbered 13 (14 - rank) (omega arith))
    (subst (λ r. Contains (holdings r) (Holds seat (card_of suit rank))) (sym place)
    (within (holding rank) suits suit (Holds seat (card_of suit rank)) (each_suit suit) (held seat suit rank theirs))))

counted : (count : ℕ) (suit : Suit) (fact : Fact) → count ≤ 13 → Contains (suit_lengths count suit) fact → Contains facts fact
unfolding facts all_lengths
counted count suit fact few here =
    Contains-append_right all_holdings all_lengths fact
    (within lengths (range_with_len 0 14) count fact (numbered 14 count (omega arith)) (within (suit_lengths count) suits suit fact (each_suit suit) here))

pub each_length : EachLengthIsListed
each_length Left suit count theirs few = (counted count suit (Exactly Left suit count) few (0, omega arith, refl), counted count suit (AtLeast Left suit count) few (1, omega arith, refl))
each_length Right suit count theirs few = (counted count suit (Exactly Right suit count) few (2, omega arith, refl), counted count suit (AtLeast Right suit count) few (3, omega arith, refl))
each_length Declarer suit count theirs few = absurd (true≢false theirs)
each_length Dummy suit count theirs few = absurd (true≢false theirs)
