-- The bytes of a deal that is written: what all of them pass, and how many there are at most.
use Rattle.std.proofs.Common.{◌≡◌, ℕ, ◌+◌, ◌≤◌, Bool, true, List, [], ◌∷◌, ◌++◌, length, filter, Option, Some, None, refl, ap, ◌∙◌, arith}
use Rattle.std.specs.List.{list_all, join_with_byte}
use Rattle.std.proofs.lemmas.Bool.{and_from}
use Rattle.std.proofs.lemmas.List.{length-append, length-map}
use Rattle.std.proofs.lemmas.List.Folds.{list_all-append}
use Rattle.std.proofs.lemmas.List.Sums.{length-filter, count_by-le-length}
use Rattle.card_sets.specs.declared.card.Suit.{Suit}
use Rattle.card_sets.specs.declared.card.Suit.TheVariants.{Spades, Hearts, Diamonds, Clubs}
use Rattle.card_sets.specs.Cards.{card_of}
use Rattle.card_sets.specs.SetWords.{has_card}
use Rattle.card_letters.specs.Letters.{rank_letter}
use Rattle.pbn_deal.specs.Writing.{ranks_down, suit_text, shown_text, hands_text, deal_text}
use Rattle.pbn_deal.proofs.ReadBack.{suit_text-passes}
use Rattle.pbn_deal.proofs.Written.{hand_text-joined, hands_text-joined}

-- ---- each byte passes

joined-passes : (q : ℕ → Bool) (separator : ℕ) (a b c d : List ℕ) → q separator ≡ true → list_all q a ≡ true → list_all q b ≡ true → list_all q c ≡ true → list_all q d ≡ true
    → list_all q (join_with_byte separator (a ∷ b ∷ c ∷ d ∷ [])) ≡ true
joined-passes q separator a b c d stop in_a in_b in_c in_d =
    let d' = separator ∷ d in
    let c' = separator ∷ (c ++ d') in
    let b' = separator ∷ (b ++ c') in
    let all_d : list_all q d' ≡ true = and_from (q separator) (list_all q d) stop in_d in
    let all_c : list_all q c' ≡ true = and_from (q separator) (list_all q (c ++ d')) stop (list_all-append q c d' ∙ and_from (list_all q c) (list_all q d') in_c all_d) in
    let all_b : list_all q b' ≡ true = and_from (q separator) (list_all q (b ++ c')) stop (list_all-append q b c' ∙ and_from (list_all q b) (list_all q c') in_b all_c) in
    list_all-append q a b' ∙ and_from (list_all q a) (list_all q b') in_a all_b

-- a test that the bytes of every deal pass
pub record PassesDeals (q : ℕ → Bool) : Type 0 where
  pub ranks : list_all (λ rank. q (rank_letter rank)) ranks_down ≡ true
  pub stop : q 46 ≡ true
  pub dash : q 45 ≡ true
  pub space : q 32 ≡ true
  pub colon : q 58 ≡ true
  pub north : q 78 ≡ true

shown_text-passes : (q : ℕ → Bool) → PassesDeals q → (hand : Option (List ℕ)) → list_all q (shown_text hand) ≡ true
shown_text-passes q passes None = and_from (q 45) true passes.dash refl
shown_text-passes q passes (Some cards) =
    ap (list_all q) (hand_text-joined cards)
    ∙ joined-passes q 46 (suit_text cards Spades) (suit_text cards Hearts) (suit_text cards Diamonds) (suit_text cards Clubs) passes.stop
    (suit_text-passes q cards Spades passes.ranks) (suit_text-passes q cards Hearts passes.ranks) (suit_text-passes q cards Diamonds passes.ranks) (suit_text-passes q cards Clubs passes.ranks)

pub deal_text-passes : (q : ℕ → Bool) → PassesDeals q → (n e s w : Option (List ℕ)) → list_all q (deal_text (n ∷ e ∷ s ∷ w ∷ [])) ≡ true
deal_text-passes q passes n e s w =
    let hands = hands_text (n ∷ e ∷ s ∷ w ∷ []) in
    let each : list_all q hands ≡ true =
    ap (list_all q) (hands_text-joined n e s w)
    ∙ joined-passes q 32 (shown_text n) (shown_text e) (shown_text s) (shown_text w) passes.space (shown_text-passes q passes n) (shown_text-passes q passes e) (shown_text-passes q passes s) (shown_text-passes q passes w) in
    and_from (q 78) (list_all q (58 ∷ hands)) passes.north (and_from (q 58) (list_all q hands) passes.colon each)

-- ---- how many bytes there are

length-suit_text : (cards : List ℕ) (suit : Suit) → length (suit_text cards suit) ≤ 13
unfolding suit_text
length-suit_text cards suit =
    let test = λ (rank : ℕ). has_card cards (card_of suit rank) in
    omega (arith, length-map (filter test ranks_down) rank_letter, length-filter test ranks_down, count_by-le-length test ranks_down)

length-joined : (separator : ℕ) (a b c d : List ℕ) → length (join_with_byte separator (a ∷ b ∷ c ∷ d ∷ [])) ≡ length a + length b + length c + length d + 3
length-joined separator a b c d =
    omega (arith, length-append a (separator ∷ (b ++ (separator ∷ (c ++ (separator ∷ d))))), length-append b (separator ∷ (c ++ (separator ∷ d))), length-append c (separator ∷ d))

length-shown_text : (hand : Option (List ℕ)) → length (shown_text hand) ≤ 55
length-shown_text None = omega arith
length-shown_text (Some cards) =
    omega (
      arith,
      ap length (hand_text-joined cards),
      length-joined 46 (suit_text cards Spades) (suit_text cards Hearts) (suit_text cards Diamonds) (suit_text cards Clubs),
      length-suit_text cards Spades,
      length-suit_text cards Hearts,
      length-suit_text cards Diamonds,
      length-suit_text cards Clubs,
    )

pub length-deal_text : (n e s w : Option (List ℕ)) → length (deal_text (n ∷ e ∷ s ∷ w ∷ [])) ≤ 225
length-deal_text n e s w =
    omega (arith, ap length (hands_text-joined n e s w), length-joined 32 (shown_text n) (shown_text e) (shown_text s) (shown_text w), length-shown_text n, length-shown_text e, length-shown_text s, length-shown_text w)
