-- The suit led is headed in each alike state too, if the card that heads it counts and the rank winners among the sure cards that follow.
use Rattle.std.proofs.Common.{◌≡◌, ◌≢◌, ◌⊎◌, ℕ, suc, ◌+◌, ◌<◌, ◌≤◌, Bool, true, false, not, ◌&&◌, eqb, List, [], ◌∷◌, length, get_or, min, refl, sym, ap, ap₂, subst, ◌∙◌, inl, inr, arith}
use Rattle.std.proofs.lemmas.Bool.{cases_Bool, false≢true, false_from_ne_true}
use Rattle.card_sets.specs.declared.card.Suit.{Suit}
use Rattle.card_sets.specs.declared.seat.Seat.{Seat}
use Rattle.card_sets.specs.Cards.{suit_of, same_suit}
use Rattle.card_sets.specs.SetWords.{has_card, IsCardSet, IsSubset}
use Rattle.card_sets.proofs.Sets.{has_card-take_out as itself_out, has_card-below, IsCardSet-filter, IsSubset-filter}
use Rattle.trick_rules.specs.declared.trump.Trump.{Trump}
use Rattle.trick_rules.specs.declared.trump.Trump.TheVariants.{NoTrump}
use Rattle.trick_rules.specs.Positions.{State, tricks_left, IsState}
use Rattle.trick_rules.specs.Play.{of_suit, take_out, is_declarers, is_trump, hand_of}
use Rattle.trick_rules.proofs.CardLists.{has_card-take_out, take_out-low}
use Rattle.sure_tricks.specs.Sure.{AreHigh, AreSafe, AreSure}
use Rattle.sure_tricks.specs.Headed.{HeadsSuitLed, AreBeyondRuffs}
use Rattle.sure_tricks.proofs.Counting.{count_in, count_out}
use Rattle.sure_tricks.proofs.Hands.{Suffices, hand_set}
use Rattle.sure_tricks.proofs.Picking.{picked}
use Rattle.sure_tricks.proofs.Headed.{only, safe_beyond, headed_suit, our_headed_suit_wins, their_headed_suit_wins}
use Rattle.equivalent_positions.specs.Alike.{IsClosedUp, IsLike, AreAlike, HasAnswer}
use Rattle.equivalent_positions.proofs.Likes.{like_suit, below_counting, alike_tricks}
use Rattle.equivalent_positions.proofs.Answers.{high_alike, safe_alike, sure_cards_stay_sure}
use Rattle.equivalent_positions.proofs.RankWinners.{FirstCount, picked_parts, as_many, high_there}

-- ---- the card that heads the suit

single : (xs : List ℕ) → length xs ≡ 1 → xs ≡ get_or xs 0 0 ∷ []
single [] e = absurd (omega arith)
single (x ∷ []) e = refl
single (x ∷ y ∷ xs) e = absurd (omega arith)

pub heads_there : (counting : List ℕ) (s t : State) (x : Seat) (card : ℕ) → IsClosedUp counting → IsState t → AreAlike counting s t → has_card counting card ≡ true
    → HeadsSuitLed s x card → HeadsSuitLed t x card
heads_there counting s t x card closed ok a counts heads =
    let one = ap (length {A = ℕ}) heads.one in
    let led = get_or t.position.trick.cards 0 0 in
    let played : length t.position.trick.cards ≡ 1 = sym a.played ∙ one in
    let like : IsLike counting heads.led led = subst (λ (l : List ℕ). IsLike counting (get_or l 0 0) led) heads.one (a.trick 0 (omega arith)) in
    let suit : suit_of led ≡ suit_of card = sym (like_suit counting heads.led led like) ∙ heads.suit in
    let low : led < 52 = ok.sound.trick_cards 0 0 (omega arith) in
    let within : IsSubset (card ∷ []) counting = (λ c h. ap (has_card counting) (only card c h) ∙ counts) in
    let below : (seat : Seat) (c : ℕ) → has_card (hand_of t seat) c ≡ true → c < 52 = (λ seat c h. has_card-below (hand_of t seat) c (hand_set t ok seat) h) in
    record {
      led = led;
      one = single t.position.trick.cards played;
      to_come = λ e. heads.to_come (e ∙ sym a.leader);
      held = sym ((a.hands x).same card counts) ∙ heads.held;
      suit = suit;
      higher = elim like as (λ _. led < card) [
        | inl e ↦ subst (λ c. c < card) e heads.higher
        | inr e ↦ below_counting counting closed card led counts e.1 (sym suit) low
      ];
      high = λ seat not_x not_leader. high_alike counting closed (card ∷ []) (hand_of s seat) (hand_of t seat) within ((a.hands seat).same) ((a.hands seat).lengths) (below seat)
          (heads.high seat not_x (λ e. not_leader (e ∙ a.leader)));
      safe = λ seat not_x not_leader. subst (λ trump. AreSafe trump (card ∷ []) (hand_of t seat)) a.trump
          (safe_alike counting closed (card ∷ []) (hand_of s seat) (hand_of t seat) within ((a.hands seat).same) ((a.hands seat).lengths) (below seat) s.position.trump
          (heads.safe seat not_x (λ e. not_leader (e ∙ a.leader))));
    }

-- ---- with sure cards that all count

pub our_headed_suit_answers : (counting : List ℕ) (s : State) (x : Seat) (card : ℕ) (sure : List ℕ) → IsClosedUp counting → has_card counting card ≡ true → IsSubset sure counting
    → HeadsSuitLed s x card → AreSure s x sure → has_card sure card ≡ false → AreBeyondRuffs s.position.trump sure → is_declarers x ≡ true → s.position.need ≤ suc (length sure) → HasAnswer counting s true
our_headed_suit_answers counting s x card sure closed counts within heads are apart beyond side few = λ t ok a.
    our_headed_suit_wins t x card sure ok (heads_there counting s t x card closed ok a counts heads) (sure_cards_stay_sure counting s t x sure closed ok a within are) apart
    (subst (λ trump. AreBeyondRuffs trump sure) a.trump beyond) side (let need = a.need in omega arith)

pub their_headed_suit_answers : (counting : List ℕ) (s : State) (x : Seat) (card : ℕ) (sure : List ℕ) → IsClosedUp counting → has_card counting card ≡ true → IsSubset sure counting
    → HeadsSuitLed s x card → AreSure s x sure → has_card sure card ≡ false → AreBeyondRuffs s.position.trump sure → is_declarers x ≡ false
    → tricks_left s.position < s.position.need + suc (length sure) → HasAnswer counting s false
their_headed_suit_answers counting s x card sure closed counts within heads are apart beyond side many = λ t ok a.
    their_headed_suit_wins t x card sure ok (heads_there counting s t x card closed ok a counts heads) (sure_cards_stay_sure counting s t x sure closed ok a within are) apart
    (subst (λ trump. AreBeyondRuffs trump sure) a.trump beyond) side (let need = a.need in let tricks = alike_tricks counting s t a in omega arith)

-- ---- the rest of its hand

module _ (card : ℕ) (xs ys : List ℕ) (set : IsCardSet xs) (set' : IsCardSet ys) (held : has_card xs card ≡ true) (held' : has_card ys card ≡ true) where
  rest_same : (counting : List ℕ) → ((c : ℕ) → has_card counting c ≡ true → has_card xs c ≡ has_card ys c)
      → (c : ℕ) → has_card counting c ≡ true → has_card (take_out card xs) c ≡ has_card (take_out card ys) c
  rest_same counting same c counts = has_card-take_out card xs c ∙ ap (λ b. b && not (eqb c card)) (same c counts) ∙ sym (has_card-take_out card ys c)

  rest_lengths : ((suit : Suit) → length (of_suit suit xs) ≡ length (of_suit suit ys)) → (suit : Suit) → length (of_suit suit (take_out card xs)) ≡ length (of_suit suit (take_out card ys))
  rest_lengths lengths suit = elim (cases_Bool (same_suit (suit_of card) suit)) as (λ _. length (of_suit suit (take_out card xs)) ≡ length (of_suit suit (take_out card ys))) [
    | inl e ↦ (let one = count_in (λ d. same_suit (suit_of d) suit) xs card set held e in
        let other = count_in (λ d. same_suit (suit_of d) suit) ys card set' held' e in
        let same = lengths suit in
        omega arith)
    | inr e ↦ ap (length {A = ℕ}) (count_out (λ d. same_suit (suit_of d) suit) xs card e) ∙ lengths suit ∙ sym (ap (length {A = ℕ}) (count_out (λ d. same_suit (suit_of d) suit) ys card e))
  ]

-- without the card, this many of the hand's highest of each suit
abbrev pub following : ℕ → (Suit → ℕ) → List ℕ → List ℕ
following card k hand = picked k (take_out card hand)

-- numbers of cards that nobody can ruff
abbrev pub BeyondRuffs : Trump → (Suit → ℕ) → Type 0
BeyondRuffs trump k = (trump ≡ NoTrump) ⊎ ((c : ℕ) → is_trump trump c ≡ false → k (suit_of c) ≡ 0)

pub are_beyond : (trump : Trump) (k : Suit → ℕ) (card : ℕ) (hand : List ℕ) → BeyondRuffs trump k → AreBeyondRuffs trump (following card k hand)
are_beyond trump k card hand beyond = elim beyond as (λ _. AreBeyondRuffs trump (following card k hand)) [
  | inl e ↦ inl e
  | inr trumps ↦ inr (λ c mem. elim (cases_Bool (is_trump trump c)) as (λ _. is_trump trump c ≡ true) [
    | inl e ↦ e
    | inr e ↦ absurd (let few = (picked_parts k (take_out card hand) c mem).1 in let none = trumps c e in omega arith)
  ])
]

is_apart : (k : Suit → ℕ) (card : ℕ) (hand : List ℕ) → has_card (following card k hand) card ≡ false
is_apart k card hand = false_from_ne_true (has_card (following card k hand) card)
    (λ h. false≢true (sym (itself_out hand card) ∙ (picked_parts k (take_out card hand) card h).0))

-- ---- what they answer

module _ (counting : List ℕ) (closed : IsClosedUp counting) (s : State) (ok : IsState s) (x : Seat) (card : ℕ) (counts : has_card counting card ≡ true) (heads : HeadsSuitLed s x card)
    (k : Suit → ℕ) (are : AreSure s x (following card k (hand_of s x))) (beyond : BeyondRuffs s.position.trump k)
    (count : (y : Seat) → y ≢ x → FirstCount counting (λ suit. min (k suit) (length (of_suit suit (hand_of s y)))) (take_out card (hand_of s x))) where
  module _ (t : State) (ok' : IsState t) (a : AreAlike counting s t) where
    held_there : has_card (hand_of t x) card ≡ true
    held_there = sym ((a.hands x).same card counts) ∙ heads.held

    abbrev these : List ℕ
    these = take_out card (hand_of s x)

    abbrev those : List ℕ
    those = take_out card (hand_of t x)

    these_set : IsCardSet these
    these_set = IsCardSet-filter (λ d. not (eqb d card)) (hand_of s x) (hand_set s ok x)

    those_set : IsCardSet those
    those_set = IsCardSet-filter (λ d. not (eqb d card)) (hand_of t x) (hand_set t ok' x)

    same : (c : ℕ) → has_card counting c ≡ true → has_card these c ≡ has_card those c
    same = rest_same card (hand_of s x) (hand_of t x) (hand_set s ok x) (hand_set t ok' x) heads.held held_there counting ((a.hands x).same)

    lengths : (suit : Suit) → length (of_suit suit these) ≡ length (of_suit suit those)
    lengths = rest_lengths card (hand_of s x) (hand_of t x) (hand_set s ok x) (hand_set t ok' x) heads.held held_there ((a.hands x).lengths)

    many : length (picked k these) ≡ length (picked k those)
    many = as_many counting closed k these those these_set those_set same lengths

    beyond_there : BeyondRuffs t.position.trump k
    beyond_there = subst (λ trump. BeyondRuffs trump k) a.trump beyond

    sure_there : AreSure t x (picked k those)
    sure_there = record {
      set = IsCardSet-filter _ those those_set;
      held = λ c h. take_out-low card (hand_of t x) c (IsSubset-filter _ those c h);
      high = λ y differ. high_there counting closed k these those these_set those_set same lengths (hand_of s y) (hand_of t y) (λ c h. has_card-below (hand_of t y) c (hand_set t ok' y) h)
          ((a.hands y).same) ((a.hands y).lengths) (count y differ) (are.high y differ);
      safe = λ y differ. safe_beyond t.position.trump (picked k those) (are_beyond t.position.trump k card (hand_of t x) beyond_there) (hand_of t y);
    }

    suffices_there : (b : Bool) → Suffices b s.position (suc (length (picked k these))) → Suffices b t.position (suc (length (picked k those)))
    suffices_there true h = let need = a.need in let number = many in omega arith
    suffices_there false h = let need = a.need in let number = many in let tricks = alike_tricks counting s t a in omega arith

  pub a_headed_suit_answers : Suffices (is_declarers x) s.position (suc (length (following card k (hand_of s x)))) → HasAnswer counting s (is_declarers x)
  a_headed_suit_answers h = λ t ok' a.
      headed_suit t x card (following card k (hand_of t x)) ok' (heads_there counting s t x card closed ok' a counts heads) (sure_there t ok' a) (is_apart k card (hand_of t x))
      (are_beyond t.position.trump k card (hand_of t x) (beyond_there t ok' a)) (suffices_there t ok' a (is_declarers x) h)
