-- The hands that were read are sets of one size with no card in common.
use Rattle.std.proofs.Common.{◌≡◌, ℕ, zero, suc, ◌+◌, ◌-◌, ◌%◌, ◌<◌, ◌≤◌, Bool, true, false, not, ◌||◌, ◌&&◌, cond, nat_le, get_or, List, [], ◌∷◌, length, map, flat_map, take, drop, Option, Some, None, Result, Ok, Err, is_some, refl, sym, ap, ◌∙◌, arith, inl, inr}
use Rattle.std.specs.Prelude.{◌==◌, IfOk}
use Rattle.std.specs.List.{list_all, list_any}
use Rattle.std.proofs.lemmas.Bool.{cases_lt, both_ways, or_parts, or_cases, and_parts, eqb-true, eqb-false, leb-true, false_from_ne_true, eq-eqb, not-false}
use Rattle.std.proofs.lemmas.List.Folds.{list_any-append}
use Rattle.std.proofs.lemmas.List.{take-append-drop, length-append, length-map, get_or-map}
use Rattle.card_sets.specs.declared.seat.Compass.{Compass}
use Rattle.card_sets.specs.declared.seat.Compass.TheVariants.{N, E, S, W}
use Rattle.card_sets.specs.SetWords.{has_card, cards_where, IsCardSet, Apart}
use Rattle.card_sets.proofs.Sets.{IsCardSet-cards_where, has_card-cards_where, has_card-below}
use Rattle.byte_text.specs.Blanks.{after_blanks, words}
use Rattle.pbn_deal.specs.declared.deal.DealValue.{DealValue}
use Rattle.pbn_deal.specs.declared.deal.DealFault.{DealFault}
use Rattle.pbn_deal.specs.declared.deal.DealFault.TheVariants.{HandCount, SuitCount, RankLetter, Repeated, Sizes}
use Rattle.pbn_deal.specs.Hands.{is_hidden, has_four_suits, has_rank_letters, hand_cards, hand_read}
use Rattle.pbn_deal.specs.Deal.{has_repeat, are_one_size, shown_sizes, compass_place, from_north, hands_read, seat_ahead, seat_read, deal_read, hand_at, IsSoundDeal}
use Rattle.pbn_deal.proofs.Cards.{meets, has_card-append, has_repeat-append}

-- ---- cards of different hands are different

fails_at : (p : ℕ → Bool) (xs : List ℕ) (card : ℕ) → list_any p xs ≡ false → has_card xs card ≡ true → p card ≡ false
fails_at p [] card none has = absurd cc
fails_at p (x ∷ xs) card none has =
    let parts = or_parts (p x) (list_any p xs) none in
    elim (or_cases (x == card) (has_card xs card) has) [
      | inl here ↦ ap p (sym (eqb-true x card here)) ∙ parts.0
      | inr later ↦ fails_at p xs card parts.1 later
    ]

has_card-flat_map : {X : Type 0} (f : X → List ℕ) (ws : List X) (j : ℕ) (d : X) (card : ℕ) → j < length ws → has_card (f (get_or ws j d)) card ≡ true → has_card (flat_map f ws) card ≡ true
has_card-flat_map f [] j d card inside has = absurd (omega arith)
has_card-flat_map f (w ∷ ws) zero d card inside has = has_card-append (f w) (flat_map f ws) card ∙ ap (λ b. b || has_card (flat_map f ws) card) has
has_card-flat_map f (w ∷ ws) (suc j) d card inside has =
    has_card-append (f w) (flat_map f ws) card ∙ ap (λ b. has_card (f w) card || b) (has_card-flat_map f ws j d card (omega arith) has) ∙ or_true (has_card (f w) card) where
      or_true : (b : Bool) → (b || true) ≡ true
      or_true true = refl
      or_true false = refl

-- where no card comes twice in all hands, a card of one isn't in another
pub apart_at : {X : Type 0} (f : X → List ℕ) (ws : List X) (i j : ℕ) (d : X) (card : ℕ) → has_repeat (flat_map f ws) ≡ false → i < j → j < length ws
    → has_card (f (get_or ws i d)) card ≡ true → has_card (f (get_or ws j d)) card ≡ false
apart_at f [] i j d card once before inside has = absurd (omega arith)
apart_at f (w ∷ ws) zero zero d card once before inside has = absurd (omega arith)
apart_at f (w ∷ ws) zero (suc j) d card once before inside has =
    let all = sym (has_repeat-append (f w) (flat_map f ws)) ∙ once in
    let meeting = (or_parts (has_repeat (f w) || has_repeat (flat_map f ws)) (meets (f w) (flat_map f ws)) all).1 in
    false_from_ne_true (has_card (f (get_or ws j d)) card) (λ there. both_ways (has_card (f w) card) (fails_at (has_card (f w)) (flat_map f ws) card meeting (has_card-flat_map f ws j d card (omega arith) there)) has)
apart_at f (w ∷ ws) (suc i) zero d card once before inside has = absurd (omega arith)
apart_at f (w ∷ ws) (suc i) (suc j) d card once before inside has =
    let all = sym (has_repeat-append (f w) (flat_map f ws)) ∙ once in
    let own = (or_parts (has_repeat (f w) || has_repeat (flat_map f ws)) (meets (f w) (flat_map f ws)) all).0 in
    apart_at f ws i j d card (or_parts (has_repeat (f w)) (has_repeat (flat_map f ws)) own).1 (omega arith) (omega arith) has

pub apart_either : {X : Type 0} (f : X → List ℕ) (ws : List X) (i j : ℕ) (d : X) (card : ℕ) → has_repeat (flat_map f ws) ≡ false → (i ≡ j → ⊥) → i < length ws → j < length ws
    → has_card (f (get_or ws i d)) card ≡ true → has_card (f (get_or ws j d)) card ≡ false
apart_either f ws i j d card once other i-inside j-inside has =
    elim (cases_lt i j) [
      | inl before ↦ apart_at f ws i j d card once before j-inside has
      | inr after ↦ false_from_ne_true (has_card (f (get_or ws j d)) card) (λ there. both_ways (has_card (f (get_or ws i d)) card) (apart_at f ws j i d card once (omega arith) i-inside there) has)
    ]

-- ---- the hand that a word shows

shown_is : (word hand : List ℕ) → hand_read word ≡ Some hand → hand ≡ cards_where (has_card (hand_cards word))
unfolding hand_read
shown_is word hand shown = from_cond (is_hidden word) (cards_where (has_card (hand_cards word))) hand shown where
  from_cond : (b : Bool) (x y : List ℕ) → cond b None (Some x) ≡ Some y → y ≡ x
  from_cond true x y is = absurd cc
  from_cond false x y is = cc

pub IsCardSet-shown : (word hand : List ℕ) → hand_read word ≡ Some hand → IsCardSet hand
IsCardSet-shown word hand shown = rw (shown_is word hand shown) (IsCardSet-cards_where (has_card (hand_cards word)))

pub Apart-shown : (word other hand cards : List ℕ) → hand_read word ≡ Some hand → hand_read other ≡ Some cards → ((card : ℕ) → has_card (hand_cards word) card ≡ true → has_card (hand_cards other) card ≡ false) → Apart hand cards
Apart-shown word other hand cards shown too apart card has =
    let below = has_card-below hand card (IsCardSet-shown word hand shown) has in
    let here : has_card (hand_cards word) card ≡ true = sym (has_card-cards_where (has_card (hand_cards word)) card below) ∙ ap (λ h. has_card h card) (sym (shown_is word hand shown)) ∙ has in
    ap (λ h. has_card h card) (shown_is other cards too) ∙ has_card-cards_where (has_card (hand_cards other)) card below ∙ apart card here

-- ---- sizes

pub record AreOneSize (sizes : List ℕ) (n : ℕ) : Type 0 where
  pub some : 1 ≤ n
  pub few : n ≤ 13
  pub each : list_all (λ m. m == n) sizes ≡ true

pub one_size_of : (sizes : List ℕ) → are_one_size sizes ≡ true → (n : ℕ) × AreOneSize sizes n
one_size_of [] is = absurd cc
one_size_of (n ∷ sizes) is =
    let a = and_parts (nat_le 1 n && nat_le n 13) (list_all (λ m. m == n) sizes) is in
    let b = and_parts (nat_le 1 n) (nat_le n 13) a.0 in
    (n, record { some = leb-true 1 n b.0; few = leb-true n 13 b.1; each = ap (λ e. e && list_all (λ m. m == n) sizes) (eq-eqb n n refl) ∙ a.1 })

pub size_at : (hands : List (Option (List ℕ))) (n i : ℕ) (hand : List ℕ) → list_all (λ m. m == n) (shown_sizes hands) ≡ true → get_or hands i None ≡ Some hand → length hand ≡ n
size_at [] n i hand each is = absurd cc
size_at (None ∷ hands) n zero hand each is = absurd cc
size_at (Some cards ∷ hands) n zero hand each is =
    let same : cards ≡ hand = cc in
    ap length (sym same) ∙ eqb-true (length cards) n (and_parts (length cards == n) (list_all (λ m. m == n) (shown_sizes hands)) each).0
size_at (None ∷ hands) n (suc i) hand each is = size_at hands n i hand each is
size_at (Some cards ∷ hands) n (suc i) hand each is = size_at hands n i hand (and_parts (length cards == n) (list_all (λ m. m == n) (shown_sizes hands)) each).1 is

pub some_shown : (hands : List (Option (List ℕ))) → are_one_size (shown_sizes hands) ≡ true → list_any is_some hands ≡ true
some_shown [] is = absurd cc
some_shown (None ∷ hands) is = some_shown hands is
some_shown (Some cards ∷ hands) is = refl

-- ---- what an accepted value passed

passes : {A : Type 0} (b : Bool) (fault : DealFault) (rest : Result A DealFault) (x : A) → cond b (Err fault) rest ≡ Ok x → (b ≡ false) × (rest ≡ Ok x)
passes true fault rest x is = absurd cc
passes false fault rest x is = (refl, is)

-- the hands of four words, none of them at fault
pub record IsDealt (first : Compass) (ws : List (List ℕ)) (deal : DealValue) : Type 0 where
  pub four : length ws ≡ 4
  pub once : has_repeat (flat_map hand_cards ws) ≡ false
  pub one_size : are_one_size (shown_sizes (map hand_read ws)) ≡ true
  pub hands : deal.hands ≡ from_north first (map hand_read ws)

abbrev ok_deal : DealValue → Result DealValue DealFault
ok_deal deal = Ok deal

ok_same : (deal other : DealValue) → ok_deal deal ≡ ok_deal other → deal ≡ other
ok_same deal other is = cc

IsDealt-from_ok : (first : Compass) (ws : List (List ℕ)) (deal : DealValue) → hands_read first ws ≡ Ok deal → IsDealt first ws deal
unfolding hands_read
IsDealt-from_ok first ws deal is =
    let made : DealValue = record { hands = from_north first (map hand_read ws) } in
    let sized = cond (not (are_one_size (shown_sizes (map hand_read ws)))) (Err Sizes) (ok_deal made) in
    let unrepeated = cond (has_repeat (flat_map hand_cards ws)) (Err Repeated) sized in
    let lettered = cond (not (list_all has_rank_letters ws)) (Err RankLetter) unrepeated in
    let suited = cond (not (list_all has_four_suits ws)) (Err SuitCount) lettered in
    let a = passes (not (length ws == 4)) HandCount suited deal is in
    let b = passes (not (list_all has_four_suits ws)) SuitCount lettered deal a.1 in
    let c = passes (not (list_all has_rank_letters ws)) RankLetter unrepeated deal b.1 in
    let d = passes (has_repeat (flat_map hand_cards ws)) Repeated sized deal c.1 in
    let e = passes (not (are_one_size (shown_sizes (map hand_read ws)))) Sizes (ok_deal made) deal d.1 in
    record {
      four = eqb-true (length ws) 4 (not-false (length ws == 4) a.0);
      once = d.0;
      one_size = not-false (are_one_size (shown_sizes (map hand_read ws))) e.0;
      hands = ap (λ v. v.hands) (sym (ok_same made deal e.1));
    }

ahead_ok : (ahead : Option (Compass × List ℕ)) (deal : DealValue) → seat_read ahead ≡ Ok deal → (first : Compass) × (ws : List (List ℕ)) × IsDealt first ws deal
ahead_ok None deal is = absurd cc
ahead_ok (Some ahead) deal is = (ahead.0, words ahead.1, IsDealt-from_ok ahead.0 (words ahead.1) deal is)

-- ---- seats

-- how many places the hand of a seat stands behind the first seat's
abbrev turn : Compass → Compass → ℕ
turn first seat = (compass_place seat + (4 - compass_place first)) % 4

place_below : (seat : Compass) → compass_place seat < 4
place_below N = omega arith
place_below E = omega arith
place_below S = omega arith
place_below W = omega arith

turn_below : (first seat : Compass) → turn first seat < 4
turn_below first seat = omega arith

turn_apart : (first seat other : Compass) → (compass_place seat == compass_place other) ≡ false → turn first seat ≡ turn first other → ⊥
turn_apart first seat other differ same = eqb-false (compass_place seat) (compass_place other) differ (omega (arith, place_below first, place_below seat, place_below other))

abbrev Hands : Type 0
Hands = List (Option (List ℕ))

turned_four : (first seat : Compass) (a b c d : Option (List ℕ)) → get_or (from_north first (a ∷ b ∷ c ∷ d ∷ [])) (compass_place seat) None ≡ get_or (a ∷ b ∷ c ∷ d ∷ []) (turn first seat) None
turned_four N N a b c d = refl
turned_four N E a b c d = refl
turned_four N S a b c d = refl
turned_four N W a b c d = refl
turned_four E N a b c d = refl
turned_four E E a b c d = refl
turned_four E S a b c d = refl
turned_four E W a b c d = refl
turned_four S N a b c d = refl
turned_four S E a b c d = refl
turned_four S S a b c d = refl
turned_four S W a b c d = refl
turned_four W N a b c d = refl
turned_four W E a b c d = refl
turned_four W S a b c d = refl
turned_four W W a b c d = refl

turned : (first seat : Compass) (hands : Hands) → length hands ≡ 4 → get_or (from_north first hands) (compass_place seat) None ≡ get_or hands (turn first seat) None
turned first seat [] four = absurd (omega (arith, four))
turned first seat (a ∷ []) four = absurd (omega (arith, four))
turned first seat (a ∷ b ∷ []) four = absurd (omega (arith, four))
turned first seat (a ∷ b ∷ c ∷ []) four = absurd (omega (arith, four))
turned first seat (a ∷ b ∷ c ∷ d ∷ []) four = turned_four first seat a b c d
turned first seat (a ∷ b ∷ c ∷ d ∷ e ∷ rest) four = absurd (omega (arith, four))

-- the hand of a seat is what its word shows
at_seat : (first seat : Compass) (ws : List (List ℕ)) (deal : DealValue) → IsDealt first ws deal → hand_at deal seat ≡ hand_read (get_or ws (turn first seat) [])
at_seat first seat ws deal dealt =
    let four : length (map hand_read ws) ≡ 4 = length-map ws hand_read ∙ dealt.four in
    ap (λ hands. get_or hands (compass_place seat) None) dealt.hands ∙ turned first seat (map hand_read ws) four
    ∙ get_or-map hand_read ws (turn first seat) [] None (omega (arith, dealt.four, turn_below first seat))

or_comm : (a b : Bool) → (a || b) ≡ (b || a)
or_comm true true = refl
or_comm true false = refl
or_comm false true = refl
or_comm false false = refl

some_turned : (first : Compass) (hands : Hands) → list_any is_some (from_north first hands) ≡ list_any is_some hands
some_turned first hands =
    let k = 4 - compass_place first in
    list_any-append is_some (drop k hands) (take k hands) ∙ or_comm (list_any is_some (drop k hands)) (list_any is_some (take k hands))
    ∙ sym (list_any-append is_some (take k hands) (drop k hands)) ∙ ap (list_any is_some) (take-append-drop k hands)

length_turned : (first : Compass) (hands : Hands) → length (from_north first hands) ≡ length hands
length_turned first hands =
    let k = 4 - compass_place first in
    omega (arith, length-append (drop k hands) (take k hands), length-append (take k hands) (drop k hands), ap length (take-append-drop k hands))

IsSoundDeal-from_dealt : (first : Compass) (ws : List (List ℕ)) (deal : DealValue) → IsDealt first ws deal → IsSoundDeal deal
IsSoundDeal-from_dealt first ws deal dealt =
    let word : Compass → List ℕ = λ seat. get_or ws (turn first seat) [] in
    let shows : (seat : Compass) (hand : List ℕ) → hand_at deal seat ≡ Some hand → hand_read (word seat) ≡ Some hand = λ seat hand at. sym (at_seat first seat ws deal dealt) ∙ at in
    let size = one_size_of (shown_sizes (map hand_read ws)) dealt.one_size in
    let length_at : (seat : Compass) (hand : List ℕ) → hand_at deal seat ≡ Some hand → length hand ≡ size.0 =
    λ seat hand at. size_at (map hand_read ws) size.0 (turn first seat) hand size.1.each
    (get_or-map hand_read ws (turn first seat) [] None (omega (arith, dealt.four, turn_below first seat)) ∙ shows seat hand at) in
    record {
      four = ap length dealt.hands ∙ length_turned first (map hand_read ws) ∙ length-map ws hand_read ∙ dealt.four;
      shown = ap (list_any is_some) dealt.hands ∙ some_turned first (map hand_read ws) ∙ some_shown (map hand_read ws) dealt.one_size;
      set = λ seat hand at. IsCardSet-shown (word seat) hand (shows seat hand at);
      some = λ seat hand at. omega (arith, length_at seat hand at, size.1.some);
      few = λ seat hand at. omega (arith, length_at seat hand at, size.1.few);
      one_size = λ seat other hand cards at there. length_at seat hand at ∙ sym (length_at other cards there);
      apart = λ seat other hand cards differ at there. Apart-shown (word seat) (word other) hand cards (shows seat hand at) (shows other cards there)
          (λ card has. apart_either hand_cards ws (turn first seat) (turn first other) [] card dealt.once (turn_apart first seat other differ) (omega (arith, dealt.four, turn_below first seat)) (omega (arith, dealt.four, turn_below first other)) has);
    }

pub IsSoundDeal-read : (value : List ℕ) (result : Result DealValue DealFault) → result ≡ deal_read value → IfOk result IsSoundDeal
unfolding deal_read
IsSoundDeal-read value (Ok deal) is =
    let dealt = ahead_ok (seat_ahead (after_blanks value)) deal (sym is) in
    IsSoundDeal-from_dealt dealt.0 dealt.1 deal dealt.2
IsSoundDeal-read value (Err fault) is = tt
