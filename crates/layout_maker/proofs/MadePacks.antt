-- The short pack place by place, sets card by card, and layout files line by line.
use Rattle.std.proofs.Common.{◌≡◌, ℕ, suc, ◌+◌, ◌-◌, ◌/◌, ◌%◌, ◌<◌, ◌≤◌, List, [], ◌∷◌, ◌++◌, length, map, get_or, refl, sym, ap, ap₂, ◌∙◌, arith, append_assoc}
use Rattle.std.specs.Prelude.{◌==◌, ◌||◌}
use Rattle.std.specs.List.{range_with_len, swap}
use Rattle.std.proofs.lemmas.List.{append-nil}
use Rattle.bit_lists.specs.Bits.{below}
use Rattle.card_sets.specs.declared.card.Suit.TheVariants.{Spades, Hearts, Diamonds, Clubs}
use Rattle.card_sets.specs.Cards.{card_of}
use Rattle.card_sets.specs.SetWords.{has_card, cards_where}
use Rattle.card_sets.proofs.Sets.{has_card-cards_where, cards_where-agree, has_card-push}
use Rattle.layout_maker.specs.Generator.{Shuffle, next_state, exchanged, exchanged_from, shuffled, orders}
use Rattle.layout_maker.specs.MadeProblem.{short_pack, set_of, order_line, layout_file}

-- ---- the short pack

-- the card at a place of the short pack
abbrev pub short_card : ℕ → ℕ
short_card place = card_of (get_or (Spades ∷ Hearts ∷ Diamonds ∷ Clubs ∷ []) (place / 5) Spades) (10 + place % 5)

pub short_pack-places : map short_card (range_with_len 0 20) ≡ short_pack
unfolding cards_where below
short_pack-places = refl

-- ---- sets

pub set_of-nil : set_of [] ≡ []
unfolding cards_where below
set_of-nil = refl

pub eqb_comm : (a b : ℕ) → (a == b) ≡ (b == a)
eqb_comm a b = grind (arith)

-- the set of some cards and one more
pub set_of-push : (cards : List ℕ) (card : ℕ) → cards_where (λ c. has_card (set_of cards) c || (c == card)) ≡ set_of (cards ++ card ∷ [])
set_of-push cards card =
    cards_where-agree (λ c. has_card (set_of cards) c || (c == card)) (has_card (cards ++ card ∷ [])) (λ c within.
    ap₂ (λ a b. a || b) (has_card-cards_where (has_card cards) c within) (eqb_comm c card) ∙ sym (has_card-push cards card c))

-- ---- shuffles, exchange by exchange

pub shuffled-start : (shuffle : Shuffle) → exchanged_from (length shuffle.items - 1) shuffle ≡ shuffled shuffle
unfolding shuffled
shuffled-start shuffle = refl

exchanged_from-suc : (place : ℕ) (shuffle : Shuffle) → exchanged_from place (exchanged (suc place) shuffle) ≡ exchanged_from (suc place) shuffle
unfolding exchanged_from
exchanged_from-suc place shuffle = refl

-- one exchange more
pub shuffled-step : (state more : ℕ) (cards those : List ℕ) (place drawn : ℕ) (whole : Shuffle) → 1 < place → more ≡ next_state state → drawn ≡ next_state state % (place - 1 + 1) → those ≡ swap cards (place - 1) drawn
    → exchanged_from (place - 1) (record { items = cards; state = state }) ≡ whole → exchanged_from (place - 1 - 1) (record { items = those; state = more }) ≡ whole
shuffled-step state more cards those place drawn whole inside more-is drawn-is those-is so_far =
    let p = place - 2 in
    let start : Shuffle = record { items = cards; state = state } in
    let at : place - 1 ≡ suc p = omega arith in
    let under : place - 1 - 1 ≡ p = omega arith in
    let items : those ≡ (exchanged (suc p) start).items = those-is ∙ ap₂ (λ n d. swap cards n d) at (drawn-is ∙ ap (λ n. next_state state % (n + 1)) at) in
    ap (λ n. exchanged_from n (record { items = those; state = more })) under
    ∙ ap₂ (λ i s. exchanged_from p (record { items = i; state = s })) items more-is
    ∙ exchanged_from-suc p start ∙ ap (λ n. exchanged_from n start) (sym at) ∙ so_far

-- no exchange more
pub shuffled-end : (place : ℕ) (shuffle whole : Shuffle) → place ≤ 1 → exchanged_from (place - 1) shuffle ≡ whole → shuffle ≡ whole
unfolding exchanged_from
shuffled-end place shuffle whole none so_far =
    let last : 0 ≡ place - 1 = omega arith in
    ap (λ n. exchanged_from n shuffle) last ∙ so_far

-- ---- layout files, line by line

layout_file-suc : (north south : List ℕ) (times : ℕ) (shuffle : Shuffle)
    → order_line north south (shuffled shuffle).items ++ layout_file north south (orders times (shuffled shuffle)) ≡ layout_file north south (orders (suc times) shuffle)
unfolding orders
layout_file-suc north south times shuffle = refl

-- one line more
pub layout_file-step : (text longer north south cards those : List ℕ) (state more count : ℕ) (whole : List ℕ) → count < 40
    → those ≡ (shuffled (record { items = cards; state = state })).items → more ≡ (shuffled (record { items = cards; state = state })).state → longer ≡ text ++ order_line north south those
    → text ++ layout_file north south (orders (40 - count) (record { items = cards; state = state })) ≡ whole → longer ++ layout_file north south (orders (40 - (count + 1)) (record { items = those; state = more })) ≡ whole
layout_file-step text longer north south cards those state more count whole inside those-is more-is longer-is so_far =
    let rest = 40 - (count + 1) in
    let start : Shuffle = record { items = cards; state = state } in
    let times : suc rest ≡ 40 - count = omega arith in
    ap₂ (λ (l : List ℕ) (n : Shuffle). l ++ layout_file north south (orders rest n)) (longer-is ∙ ap (λ i. text ++ order_line north south i) those-is) (ap₂ (λ (i : List ℕ) (s : ℕ). record { items = i; state = s }) those-is more-is)
    ∙ append_assoc text (order_line north south (shuffled start).items) (layout_file north south (orders rest (shuffled start)))
    ∙ ap (λ l. text ++ l) (layout_file-suc north south rest start ∙ ap (λ n. layout_file north south (orders n start)) times) ∙ so_far

-- no line more
pub layout_file-end : (text north south : List ℕ) (shuffle : Shuffle) (count : ℕ) (whole : List ℕ) → 40 ≤ count → text ++ layout_file north south (orders (40 - count) shuffle) ≡ whole → text ≡ whole
unfolding orders
layout_file-end text north south shuffle count whole all so_far =
    let none : 0 ≡ 40 - count = omega arith in
    sym (append-nil text) ∙ ap (λ n. text ++ layout_file north south (orders n shuffle)) none ∙ so_far
