-- Cards that are seen one after another, and whether one comes twice.
use Rattle.std.proofs.Common.{◌≡◌, ℕ, ◌<◌, ◌≤◌, Bool, true, false, ◌||◌, List, [], ◌∷◌, ◌++◌, refl, sym, ap, ap₂, ◌∙◌, arith, inl, inr}
use Rattle.std.specs.Prelude.{◌==◌}
use Rattle.std.specs.List.{list_any}
use Rattle.std.proofs.Math.Bool.{or_assoc, or_comm}
use Rattle.std.proofs.lemmas.Bool.{cases_lt, ne_eqb}
use Rattle.std.proofs.lemmas.List.Folds.{list_any-append}
use Rattle.card_sets.specs.SetWords.{has_card, cards_where, IsCardSet}
use Rattle.card_sets.proofs.Sets.{has_card-cards_where, has_card-cards_where_past}
use Rattle.pbn_deal.specs.Deal.{has_repeat}
use Rattle.pbn_deal.specs.Dealing.{repeats, Adds}

eqb_comm : (a b : ℕ) → (a == b) ≡ (b == a)
eqb_comm a b = grind (arith)

pub has_card-append : (xs ys : List ℕ) (card : ℕ) → has_card (xs ++ ys) card ≡ (has_card xs card || has_card ys card)
has_card-append xs ys card = list_any-append (λ c. c == card) xs ys

-- ---- the card that is added

past_52 : (set : List ℕ) (card : ℕ) → IsCardSet set → 52 ≤ card → has_card set card ≡ false
past_52 set card a_set past = ap (λ cards. has_card cards card) a_set ∙ has_card-cards_where_past (has_card set) card past

or_false : (a : Bool) → a ≡ (a || false)
or_false true = refl
or_false false = refl

pub Adds-with : (set : List ℕ) (card : ℕ) → IsCardSet set → card < 52 → Adds set (cards_where (λ c. has_card set c || (c == card))) (card ∷ [])
Adds-with set card a_set below c =
    elim (cases_lt c 52) [
      | inl within ↦ has_card-cards_where (λ c. has_card set c || (c == card)) c within ∙ ap (λ b. has_card set c || b) (eqb_comm c card ∙ or_false (card == c))
      | inr past ↦ has_card-cards_where_past (λ c. has_card set c || (c == card)) c past ∙ sym (ap₂ (λ a b. a || b) (past_52 set c a_set past) (sym (or_false (card == c)) ∙ ne_eqb card c (λ same. absurd (omega arith))))
    ]

pub Adds-more : (first second third xs ys : List ℕ) → Adds first second xs → Adds second third ys → Adds first third (xs ++ ys)
Adds-more first second third xs ys one two c =
    two c ∙ ap (λ b. b || has_card ys c) (one c) ∙ or_assoc (has_card first c) (has_card xs c) (has_card ys c) ∙ ap (λ b. has_card first c || b) (sym (has_card-append xs ys c))

pub Adds-none : (set : List ℕ) → Adds set set []
Adds-none set c = or_false (has_card set c)

-- ---- repeats

-- some card of the second list stands in the first
abbrev pub meets : List ℕ → List ℕ → Bool
meets xs ys = list_any (has_card xs) ys

or_swap : (a b c d : Bool) → ((a || b) || (c || d)) ≡ ((a || c) || (b || d))
or_swap true b c d = refl
or_swap false true true d = refl
or_swap false true false d = refl
or_swap false false true d = refl
or_swap false false false d = refl

list_any-or : (p q : ℕ → Bool) (xs : List ℕ) → list_any (λ x. p x || q x) xs ≡ (list_any p xs || list_any q xs)
list_any-or p q [] = refl
list_any-or p q (x ∷ xs) = ap (λ b. (p x || q x) || b) (list_any-or p q xs) ∙ or_swap (p x) (q x) (list_any p xs) (list_any q xs)

list_any-same : (p q : ℕ → Bool) (xs : List ℕ) → ((x : ℕ) → p x ≡ q x) → list_any p xs ≡ list_any q xs
list_any-same p q [] same = refl
list_any-same p q (x ∷ xs) same = ap₂ (λ a b. a || b) (same x) (list_any-same p q xs same)

meets-cons : (x : ℕ) (xs ys : List ℕ) → meets (x ∷ xs) ys ≡ (has_card ys x || meets xs ys)
meets-cons x xs ys = list_any-or (λ y. x == y) (has_card xs) ys ∙ ap (λ b. b || meets xs ys) (list_any-same (λ y. x == y) (λ y. y == x) ys (λ y. eqb_comm x y))

repeat_step : (a b r s m : Bool) → ((a || b) || ((r || s) || m)) ≡ (((a || r) || s) || (b || m))
repeat_step a b r s m = ap (λ x. (a || b) || x) (or_assoc r s m) ∙ or_swap a b r (s || m) ∙ ap (λ x. (a || r) || x) aside ∙ sym (or_assoc (a || r) s (b || m))
  where
    aside : (b || (s || m)) ≡ (s || (b || m))
    aside = sym (or_assoc b s m) ∙ ap (λ x. x || m) (or_comm b s) ∙ or_assoc s b m

pub has_repeat-append : (xs ys : List ℕ) → has_repeat (xs ++ ys) ≡ ((has_repeat xs || has_repeat ys) || meets xs ys)
has_repeat-append [] ys = or_false (has_repeat ys) ∙ ap (λ b. has_repeat ys || b) (sym (none_meet ys)) where
  none_meet : (ys : List ℕ) → meets [] ys ≡ false
  none_meet [] = refl
  none_meet (y ∷ ys) = none_meet ys
has_repeat-append (x ∷ xs) ys =
    ap₂ (λ a b. a || b) (has_card-append xs ys x) (has_repeat-append xs ys)
    ∙ repeat_step (has_card xs x) (has_card ys x) (has_repeat xs) (has_repeat ys) (meets xs ys)
    ∙ ap (λ b. ((has_card xs x || has_repeat xs) || has_repeat ys) || b) (sym (meets-cons x xs ys))

repeats_step : (a b r s m : Bool) → ((a || b) || ((r || s) || m)) ≡ ((a || r) || ((b || m) || s))
repeats_step a b r s m = repeat_step a b r s m ∙ or_assoc (a || r) s (b || m) ∙ ap (λ x. (a || r) || x) (or_comm s (b || m))

-- a list that is read in two parts repeats a card where one of the parts does, the second after the first was seen
pub repeats-append : (seen more xs ys : List ℕ) → Adds seen more xs → repeats seen (xs ++ ys) ≡ (repeats seen xs || repeats more ys)
repeats-append seen more xs ys adds =
    ap₂ (λ a b. a || b) (list_any-append (has_card seen) xs ys) (has_repeat-append xs ys)
    ∙ repeats_step (meets seen xs) (meets seen ys) (has_repeat xs) (has_repeat ys) (meets xs ys)
    ∙ ap (λ b. repeats seen xs || (b || has_repeat ys)) (sym (list_any-same (has_card more) (λ c. has_card seen c || has_card xs c) ys adds ∙ list_any-or (has_card seen) (has_card xs) ys))

pub repeats-none : (cards : List ℕ) → repeats [] cards ≡ has_repeat cards
repeats-none cards = ap (λ b. b || has_repeat cards) (none_meet cards) where
  none_meet : (ys : List ℕ) → meets [] ys ≡ false
  none_meet [] = refl
  none_meet (y ∷ ys) = none_meet ys
