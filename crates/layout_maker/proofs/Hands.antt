-- Hands of a size out of a set of cards.
use Rattle.std.proofs.Common.{◌≡◌, ℕ, zero, suc, ◌+◌, ◌<◌, Bool, true, false, cond, List, [], ◌∷◌, ◌++◌, map, length, refl, sym, ap, ap₂, ◌∙◌, subst, arith}
use Rattle.std.specs.Prelude.{◌==◌, ◌&&◌, ◌||◌, filter, All}
use Rattle.std.specs.List.{list_all}
use Rattle.std.proofs.lemmas.Bool.{eq-eqb, ne_eqb, both_ways, and_parts, or_right, false_from_ne_true}
use Rattle.std.proofs.lemmas.List.{length-append, length-map}
use Rattle.std.proofs.lemmas.List.Elements.{All-nil, All-cons, All-head, All-tail, All-append, All-map, All-weaker}
use Rattle.card_sets.specs.SetWords.{has_card, IsCardSet, IsSubset}
use Rattle.card_sets.proofs.Sets.{has_card-filter, filter-none, IsCardSet-filter, IsCardSet-tail, tail-after}
use Rattle.layout_maker.specs.Divisions.{hands_of_size}
use Rattle.layout_maker.specs.Choosing.{ways}

-- ---- lists

pub filter-same : {X : Type 0} (p q : X → Bool) (xs : List X) → All (λ x. p x ≡ q x) xs → filter p xs ≡ filter q xs
filter-same p q [] same = refl
filter-same p q (x ∷ xs) same =
    ap (λ b. cond b (x ∷ filter p xs) (filter p xs)) (All-head (λ y. p y ≡ q y) x xs same)
    ∙ ap (λ ys. cond (q x) (x ∷ ys) ys) (filter-same p q xs (All-tail (λ y. p y ≡ q y) x xs same))

pub map-same : {X Y : Type 0} (f g : X → Y) (xs : List X) → All (λ x. f x ≡ g x) xs → map f xs ≡ map g xs
map-same f g [] same = refl
map-same f g (x ∷ xs) same = ap₂ (λ y ys. y ∷ ys) (All-head (λ y. f y ≡ g y) x xs same) (map-same f g xs (All-tail (λ y. f y ≡ g y) x xs same))

pub map-map : {X Y Z : Type 0} (f : Y → Z) (g : X → Y) (xs : List X) → map f (map g xs) ≡ map (λ x. f (g x)) xs
map-map f g [] = refl
map-map f g (x ∷ xs) = ap (λ ys. f (g x) ∷ ys) (map-map f g xs)

pub map-append : {X Y : Type 0} (f : X → Y) (xs ys : List X) → map f (xs ++ ys) ≡ map f xs ++ map f ys
map-append f [] ys = refl
map-append f (x ∷ xs) ys = ap (λ zs. f x ∷ zs) (map-append f xs ys)

if_mapped : {X Y : Type 0} (f : X → Y) (b : Bool) (x : X) (xs : List X) → cond b (f x ∷ map f xs) (map f xs) ≡ map f (cond b (x ∷ xs) xs)
if_mapped f true x xs = refl
if_mapped f false x xs = refl

pub filter-map : {X Y : Type 0} (p : Y → Bool) (f : X → Y) (xs : List X) → filter p (map f xs) ≡ map f (filter (λ x. p (f x)) xs)
filter-map p f [] = refl
filter-map p f (x ∷ xs) = ap (λ ys. cond (p (f x)) (f x ∷ ys) ys) (filter-map p f xs) ∙ if_mapped f (p (f x)) x (filter (λ x. p (f x)) xs)

pub filter-nothing : {X : Type 0} (p : X → Bool) (xs : List X) → All (λ x. p x ≡ false) xs → filter p xs ≡ []
filter-nothing p [] fails = refl
filter-nothing p (x ∷ xs) fails =
    ap (λ b. cond b (x ∷ filter p xs) (filter p xs)) (All-head (λ y. p y ≡ false) x xs fails) ∙ filter-nothing p xs (All-tail (λ y. p y ≡ false) x xs fails)

filter-true : {X : Type 0} (p : X → Bool) (xs : List X) → filter (λ x. true && p x) xs ≡ filter p xs
filter-true p [] = refl
filter-true p (x ∷ xs) = ap (λ ys. cond (p x) (x ∷ ys) ys) (filter-true p xs)

filter-false : {X : Type 0} (p : X → Bool) (xs : List X) → filter (λ x. false && p x) xs ≡ []
filter-false p [] = refl
filter-false p (x ∷ xs) = filter-false p xs

-- a test that doesn't look at the elements
pub filter-guard : {X : Type 0} (b : Bool) (p : X → Bool) (xs : List X) → filter (λ x. b && p x) xs ≡ cond b (filter p xs) []
filter-guard true p xs = filter-true p xs
filter-guard false p xs = filter-false p xs

pub filter-members : (p q : ℕ → Bool) (xs : List ℕ) → ((c : ℕ) → has_card xs c ≡ true → p c ≡ q c) → filter p xs ≡ filter q xs
filter-members p q [] same = refl
filter-members p q (x ∷ xs) same =
    ap (λ b. cond b (x ∷ filter p xs) (filter p xs)) (same x (ap (λ e. e || has_card xs x) (eq-eqb x x refl)))
    ∙ ap (λ ys. cond (q x) (x ∷ ys) ys) (filter-members p q xs (λ c holds. same c (or_right (x == c) (has_card xs c) holds)))

pub list_all-members : (p q : ℕ → Bool) (xs : List ℕ) → ((c : ℕ) → has_card xs c ≡ true → p c ≡ q c) → list_all p xs ≡ list_all q xs
list_all-members p q [] same = refl
list_all-members p q (x ∷ xs) same =
    ap₂ (λ a b. a && b) (same x (ap (λ e. e || has_card xs x) (eq-eqb x x refl))) (list_all-members p q xs (λ c holds. same c (or_right (x == c) (has_card xs c) holds)))

-- ---- a hand chosen from some cards

-- a hand that is what some choice of these cards leaves
abbrev pub IsPart : List ℕ → List ℕ → Type 0
IsPart cards hand = filter (has_card hand) cards ≡ hand

pub IsPart-IsSubset : (cards hand : List ℕ) → IsPart cards hand → IsSubset hand cards
IsPart-IsSubset cards hand part c holds =
    (and_parts (has_card cards c) (has_card hand c) (sym (has_card-filter (has_card hand) cards c) ∙ ap (λ h. has_card h c) part ∙ holds)).0

pub IsPart-IsCardSet : (cards hand : List ℕ) → IsCardSet cards → IsPart cards hand → IsCardSet hand
IsPart-IsCardSet cards hand a_set part = subst IsCardSet part (IsCardSet-filter (has_card hand) cards a_set)

-- the first card of a set isn't among the others
pub head_absent : (card : ℕ) (cards : List ℕ) → IsCardSet (card ∷ cards) → has_card cards card ≡ false
head_absent card cards a_set = false_from_ne_true (has_card cards card) (λ holds. absurd (omega (arith, tail-after card cards a_set card holds)))

-- nor is each of the others the first
pub head_differs : (card : ℕ) (cards : List ℕ) → IsCardSet (card ∷ cards) → (c : ℕ) → has_card cards c ≡ true → (card == c) ≡ false
head_differs card cards a_set c holds = ne_eqb card c (λ same. absurd (omega (arith, tail-after card cards a_set c holds)))

pub part_absent : (card : ℕ) (cards hand : List ℕ) → IsCardSet (card ∷ cards) → IsPart cards hand → has_card hand card ≡ false
part_absent card cards hand a_set part =
    false_from_ne_true (has_card hand card) (λ holds. both_ways (has_card cards card) (head_absent card cards a_set) (IsPart-IsSubset cards hand part card holds))

pub part_with : (card : ℕ) (cards hand : List ℕ) → IsCardSet (card ∷ cards) → IsPart cards hand → IsPart (card ∷ cards) (card ∷ hand)
part_with card cards hand a_set part =
    let others : filter (has_card (card ∷ hand)) cards ≡ hand =
    filter-members (has_card (card ∷ hand)) (has_card hand) cards (λ c holds. ap (λ e. e || has_card hand c) (head_differs card cards a_set c holds)) ∙ part in
    ap (λ b. cond (b || has_card hand card) (card ∷ filter (has_card (card ∷ hand)) cards) (filter (has_card (card ∷ hand)) cards)) (eq-eqb card card refl) ∙ ap (λ h. card ∷ h) others

pub part_without : (card : ℕ) (cards hand : List ℕ) → IsCardSet (card ∷ cards) → IsPart cards hand → IsPart (card ∷ cards) hand
part_without card cards hand a_set part =
    ap (λ b. cond b (card ∷ filter (has_card hand) cards) (filter (has_card hand) cards)) (part_absent card cards hand a_set part) ∙ part

-- each hand of a size is such a choice
pub hands_are_parts : (size : ℕ) (cards : List ℕ) → IsCardSet cards → All (IsPart cards) (hands_of_size size cards)
hands_are_parts zero cards a_set = All-cons (IsPart cards) [] [] (filter-none (has_card []) cards (λ c holds. refl)) (All-nil (IsPart cards))
hands_are_parts (suc size) [] a_set = All-nil (IsPart [])
hands_are_parts (suc size) (card ∷ cards) a_set =
    let tail_set = IsCardSet-tail card cards a_set in
    All-append (IsPart (card ∷ cards)) (map (λ hand. card ∷ hand) (hands_of_size size cards)) (hands_of_size (suc size) cards)
    (All-map (IsPart (card ∷ cards)) (λ hand. card ∷ hand) (hands_of_size size cards)
    (All-weaker (IsPart cards) (λ hand. IsPart (card ∷ cards) (card ∷ hand)) (λ hand part. part_with card cards hand a_set part) (hands_of_size size cards) (hands_are_parts size cards tail_set)))
    (All-weaker (IsPart cards) (IsPart (card ∷ cards)) (λ hand part. part_without card cards hand a_set part) (hands_of_size (suc size) cards) (hands_are_parts (suc size) cards tail_set))

-- and has that size
pub hands_have_size : (size : ℕ) (cards : List ℕ) → All (λ hand. length hand ≡ size) (hands_of_size size cards)
hands_have_size zero cards = All-cons (λ hand. length hand ≡ 0) [] [] refl (All-nil (λ hand. length hand ≡ 0))
hands_have_size (suc size) [] = All-nil (λ hand. length hand ≡ suc size)
hands_have_size (suc size) (card ∷ cards) =
    All-append (λ hand. length hand ≡ suc size) (map (λ hand. card ∷ hand) (hands_of_size size cards)) (hands_of_size (suc size) cards)
    (All-map (λ hand. length hand ≡ suc size) (λ hand. card ∷ hand) (hands_of_size size cards)
    (All-weaker (λ hand. length hand ≡ size) (λ hand. length (card ∷ hand) ≡ suc size) (λ hand same. omega arith) (hands_of_size size cards) (hands_have_size size cards)))
    (hands_have_size (suc size) cards)

-- ---- how many hands there are

pub length-hands_of_size : (size : ℕ) (cards : List ℕ) → length (hands_of_size size cards) ≡ ways (length cards) size
length-hands_of_size zero cards = refl
length-hands_of_size (suc size) [] = refl
length-hands_of_size (suc size) (card ∷ cards) =
    length-append (map (λ hand. card ∷ hand) (hands_of_size size cards)) (hands_of_size (suc size) cards)
    ∙ ap₂ (λ m n. m + n) (length-map (hands_of_size size cards) (λ hand. card ∷ hand) ∙ length-hands_of_size size cards) (length-hands_of_size (suc size) cards)

-- none of more cards than there are
pub ways-none : (things chosen : ℕ) → things < chosen → ways things chosen ≡ 0
ways-none things zero less = absurd (omega arith)
ways-none zero (suc chosen) less = refl
ways-none (suc things) (suc chosen) less = ap₂ (λ m n. m + n) (ways-none things chosen (omega arith)) (ways-none things (suc chosen) (omega arith))

nil_from_length : {X : Type 0} (xs : List X) → length xs ≡ 0 → xs ≡ []
nil_from_length [] none = refl
nil_from_length (x ∷ xs) none = absurd (omega arith)

pub hands_of_size-none : (size : ℕ) (cards : List ℕ) → length cards < size → hands_of_size size cards ≡ []
hands_of_size-none size cards less = nil_from_length (hands_of_size size cards) (length-hands_of_size size cards ∙ ways-none (length cards) size less)
