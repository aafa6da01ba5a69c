-- Gaps closed in several hands at once.
use Rattle.std.proofs.Common.{◌≡◌, ℕ, zero, suc, ◌<◌, ◌≤◌, List, [], ◌∷◌, length, map, get_or, refl, sym, ap, ◌∙◌, arith}
use Rattle.std.specs.Prelude.{slice_set}
use Rattle.std.proofs.lemmas.List.{map-id}
use Rattle.card_sets.specs.Raised.{with_raised}
use Rattle.strategy_games.proofs.Lists.{map-agree}
use Rattle.strategy_games.proofs.Masks.{map-map}
use Rattle.equivalent_nodes.specs.Ranks.{with_gaps_closed}

-- ---- one hand after another

-- what a function makes of the first few
abbrev pub first_mapped : (List ℕ → List ℕ) → ℕ → List (List ℕ) → List (List ℕ)
first_mapped f zero xs = xs
first_mapped f (suc i) [] = []
first_mapped f (suc i) (x ∷ xs) = f x ∷ first_mapped f i xs

pub next_mapped : (f : List ℕ → List ℕ) (xs : List (List ℕ)) (i : ℕ) (x y : List ℕ) → i < length xs → x ≡ get_or (first_mapped f i xs) i x → y ≡ f x
    → slice_set (first_mapped f i xs) i y ≡ first_mapped f (suc i) xs
next_mapped f [] i x y low is made = absurd (omega arith)
next_mapped f (z ∷ zs) zero x y low is made = ap (λ (w : List ℕ). w ∷ zs) (made ∙ ap f is)
next_mapped f (z ∷ zs) (suc i) x y low is made = ap (λ (l : List (List ℕ)). f z ∷ l) (next_mapped f zs i x y (omega arith) is made)

pub all_mapped : (f : List ℕ → List ℕ) (xs : List (List ℕ)) (n : ℕ) → length xs ≤ n → first_mapped f n xs ≡ map f xs
all_mapped f [] zero h = refl
all_mapped f [] (suc n) h = refl
all_mapped f (x ∷ xs) zero h = absurd (omega arith)
all_mapped f (x ∷ xs) (suc n) h = ap (λ (l : List (List ℕ)). f x ∷ l) (all_mapped f xs n (omega arith))

-- ---- one gap after another

pub next_closed : (gap : ℕ) (rest later : List ℕ) (hands raised target : List (List ℕ)) → map (with_gaps_closed rest) hands ≡ target → rest ≡ gap ∷ later
    → raised ≡ map (with_raised gap) hands → map (with_gaps_closed later) raised ≡ target
next_closed gap rest later hands raised target before first up =
    ap (map (with_gaps_closed later)) up
    ∙ map-map (with_gaps_closed later) (with_raised gap) hands
    ∙ map-agree (λ x. with_gaps_closed later (with_raised gap x)) (with_gaps_closed rest) hands (λ x among. sym (ap (λ (l : List ℕ). with_gaps_closed l x) first))
    ∙ before

pub none_left : (rest : List ℕ) (hands target : List (List ℕ)) → map (with_gaps_closed rest) hands ≡ target → rest ≡ [] → hands ≡ target
none_left rest hands target before none =
    sym (map-id hands) ∙ map-agree (λ x. x) (with_gaps_closed rest) hands (λ x among. sym (ap (λ (l : List ℕ). with_gaps_closed l x) none)) ∙ before
