-- Lists of bits: ones, meet, dominance, and the parts that a mask picks.
use Rattle.std.proofs.Common.{◌≡◌, ℕ, suc, zero, ◌+◌, ◌<◌, ◌≤◌, Bool, true, false, ◌&&◌, ◌||◌, [], ◌∷◌, ◌++◌, length, refl, sym, ap, ◌∙◌, ◌≢◌, arith, if◌then◌else◌, get_or, replicate}
use Rattle.std.proofs.lemmas.Bool.Decides.{nat_tests}
use Rattle.std.proofs.lemmas.Bool.{true≢false, false≢true}
use Rattle.std.specs.Bool.{Decides}
use Rattle.std.proofs.Math.Bool.{beq}
use Rattle.std.specs.Cmp.Lexicographic.{pointwise, pointwise_decides}
use Rattle.win_vectors.specs.Vectors.{ones_of, meet_of, either_of, dominates, restrict_of, spread_of, earlier_one, vector_order}
use Rattle.std.specs.declared.cmp.Ordering.TheVariants.{Less, Equal, Greater}
use Rattle.std.specs.Ordering.{nat_cmp}
use Rattle.win_vectors.specs.Fronts.{Vector, IsAtLeast, Dominates}

-- ---- equality

Decides-beq : (x y : Bool) → Decides (beq x y) (x ≡ y)
Decides-beq true true = (λ e. refl, λ e. refl)
Decides-beq true false = (λ e. absurd (false≢true e), λ e. absurd (true≢false e))
Decides-beq false true = (λ e. absurd (false≢true e), λ e. absurd (false≢true e))
Decides-beq false false = (λ e. refl, λ e. refl)

pub Decides-same : (us vs : Vector) → Decides (pointwise beq us vs) (us ≡ vs)
Decides-same us vs = pointwise_decides Decides-beq us vs

-- ---- ones

pub ones_of-append : (us vs : Vector) → ones_of (us ++ vs) ≡ ones_of us + ones_of vs
ones_of-append [] vs = omega arith
ones_of-append (u ∷ us) vs = omega (arith, ones_of-append us vs)

pub ones_of-le : (vs : Vector) → ones_of vs ≤ length vs
ones_of-le [] = omega arith
ones_of-le (true ∷ vs) = omega (arith, ones_of-le vs)
ones_of-le (false ∷ vs) = omega (arith, ones_of-le vs)

-- ---- meet

pub length-meet_of : (us vs : Vector) → length us ≡ length vs → length (meet_of us vs) ≡ length us
length-meet_of [] vs e = refl
length-meet_of (u ∷ us) [] e = omega arith
length-meet_of (u ∷ us) (v ∷ vs) e = omega (arith, length-meet_of us vs (omega arith))

pub get_or-meet_of : (us vs : Vector) (i : ℕ) (d : Bool) → i < length us → i < length vs → get_or (meet_of us vs) i d ≡ (get_or us i d && get_or vs i d)
get_or-meet_of [] vs i d h k = absurd (omega arith)
get_or-meet_of (u ∷ us) [] i d h k = absurd (omega arith)
get_or-meet_of (u ∷ us) (v ∷ vs) zero d h k = refl
get_or-meet_of (u ∷ us) (v ∷ vs) (suc i) d h k = get_or-meet_of us vs i d (omega arith) (omega arith)

pub length-either_of : (us vs : Vector) → length us ≡ length vs → length (either_of us vs) ≡ length us
length-either_of [] vs e = refl
length-either_of (u ∷ us) [] e = omega arith
length-either_of (u ∷ us) (v ∷ vs) e = omega (arith, length-either_of us vs (omega arith))

pub get_or-either_of : (us vs : Vector) (i : ℕ) (d : Bool) → i < length us → i < length vs → get_or (either_of us vs) i d ≡ (get_or us i d || get_or vs i d)
get_or-either_of [] vs i d h k = absurd (omega arith)
get_or-either_of (u ∷ us) [] i d h k = absurd (omega arith)
get_or-either_of (u ∷ us) (v ∷ vs) zero d h k = refl
get_or-either_of (u ∷ us) (v ∷ vs) (suc i) d h k = get_or-either_of us vs i d (omega arith) (omega arith)

-- ---- dominance

pub Decides-dominates : (us vs : Vector) → Decides (dominates us vs) (Dominates us vs)
Decides-dominates [] [] = (λ e. tt, λ d. refl)
Decides-dominates [] (v ∷ vs) = (λ e. absurd (false≢true e), λ d. absurd d)
Decides-dominates (u ∷ us) [] = (λ e. absurd (false≢true e), λ d. absurd d)
Decides-dominates (true ∷ us) (v ∷ vs) = let rest = Decides-dominates us vs in (λ e. (tt, rest.0 e), λ d. rest.1 d.1)
Decides-dominates (false ∷ us) (true ∷ vs) = (λ e. absurd (false≢true e), λ d. absurd d.0)
Decides-dominates (false ∷ us) (false ∷ vs) = let rest = Decides-dominates us vs in (λ e. (tt, rest.0 e), λ d. rest.1 d.1)

pub Dominates-from_places : (us vs : Vector) → length us ≡ length vs → ((i : ℕ) → i < length us → IsAtLeast (get_or us i true) (get_or vs i true)) → Dominates us vs
Dominates-from_places [] [] e h = tt
Dominates-from_places [] (v ∷ vs) e h = absurd (omega arith)
Dominates-from_places (u ∷ us) [] e h = absurd (omega arith)
Dominates-from_places (u ∷ us) (v ∷ vs) e h =
    (h zero (omega arith), Dominates-from_places us vs (omega arith) (λ i within. h (suc i) (omega arith)))

-- ---- the parts that a mask picks

pub restrict_of-push : (vs ms : Vector) (v m : Bool) → length vs ≡ length ms → restrict_of (vs ++ v ∷ []) (ms ++ m ∷ []) ≡ restrict_of vs ms ++ (if m then v ∷ [] else [])
restrict_of-push [] [] v true e = refl
restrict_of-push [] [] v false e = refl
restrict_of-push [] (b ∷ ms) v m e = absurd (omega arith)
restrict_of-push (u ∷ vs) [] v m e = absurd (omega arith)
restrict_of-push (u ∷ vs) (true ∷ ms) v m e = ap (λ us. u ∷ us) (restrict_of-push vs ms v m (omega arith))
restrict_of-push (u ∷ vs) (false ∷ ms) v m e = restrict_of-push vs ms v m (omega arith)

pub spread_of-push_one : (vs ms : Vector) (v : Bool) → length vs ≡ ones_of ms → spread_of (vs ++ v ∷ []) (ms ++ true ∷ []) ≡ spread_of vs ms ++ v ∷ []
spread_of-push_one [] [] v e = refl
spread_of-push_one (u ∷ vs) [] v e = absurd (omega arith)
spread_of-push_one vs (false ∷ ms) v e = ap (λ us. true ∷ us) (spread_of-push_one vs ms v (omega arith))
spread_of-push_one [] (true ∷ ms) v e = absurd (omega arith)
spread_of-push_one (u ∷ vs) (true ∷ ms) v e = ap (λ us. u ∷ us) (spread_of-push_one vs ms v (omega arith))

pub spread_of-push_zero : (vs ms : Vector) → length vs ≡ ones_of ms → spread_of vs (ms ++ false ∷ []) ≡ spread_of vs ms ++ true ∷ []
spread_of-push_zero [] [] e = refl
spread_of-push_zero (u ∷ vs) [] e = absurd (omega arith)
spread_of-push_zero vs (false ∷ ms) e = ap (λ us. true ∷ us) (spread_of-push_zero vs ms (omega arith))
spread_of-push_zero [] (true ∷ ms) e = absurd (omega arith)
spread_of-push_zero (u ∷ vs) (true ∷ ms) e = ap (λ us. u ∷ us) (spread_of-push_zero vs ms (omega arith))

-- a part after a part
pub restrict_of-append : (us vs ms ns : Vector) → length us ≡ length ms → restrict_of (us ++ vs) (ms ++ ns) ≡ restrict_of us ms ++ restrict_of vs ns
restrict_of-append [] vs [] ns e = refl
restrict_of-append [] vs (m ∷ ms) ns e = absurd (omega arith)
restrict_of-append (u ∷ us) vs [] ns e = absurd (omega arith)
restrict_of-append (u ∷ us) vs (true ∷ ms) ns e = ap (λ rest. u ∷ rest) (restrict_of-append us vs ms ns (omega arith))
restrict_of-append (u ∷ us) vs (false ∷ ms) ns e = restrict_of-append us vs ms ns (omega arith)

pub spread_of-append : (us vs ms ns : Vector) → length us ≡ ones_of ms → spread_of (us ++ vs) (ms ++ ns) ≡ spread_of us ms ++ spread_of vs ns
spread_of-append [] vs [] ns e = refl
spread_of-append (u ∷ us) vs [] ns e = absurd (omega arith)
spread_of-append us vs (false ∷ ms) ns e = ap (λ rest. true ∷ rest) (spread_of-append us vs ms ns (omega arith))
spread_of-append [] vs (true ∷ ms) ns e = absurd (omega arith)
spread_of-append (u ∷ us) vs (true ∷ ms) ns e = ap (λ rest. u ∷ rest) (spread_of-append us vs ms ns (omega arith))

-- a mask of ones
pub ones_of-all : (n : ℕ) → ones_of (replicate n true) ≡ n
ones_of-all zero = refl
ones_of-all (suc n) = omega (arith, ones_of-all n)

-- a vector with as many ones as bits
pub all-from_ones : (vs : Vector) → ones_of vs ≡ length vs → vs ≡ replicate (length vs) true
all-from_ones [] e = refl
all-from_ones (true ∷ vs) e = ap (λ rest. true ∷ rest) (all-from_ones vs (omega arith))
all-from_ones (false ∷ vs) e = absurd (omega (arith, ones_of-le vs))

restrict_of-all : (vs : Vector) → restrict_of vs (replicate (length vs) true) ≡ vs
restrict_of-all [] = refl
restrict_of-all (v ∷ vs) = ap (λ rest. v ∷ rest) (restrict_of-all vs)

spread_of-all : (vs : Vector) → spread_of vs (replicate (length vs) true) ≡ vs
spread_of-all [] = refl
spread_of-all (v ∷ vs) = ap (λ rest. v ∷ rest) (spread_of-all vs)

pub restrict_of-all_of : (vs ms : Vector) → length vs ≡ length ms → ms ≡ replicate (length ms) true → restrict_of vs ms ≡ vs
restrict_of-all_of vs ms long all = ap (restrict_of vs) (all ∙ ap (λ n. replicate n true) (sym long)) ∙ restrict_of-all vs

pub spread_of-all_of : (vs ms : Vector) → length vs ≡ ones_of ms → ms ≡ replicate (length ms) true → spread_of vs ms ≡ vs
spread_of-all_of vs ms long all =
    let same : length ms ≡ length vs = sym (long ∙ ap ones_of all ∙ ones_of-all (length ms)) in
    ap (spread_of vs) (all ∙ ap (λ n. replicate n true) same) ∙ spread_of-all vs

-- ---- order

pub earlier_one-same : (vs : Vector) → earlier_one vs vs ≡ Equal
earlier_one-same [] = refl
earlier_one-same (true ∷ vs) = earlier_one-same vs
earlier_one-same (false ∷ vs) = earlier_one-same vs

pub vector_order-same : (vs : Vector) → vector_order vs vs ≡ Equal
vector_order-same vs = rw (earlier_one-same vs) (grind (arith, nat_tests))

-- the two agree below a place where the first has 1 and the second 0
pub record DifferAt (us vs : Vector) (place : ℕ) : Type 0 where
  pub in_first : place < length us
  pub in_second : place < length vs
  pub agree : (i : ℕ) → i < place → get_or us i true ≡ get_or vs i true
  pub one : get_or us place true ≡ true
  pub zero : get_or vs place true ≡ false

-- the same, past the first place
DifferAt-rest : (u v : Bool) (us vs : Vector) (place : ℕ) → DifferAt (u ∷ us) (v ∷ vs) (suc place) → DifferAt us vs place
DifferAt-rest u v us vs place h = record {
  in_first = omega arith;
  in_second = omega arith;
  agree = λ i below. h.agree (suc i) (omega arith);
  one = h.one;
  zero = h.zero;
}

pub earlier_one-less : (us vs : Vector) (place : ℕ) → DifferAt us vs place → earlier_one us vs ≡ Less
earlier_one-less [] vs place h = absurd (omega arith)
earlier_one-less (u ∷ us) [] place h = absurd (omega arith)
earlier_one-less (true ∷ us) (false ∷ vs) place h = refl
earlier_one-less (true ∷ us) (true ∷ vs) zero h = absurd (true≢false h.zero)
earlier_one-less (true ∷ us) (true ∷ vs) (suc place) h = earlier_one-less us vs place (DifferAt-rest true true us vs place h)
earlier_one-less (false ∷ us) (v ∷ vs) zero h = absurd (false≢true h.one)
earlier_one-less (false ∷ us) (true ∷ vs) (suc place) h = absurd (false≢true (h.agree 0 (omega arith)))
earlier_one-less (false ∷ us) (false ∷ vs) (suc place) h = earlier_one-less us vs place (DifferAt-rest false false us vs place h)

-- the other way round
earlier_one-back : (us vs : Vector) → earlier_one us vs ≡ Less → earlier_one vs us ≡ Greater
earlier_one-back [] [] h = absurd cc
earlier_one-back [] (v ∷ vs) h = absurd cc
earlier_one-back (u ∷ us) [] h = refl
earlier_one-back (true ∷ us) (false ∷ vs) h = refl
earlier_one-back (false ∷ us) (true ∷ vs) h = absurd cc
earlier_one-back (true ∷ us) (true ∷ vs) h = earlier_one-back us vs h
earlier_one-back (false ∷ us) (false ∷ vs) h = earlier_one-back us vs h

pub earlier_one-greater : (us vs : Vector) (place : ℕ) → DifferAt vs us place → earlier_one us vs ≡ Greater
earlier_one-greater us vs place h = earlier_one-back vs us (earlier_one-less vs us place h)

-- what the counts, and the first place at which two vectors differ, say of the order
pub order-by_count : (us vs : Vector) → ones_of us ≢ ones_of vs → nat_cmp (ones_of vs) (ones_of us) ≡ vector_order us vs
order-by_count us vs apart = grind (arith, nat_tests)

order-same_count : (us vs : Vector) → ones_of us ≡ ones_of vs → vector_order us vs ≡ earlier_one us vs
order-same_count us vs same = rw same (grind (arith, nat_tests))

pub order-less : (us vs : Vector) (place : ℕ) → ones_of us ≡ ones_of vs → DifferAt us vs place → Less ≡ vector_order us vs
order-less us vs place same at = sym (order-same_count us vs same ∙ earlier_one-less us vs place at)

pub order-greater : (us vs : Vector) (place : ℕ) → ones_of us ≡ ones_of vs → DifferAt vs us place → Greater ≡ vector_order us vs
order-greater us vs place same at = sym (order-same_count us vs same ∙ earlier_one-greater us vs place at)

-- equal bits behind two vectors of one width
earlier_one-append : (us vs ws : Vector) → length us ≡ length vs → earlier_one (us ++ ws) (vs ++ ws) ≡ earlier_one us vs
earlier_one-append [] [] ws e = earlier_one-same ws
earlier_one-append [] (v ∷ vs) ws e = absurd (omega arith)
earlier_one-append (u ∷ us) [] ws e = absurd (omega arith)
earlier_one-append (true ∷ us) (false ∷ vs) ws e = refl
earlier_one-append (false ∷ us) (true ∷ vs) ws e = refl
earlier_one-append (true ∷ us) (true ∷ vs) ws e = earlier_one-append us vs ws (omega arith)
earlier_one-append (false ∷ us) (false ∷ vs) ws e = earlier_one-append us vs ws (omega arith)

pub vector_order-append : (us vs ws : Vector) → length us ≡ length vs → vector_order (us ++ ws) (vs ++ ws) ≡ vector_order us vs
vector_order-append us vs ws e = rw (ones_of-append us ws, ones_of-append vs ws, earlier_one-append us vs ws e) (grind (arith, nat_tests))
