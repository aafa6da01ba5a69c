-- Two vectors compared layout by layout.
use Rattle.std.proofs.Common.{◌≡◌, ◌≤◌, ◌+◌, ◌-◌, ◌==◌, ℕ, Bool, true, false, not, None, Some, Ok, List, length, take, map, refl, sym, ap, ◌∙◌, subst, arith}
use Rattle.std.specs.List.{slice_get}
use Rattle.std.proofs.Math.Bool.{beq}
use Rattle.std.proofs.lemmas.Bool.{false≢true}
use Rattle.std.specs.Option.{option_map}
use Rattle.std.proofs.lemmas.Option.{slice_get-map, slice_get_within, get_or_from_slice_get}
use Rattle.std.proofs.lemmas.List.{take_more_same, take_all, length-map}
use Rattle.win_vectors.specs.Fronts.{Vector}
use Rattle.trick_rules.specs.Positions.{State}
use Rattle.trick_rules.specs.Nodes.{NodeValue, IsNode, states}
use Rattle.strategy_games.specs.Plans.{Plan, Fits, wins, wins_vector}
use Rattle.strategy_games.specs.Misfits.{node_count, first_misfit}
use Rattle.strategy_tree.specs.Bridge.{bridge}
use Rattle.strategy_tree.proofs.BridgeLaws as laws
use Rattle.strategy_check.specs.Counting.{counted_nodes}
use Rattle.strategy_check.proofs.Counts.{counted_nodes-none}
use Rattle.strategy_check.specs.Following.{CanFollow}
use Rattle.strategy_check.specs.Verdicts.{IsFirstDifference}

abbrev pub state_at : NodeValue → List ℕ → State
state_at n left = record { position = n.position; left = left }

slice_get-mapped : {A B : Type 0} (f : A → B) (xs : List A) (k : ℕ) (x : A) → slice_get xs k ≡ Some x → slice_get (map f xs) k ≡ Some (f x)
slice_get-mapped f xs k x h = slice_get-map f xs k ∙ ap (option_map f) h

state-read : (n : NodeValue) (place : ℕ) (left : List ℕ) → slice_get n.lefts place ≡ Some left → slice_get (states n) place ≡ Some (state_at n left)
state-read n place left h = slice_get-mapped (state_at n) n.lefts place left h

-- a layout of the node in which the plan can be followed
pub follow_from : (plan : Plan ℕ) (n : NodeValue) (moves place : ℕ) (left : List ℕ) → IsNode n → Fits bridge plan n moves → slice_get n.lefts place ≡ Some left → CanFollow plan (state_at n left)
follow_from plan n moves place left sound fits h =
    let read = state-read n place left h in
    record {
      node = n;
      moves = moves;
      sound = sound;
      among = (place, slice_get_within (states n) place (state_at n left) read, get_or_from_slice_get (states n) place (state_at n left) (state_at n left) read);
      fits = fits;
    }

-- the plan's bit of a layout
pub own_bit : (plan : Plan ℕ) (n : NodeValue) (place : ℕ) (left : List ℕ) → slice_get n.lefts place ≡ Some left → slice_get (wins_vector bridge plan n) place ≡ Some (wins bridge plan (state_at n left))
own_bit plan n place left h = slice_get-mapped (λ s. wins bridge plan s) (states n) place (state_at n left) (state-read n place left h)

pub length-wins_vector : (plan : Plan ℕ) (n : NodeValue) → length (wins_vector bridge plan n) ≡ length n.lefts
length-wins_vector plan n = length-map (states n) (λ s. wins bridge plan s) ∙ length-map n.lefts (state_at n)

-- one layout more in which the two agree
pub same_more : (u v : Vector) (place : ℕ) (bit : Bool) → slice_get u place ≡ Some bit → slice_get v place ≡ Some bit → take place u ≡ take place v → take (place + 1) u ≡ take (place + 1) v
same_more u v place bit at_u at_v so =
    take_more_same u v place bit (slice_get_within u place bit at_u) (slice_get_within v place bit at_v) so (get_or_from_slice_get u place bit bit at_u ∙ sym (get_or_from_slice_get v place bit bit at_v))

pub same_all : (u v : Vector) (place : ℕ) → length u ≤ place → length v ≤ place → take place u ≡ take place v → u ≡ v
same_all u v place long_u long_v so = sym (take_all place u long_u) ∙ so ∙ take_all place v long_v

pub differ_here : (u v : Vector) (place : ℕ) (bit : Bool) → slice_get u place ≡ Some bit → slice_get v place ≡ Some (not bit) → take place u ≡ take place v → IsFirstDifference u v (place + 1) bit
differ_here u v place bit at_u at_v so =
    let back : place ≡ place + 1 - 1 = omega arith in
    record {
      counted = omega arith;
      same_before = subst (λ k. take k u ≡ take k v) back so;
      own_bit = subst (λ k. slice_get u k ≡ Some bit) back at_u;
      given_bit = subst (λ k. slice_get v k ≡ Some (not bit)) back at_v;
    }

-- ---- one bit beside another

pub unlike : (own given : Bool) → not (beq own given) ≡ true → given ≡ not own
unlike true true h = absurd (false≢true h)
unlike true false h = refl
unlike false true h = refl
unlike false false h = absurd (false≢true h)

pub alike : (own given : Bool) → not (beq own given) ≡ false → given ≡ own
alike true true h = refl
alike true false h = absurd (false≢true (sym h))
alike false true h = absurd (false≢true (sym h))
alike false false h = refl

-- ---- a plan whose every node fits

pub fits_from : (plan : Plan ℕ) (n m : NodeValue) (moves last : ℕ) → m ≡ n → Ok last ≡ counted_nodes 0 (node_count plan) (first_misfit bridge ◌==◌ plan m moves) → Fits bridge plan n moves
fits_from plan n m moves last is passed = (laws.first_misfit.none plan n moves).1 (subst (λ (x : NodeValue). first_misfit bridge ◌==◌ plan x moves ≡ None) is (counted_nodes-none (node_count plan) last (first_misfit bridge ◌==◌ plan m moves) passed))
