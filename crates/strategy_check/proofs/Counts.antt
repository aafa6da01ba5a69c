-- Plan nodes that are counted one after another.
use Rattle.std.proofs.Common.{◌≡◌, ◌≤◌, ◌+◌, ℕ, Option, Some, None, Result, Ok, Err, refl, sym, ap, arith}
use Rattle.strategy_games.specs.Plans.{Plan, Stop, Play, Hear}
use Rattle.strategy_games.specs.Misfits.{node_count, further, or_else}
use Rattle.strategy_check.specs.Counting.{counted_nodes}

last_at : ℕ → Result ℕ ℕ
last_at n = Ok n

misfit_at : ℕ → Result ℕ ℕ
misfit_at n = Err n

pub some_nodes : {C : Type 0} (plan : Plan C) → 1 ≤ node_count plan
some_nodes Stop = omega arith
some_nodes (Play c q) = omega arith
some_nodes (Hear rs) = omega arith

-- the first node fits
pub counted_nodes-below : (before count : ℕ) (below : Option ℕ) → counted_nodes before (1 + count) (further 1 below) ≡ counted_nodes (before + 1) count below
unfolding last_at misfit_at
counted_nodes-below before count None = let same : before + (1 + count) ≡ before + 1 + count = omega arith in ap last_at same
counted_nodes-below before count (Some i) = let same : before + (1 + i) ≡ before + 1 + i = omega arith in ap misfit_at same

-- each of the first nodes fits
pub counted_nodes-passed : (before first later last : ℕ) (here below : Option ℕ) → Ok last ≡ counted_nodes before first here
    → counted_nodes before (first + later) (or_else here (further first below)) ≡ counted_nodes last later below
unfolding last_at misfit_at
counted_nodes-passed before first later last None None h = let at : last ≡ before + first = cc in let same : before + (first + later) ≡ last + later = omega arith in ap last_at same
counted_nodes-passed before first later last None (Some i) h = let at : last ≡ before + first = cc in let same : before + (first + i) ≡ last + i = omega arith in ap misfit_at same
counted_nodes-passed before first later last (Some i) below h = absurd cc

pub counted_nodes-last : (before first last : ℕ) (here : Option ℕ) → Ok last ≡ counted_nodes before first here → last ≡ before + first
counted_nodes-last before first last None h = cc
counted_nodes-last before first last (Some i) h = absurd cc

-- one of the first nodes doesn't fit
pub counted_nodes-stopped : (before first later number : ℕ) (here below : Option ℕ) → Err number ≡ counted_nodes before first here
    → counted_nodes before (first + later) (or_else here (further first below)) ≡ Err number
counted_nodes-stopped before first later number None below h = absurd cc
counted_nodes-stopped before first later number (Some i) below h = sym h

-- a whole plan
pub counted_nodes-none : (count last : ℕ) (misfit : Option ℕ) → Ok last ≡ counted_nodes 0 count misfit → misfit ≡ None
counted_nodes-none count last None h = refl
counted_nodes-none count last (Some i) h = absurd cc

pub counted_nodes-some : (count number : ℕ) (misfit : Option ℕ) → Err number ≡ counted_nodes 0 count misfit → misfit ≡ Some number
counted_nodes-some count number None h = absurd cc
counted_nodes-some count number (Some i) h = let at : number ≡ 0 + i = cc in let same : i ≡ number = omega arith in ap (λ n. Some n) same
