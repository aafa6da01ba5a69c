-- Who helps the caller of a round.
use Rattle.std.specs.Prelude.{◌≤◌, List, Result, IfOk, length}
use Rattle.std.specs.Borrow.{Bor, MutBor}
use Rattle.std.specs.Global.{Vec}
use Rattle.std.specs.declared.alloc.AllocError.{AllocError}
use Rattle.shared_table.specs.declared.Pass.{Pass}
use Rattle.shared_table.specs.Passes.{IsPassOf}
use Rattle.worker_pool.specs.Findings.{AreRight}
use Rattle.worker_pool.specs.declared.findings.Finding.{Finding}
use Rattle.root_workers.specs.declared.rounds.Task.{Task}
use Rattle.root_workers.specs.declared.workers.RootWorker.{RootWorker}
use Rattle.root_workers.specs.declared.worker_results.Known.{Known}
use Rattle.root_workers.specs.Rounds.{HasSeenMore}
use Rattle.root_workers.specs.Tasks.{IsTask, IsKnownBy}

-- whatever the task, what such workers report of root cards is right, and their pass has seen no less
abbrev pub Searches : {G : Type 0} → (Bor Task → Bor G → MutBor (List RootWorker) → MutBor Pass → Type 0)
    → (Bor Task → Bor G → MutBor (List RootWorker) → MutBor Pass → Result (Vec (Finding Known)) AllocError → MutBor (List RootWorker) → MutBor Pass → Type 0) → Type 0
Searches {G} can gives = (task : Bor Task) (gate : Bor G) (workers : MutBor (List RootWorker)) (pass : MutBor Pass)
    → IsTask task.now → 1 ≤ length workers.now → IsPassOf task.now.round.now.table.now pass.now → can task gate workers pass
    × ((known : Result (Vec (Finding Known)) AllocError) (left : MutBor (List RootWorker)) (late : MutBor Pass) → gives task gate workers pass known left late
    → IfOk known (λ findings. AreRight (IsKnownBy task.now) findings.items) × IsPassOf task.now.round.now.table.now late.now × HasSeenMore pass.now late.now)
