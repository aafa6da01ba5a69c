use Rattle.std.proofs.Common.{◌≡◌, suc, List, [], ◌∷◌, ◌++◌, Result, Ok, Err, Some, IfOk, arith, subst, sym}
use Rattle.std.specs.Prelude.{All}
use Rattle.std.specs.Result.{result_ok}
use Rattle.std.specs.Global.{Vec}
use Rattle.std.specs.declared.alloc.AllocError.{AllocError}
use Rattle.worker_pool.specs.declared.findings.Finding.{Finding}
use Rattle.root_workers.specs.declared.worker_results.Known.{Known}
use Rattle.root_workers.specs.Rounds.{IsKnownAt}
use Rattle.root_workers.proofs.best_card.raced.Goals as goal

-- the last of a list
last_right : (P : Finding Known → Type 0) (rest : List (Finding Known)) (f : Finding Known) → All P (rest ++ f ∷ []) → P f
last_right P [] f h = h 0 f (omega arith)
last_right P (x ∷ rest) f h = last_right P rest f (λ k d below. h (suc k) d (omega (arith, below)))

-- the reports, if there was memory for them
reports_right : (P : Finding Known → Type 0) (r : Result (Vec (Finding Known)) AllocError) (reports : Vec (Finding Known)) → Some reports ≡ result_ok r → IfOk r (λ reports. All P reports.items) → All P reports.items
reports_right P (Ok found) reports e h = let same : reports ≡ found = cc in subst (λ (v : Vec (Finding Known)). All P v.items) (sym same) h
reports_right P (Err fault) reports e h = absurd cc

pub returns-clause-known : goal.returns-clause-known
returns-clause-known g c =
    let P : Finding Known → Type 0 = λ f. IsKnownAt c.args.round.now c.args.at.now.place f.found in
    let right : All P c.in_ok-ok.field-0.items = reports_right P c.searched-findings.result c.in_ok-ok.field-0 c.in_ok-ok.ensures.value c.searched-findings.ensures.right in
    last_right P c.pop.new.self.items c.in_ok-found.field-0 (subst (λ items. All P items) c.in_ok-found.ensures.items right)
