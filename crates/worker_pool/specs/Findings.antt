-- What workers found.
use Rattle.std.specs.Prelude.{ℕ, List, All}
use Rattle.worker_pool.specs.declared.findings.Finding.{Finding}

-- each finding is right at its place
abbrev pub AreRight : {F : Type 0} → (ℕ → F → Type 0) → List (Finding F) → Type 0
AreRight right findings = All (λ f. right f.place f.found) findings
