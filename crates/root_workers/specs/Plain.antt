-- How a root is searched.
use Rattle.std.specs.Prelude.{◌≡◌, ◌≤◌, false}
use Rattle.root_workers.specs.declared.root.Options.{Options}

-- the search has neither table nor cuts
pub record IsPlain (o : Options) : Type 0 where
  pub table : o.table ≡ false
  pub cuts : o.cuts ≡ false

-- 1 to 64 workers
pub record HasWorkers (o : Options) : Type 0 where
  pub some : 1 ≤ o.workers
  pub few : o.workers ≤ 64
