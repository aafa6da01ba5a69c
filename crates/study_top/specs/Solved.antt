-- A report that is searched for, in place of one that is read from a file.
use Rattle.std.specs.Prelude.{◌≡◌, ◌⊎◌, ◌≤◌, ℕ, List, length, Some, Ok, Err}
use Rattle.job_words.specs.declared.asks.Search.{Search}
use Rattle.am_answer.specs.declared.root.Root.{Root}
use Rattle.am_answer.specs.declared.status.FileWord.TheVariants.{Report}
use Rattle.am_answer.specs.declared.status.Status.{Status}
use Rattle.am_answer.specs.Files.{limit_of, within_limit}
use Rattle.am_answer.specs.Stages.{IsTaskRefusal, IsTextFor}
use Rattle.am_answer.specs.Tasks.{Solve}

-- a report that `solve` gives at a root, no longer than the file of a report may be
pub record IsSolvedReport (root : Root) (moves : ℕ) (search : Search) (report : List ℕ) : Type 0 where
  pub solved : IsTextFor (Ok (Solve root moves search)) report
  pub within : length report ≤ limit_of Report

-- why there is none: `solve` refuses, or its report is longer
abbrev pub IsUnsolved : Root → ℕ → Search → Status → Type 0
IsUnsolved root moves search status =
    IsTaskRefusal (Ok (Solve root moves search)) status
    ⊎ ((report : List ℕ) × IsTextFor (Ok (Solve root moves search)) report × (within_limit Report (Some report) ≡ Err status))
