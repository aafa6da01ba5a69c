-- What the words of a study ask for, without where it lies in memory.
use Rattle.std.specs.Prelude.{◌≡◌, ◌≤◌, ◌<◌, ◌^◌, ℕ, ⊤, List, true}
use Rattle.std.specs.Borrow.{Bor}
use Rattle.job_words.specs.declared.asks.GameNames.{GameNames}
use Rattle.job_words.specs.declared.draw.Draw as draws
use Rattle.job_words.specs.declared.study.Study.{Study}
use Rattle.job_words.specs.declared.study.Study.TheVariants.{Review}
use Rattle.job_words.specs.declared.study.StudyAsk.{StudyAsk}
use Rattle.job_words.specs.declared.study.StudyAsk.TheVariants.{OfFiles, OfDrawn, Draw}
use Rattle.job_words.specs.Asks.{GameNamesValue, IsMoves, IsSearchWithinLimits, IsWithinLimits, ask_of}
use Rattle.job_words.specs.Values.{is_value}

-- what a study tells, and of what, by the names of the files
abbrev pub StudyAskValue : Type 0
StudyAskValue = StudyAsk (List ℕ) GameNamesValue

-- what is asked of a study by its value
abbrev pub study_ask_of : StudyAsk (Bor (List ℕ)) GameNames → StudyAskValue
study_ask_of (OfFiles study reads) = OfFiles study (ask_of reads)
study_ask_of (OfDrawn study deal draw moves search) = OfDrawn study deal.now draw moves search
study_ask_of (Draw deal draw) = Draw deal.now draw

-- a review begins with a trick that there is
abbrev pub IsStudyWithin : Study → Type 0
IsStudyWithin (Review form from) = (1 ≤ from) × (from ≤ 13)
IsStudyWithin study = ⊤

-- the limits of a draw
pub record IsDrawWithin (draw : draws.Draw) : Type 0 where
  pub some : 1 ≤ draw.amount
  pub few : draw.amount ≤ 256
  pub seed : draw.seed < 2 ^ 64

-- the limits that it keeps
abbrev pub IsStudyWithinLimits : StudyAskValue → Type 0
IsStudyWithinLimits (OfFiles study reads) = IsStudyWithin study × IsWithinLimits reads
IsStudyWithinLimits (OfDrawn study deal draw moves search) = IsStudyWithin study × (is_value deal ≡ true) × IsDrawWithin draw × IsMoves moves × IsSearchWithinLimits search
IsStudyWithinLimits (Draw deal draw) = (is_value deal ≡ true) × IsDrawWithin draw
