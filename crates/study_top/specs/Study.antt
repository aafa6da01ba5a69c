-- What a study is asked, and what comes of it.
use Rattle.std.specs.Prelude.{◌≡◌, ◌⊎◌, ℕ, Bool, true, false, List, Result, Ok, Err, Option, None, Some, length, nat_le, if◌then◌else◌}
use Rattle.pbn_deal.specs.Boards.{BoardValue}
use Rattle.am_outside.specs.Faults.{Rose}
use Rattle.am_outside.specs.Shelf.{Files}
use Rattle.job_words.specs.declared.asks.Ask.TheVariants as asks
use Rattle.job_words.specs.declared.asks.LayoutsJob.TheVariants as jobs
use Rattle.job_words.specs.declared.asks.Search.{Search}
use Rattle.job_words.specs.declared.draw.Draw.{Draw}
use Rattle.job_words.specs.declared.study.FormName.{FormName}
use Rattle.job_words.specs.declared.study.Study.{Study}
use Rattle.job_words.specs.declared.study.Study.TheVariants.{Lines, Page, Cards, ExactCards, Review}
use Rattle.job_words.specs.declared.study.Study.TheVariants as studies
use Rattle.job_words.specs.declared.study.StudyAsk.TheVariants.{OfFiles, OfDrawn}
use Rattle.job_words.specs.declared.study.StudyAsk.TheVariants as ask
use Rattle.job_words.specs.Asks.{AskValue, LayoutsJobValue}
use Rattle.job_words.specs.StudyAsks.{StudyAskValue}
use Rattle.job_words.specs.StudyWords.{study_read}
use Rattle.am_answer.specs.declared.root.Root.{Root}
use Rattle.am_answer.specs.declared.status.FileWord.{FileWord}
use Rattle.am_answer.specs.declared.status.Status.{Status}
use Rattle.am_answer.specs.declared.status.Status.TheVariants.{BadWords, Memory}
use Rattle.am_answer.specs.Answers.{board_in, root_in, task_at}
use Rattle.am_answer.specs.declared.status.FileWord.TheVariants.{Deal, Layouts}
use Rattle.am_answer.specs.Files.{InputsValue, IsNameOf, file_read, named_read, within_limit}
use Rattle.am_answer.specs.Stages.{IsReadRefusal, IsFileRefusal}
use Rattle.job_told.specs.ToldJob.{IsToldReport}
use Rattle.job_lines.specs.LinesJob.{IsLinesReport}
use Rattle.job_page.specs.PageJob.{IsPage, IsPageRefusal}
use Rattle.card_brackets.specs.declared.table.CardTable.{CardTable}
use Rattle.card_brackets.specs.Rows.{IsTableUpTo}
use Rattle.page_text.specs.Verdicts.{plans_all}
use Rattle.job_cards.specs.Cards.{IsCardsText, IsCardsRefusal, IsExactText, IsPlannedTable}
use Rattle.job_review.specs.Reviews.{IsReviewText, IsReviewRefusal}
use Rattle.job_reviews.specs.Reviews.{IsReviewsText}
use Rattle.job_draw.specs.DrawJob.{IsDrawFile, IsDrawRefusal}
use Rattle.job_draw.specs.declared.refusal.DrawRefusal.{DrawRefusal}
use Rattle.study_top.specs.Forms.{form_of}
use Rattle.study_top.specs.Refusals.{refusal_of_draw, refusal_of_status}
use Rattle.study_top.specs.declared.refusal.Refusal.{Refusal}
use Rattle.study_top.specs.declared.refusal.Refusal.TheVariants.{Words, Ended}
use Rattle.study_top.specs.Solved.{IsSolvedReport, IsUnsolved}

-- ---- what comes of it

-- what a job tells at the root of these files
abbrev pub IsToldAt : List ℕ → List ℕ → (Root → Type 0) → Type 0
IsToldAt deal layouts IsTold = (root : Root) × (root_in deal layouts ≡ Ok root) × IsTold root

-- the files lead to no root, or the job refuses what it reads there
abbrev pub IsRefusedAt : List ℕ → List ℕ → Status → (Root → Type 0) → Type 0
IsRefusedAt deal layouts status IsRefused =
    IsFileRefusal (root_in deal layouts) status ⊎ ((root : Root) × (root_in deal layouts ≡ Ok root) × IsRefused root)

-- what a job tells of a report at the root of a deal, and on a page of every legal card, if they are known
abbrev pub IsTextOfReport : Study → List ℕ → Root → List ℕ → Option CardTable → List ℕ → Type 0
IsTextOfReport studies.Words deal root report known text = IsToldReport root report text
IsTextOfReport Lines deal root report known text = IsLinesReport deal root report text
IsTextOfReport Page deal root report known text = IsPage deal root report known text
IsTextOfReport study deal root report known text = ⊥

-- why a job that takes no report tells nothing of one
abbrev pub TakesNoReport : Study → Status → Type 0
TakesNoReport studies.Words status = ⊥
TakesNoReport Lines status = ⊥
TakesNoReport Page status = ⊥
TakesNoReport study status = status ≡ BadWords

-- why it tells nothing of it: `check` refuses the report, or a page the card that it names; any other job takes none
abbrev pub IsReportRefusal : Study → Root → List ℕ → Option CardTable → Status → Type 0
IsReportRefusal studies.Words root report known status = IsFileRefusal (task_at root (jobs.Check report)) status
IsReportRefusal Lines root report known status = IsFileRefusal (task_at root (jobs.Check report)) status
IsReportRefusal Page root report known status = IsPageRefusal root report known status
IsReportRefusal study root report known status = TakesNoReport study status

-- how many moves a page plans to judge each card, if it doesn't plan all: at most four, and one if there are more than 40 layouts
abbrev pub table_moves : Root → ℕ → ℕ
table_moves root moves = if nat_le (length root.kept.node.lefts) 40 then (if nat_le moves 4 then moves else 4) else 1

-- every legal card as a page shows it: with what one strategy wins after it if all is planned, or else for at most as many moves
abbrev pub IsPageTable : Bool → Root → ℕ → Search → CardTable → Type 0
IsPageTable true root moves search table = IsPlannedTable root search.nodes moves table
IsPageTable false root moves search table = IsTableUpTo root.kept.node root.kept.weights (table_moves root moves) table

-- why there is none
abbrev pub IsPageTableRefusal : Bool → Root → ℕ → Search → Status → Type 0
IsPageTableRefusal true root moves search status = status ≡ Memory
IsPageTableRefusal false root moves search status = IsCardsRefusal root (table_moves root moves) search status

-- what a job shows beside a report that is searched for: a page every legal card
abbrev pub AreCardsFor : Study → Root → ℕ → Search → Option CardTable → Type 0
AreCardsFor Page root moves search (Some table) = IsPageTable (plans_all root.kept.node.position moves) root moves search table
AreCardsFor Page root moves search None = ⊥
AreCardsFor study root moves search known = known ≡ None

-- why it doesn't
abbrev pub AreCardsRefused : Study → Root → ℕ → Search → Status → Type 0
AreCardsRefused Page root moves search status = IsPageTableRefusal (plans_all root.kept.node.position moves) root moves search status
AreCardsRefused study root moves search status = ⊥

-- what a job tells of the report that `solve` gives
abbrev pub IsTextOfSearch : Study → List ℕ → Root → ℕ → Search → List ℕ → Type 0
IsTextOfSearch study deal root moves search text = (report : List ℕ) × (known : Option CardTable)
    × IsSolvedReport root moves search report × AreCardsFor study root moves search known × IsTextOfReport study deal root report known text

-- why it tells nothing of it: there is none, or the tree of a card is too large; any other job takes none. What `solve` gives,
-- `check` never refuses
abbrev pub IsSearchRefusal : Study → Root → ℕ → Search → Status → Type 0
IsSearchRefusal study root moves search status = IsUnsolved root moves search status ⊎ AreCardsRefused study root moves search status
    ⊎ TakesNoReport study status

-- what a study tells of what was read
abbrev pub IsTextOf : Study → InputsValue → List ℕ → Type 0
IsTextOf study (asks.OnLayouts deal layouts (jobs.Check report)) text = IsToldAt deal layouts (λ root. IsTextOfReport study deal root report None text)
IsTextOf study (asks.OnLayouts deal layouts (jobs.Solve moves search)) text = IsToldAt deal layouts (λ root. IsTextOfSearch study deal root moves search text)
IsTextOf (Cards form) (asks.OnLayouts deal layouts (jobs.Card moves search)) text = IsToldAt deal layouts (λ root. IsCardsText root moves (form_of form) text)
IsTextOf (ExactCards form) (asks.OnLayouts deal layouts (jobs.Card moves search)) text = IsToldAt deal layouts (λ root. IsExactText root search.nodes (form_of form) text)
IsTextOf (Review form from) (asks.OnLayouts deal layouts (jobs.Card moves search)) text = (board : BoardValue) × (board_in deal ≡ Ok board) × IsReviewText board layouts moves from (form_of form) text
IsTextOf (Review form from) (asks.Boards files moves search) text = IsReviewsText files (record { moves = moves; from = from; search = search }) (form_of form) text
IsTextOf _ _ _ = ⊥

-- a deal file, a layout file, a number of moves and a form have one text of the cards side by side
abbrev pub HasOneText : Type 0
HasOneText = (deal layouts : List ℕ) (moves : ℕ) (search other : Search) (form : FormName) (text more : List ℕ)
    → IsTextOf (Cards form) (asks.OnLayouts deal layouts (jobs.Card moves search)) text → IsTextOf (Cards form) (asks.OnLayouts deal layouts (jobs.Card moves other)) more → text ≡ more

-- why it tells nothing of it: the report or the search is refused, the tree of a card is too large, or a board isn't reviewed;
-- for all games only an allocation that fails
abbrev pub IsRefusalOf : Study → InputsValue → Status → Type 0
IsRefusalOf study (asks.OnLayouts deal layouts (jobs.Check report)) status = IsRefusedAt deal layouts status (λ root. IsReportRefusal study root report None status)
IsRefusalOf study (asks.OnLayouts deal layouts (jobs.Solve moves search)) status = IsRefusedAt deal layouts status (λ root. IsSearchRefusal study root moves search status)
IsRefusalOf (Cards form) (asks.OnLayouts deal layouts (jobs.Card moves search)) status = IsRefusedAt deal layouts status (λ root. IsCardsRefusal root moves search status)
IsRefusalOf (ExactCards form) (asks.OnLayouts deal layouts (jobs.Card moves search)) status = IsRefusedAt deal layouts status (λ root. status ≡ Memory)
IsRefusalOf (Review form from) (asks.OnLayouts deal layouts (jobs.Card moves search)) status = IsFileRefusal (board_in deal) status
    ⊎ ((board : BoardValue) × (board_in deal ≡ Ok board) × IsReviewRefusal board layouts moves from search.nodes status)
IsRefusalOf (Review form from) (asks.Boards files moves search) status = status ≡ Memory
IsRefusalOf _ _ status = status ≡ BadWords

-- ---- layouts that are drawn

-- what is searched for at layouts that are drawn, as a job of `alphamu`
abbrev pub drawn_job : Study → ℕ → Search → LayoutsJobValue
drawn_job studies.Words moves search = jobs.Solve moves search
drawn_job Lines moves search = jobs.Solve moves search
drawn_job Page moves search = jobs.Solve moves search
drawn_job study moves search = jobs.Card moves search

-- what a study tells of layouts drawn for a deal: what it tells of the file that `draw` writes, which is no longer than a layout file
-- may be
pub record IsTextOfDrawn (study : Study) (deal : List ℕ) (draw : Draw) (job : LayoutsJobValue) (text : List ℕ) : Type 0 where
  pub layouts : List ℕ
  pub drawn : IsDrawFile deal draw layouts
  pub told : IsTextOf study (asks.OnLayouts deal layouts job) text

-- why it tells nothing of them
abbrev pub IsRefusalOfDrawn : Study → List ℕ → Draw → LayoutsJobValue → Refusal → Type 0
IsRefusalOfDrawn study deal draw job refusal =
    ((why : DrawRefusal) × IsDrawRefusal deal draw why × (refusal ≡ refusal_of_draw why))
    ⊎ ((layouts : List ℕ) × (status : Status) × IsDrawFile deal draw layouts × (within_limit Layouts (Some layouts) ≡ Err status) × (refusal ≡ Ended status))
    ⊎ ((layouts : List ℕ) × (status : Status) × IsDrawFile deal draw layouts
    × IsRefusalOf study (asks.OnLayouts deal layouts job) status × (refusal ≡ refusal_of_status status))

-- ---- the words

-- what is read for what the words ask for, as a request of `alphamu`
abbrev pub reads_of : StudyAskValue → AskValue
reads_of (OfFiles study reads) = reads
reads_of (OfDrawn study deal draw moves search) = asks.List deal
reads_of (ask.Draw deal draw) = asks.List deal

-- what is told of the files that are named
abbrev pub IsAnswerFrom : Files → StudyAskValue → List ℕ → Type 0
IsAnswerFrom files (OfFiles study reads) text = (inputs : InputsValue) × (named_read files reads ≡ Ok inputs) × IsTextOf study inputs text
IsAnswerFrom files (OfDrawn study name draw moves search) text =
    (deal : List ℕ) × (file_read files Deal name ≡ Ok deal) × IsTextOfDrawn study deal draw (drawn_job study moves search) text
IsAnswerFrom files (ask.Draw name draw) text = (deal : List ℕ) × (file_read files Deal name ≡ Ok deal) × IsDrawFile deal draw text

-- a file can't be read
abbrev pub IsUnreadable : {A : Type 0} → Result A Status → Refusal → Type 0
IsUnreadable expected refusal = (status : Status) × IsReadRefusal expected status × (refusal ≡ refusal_of_status status)

-- nothing is told of what was read
abbrev pub IsNoTextOf : Study → InputsValue → Refusal → Type 0
IsNoTextOf study inputs refusal = (status : Status) × IsRefusalOf study inputs status × (refusal ≡ refusal_of_status status)

-- no layouts are drawn
abbrev pub IsNoDraw : List ℕ → Draw → Refusal → Type 0
IsNoDraw deal draw refusal = (why : DrawRefusal) × IsDrawRefusal deal draw why × (refusal ≡ refusal_of_draw why)

-- why nothing is told of the files that are named
abbrev pub IsNoAnswerFrom : Files → StudyAskValue → Refusal → Type 0
IsNoAnswerFrom files (OfFiles study reads) refusal =
    IsUnreadable (named_read files reads) refusal
    ⊎ ((inputs : InputsValue) × (named_read files reads ≡ Ok inputs) × IsNoTextOf study inputs refusal)
IsNoAnswerFrom files (OfDrawn study name draw moves search) refusal =
    IsUnreadable (file_read files Deal name) refusal
    ⊎ ((deal : List ℕ) × (file_read files Deal name ≡ Ok deal) × IsRefusalOfDrawn study deal draw (drawn_job study moves search) refusal)
IsNoAnswerFrom files (ask.Draw name draw) refusal =
    IsUnreadable (file_read files Deal name) refusal
    ⊎ ((deal : List ℕ) × (file_read files Deal name ≡ Ok deal) × IsNoDraw deal draw refusal)

-- the text of a study: what it tells of what its words ask for
pub record IsStudyText (words : List (List ℕ)) (files : Files) (text : List ℕ) : Type 0 where
  pub asked : StudyAskValue
  pub understood : study_read words ≡ Ok asked
  pub told : IsAnswerFrom files asked text

-- the words aren't understood, and this is the first fault in them; or an allocation failed
abbrev pub IsUnasked : List (List ℕ) → Refusal → Type 0
IsUnasked words (Words bad) = study_read words ≡ Err bad
IsUnasked words (Ended status) = status ≡ Memory

-- why there is no text: the words aren't understood, or nothing is told of what they ask for
abbrev pub IsStudyRefusal : List (List ℕ) → Files → Refusal → Type 0
IsStudyRefusal words files refusal =
    IsUnasked words refusal ⊎ ((asked : StudyAskValue) × (study_read words ≡ Ok asked) × IsNoAnswerFrom files asked refusal)

-- a request names the file, and the count of faults at a name of it rose
abbrev pub IsUnreadOf : Option Files → StudyAskValue → (List ℕ → ℕ) → (List ℕ → ℕ) → FileWord → Type 0
IsUnreadOf told asked before now file = (name : List ℕ) × IsNameOf told (reads_of asked) file name × Rose (before name) (now name)

-- the words ask for something that names the file so
abbrev pub IsStudyUnread : Option Files → List (List ℕ) → (List ℕ → ℕ) → (List ℕ → ℕ) → FileWord → Type 0
IsStudyUnread told words before now file = (asked : StudyAskValue) × (study_read words ≡ Ok asked) × IsUnreadOf told asked before now file
