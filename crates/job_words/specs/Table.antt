-- Which options each job requires, allows and refuses.
use Rattle.std.specs.Prelude.{◌||◌, Bool, true, false, not, List, [], ◌∷◌, Option, Some, None, is_some, if◌then◌else◌}
use Rattle.clap.specs.Walk.{Text}
use Rattle.job_words.specs.declared.bad_word.BadWord.{BadWord}
use Rattle.job_words.specs.declared.bad_word.BadWord.TheVariants.{Missing, NotTaken}
use Rattle.job_words.specs.declared.bad_word.OptionName.{OptionName}
use Rattle.job_words.specs.declared.bad_word.OptionName.TheVariants as name
use Rattle.job_words.specs.declared.table.Job as jobs
use Rattle.job_words.specs.declared.table.StudyJob as studies
use Rattle.job_words.specs.declared.table.Asked.{Asked}
use Rattle.job_words.specs.declared.table.Use.{Use}
use Rattle.job_words.specs.declared.table.Use.TheVariants.{Required, Allowed, Refused, InPlaceOfMoves, WithMoves, InPlaceOfDraw, WithDraw}
use Rattle.job_words.specs.declared.table.Uses.{Uses}
use Rattle.job_words.specs.declared.table.OptionUse.{OptionUse}
use Rattle.job_words.specs.Options.{OptionValues}

-- no option but the job's name
abbrev pub no_options : Uses
no_options = record {
  deal = Refused;
  layouts = Refused;
  report = Refused;
  moves = Refused;
  number = Refused;
  layout = Refused;
  switch = Refused;
  log = Refused;
  nodes = Refused;
  search = Refused;
  form = Refused;
  from = Refused;
  games = Refused;
  draw = Refused;
  seed = Refused;
  conditions = Refused;
}

-- the table: a row for each job of `alphamu`
abbrev pub uses_by : jobs.Job → Uses
uses_by jobs.TheVariants.Solve = record no_options { deal = Required; layouts = Required; moves = Required; nodes = Allowed; search = Allowed }
uses_by jobs.TheVariants.Card = record no_options { deal = Required; layouts = Required; moves = Required; nodes = Allowed; search = Allowed }
uses_by jobs.TheVariants.Match = record no_options { deal = Required; layouts = Required; moves = Required; layout = Required; switch = Allowed; nodes = Allowed; search = Allowed }
uses_by jobs.TheVariants.Fusion = record no_options { deal = Required; layouts = Required }
uses_by jobs.TheVariants.List = record no_options { deal = Required }
uses_by jobs.TheVariants.Check = record no_options { deal = Required; layouts = Required; report = Required }
uses_by jobs.TheVariants.Made = record no_options { number = Required; nodes = Allowed; search = Allowed }
uses_by jobs.TheVariants.Prove = record no_options { deal = Required; layouts = Required; moves = Required; nodes = Allowed }
uses_by jobs.TheVariants.Audit = record no_options { deal = Required; layouts = Required; report = Required; log = Required }
uses_by jobs.TheVariants.Boards = record no_options { deal = Required; layouts = Required; moves = Required; nodes = Allowed; search = Allowed }

-- a report, or a search in its place
abbrev told_uses : Uses
told_uses = record no_options { deal = Required; layouts = InPlaceOfDraw; report = InPlaceOfMoves; moves = Allowed; nodes = WithMoves; search = WithMoves; draw = Allowed; seed = WithDraw; conditions = WithDraw }

-- and a row for each job of `alphamu_study`
abbrev pub uses_by_study : studies.StudyJob → Uses
uses_by_study studies.TheVariants.Words = told_uses
uses_by_study studies.TheVariants.Lines = told_uses
uses_by_study studies.TheVariants.Page = told_uses
uses_by_study studies.TheVariants.Cards = record no_options { deal = Required; layouts = InPlaceOfDraw; moves = Allowed; nodes = Allowed; search = Allowed; form = Allowed; draw = Allowed; seed = WithDraw; conditions = WithDraw }
uses_by_study studies.TheVariants.Review = record no_options { deal = Required; layouts = Required; moves = Required; nodes = Allowed; search = Allowed; form = Allowed; from = Allowed; games = Allowed }
uses_by_study studies.TheVariants.Draw = record no_options { deal = Required; draw = Required; seed = Allowed; conditions = Allowed }

-- an option that is given, or isn't, is so used by words that ask for a search, or don't, and for layouts that are drawn, or don't
abbrev pub is_used_so : Use → Asked → Bool → Bool
is_used_so Required asked given = given
is_used_so Allowed asked given = true
is_used_so Refused asked given = not given
is_used_so InPlaceOfMoves asked given = if asked.searches then not given else given
is_used_so WithMoves asked given = asked.searches || not given
is_used_so InPlaceOfDraw asked given = if asked.draws then not given else given
is_used_so WithDraw asked given = asked.draws || not given

-- why an option isn't so used, if it isn't
abbrev pub fault_of_row : Asked → OptionUse → Option BadWord
fault_of_row asked row =
    if is_used_so row.wanted asked row.given then None
    else if row.given then Some (NotTaken row.name) else Some (Missing row.name)

-- a fault, if there is one, or else what later ones say
abbrev pub first_or : Option BadWord → Option BadWord → Option BadWord
first_or None later = later
first_or (Some fault) later = Some fault

-- the first such fault
abbrev pub first_fault : Asked → List OptionUse → Option BadWord
first_fault asked [] = None
first_fault asked (row ∷ rows) = first_or (fault_of_row asked row) (first_fault asked rows)

abbrev use_of : OptionName → Use → Bool → OptionUse
use_of option wanted given = record { name = option; wanted = wanted; given = given }

-- an option has at least one value
abbrev pub are_given : List Text → Bool
are_given [] = false
are_given (value ∷ values) = true

-- what a job with these uses makes of each option. The options on how to search go together, except the number of nodes, and so
-- do the conditions on the four hands
abbrev pub rows_of : Uses → OptionValues → List OptionUse
rows_of uses o =
    use_of name.Deal uses.deal (is_some o.deal) ∷ use_of name.Layouts uses.layouts (is_some o.layouts)
    ∷ use_of name.Report uses.report (is_some o.report) ∷ use_of name.Moves uses.moves (is_some o.moves)
    ∷ use_of name.Number uses.number (is_some o.number) ∷ use_of name.Layout uses.layout (is_some o.layout)
    ∷ use_of name.Switch uses.switch (is_some o.switch) ∷ use_of name.Log uses.log (is_some o.log)
    ∷ use_of name.Nodes uses.nodes (is_some o.nodes) ∷ use_of name.Workers uses.search (is_some o.search.workers)
    ∷ use_of name.Shards uses.search (is_some o.search.shards) ∷ use_of name.Room uses.search (is_some o.search.room)
    ∷ use_of name.NoTable uses.search o.search.no_table ∷ use_of name.NoCuts uses.search o.search.no_cuts
    ∷ use_of name.Form uses.form (is_some o.form) ∷ use_of name.From uses.from (is_some o.from)
    ∷ use_of name.Games uses.games o.games ∷ use_of name.Draw uses.draw (is_some o.draw)
    ∷ use_of name.Seed uses.seed (is_some o.seed) ∷ use_of name.North uses.conditions (are_given o.north)
    ∷ use_of name.East uses.conditions (are_given o.east) ∷ use_of name.South uses.conditions (are_given o.south)
    ∷ use_of name.West uses.conditions (are_given o.west) ∷ []

-- the first option that isn't used as these uses want it
unfoldable pub misused : Uses → OptionValues → Option BadWord
misused uses o = first_fault (record { searches = is_some o.moves; draws = is_some o.draw }) (rows_of uses o)
