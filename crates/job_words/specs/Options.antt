-- What each option was given.
use Rattle.std.specs.Prelude.{Bool, false, List, [], Option, Some, None, map, option_map, unwrap_or, codes, if◌then◌else◌}
use Rattle.std.specs.Option.{option_map_or}
use Rattle.std.specs.Str.{bytes_eq}
use Rattle.clap.specs.Walk.{Row, Text, all_of, first_of, is_empty, one_of}
use Rattle.clap.specs.Simple.{matches_of}
use Rattle.clap.specs.Faults.{fault_of}
use Rattle.job_words.specs.declared.options.Options.{Options}
use Rattle.job_words.specs.declared.options.SearchOptions.{SearchOptions}
use Rattle.job_words.specs.Command.{option_command}

-- what was given on how to search, except the number of nodes
pub record SearchOptionValues : Type 0 where
  pub workers : Option Text
  pub shards : Option Text
  pub room : Option Text
  pub no_table : Bool
  pub no_cuts : Bool

-- the value of each option that was given, or all its values, and whether each flag was
pub record OptionValues : Type 0 where
  pub job : Option Text
  pub deal : Option Text
  pub layouts : Option Text
  pub report : Option Text
  pub moves : Option Text
  pub number : Option Text
  pub layout : Option Text
  pub switch : Option Text
  pub log : Option Text
  pub nodes : Option Text
  pub search : SearchOptionValues
  pub form : Option Text
  pub from : Option Text
  pub games : Bool
  pub draw : Option Text
  pub seed : Option Text
  pub north : List Text
  pub east : List Text
  pub south : List Text
  pub west : List Text

-- all values of an option, in order
abbrev pub all_given : Text → List Row → List Text
all_given name rows = unwrap_or (all_of name rows) []

-- a flag holds the text `true` if it was given
abbrev pub has_flag : Text → List Row → Bool
has_flag name rows = option_map_or (λ text. bytes_eq text (codes "true")) (one_of name rows) false

-- the values in what clap found
abbrev pub options_at : List Row → OptionValues
options_at rows = record {
  job = first_of (codes "job") rows;
  deal = first_of (codes "deal") rows;
  layouts = first_of (codes "layouts") rows;
  report = first_of (codes "report") rows;
  moves = first_of (codes "moves") rows;
  number = first_of (codes "number") rows;
  layout = first_of (codes "layout") rows;
  switch = first_of (codes "switch") rows;
  log = first_of (codes "log") rows;
  nodes = first_of (codes "nodes") rows;
  search = record {
    workers = first_of (codes "workers") rows;
    shards = first_of (codes "shards") rows;
    room = first_of (codes "room") rows;
    no_table = has_flag (codes "no-table") rows;
    no_cuts = has_flag (codes "no-cuts") rows;
  };
  form = first_of (codes "form") rows;
  from = first_of (codes "from") rows;
  games = has_flag (codes "games") rows;
  draw = first_of (codes "draw") rows;
  seed = first_of (codes "seed") rows;
  north = all_given (codes "north") rows;
  east = all_given (codes "east") rows;
  south = all_given (codes "south") rows;
  west = all_given (codes "west") rows;
}

-- the values in the words, where clap finds no fault in them
unfoldable pub options_read : List Text → Option OptionValues
options_read words =
    if is_empty (fault_of option_command words)
    then Some (options_at (matches_of option_command words)) else None

-- the same without where they lie in memory
abbrev pub search_options_of : SearchOptions → SearchOptionValues
search_options_of o = record {
  workers = option_map (λ s. s.now) o.workers;
  shards = option_map (λ s. s.now) o.shards;
  room = option_map (λ s. s.now) o.room;
  no_table = o.no_table;
  no_cuts = o.no_cuts;
}

abbrev pub options_of : Options → OptionValues
options_of o = record {
  job = option_map (λ s. s.now) o.job;
  deal = option_map (λ s. s.now) o.deal;
  layouts = option_map (λ s. s.now) o.layouts;
  report = option_map (λ s. s.now) o.report;
  moves = option_map (λ s. s.now) o.moves;
  number = option_map (λ s. s.now) o.number;
  layout = option_map (λ s. s.now) o.layout;
  switch = option_map (λ s. s.now) o.switch;
  log = option_map (λ s. s.now) o.log;
  nodes = option_map (λ s. s.now) o.nodes;
  search = search_options_of o.search;
  form = option_map (λ s. s.now) o.form;
  from = option_map (λ s. s.now) o.from;
  games = o.games;
  draw = option_map (λ s. s.now) o.draw;
  seed = option_map (λ s. s.now) o.seed;
  north = map (λ s. s.now) o.north.items;
  east = map (λ s. s.now) o.east.items;
  south = map (λ s. s.now) o.south.items;
  west = map (λ s. s.now) o.west.items;
}
