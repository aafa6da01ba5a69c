-- The command whose options the words are, as clap reads it.
use Rattle.std.specs.Prelude.{◌∷◌, List, [], Some, map, fold, codes, true}
use Rattle.clap.specs.Walk.{Rule, Text}
use Rattle.clap.specs.Simple.{App, new_rule, new_shape, with_rule}
use Rattle.clap.specs.declared.builder.action.ArgAction.TheVariants.{Set, Append, SetTrue}

-- an option with a value
abbrev pub value_option : Text → Rule
value_option name = record (new_rule name) { long = Some name; action = Some Set }

-- an option with a value, which may be given more than once
abbrev pub list_option : Text → Rule
list_option name = record (new_rule name) { long = Some name; action = Some Append }

-- a flag
abbrev pub flag_option : Text → Rule
flag_option name = record (new_rule name) { long = Some name; action = Some SetTrue }

abbrev pub value_names : List Text
value_names = codes "job" ∷ codes "deal" ∷ codes "layouts" ∷ codes "report" ∷ codes "moves"
    ∷ codes "number" ∷ codes "layout" ∷ codes "switch" ∷ codes "log" ∷ codes "nodes" ∷ codes "workers" ∷ codes "shards" ∷ codes "room"
    ∷ codes "form" ∷ codes "from" ∷ codes "draw" ∷ codes "seed" ∷ []

abbrev pub list_names : List Text
list_names = codes "north" ∷ codes "east" ∷ codes "south" ∷ codes "west" ∷ []

abbrev pub flag_names : List Text
flag_names = codes "no-table" ∷ codes "no-cuts" ∷ codes "games" ∷ []

-- a command with no options, no help and no version, whose words don't begin with its name
abbrev pub bare_command : App
bare_command = record {
  top = record (new_shape (codes "alphamu")) {
    no_binary_name = true;
    disable_help_flag = true;
    disable_help_subcommand = true;
    disable_version_flag = true;
  };
  subs = [];
}

-- the command with these options alone
unfoldable pub value_command : App
value_command = fold with_rule bare_command (map value_option value_names)

-- and those that may be given more than once
unfoldable pub list_command : App
list_command = fold with_rule value_command (map list_option list_names)

-- the command with these options and flags and no others, none of which it requires
unfoldable pub option_command : App
option_command = fold with_rule list_command (map flag_option flag_names)
