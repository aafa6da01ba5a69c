-- A small text with two games.
use Rattle.std.specs.Prelude.{ℕ, List, [], ◌∷◌, codes}
use Rattle.pbn_text.specs.Games.{GameValue}
use Rattle.pbn_plain.specs.PlainText.{PlainTag, tag_pair, word, quoted, comment, blank, items_line, commented, skipped, PlainGroup}

-- a tag pair with one space between name and value
abbrev a_tag : List ℕ → List ℕ → PlainTag
a_tag name value = record { name = name; value = value; before_name = []; before_value = codes " "; before_end = [] }

-- the text as it is written
unfoldable pub example : List PlainGroup
example =
    record {
      lines = skipped (codes " from the club")
          ∷ items_line (tag_pair (a_tag (codes "Deal") (codes "N:A... - 2... -")) ∷ blank 32 ∷ tag_pair (a_tag (codes "Play") (codes "N")) ∷ blank 32 ∷ comment (codes " no\nlead yet ") ∷ [])
          ∷ commented (word (codes "-") ∷ blank 32 ∷ word (codes "-") ∷ blank 32 ∷ []) (codes " nothing yet")
          ∷ [];
      blank_lines = [] ∷ [];
    }
    ∷ record {
      lines = items_line (tag_pair (a_tag (codes "Site") (codes "the \"Bell\"")) ∷ []) ∷ items_line (quoted (codes "a \\ b") ∷ []) ∷ [];
      blank_lines = [];
    }
    ∷ []

-- its bytes
unfoldable pub example_text : List ℕ
example_text = codes "% from the club\n[Deal \"N:A... - 2... -\"] [Play \"N\"] { no\nlead yet }\n- - ; nothing yet\n\n[Site \"the \\\"Bell\\\"\"]\n\"a \\\\ b\"\n"

-- its games
unfoldable pub example_games : List GameValue
example_games =
    record {
      tags = record { name = codes "Deal"; value = codes "N:A... - 2... -"; line = 2; tokens = [] }
          ∷ record { name = codes "Play"; value = codes "N"; line = 2; tokens = record { text = codes "-"; line = 4 } ∷ record { text = codes "-"; line = 4 } ∷ [] }
          ∷ [];
    }
    ∷ record {
      tags = record { name = codes "Site"; value = codes "the \"Bell\""; line = 6; tokens = record { text = codes "\"a \\\\ b\""; line = 7 } ∷ [] } ∷ [];
    }
    ∷ []
