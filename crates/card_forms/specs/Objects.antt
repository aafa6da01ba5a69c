-- The cards of a root side by side as an object of JSON.
use Rattle.std.specs.Prelude.{ℕ, List, length, map, sum, codes}
use Rattle.serde_json.specs.Data.{Data, number, unsigned, boolean, string, array, object, member, no_members}
use Rattle.serde_json.specs.View.{items_of}
use Rattle.card_letters.specs.Letters.{letters_of}
use Rattle.bit_letters.specs.Bits.{bit_letter}
use Rattle.text_forms.specs.Objects.{json_line}
use Rattle.card_brackets.specs.declared.rows.CardRow.{CardRow}
use Rattle.card_brackets.specs.Rows.{is_final}
use Rattle.card_forms.specs.declared.planned.Planned.{Planned}
use Rattle.card_forms.specs.Planned.{planned_data}
use Rattle.trick_rules.specs.Nodes.{NodeValue}
use Rattle.card_forms.specs.Equals.{others_in_play, equal_rows}

-- the name of a row's card
abbrev pub row_name : CardRow → Data
row_name row = string (letters_of row.card)

-- what is known of a card, with the cards that are equal to it
unfoldable pub card_data : List ℕ → List CardRow → CardRow → Data
card_data others rows row = object
    (member (codes "card") (row_name row)
    (member (codes "equals") (array (items_of (map row_name (equal_rows others rows row.card))))
    (member (codes "final") (boolean (is_final row))
    (member (codes "least") (number (unsigned row.least))
    (member (codes "most") (number (unsigned row.most))
    (member (codes "sampled") (number (unsigned row.sampled))
    (member (codes "vector") (string (map bit_letter row.vector))
    no_members)))))))

-- all cards, how many layouts there are, the number of moves, the card that is named, and the weight of all layouts
unfoldable pub cards_data : NodeValue → List ℕ → Planned → List CardRow → ℕ → Data
cards_data node weights planned rows named = object
    (member (codes "cards") (array (items_of (map (card_data (others_in_play node) rows) rows)))
    (member (codes "layouts") (number (unsigned (length weights)))
    (member (codes "moves") (planned_data planned)
    (member (codes "named") (string (letters_of named))
    (member (codes "weight") (number (unsigned (sum weights)))
    no_members)))))

-- its text without blanks, as a line
unfoldable pub cards_json : NodeValue → List ℕ → Planned → List CardRow → ℕ → List ℕ
cards_json node weights planned rows named = json_line (cards_data node weights planned rows named)
