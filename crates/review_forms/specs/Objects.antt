-- The decisions of a review as an object of JSON.
use Rattle.std.specs.Prelude.{ℕ, List, [], ◌∷◌, flat_map, map, codes}
use Rattle.std.specs.List.{enumerate_from}
use Rattle.std.specs.Str.Lossy.{utf8_lossy}
use Rattle.serde_json.specs.Data.{Data, boolean, number, unsigned, string, array, object, member, no_members}
use Rattle.serde_json.specs.View.{items_of}
use Rattle.card_letters.specs.Letters.{letters_of, compass_letter}
use Rattle.text_forms.specs.Objects.{json_line}
use Rattle.review_text.specs.declared.reviewed.Reviewed.{Reviewed}
use Rattle.review_text.specs.declared.game.GameReview.{GameReview}
use Rattle.review_text.specs.declared.game.GameReview.TheVariants.{Told, Refused}
use Rattle.review_text.specs.Texts.{cost_of, cost_up_to, is_final, costly_among, maybe_costly_among, greatest_cost, greatest_up_to}
use Rattle.review_text.specs.Games.{told_in}

-- ---- one board

-- what the card cost, at least and at most, and whether both are equal
unfoldable pub cost_data : Reviewed → Data
cost_data told = object
    (member (codes "final") (boolean (is_final told))
    (member (codes "least") (number (unsigned (cost_of told)))
    (member (codes "most") (number (unsigned (cost_up_to told)))
    no_members)))

-- the card named with its bounds
unfoldable pub named_data : Reviewed → Data
named_data told = object
    (member (codes "card") (string (letters_of told.named))
    (member (codes "least") (number (unsigned told.named_least))
    (member (codes "most") (number (unsigned told.named_most))
    no_members)))

-- what was told of a decision
unfoldable pub decision_data : Reviewed → Data
decision_data told = object
    (member (codes "cost") (cost_data told)
    (member (codes "layouts") (number (unsigned told.layouts))
    (member (codes "least") (number (unsigned told.least))
    (member (codes "most") (number (unsigned told.most))
    (member (codes "named") (named_data told)
    (member (codes "number") (number (unsigned told.number))
    (member (codes "played") (string (letters_of told.played))
    (member (codes "seat") (string (compass_letter told.seat ∷ []))
    (member (codes "trick") (number (unsigned told.trick))
    (member (codes "weight") (number (unsigned told.weight))
    no_members))))))))))

-- all decisions, in the order of play
abbrev pub decisions_data : List Reviewed → Data
decisions_data told = array (items_of (map decision_data told))

-- how many decisions cost something, all decisions, the greatest cost, and the greatest number of moves: of costs first what is
-- certain, then what may be
unfoldable pub review_data : ℕ → List Reviewed → Data
review_data limit told = object
    (member (codes "costly") (number (unsigned (costly_among told)))
    (member (codes "costly_up_to") (number (unsigned (maybe_costly_among told)))
    (member (codes "decisions") (decisions_data told)
    (member (codes "greatest") (number (unsigned (greatest_cost told)))
    (member (codes "greatest_up_to") (number (unsigned (greatest_up_to told)))
    (member (codes "moves") (number (unsigned limit))
    no_members))))))

-- its text without blanks, as a line
unfoldable pub review_json : ℕ → List Reviewed → List ℕ
review_json limit told = json_line (review_data limit told)

-- ---- many games

-- a game's number, and its review as that of one board
unfoldable pub told_data : ℕ → ℕ → List Reviewed → Data
told_data limit place told = object
    (member (codes "game") (number (unsigned place))
    (member (codes "review") (review_data limit told)
    no_members))

-- a game's number, and the reason why it was refused
unfoldable pub refused_data : ℕ → List ℕ → Data
refused_data place said = object
    (member (codes "game") (number (unsigned place))
    (member (codes "refused") (string (utf8_lossy said))
    no_members))

-- what came of a game
abbrev pub outcome_data : ℕ → ℕ → GameReview → Data
outcome_data limit place (Told told) = told_data limit place told.items
outcome_data limit place (Refused said) = refused_data place said

-- what came of a game with its number
abbrev pub game_data : ℕ → ℕ × GameReview → Data
game_data limit game = outcome_data limit game.0 game.1

-- all games, numbered from 1, with the sums over their decisions, and the greatest number of moves
unfoldable pub reviews_data : ℕ → List GameReview → Data
reviews_data limit games = object
    (member (codes "costly") (number (unsigned (costly_among (flat_map told_in games))))
    (member (codes "costly_up_to") (number (unsigned (maybe_costly_among (flat_map told_in games))))
    (member (codes "games") (array (items_of (map (game_data limit) (enumerate_from 1 games))))
    (member (codes "greatest") (number (unsigned (greatest_cost (flat_map told_in games))))
    (member (codes "greatest_up_to") (number (unsigned (greatest_up_to (flat_map told_in games))))
    (member (codes "moves") (number (unsigned limit))
    no_members))))))

-- its text without blanks, as a line
unfoldable pub reviews_json : ℕ → List GameReview → List ℕ
reviews_json limit games = json_line (reviews_data limit games)
