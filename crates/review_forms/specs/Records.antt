-- The decisions of a review as records of CSV.
use Rattle.std.specs.Prelude.{ℕ, List, [], ◌∷◌, ◌++◌, flat_map, length, replicate, codes}
use Rattle.std.specs.List.{enumerate_from}
use Rattle.std.specs.Fmt.{decimal}
use Rattle.card_letters.specs.Letters.{letters_of, compass_letter}
use Rattle.text_forms.specs.Records.{record_text}
use Rattle.review_text.specs.declared.reviewed.Reviewed.{Reviewed}
use Rattle.review_text.specs.declared.game.GameReview.{GameReview}
use Rattle.review_text.specs.declared.game.GameReview.TheVariants.{Told, Refused}
use Rattle.review_text.specs.Texts.{cost_of, cost_up_to, final_word}

-- ---- one board

-- the names of the fields of a decision
abbrev pub decision_names : List (List ℕ)
decision_names =
    codes "number" ∷ codes "trick" ∷ codes "seat" ∷ codes "played" ∷ codes "most" ∷ codes "least" ∷ codes "named"
    ∷ codes "named_most" ∷ codes "named_least" ∷ codes "layouts" ∷ codes "weight" ∷ codes "cost" ∷ codes "cost_up_to" ∷ codes "final" ∷ codes "moves" ∷ []

-- which card of the play it was, in which trick, who played it, and its bounds
unfoldable pub card_fields : Reviewed → List (List ℕ)
card_fields told =
    decimal told.number ∷ decimal told.trick ∷ (compass_letter told.seat ∷ []) ∷ letters_of told.played ∷ decimal told.most ∷ decimal told.least ∷ []

-- the card named with its bounds, the layouts, and what the card cost, at least and at most
unfoldable pub cost_fields : Reviewed → List (List ℕ)
cost_fields told =
    letters_of told.named ∷ decimal told.named_most ∷ decimal told.named_least ∷ decimal told.layouts ∷ decimal told.weight
    ∷ decimal (cost_of told) ∷ decimal (cost_up_to told) ∷ final_word told ∷ []

-- the fields of a decision: all that is told of it, and the greatest number of moves, which is the same in each record
unfoldable pub decision_fields : ℕ → Reviewed → List (List ℕ)
decision_fields limit told = card_fields told ++ cost_fields told ++ decimal limit ∷ []

-- a record of the names, and then one for each decision
unfoldable pub review_csv : ℕ → List Reviewed → List ℕ
review_csv limit told = record_text decision_names ++ flat_map (λ t. record_text (decision_fields limit t)) told

-- ---- many games

-- the names of the fields: the game's number comes first, and last the reason why it was refused
unfoldable pub game_names : List (List ℕ)
game_names = codes "game" ∷ (decision_names ++ codes "refused" ∷ [])

-- a record of a game with these fields between the number and the reason
unfoldable pub game_record : ℕ → List (List ℕ) → List ℕ → List ℕ
game_record number fields said = record_text (decimal number ∷ (fields ++ said ∷ []))

-- a record for each decision of a game, with no reason; a refused game has one with the reason, and its other fields are empty
abbrev pub outcome_records : ℕ → ℕ → GameReview → List ℕ
outcome_records limit number (Told told) = flat_map (λ t. game_record number (decision_fields limit t) []) told.items
outcome_records limit number (Refused said) = game_record number (replicate (length decision_names) []) said

-- the records of a game with its number
abbrev pub game_records : ℕ → ℕ × GameReview → List ℕ
game_records limit game = outcome_records limit game.0 game.1

-- a record of the names, and then those of each game, numbered from 1
unfoldable pub reviews_csv : ℕ → List GameReview → List ℕ
reviews_csv limit games = record_text game_names ++ flat_map (game_records limit) (enumerate_from 1 games)
