-- The text of a review: what each decision cost.
use Rattle.std.specs.Prelude.{ℕ, ◌-◌, Bool, ◌==◌, List, [], ◌∷◌, ◌++◌, length, flat_map, count_by, nat_lt, max, codes, if◌then◌else◌}
use Rattle.std.specs.Fmt.{decimal}
use Rattle.byte_text.specs.Lines.{line_of}
use Rattle.card_letters.specs.Letters.{letters_of, compass_letter}
use Rattle.review_text.specs.declared.reviewed.Reviewed.{Reviewed}

-- what the card cost at least: by how much some card is sure to win more than the card played can
abbrev pub cost_of : Reviewed → ℕ
cost_of told = told.sure - told.most

-- what it cost at most: by how much the card named, which can win most of all, can win more than the card played is sure to
abbrev pub cost_up_to : Reviewed → ℕ
cost_up_to told = told.named_most - told.least

-- both ends are equal
abbrev pub is_final : Reviewed → Bool
is_final told = cost_of told == cost_up_to told

-- how many are certain to cost something
abbrev pub costly_among : List Reviewed → ℕ
costly_among told = count_by (λ t. nat_lt 0 (cost_of t)) told

-- how many may cost something
abbrev pub maybe_costly_among : List Reviewed → ℕ
maybe_costly_among told = count_by (λ t. nat_lt 0 (cost_up_to t)) told

-- the greatest cost that is certain
abbrev pub greatest_cost : List Reviewed → ℕ
greatest_cost [] = 0
greatest_cost (first ∷ later) = max (cost_of first) (greatest_cost later)

-- the greatest cost that may be
abbrev pub greatest_up_to : List Reviewed → ℕ
greatest_up_to [] = 0
greatest_up_to (first ∷ later) = max (cost_up_to first) (greatest_up_to later)

-- which card of the play it was, in which trick, and who played it
unfoldable pub turn_text : Reviewed → List ℕ
turn_text told =
    codes "card " ++ decimal told.number ++ codes " trick " ++ decimal told.trick ++ codes " seat " ++ compass_letter told.seat ∷ []

-- the card played and the card named, each with its bounds
unfoldable pub cards_text : Reviewed → List ℕ
cards_text told =
    codes " played " ++ letters_of told.played ++ codes " most " ++ decimal told.most ++ codes " least " ++ decimal told.least
    ++ codes " named " ++ letters_of told.named ++ codes " most " ++ decimal told.named_most ++ codes " least " ++ decimal told.named_least

-- whether both ends are equal
abbrev pub final_word : Reviewed → List ℕ
final_word told = if is_final told then codes "yes" else codes "no"

-- the layouts, and what the card cost, at least and at most
unfoldable pub cost_text : Reviewed → List ℕ
cost_text told =
    codes " layouts " ++ decimal told.layouts ++ codes " weight " ++ decimal told.weight
    ++ codes " cost " ++ decimal (cost_of told) ++ codes " to " ++ decimal (cost_up_to told) ++ codes " final " ++ final_word told

-- the line of a decision
unfoldable pub decision_line : Reviewed → List ℕ
decision_line told = line_of (turn_text told ++ cards_text told ++ cost_text told)

-- how many decisions there are, how many of them cost something, and the greatest cost: what is certain, and what may be
unfoldable pub last_line : List Reviewed → List ℕ
last_line told = line_of
    (codes "decisions " ++ decimal (length told)
    ++ codes " costly " ++ decimal (costly_among told) ++ codes " to " ++ decimal (maybe_costly_among told)
    ++ codes " greatest " ++ decimal (greatest_cost told) ++ codes " to " ++ decimal (greatest_up_to told))

-- a line for each decision, and the last line
unfoldable pub decisions_text : List Reviewed → List ℕ
decisions_text told = flat_map decision_line told ++ last_line told

-- what the text is, and the greatest number of moves
unfoldable pub head_text : List ℕ → ℕ → List ℕ
head_text title limit = line_of title ++ line_of (codes "moves " ++ decimal limit)

-- the head, and what was told of each decision
unfoldable pub review_text : ℕ → List Reviewed → List ℕ
review_text limit told = head_text (codes "alphamu review 1") limit ++ decisions_text told
