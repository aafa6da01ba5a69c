-- The report of an answer.
use Rattle.std.specs.Prelude.{ℕ, Bool, List, ◌++◌, length, map, flat_map, codes}
use Rattle.std.specs.Fmt.{decimal}
use Rattle.bit_letters.specs.Bits.{bit_letter}
use Rattle.win_vectors.specs.Weights.{weight_of}
use Rattle.pbn_deal.specs.Boards.{BoardValue}
use Rattle.layout_list.specs.Kept.{KeptValue}
use Rattle.byte_text.specs.Lines.{line_of}
use Rattle.strategy_tree.specs.PlanText.{plan_text}
use Rattle.am_report.specs.Answers.{EntryValue, SolveAnswerValue}
use Rattle.am_report.specs.Head.{head_text}
use Rattle.am_report.specs.Card.{named_text}
use Rattle.am_report.specs.Versions.{version_of, weight_text}

-- a vector's bits, one for each kept layout, and how many of them are ones, or the weight of these
unfoldable pub vector_line : List ℕ → List Bool → List ℕ
vector_line weights vector =
    line_of (codes "vector " ++ map bit_letter vector ++ weight_text (version_of weights) (weight_of weights vector))

-- a vector of the front, and its plan
unfoldable pub entry_text : List ℕ → EntryValue → List ℕ
entry_text weights entry = vector_line weights entry.vector ++ plan_text entry.plan

-- the report up to its first vector
unfoldable pub solve_start : BoardValue → KeptValue → ℕ → ℕ → List ℕ
solve_start board kept moves vectors = head_text board kept moves ++ line_of (codes "front " ++ decimal vectors)

-- the report behind its last plan
unfoldable pub solve_end : List ℕ → ℕ → ℕ → List ℕ
solve_end weights card weight = line_of (named_text (version_of weights) card weight) ++ line_of (codes "end")

-- the head, the front with its plans, and the card to play
unfoldable pub solve_text : BoardValue → KeptValue → ℕ → SolveAnswerValue → List ℕ
solve_text board kept moves answer =
    solve_start board kept moves (length answer.entries)
    ++ flat_map (entry_text kept.weights) answer.entries
    ++ solve_end kept.weights answer.card answer.weight
