-- The cards of a root side by side.
use Rattle.std.specs.Prelude.{◌≡◌, ⊤, ℕ, List}
use Rattle.job_words.specs.declared.asks.Search.{Search}
use Rattle.am_answer.specs.declared.root.Root.{Root}
use Rattle.am_answer.specs.declared.status.Status.{Status}
use Rattle.am_answer.specs.declared.status.Status.TheVariants.{Spent, Memory}
use Rattle.card_brackets.specs.declared.table.CardTable.{CardTable}
use Rattle.card_brackets.specs.Rows.{IsTableUpTo, IsSpentUpTo}
use Rattle.exact_cards.specs.declared.table.ExactTable.{ExactTable}
use Rattle.exact_cards.specs.ExactRows.{IsExactTable, AreFinalUnlessSpent}
use Rattle.text_forms.specs.declared.form.Form.{Form}
use Rattle.card_forms.specs.Forms.{cards_in, exact_in}

-- the text of a root for a limit of moves, in a form
abbrev pub IsCardsText : Root → ℕ → Form → List ℕ → Type 0
IsCardsText root limit form text = (table : CardTable) × IsTableUpTo root.kept.node root.kept.weights limit table
    × (text ≡ cards_in form root.kept.node root.kept.weights table)

-- why there is no text: a root card's tree, with a number of moves that would have been told, has more nodes than a search may
-- enter; or an allocation failed
abbrev pub IsCardsRefusal : Root → ℕ → Search → Status → Type 0
IsCardsRefusal root limit search (Spent card) = IsSpentUpTo root.kept.node root.kept.weights limit search.nodes card
IsCardsRefusal root limit search Memory = ⊤
IsCardsRefusal root limit search _ = ⊥

-- the text of a root, all moves planned, in a form, if the search of each card may enter this many nodes
abbrev pub IsExactText : Root → ℕ → Form → List ℕ → Type 0
IsExactText root nodes form text = (table : ExactTable) × IsExactTable root.kept.node root.kept.weights table × AreFinalUnlessSpent nodes table
    × (text ≡ exact_in form root.kept.node root.kept.weights table)

-- the rows of a root, all of these moves planned, as a table, if the search of each card may enter this many nodes
abbrev pub IsPlannedTable : Root → ℕ → ℕ → CardTable → Type 0
IsPlannedTable root nodes moves table = (exact : ExactTable) × IsExactTable root.kept.node root.kept.weights exact × AreFinalUnlessSpent nodes exact
    × (table ≡ record { moves = moves; rows = exact.rows; named = exact.named })
