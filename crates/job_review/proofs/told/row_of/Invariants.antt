use Rattle.std.proofs.Common.{◌≡◌, ℕ, ◌<◌, get_or}
use Rattle.card_brackets.specs.declared.rows.CardRow.{CardRow}
use Rattle.job_review.proofs.told.row_of.Given as goal

abbrev pub invariant-loop-row : goal.invariant-loop-row
invariant-loop-row l = (k : ℕ) (row : CardRow) → k < l.row-index → get_or l.table.rows.items k row ≡ row → row.card ≡ l.card → ⊥
