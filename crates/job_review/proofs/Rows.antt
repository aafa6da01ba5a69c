-- A table of the cards side by side has a row for each legal card, and the card that is named is one.
use Rattle.std.proofs.Common.{◌≡◌, ◌∙◌, ◌<◌, ℕ, zero, suc, true, List, [], ◌∷◌, ◌++◌, length, get_or, Contains, refl, sym, subst, arith}
use Rattle.std.specs.List.{AllZip}
use Rattle.std.proofs.lemmas.List.Elements.{Contains-append_right}
use Rattle.card_sets.specs.SetWords.{has_card}
use Rattle.trick_rules.specs.Nodes.{NodeValue, choices}
use Rattle.strategy_games.specs.Choosing.{IsNamedByWeight}
use Rattle.strategy_tree.specs.Bridge.{bridge}
use Rattle.strategy_tree.proofs.CardLists.{has_card-from_Contains, Contains-from_has_card}
use Rattle.card_brackets.specs.declared.rows.CardRow.{CardRow}
use Rattle.card_brackets.specs.declared.table.CardTable.{CardTable}
use Rattle.card_brackets.specs.Rows.{IsRow, IsTableUpTo}
use Rattle.job_review.specs.Reviews.{IsRowOf}

module _ (n : NodeValue) (weights : List ℕ) where
  row_at : (moves : ℕ) (cards : List ℕ) (rows : List CardRow) (k card : ℕ) → AllZip (IsRow n weights moves) cards rows → k < length cards → get_or cards k card ≡ card
      → (row : CardRow) × Contains rows row × (row.card ≡ card)
  row_at moves [] rows k card zip inside is = absurd (omega arith)
  row_at moves (c ∷ cards) [] k card zip inside is = absurd zip
  row_at moves (c ∷ cards) (row ∷ rows) zero card zip inside is = (row, (0, omega arith, refl), zip.0.card_is ∙ is)
  row_at moves (c ∷ cards) (row ∷ rows) (suc k) card zip inside is =
      let later = row_at moves cards rows k card zip.1 (omega arith) is in (later.0, Contains-append_right (row ∷ []) rows later.0 later.1, later.2)

  pub row_of_choice : (limit : ℕ) (table : CardTable) (card : ℕ) → IsTableUpTo n weights limit table → has_card (choices n) card ≡ true → (row : CardRow) × IsRowOf table card row
  row_of_choice limit table card is choice =
      let at = Contains-from_has_card (choices n) card choice in
      let row = row_at table.moves (choices n) table.rows.items at.0 card is.is_table.rows at.1 at.2 in
      (row.0, record { among = row.1; card_is = row.2 })

  choice_named : (moves card : ℕ) → IsNamedByWeight bridge weights n moves card → has_card (choices n) card ≡ true
  choice_named zero card named = absurd named
  choice_named (suc moves) card named =
      let first = named.2 in
      subst (λ cards. has_card cards card ≡ true) (sym first.2)
      (has_card-from_Contains (first.0 ++ card ∷ first.1) card (Contains-append_right first.0 (card ∷ first.1) card (0, omega arith, refl)))

  pub row_of_named : (limit : ℕ) (table : CardTable) → IsTableUpTo n weights limit table → (row : CardRow) × IsRowOf table table.named row
  row_of_named limit table is = row_of_choice limit table table.named is (choice_named table.moves table.named is.is_table.named)
