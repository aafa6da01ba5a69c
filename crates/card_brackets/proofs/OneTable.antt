-- A limit of moves has one table.
use Rattle.std.proofs.Common.{◌≡◌, ◌∙◌, ◌-◌, ◌<◌, ◌≤◌, ℕ, zero, suc, true, true≢false, List, [], ◌∷◌, Some, Contains, slice_get, refl, sym, ap, ap₂, subst, ⊎_elim, arith}
use Rattle.std.specs.List.{AllZip}
use Rattle.std.proofs.lemmas.Bool.{and_parts, cases_lt}
use Rattle.win_vectors.specs.Fronts.{Vector}
use Rattle.win_vectors.specs.Weights.{weight_of}
use Rattle.trick_rules.specs.Nodes.{NodeValue, IsNode, choices, child}
use Rattle.strategy_games.specs.Choosing.{IsNamedByWeight}
use Rattle.strategy_games.specs.Laws.{HasBestWeight}
use Rattle.strategy_games.proofs.Lists.{Contains-nil, Contains-cons}
use Rattle.strategy_games.proofs.WeightedChoice as theory_of_weights
use Rattle.strategy_tree.specs.Bridge.{bridge}
use Rattle.strategy_tree.proofs.BridgeLaws as laws
use Rattle.strategy_tree.proofs.Rules.{lawful, settled}
use Rattle.assured_games.specs.Assured.{IsLeastBy}
use Rattle.sure_nodes.specs.SureNodes.{is_sure_node}
use Rattle.vector_words.specs.Best.{IsFirstBest}
use Rattle.card_brackets.specs.declared.rows.CardRow.{CardRow}
use Rattle.card_brackets.specs.declared.table.CardTable.{CardTable}
use Rattle.card_brackets.specs.Rows.{IsRow, is_final, are_final, IsTableWith, IsTableUpTo, HasOneTable}

some_same : {A : Type 0} (x y : A) → ◌≡◌ {A = _} (Some x) (Some y) → x ≡ y
some_same x y same = cc

-- ---- rows

best_same : (weights : List ℕ) (front : List Vector) (one other : Vector) → IsFirstBest weights front one → IsFirstBest weights front other → one ≡ other
best_same weights front one other is also = ⊎_elim
    (λ (before : is.place < also.place).
    let less = also.first is.place one before is.here in
    let more = is.heaviest also.place other also.here in
    absurd (omega (arith, less, more)))
    (λ (not_before : also.place ≤ is.place). ⊎_elim
    (λ (after : also.place < is.place).
    let less = is.first also.place other after also.here in
    let more = also.heaviest is.place one is.here in
    absurd (omega (arith, less, more)))
    (λ (not_after : is.place ≤ also.place).
    let same : is.place ≡ also.place = omega (arith, not_before, not_after) in
    some_same one other (sym is.here ∙ ap (slice_get front) same ∙ also.here))
    (cases_lt also.place is.place))
    (cases_lt is.place also.place)

least_same : (n : NodeValue) (weights : List ℕ) (moves one other : ℕ) → IsLeastBy bridge is_sure_node (weight_of weights) n moves one
    → IsLeastBy bridge is_sure_node (weight_of weights) n moves other → one ≡ other
least_same n weights moves one other is also =
    let up : one ≤ other = subst (λ k. k ≤ other) is.measured (also.greatest is.vector is.assured) in
    let down : other ≤ one = subst (λ k. k ≤ one) also.measured (is.greatest also.vector also.assured) in
    omega (arith, up, down)

abbrev row_of : ℕ → Vector → ℕ → ℕ → ℕ → CardRow
row_of card vector most least sampled = record { card = card; vector = vector; most = most; least = least; sampled = sampled }

module _ (n : NodeValue) (weights : List ℕ) where
  row_same : (moves card : ℕ) (row other : CardRow) → IsRow n weights moves card row → IsRow n weights moves card other → row ≡ other
  row_same moves card row other is also =
      let front : is.front ≡ also.front = laws.one_front.unique (child n card) (moves - 1) is.front also.front is.is_front also.is_front in
      let vector = best_same weights also.front row.vector other.vector (subst (λ f. IsFirstBest weights f row.vector) front is.is_first) also.is_first in
      let cards : row.card ≡ other.card = is.card_is ∙ sym also.card_is in
      let most : row.most ≡ other.most = is.most ∙ ap (weight_of weights) vector ∙ sym also.most in
      let least : row.least ≡ other.least = least_same (child n card) weights (moves - 1) row.least other.least is.least also.least in
      let sampled : row.sampled ≡ other.sampled = is.sampled ∙ sym also.sampled in
      ap (λ c. row_of c row.vector row.most row.least row.sampled) cards ∙ ap (λ v. row_of other.card v row.most row.least row.sampled) vector
      ∙ ap (λ m. row_of other.card other.vector m row.least row.sampled) most ∙ ap (λ l. row_of other.card other.vector other.most l row.sampled) least
      ∙ ap (λ s. row_of other.card other.vector other.most other.least s) sampled

  rows_same : (moves : ℕ) (cards : List ℕ) (rows others : List CardRow) → AllZip (IsRow n weights moves) cards rows → AllZip (IsRow n weights moves) cards others → rows ≡ others
  rows_same moves [] [] [] is also = refl
  rows_same moves [] [] (other ∷ others) is also = absurd also
  rows_same moves [] (row ∷ rows) others is also = absurd is
  rows_same moves (card ∷ cards) [] others is also = absurd is
  rows_same moves (card ∷ cards) (row ∷ rows) [] is also = absurd also
  rows_same moves (card ∷ cards) (row ∷ rows) (other ∷ others) is also =
      ap₂ (λ (r : CardRow) rs. r ∷ rs) (row_same moves card row other is.0 also.0) (rows_same moves cards rows others is.1 also.1)

  final_among : (moves card : ℕ) (row : CardRow) (cards : List ℕ) (rows : List CardRow) → AllZip (IsRow n weights moves) cards rows → Contains cards card
      → IsRow n weights moves card row → are_final rows ≡ true → is_final row ≡ true
  final_among moves card row [] rows zip among is final = absurd (Contains-nil card among)
  final_among moves card row (c ∷ cards) [] zip among is final = absurd zip
  final_among moves card row (c ∷ cards) (r ∷ rows) zip among is final =
      let both = and_parts (is_final r) (are_final rows) final in
      ⊎_elim
      (λ (same : c ≡ card). subst (λ (x : CardRow). is_final x ≡ true) (row_same moves card r row (subst (λ d. IsRow n weights moves d r) same zip.0) is) both.0)
      (λ (later : Contains cards card). final_among moves card row cards rows zip.1 later is both.1)
      (Contains-cons c cards card among)

  -- ---- tables

  not_fewer : (limit : ℕ) (table other : CardTable) → IsTableUpTo n weights limit table → IsTableUpTo n weights limit other → table.moves < other.moves → ⊥
  not_fewer limit table other is also less =
      let few : table.moves < limit = omega (arith, less, also.few) in
      let (card, row, among, is_row, not_final) = also.needed table.moves is.some less in
      let final = final_among table.moves card row (choices n) table.rows.items is.is_table.rows among is_row (is.enough few) in
      true≢false (sym final ∙ not_final)

  moves_same : (limit : ℕ) (table other : CardTable) → IsTableUpTo n weights limit table → IsTableUpTo n weights limit other → table.moves ≡ other.moves
  moves_same limit table other is also = ⊎_elim
      (λ (less : table.moves < other.moves). absurd (not_fewer limit table other is also less))
      (λ (not_less : other.moves ≤ table.moves). ⊎_elim
      (λ (more : other.moves < table.moves). absurd (not_fewer limit other table also is more))
      (λ (not_more : table.moves ≤ other.moves). omega (arith, not_less, not_more))
      (cases_lt other.moves table.moves))
      (cases_lt table.moves other.moves)

best_weight : HasBestWeight bridge IsNode
best_weight = theory_of_weights.best_weight bridge IsNode lawful settled

named_same : (weights : List ℕ) (n : NodeValue) (moves card other : ℕ) → IsNamedByWeight bridge weights n moves card → IsNamedByWeight bridge weights n moves other → card ≡ other
named_same weights n zero card other is also = absurd is
named_same weights n (suc moves) card other is also = (best_weight.named weights).unique n moves card other is also

pub one_table : HasOneTable
one_table n weights limit table other is also =
    let moves = moves_same n weights limit table other is also in
    let here = subst (λ m. IsTableWith n weights m table) moves is.is_table in (
      moves,
      rows_same n weights other.moves (choices n) table.rows.items other.rows.items here.rows also.is_table.rows,
      named_same weights n other.moves table.named other.named here.named also.is_table.named,
    )
