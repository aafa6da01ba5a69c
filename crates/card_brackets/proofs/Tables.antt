-- The least number of moves with which each row is final.
use Rattle.std.proofs.Common.{◌≡◌, ◌+◌, ◌<◌, ◌≤◌, ℕ, true, List, inl, inr, ⊎_elim, sym, subst, arith}
use Rattle.std.proofs.lemmas.Bool.{cases_lt}
use Rattle.trick_rules.specs.Nodes.{NodeValue}
use Rattle.card_brackets.specs.declared.table.CardTable.{CardTable}
use Rattle.card_brackets.specs.Rows.{are_final, IsTableWith, IsOpenWith, IsTableUpTo, IsRoundUpTo}

module _ (n : NodeValue) (ws : List ℕ) where
  -- with each number of moves below this one some row isn't final
  abbrev pub AreOpenBelow : ℕ → Type 0
  AreOpenBelow moves = (fewer : ℕ) → 1 ≤ fewer → fewer < moves → IsOpenWith n ws fewer

  pub open_none : (moves : ℕ) → moves ≤ 1 → AreOpenBelow moves
  open_none moves none fewer some less = absurd (omega arith)

  pub open_more : (moves : ℕ) → AreOpenBelow moves → IsOpenWith n ws moves → AreOpenBelow (moves + 1)
  open_more moves below now fewer some less = ⊎_elim
      (λ (earlier : fewer < moves). below fewer some earlier)
      (λ (last : moves ≤ fewer). let same : moves ≡ fewer = omega arith in subst (λ m. IsOpenWith n ws m) same now)
      (cases_lt fewer moves)

  pub open_within : (moves limit : ℕ) → limit ≤ moves → AreOpenBelow moves → AreOpenBelow limit
  open_within moves limit within below fewer some less = below fewer some (omega arith)

  pub table_up_to : (limit moves : ℕ) (table : CardTable) → 1 ≤ moves → moves ≤ limit → AreOpenBelow moves → IsTableWith n ws moves table → (moves < limit → are_final table.rows.items ≡ true) → IsTableUpTo n ws limit table
  table_up_to limit moves table some few below is final =
      let same = is.moves_are in
      record {
        some = omega arith;
        few = omega arith;
        is_table = subst (λ m. IsTableWith n ws m table) (sym same) is;
        enough = λ less. final (omega arith);
        needed = subst (λ m. AreOpenBelow m) (sym same) below;
      }

  pub round_up_to : (limit moves : ℕ) → 1 ≤ moves → moves ≤ limit → AreOpenBelow moves → IsRoundUpTo n ws limit moves
  round_up_to limit moves some few below = record { some = some; few = few; needed = below }
