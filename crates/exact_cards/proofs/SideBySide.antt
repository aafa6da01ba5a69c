-- Rows side by side with cards, one more at a time.
use Rattle.std.proofs.Common.{◌≡◌, ◌∙◌, ◌<◌, ◌≤◌, ◌+◌, ℕ, suc, false, List, [], ◌∷◌, ◌++◌, length, take, get_or, Contains, refl, sym, ap, subst, arith}
use Rattle.std.specs.List.{AllZip}
use Rattle.std.proofs.lemmas.List.{take_more, take_all}
use Rattle.trick_rules.specs.Nodes.{NodeValue, IsNode, choices}
use Rattle.trick_rules.proofs.PlayLaws.{there_is_a_choice}
use Rattle.strategy_tree.specs.Bridge.{bridge}
use Rattle.strategy_tree.proofs.CardLists.{Contains-from_has_card}
use Rattle.card_brackets.specs.declared.rows.CardRow.{CardRow}
use Rattle.exact_cards.specs.ExactRows.{IsExactRow, AreExactRows}

module _ {X Y : Type 0} (R : X → Y → Type 0) where
  pub zip_more : (xs : List X) (ys : List Y) (x : X) (y : Y) → AllZip R xs ys → R x y → AllZip R (xs ++ x ∷ []) (ys ++ y ∷ [])
  zip_more [] [] x y none is = (is, tt)
  zip_more [] (b ∷ ys) x y none is = absurd none
  zip_more (a ∷ xs) [] x y none is = absurd none
  zip_more (a ∷ xs) (b ∷ ys) x y both is = (both.0, zip_more xs ys x y both.1 is)

  zip_length : (xs : List X) (ys : List Y) → AllZip R xs ys → length xs ≡ length ys
  zip_length [] [] none = refl
  zip_length [] (b ∷ ys) none = absurd none
  zip_length (a ∷ xs) [] none = absurd none
  zip_length (a ∷ xs) (b ∷ ys) both = ap suc (zip_length xs ys both.1)

module _ (n : NodeValue) (weights : List ℕ) where
  -- the rows of the first cards
  abbrev pub AreFirstRows : ℕ → List CardRow → Type 0
  AreFirstRows place rows = AllZip (IsExactRow n weights) (take place (choices n)) rows

  pub rows_more : (place card : ℕ) (row : CardRow) (rows : List CardRow) → place < length (choices n) → card ≡ get_or (choices n) place card → IsExactRow n weights card row
      → AreFirstRows place rows → AreFirstRows (place + 1) (rows ++ row ∷ [])
  rows_more place card row rows inside same is so =
      let cards : take (place + 1) (choices n) ≡ take place (choices n) ++ card ∷ [] = take_more (choices n) place card inside ∙ ap (λ c. take place (choices n) ++ c ∷ []) (sym same) in
      subst (λ taken. AllZip (IsExactRow n weights) taken (rows ++ row ∷ [])) (sym cards) (zip_more (IsExactRow n weights) (take place (choices n)) rows card row so is)

  pub rows_all : (place : ℕ) (rows : List CardRow) → length (choices n) ≤ place → AreFirstRows place rows → AreExactRows n weights rows
  rows_all place rows past so = subst (λ cards. AllZip (IsExactRow n weights) cards rows) (take_all place (choices n) past) so

  filled : (cards : List ℕ) (card : ℕ) → Contains cards card → 0 < length cards
  filled cards card h = let low = h.1 in omega (arith, low)

  pub some_row : (rows : List CardRow) → IsNode n → bridge.is_over n ≡ false → AreExactRows n weights rows → 0 < length rows
  some_row rows ok on are =
      let card = there_is_a_choice n ok on in
      let some = filled (choices n) card.0 (Contains-from_has_card (choices n) card.0 card.1) in
      omega (arith, some, zip_length (IsExactRow n weights) (choices n) rows are)
