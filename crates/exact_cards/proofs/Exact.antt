-- What the rows say of the best.
use Rattle.std.proofs.Common.{◌≡◌, ◌∙◌, ◌≤◌, ◌-◌, ◌==◌, ◌&&◌, ℕ, suc, true, false, List, [], ◌∷◌, ◌++◌, Contains, refl, sym, ap, subst, ⊎_elim, arith}
use Rattle.std.specs.List.{AllZip}
use Rattle.std.proofs.lemmas.Bool.{and_parts}
use Rattle.std.proofs.lemmas.Bool.Decides.{Decides-eqb}
use Rattle.win_vectors.specs.Fronts.{Vector, Dominates}
use Rattle.win_vectors.specs.Weights.{weight_of}
use Rattle.win_vectors.proofs.WeightLemmas.{weight_of-monotone}
use Rattle.trick_rules.specs.Nodes.{NodeValue, IsNode, most_moves, choices, child}
use Rattle.strategy_games.specs.Choosing.{IsLeader, IsBestWeight, IsNamedByWeight}
use Rattle.strategy_games.specs.SearchLaws.{HasLeaders}
use Rattle.strategy_games.proofs.Lists.{Contains-here, Contains-there, Contains-nil, Contains-cons, Contains-append_first, first_is_member}
use Rattle.strategy_games.proofs.Measures.{best_exists}
use Rattle.strategy_games.proofs.Vectors.{Dominates-refl}
use Rattle.strategy_tree.specs.Bridge.{bridge}
use Rattle.strategy_tree.proofs.Rules.{lawful}
use Rattle.strategy_tree.proofs.BridgeLaws.{leaders}
use Rattle.winnable_sets.specs.Sets.{IsWinnable}
use Rattle.winnable_sets.specs.Laws.{HasSetBracket}
use Rattle.winnable_sets.proofs.Sets.{set_bracket}
use Rattle.card_brackets.specs.declared.rows.CardRow.{CardRow}
use Rattle.card_brackets.specs.Rows.{is_final, are_final}
use Rattle.exact_cards.specs.declared.table.ExactTable.{ExactTable}
use Rattle.exact_cards.specs.ExactRows.{IsExactRow}
use Rattle.exact_cards.specs.Laws.{IsOurNode, ExactRowsBracket, FinalRowsAreExact}
use Rattle.exact_cards.proofs.AllPlanned.{all_planned}
use Rattle.exact_cards.proofs.FirstRows.{IsFirstSafest}

-- ---- lists side by side

module _ {X Y : Type 0} (R : X → Y → Type 0) where
  -- a member of the first list has its partner,
  partner : (xs : List X) (ys : List Y) → AllZip R xs ys → (x : X) → Contains xs x → (y : Y) × Contains ys y × R x y
  partner [] ys zip x h = absurd (Contains-nil x h)
  partner (a ∷ xs) [] zip x h = absurd zip
  partner (a ∷ xs) (b ∷ ys) zip x h = ⊎_elim
      (λ (e : a ≡ x). (b, Contains-here b ys, subst (λ (z : X). R z b) e zip.0))
      (λ (k : Contains xs x). let p = partner xs ys zip.1 x k in (p.0, Contains-there b ys p.0 p.1, p.2))
      (Contains-cons a xs x h)

  -- and where the second list is cut, the first can be cut
  record Cut (xs : List X) (earlier : List Y) (y : Y) : Type 0 where
    pub before : List X
    pub at : X
    pub behind : List X
    pub is : xs ≡ before ++ at ∷ behind
    pub zip : AllZip R before earlier
    pub here : R at y

  cut : (earlier later : List Y) (y : Y) (xs : List X) → AllZip R xs (earlier ++ y ∷ later) → Cut xs earlier y
  cut [] later y [] zip = absurd zip
  cut [] later y (x ∷ xs) zip = record { before = []; at = x; behind = xs; is = refl; zip = tt; here = zip.0 }
  cut (e ∷ earlier) later y [] zip = absurd zip
  cut (e ∷ earlier) later y (x ∷ xs) zip =
      let c = cut earlier later y xs zip.1 in
      record { before = x ∷ c.before; at = c.at; behind = c.behind; is = ap (λ (l : List X). x ∷ l) c.is; zip = (zip.0, c.zip); here = c.here }

-- ---- one row

module _ (n : NodeValue) (weights : List ℕ) (at : IsOurNode n) (moves : ℕ) (many : most_moves ≤ moves) where
  law : HasSetBracket bridge IsNode (weight_of weights)
  law = set_bracket bridge IsNode lawful (weight_of weights) (weight_of-monotone weights)

  abbrev IsBest : ℕ → ℕ → Type 0
  IsBest card best = IsBestWeight bridge weights (child n card) (moves - 1) best

  within : (card : ℕ) (row : CardRow) (best : ℕ) → Contains (choices n) card → IsExactRow n weights card row → IsBest card best → (row.least ≤ best) × (best ≤ row.most)
  within card row best choice is b =
      let won = (all_planned n card moves row.vector at choice many).1 is.bracket.winnable in
      let low = law.low (child n card) (moves - 1) best row.vector b won in
      let least = is.bracket.weighs in
      let wins = b.0.1.reached b.0.2 b.0.3 in
      let best_won : IsWinnable bridge (child n card) (moves - 1) b.0.2 = (wins.0, wins.1, subst (λ (v : Vector). Dominates v b.0.2) (sym wins.2) (Dominates-refl b.0.2)) in
      let high = is.bracket.bounded b.0.2 ((all_planned n card moves b.0.2 at choice many).0 best_won) in
      let best_is = b.0.4 in
      (omega (arith, low, least), omega (arith, high, best_is))

  -- what is known of a final row
  record IsBestRow (card : ℕ) (row : CardRow) : Type 0 where
    pub card_is : row.card ≡ card
    pub met : row.least ≡ row.most
    pub best : IsBest card row.most

  final_row : (card : ℕ) (row : CardRow) → Contains (choices n) card → IsExactRow n weights card row → is_final row ≡ true → IsBestRow card row
  final_row card row choice is final =
      let met : row.least ≡ row.most = (Decides-eqb row.least row.most).0 final in
      let best = best_exists bridge (weight_of weights) IsNode lawful (child n card) (moves - 1) (lawful.holds n card at.a_node choice) in
      let between = within card row best.0 choice is best.1 in
      let same : best.0 ≡ row.most = omega (arith, between.0, between.1, met) in
      record {
        card_is = is.card_is;
        met = met;
        best = subst (λ (b : ℕ). IsBest card b) same best.1;
      }

  final_rows : (cards : List ℕ) (rows : List CardRow) → ((card : ℕ) → Contains cards card → Contains (choices n) card)
      → AllZip (IsExactRow n weights) cards rows → are_final rows ≡ true → AllZip IsBestRow cards rows
  final_rows [] [] among zip final = tt
  final_rows [] (row ∷ rows) among zip final = absurd zip
  final_rows (card ∷ cards) [] among zip final = absurd zip
  final_rows (card ∷ cards) (row ∷ rows) among zip final =
      let both = and_parts (is_final row) (are_final rows) final in (
        final_row card row (among card (Contains-here card cards)) zip.0 both.0,
        final_rows cards rows (λ c h. among c (Contains-there card cards c h)) zip.1 both.1,
      )

  just_best : (cards : List ℕ) (rows : List CardRow) → AllZip IsBestRow cards rows → AllZip (λ card row. IsBest card row.most) cards rows
  just_best [] [] zip = tt
  just_best [] (row ∷ rows) zip = absurd zip
  just_best (card ∷ cards) [] zip = absurd zip
  just_best (card ∷ cards) (row ∷ rows) zip = (zip.0.best, just_best cards rows zip.1)

  -- ---- the named card

  module _ (rows : List CardRow) (row : CardRow) (zip : AllZip IsBestRow (choices n) rows) (so : IsFirstSafest rows row) where
    cut_here : Cut IsBestRow (choices n) so.0 row
    cut_here = cut IsBestRow so.0 so.1 row (choices n) (subst (λ (rs : List CardRow). AllZip IsBestRow (choices n) rs) so.2 zip)

    leads : IsLeader bridge (weight_of weights) n (moves - 1) (choices n) row.most cut_here.at
    leads = (
      λ d k choice measure.
          let p = partner IsBestRow (choices n) rows zip d choice in
          let most = p.2.best.1 k measure in
          let met = p.2.met in
          let safe = so.4 p.0 p.1 in
          let here = cut_here.here.met in
          omega (arith, most, met, safe, here),
      (
        cut_here.before,
        cut_here.behind,
        cut_here.is,
        λ d early measure.
            let p = partner IsBestRow cut_here.before so.0 cut_here.zip d early in
            let most = p.2.best.1 row.most measure in
            let met = p.2.met in
            let here = cut_here.here.met in
            so.3 p.0 p.1 (λ other among. let safe = so.4 other among in omega (arith, safe, most, met, here)),
        cut_here.here.best.0,
      ),
    )

    named_row : IsNamedByWeight bridge weights n moves row.card
    named_row =
        let all : HasLeaders bridge IsNode (weight_of weights) = leaders (weight_of weights) (weight_of-monotone weights) in
        let more : suc (moves - 1) ≡ moves = omega (arith, many) in
        subst (λ (c : ℕ). IsNamedByWeight bridge weights n moves c) (sym cut_here.here.card_is)
        (subst (λ (m : ℕ). IsNamedByWeight bridge weights n m cut_here.at) more
        (all.all n (moves - 1) row.most cut_here.at at.a_node at.goes_on at.ours leads).1)

pub rows_bracket : ExactRowsBracket
rows_bracket n weights card row moves best at choice is many b = within n weights at moves many card row best choice is b

pub rows_exact : FinalRowsAreExact
rows_exact n weights table moves at is final many =
    let zip = final_rows n weights at moves many (choices n) table.rows.items (λ card h. h) is.rows final in (
      just_best n weights at moves many (choices n) table.rows.items zip,
      subst (λ (c : ℕ). IsNamedByWeight bridge weights n moves c) is.named.2 (named_row n weights at moves many table.rows.items is.named.0 zip is.named.1),
    )
