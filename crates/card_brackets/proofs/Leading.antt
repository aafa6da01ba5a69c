-- Which of the first rows leads.
use Rattle.std.proofs.Common.{◌≡◌, ◌∙◌, ◌+◌, ◌-◌, ◌<◌, ◌≤◌, ℕ, suc, false, true, Bool, nat_lt, if◌then◌else◌, refl, Option, Some, None, List, [], ◌∷◌, ◌++◌, Contains, take, length, get_or, slice_get, sym, ap, ap₂, not, ◌&&◌, subst, arith}
use Rattle.std.specs.List.{AllZip}
use Rattle.std.proofs.lemmas.Bool.{ltb-true, ltb-false}
use Rattle.std.proofs.lemmas.List.{take_more}
use Rattle.std.proofs.lemmas.Option.{slice_get-get_or, slice_get_within, get_or_from_slice_get}
use Rattle.std.proofs.lemmas.List.Folds.{list_all-append}
use Rattle.win_vectors.specs.Fronts.{Vector}
use Rattle.win_vectors.specs.Weights.{weight_of}
use Rattle.win_vectors.proofs.WeightLemmas.{weight_of-monotone}
use Rattle.trick_rules.specs.Nodes.{NodeValue, IsNode, choices, child}
use Rattle.strategy_games.specs.Choosing.{IsLeader, IsBestWeight, IsNamedByWeight}
use Rattle.strategy_games.specs.SearchLaws.{HasLeaders}
use Rattle.strategy_games.proofs.Measures.{best_of}
use Rattle.strategy_tree.specs.Bridge.{bridge}
use Rattle.strategy_tree.proofs.Rules.{lawful}
use Rattle.strategy_tree.proofs.BridgeLaws.{leaders}
use Rattle.root_workers.specs.Leaders.{leader}
use Rattle.assured_fronts.proofs.ReplyByReply.{zip_more}
use Rattle.card_brackets.specs.declared.rows.CardRow.{CardRow}
use Rattle.card_brackets.specs.Rows.{IsRow, is_final, are_final}

-- a row that doesn't end a round of which only a final table is wanted
pub final_if_not_open : (final only : Bool) → (only && not final) ≡ false → only ≡ true → final ≡ true
final_if_not_open true only goes_on wanted = refl
final_if_not_open false true goes_on wanted = sym goes_on
final_if_not_open false false goes_on wanted = wanted

-- a final row more
pub finals_more : (rows : List CardRow) (row : CardRow) → are_final rows ≡ true → is_final row ≡ true → are_final (rows ++ row ∷ []) ≡ true
finals_more rows row all one = list_all-append is_final rows (row ∷ []) ∙ ap₂ (λ (a b : Bool). a && (b && true)) all one

module _ (n : NodeValue) (ws : List ℕ) (moves : ℕ) where
  law : HasLeaders bridge IsNode (weight_of ws)
  law = leaders (weight_of ws) (weight_of-monotone ws)

  -- the most of a row is the best weight after its card
  pub best_after : (card : ℕ) (row : CardRow) → IsRow n ws moves card row → IsBestWeight bridge ws (child n card) (moves - 1) row.most
  best_after card row is =
      let first = is.is_first in
      let among : Contains is.front row.vector = (first.place, slice_get_within is.front first.place row.vector first.here, get_or_from_slice_get is.front first.place row.vector row.vector first.here) in
      subst (λ b. IsBestWeight bridge ws (child n card) (moves - 1) b) (sym is.most)
      (best_of bridge (weight_of ws) (child n card) (moves - 1) is.front row.vector is.is_front among
      (λ w k. first.heaviest k.0 w (slice_get-get_or is.front k.0 w k.1 ∙ ap Some k.2)))

  -- the card that leads, with its weight; none if there is no card
  abbrev pub Leads : Option (ℕ × ℕ) → List ℕ → Type 0
  Leads None tried = tried ≡ []
  Leads (Some best) tried = IsLeader bridge (weight_of ws) n (moves - 1) tried best.1 best.0

  module _ (tried : List ℕ) (card k : ℕ) (best : IsBestWeight bridge ws (child n card) (moves - 1) k) where
    -- one card more, by the test of the code
    leads_tested : (old : ℕ × ℕ) (t : Bool) → nat_lt old.1 k ≡ t → Leads (Some old) tried → Leads (Some (if t then (card, k) else old)) (tried ++ card ∷ [])
    leads_tested old true test leads = law.better n (moves - 1) old.1 k tried old.0 card leads best (ltb-true old.1 k test)
    leads_tested old false test leads = law.no_better n (moves - 1) old.1 k tried old.0 card leads best (ltb-false old.1 k test)

    leads_with : (old : Option (ℕ × ℕ)) → Leads old tried → Leads (Some (leader old card k)) (tried ++ card ∷ [])
    leads_with None none = subst (λ (ds : List ℕ). Leads (Some (card, k)) (ds ++ card ∷ [])) (sym none) (law.first n (moves - 1) k card best)
    leads_with (Some old) leads = leads_tested old (nat_lt old.1 k) refl leads

  -- the rows of the first cards, and which of them leads
  pub record RowsSoFar (place : ℕ) (rows : List CardRow) (best : Option (ℕ × ℕ)) : Type 0 where
    pub rows_are : AllZip (IsRow n ws moves) (take place (choices n)) rows
    pub leads : Leads best (take place (choices n))

  pub rows_none : RowsSoFar 0 [] None
  rows_none = record { rows_are = tt; leads = refl }

  pub rows_more : (place card : ℕ) (row : CardRow) (lead : ℕ × ℕ) (rows : List CardRow) (best : Option (ℕ × ℕ)) → place < length (choices n) → card ≡ get_or (choices n) place card → IsRow n ws moves card row → RowsSoFar place rows best
      → lead ≡ leader best row.card row.most → RowsSoFar (place + 1) (rows ++ row ∷ []) (Some lead)
  rows_more place card row lead rows best inside same is so leads =
      let cards : take (place + 1) (choices n) ≡ take place (choices n) ++ card ∷ [] = take_more (choices n) place card inside ∙ ap (λ c. take place (choices n) ++ c ∷ []) (sym same) in
      let now : lead ≡ leader best card row.most = leads ∙ ap (λ c. leader best c row.most) is.card_is in
      record {
        rows_are = subst (λ taken. AllZip (IsRow n ws moves) taken (rows ++ row ∷ [])) (sym cards) (zip_more (IsRow n ws moves) (take place (choices n)) rows card row so.rows_are is);
        leads = subst (λ tried. Leads (Some lead) tried) (sym cards) (subst (λ (l : ℕ × ℕ). Leads (Some l) (take place (choices n) ++ card ∷ [])) (sym now) (leads_with (take place (choices n)) card row.most (best_after card row is) best so.leads));
      }

  -- the card that leads in the end is named
  pub named_of : (lead : ℕ × ℕ) → 1 ≤ moves → IsNode n → bridge.is_over n ≡ false → bridge.is_ours n ≡ true → Leads (Some lead) (choices n) → IsNamedByWeight bridge ws n moves lead.0
  named_of lead some sound over ours leads =
      let more : suc (moves - 1) ≡ moves = omega arith in
      subst (λ m. IsNamedByWeight bridge ws n m lead.0) more (law.all n (moves - 1) lead.1 lead.0 sound over ours leads).1

  -- some card leads
  pub some_leads : IsNode n → bridge.is_over n ≡ false → Leads None (choices n) → ⊥
  some_leads sound over none = lawful.some_card n sound over none
