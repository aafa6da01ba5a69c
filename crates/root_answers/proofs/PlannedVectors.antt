-- Vectors with their plans, one by one.
use Rattle.std.proofs.Common.{◌≡◌, ◌∙◌, ◌+◌, ◌<◌, ◌++◌, ℕ, List, [], ◌∷◌, length, take, get_or, refl, sym, ap, subst}
use Rattle.std.proofs.lemmas.List.{map-append, take_more}
use Rattle.std.proofs.lemmas.List.Elements.{All-nil, All-push}
use Rattle.win_vectors.specs.Fronts.{Vector}
use Rattle.trick_rules.specs.Nodes.{NodeValue}
use Rattle.strategy_games.specs.Plans.{Plan}
use Rattle.strategy_games.specs.Choosing.{IsChosenPlan, IsNamedByWeight, IsBestWeight}
use Rattle.strategy_tree.specs.Bridge.{bridge}
use Rattle.am_report.specs.Answers.{EntryValue, SolveAnswerValue}
use Rattle.am_answer.specs.ReportOrder.{IsReportedFront}
use Rattle.am_answer.specs.Reports.{IsSolveAnswer}
use Rattle.root_answers.specs.Planned.{ArePlanned}

module _ (n : NodeValue) (moves : ℕ) (vectors : List Vector) where
  pub none_planned : (entries : List EntryValue) → entries ≡ [] → ArePlanned n moves (take 0 vectors) entries
  none_planned entries none =
      subst (λ (es : List EntryValue). ArePlanned n moves (take 0 vectors) es) (sym none)
      (record { listed = refl; plans = All-nil (λ (e : EntryValue). IsChosenPlan bridge e.plan n moves e.vector) })

  pub one_more_planned : (i : ℕ) (vector : Vector) (plan : Plan ℕ) (entries now : List EntryValue) → ArePlanned n moves (take i vectors) entries → i < length vectors → vector ≡ get_or vectors i vector
      → IsChosenPlan bridge plan n moves vector → now ≡ entries ++ record { vector = vector; plan = plan } ∷ [] → ArePlanned n moves (take (i + 1) vectors) now
  one_more_planned i vector plan entries now so inside is chosen pushed =
      let entry : EntryValue = record { vector = vector; plan = plan } in
      subst (λ (es : List EntryValue). ArePlanned n moves (take (i + 1) vectors) es) (sym pushed)
      (record {
        listed = map-append (λ (e : EntryValue). e.vector) entries (entry ∷ []) ∙ ap (λ (front : List Vector). front ++ vector ∷ []) so.listed ∙ ap (λ (last : Vector). take i vectors ++ last ∷ []) is ∙ sym (take_more vectors i vector inside);
        plans = All-push (λ (e : EntryValue). IsChosenPlan bridge e.plan n moves e.vector) entries entry so.plans chosen;
      })

-- the answer that these entries, this card and this weight make
pub answered : (n : NodeValue) (weights : List ℕ) (moves : ℕ) (vectors slice : List Vector) (answer : SolveAnswerValue) → slice ≡ vectors → IsReportedFront n weights moves vectors → ArePlanned n moves slice answer.entries
    → IsNamedByWeight bridge weights n moves answer.card → IsBestWeight bridge weights n moves answer.weight → IsSolveAnswer n weights moves answer
answered n weights moves vectors slice answer same reported planned card weight = record {
  vectors = subst (λ (vs : List Vector). IsReportedFront n weights moves vs) (sym (planned.listed ∙ same)) reported;
  plans = planned.plans;
  card = card;
  weight = weight;
}
