-- What a search tells of a root card, and what it finds by what is known of the card.
use Rattle.std.proofs.Common.{◌≡◌, ◌∙◌, ◌-◌, ◌<◌, ◌≤◌, ℕ, Some, Result, Ok, Err, List, slice_get, take, refl, sym, subst}
use Rattle.std.specs.Prelude.{IfOk, IfErr, IsErrOf}
use Rattle.win_vectors.specs.Fronts.{Vector}
use Rattle.trick_rules.specs.Nodes.{choices, child}
use Rattle.cut_rules.specs.Rules.{no_cuts}
use Rattle.strategy_tree.specs.declared.root_fault.RootFault.{RootFault}
use Rattle.strategy_tree.specs.declared.root_fault.RootFault.TheVariants as fault
use Rattle.alphamu_core.specs.declared.answers.Found.{Found}
use Rattle.alphamu_core.specs.declared.answers.Found.TheVariants.{Exact, Below}
use Rattle.alphamu_core.specs.declared.budget.Entered.{Entered}
use Rattle.alphamu_core.specs.Costs.{IsWithin}
use Rattle.alphamu_core.specs.Findings.{IsFound, IsExact}
use Rattle.root_workers.specs.declared.rounds.Round.{Round}
use Rattle.root_workers.specs.declared.rounds.CardSearch.{CardSearch}
use Rattle.root_workers.specs.declared.searches.SearchResult.{SearchResult}
use Rattle.root_workers.specs.declared.worker_results.Known.{Known}
use Rattle.root_workers.specs.declared.worker_results.Known.TheVariants as known
use Rattle.root_workers.specs.Rounds.{AreWonAfter, IsKnownAt, IsKnownAfter, IsPlainRound, IsSearchedAfter, IsCardEnd, known_as, size_after}
use Rattle.root_workers.specs.Tasks.{IsFrontSearch}
use Rattle.root_workers.proofs.Covered.{covered_before, below_front}

pub known_found : (r : Round) (place card : ℕ) (alpha : List Vector) (found : Found) (entered : Entered) → slice_get (choices r.node.now) place ≡ Some card
    → AreWonAfter r (take place (choices r.node.now)) alpha → IsFound (child r.node.now card) (r.moves - 1) alpha found
    → (r.rules ≡ no_cuts → IsExact found) → (IsPlainRound r → size_after r card ≤ r.nodes) → IsWithin r.nodes entered → IsKnownAt r place (known_as found entered)
known_found r place card alpha (Exact front) entered here won is exact fits within = record { card = card; here = here; known_is = (is, fits, within) }
known_found r place card alpha Below entered here won below exact fits within = record {
  card = card;
  here = here;
  known_is = (covered_before r.node.now r.moves (take place (choices r.node.now)) card alpha won below, exact, within);
}

module _ (r : Round) (it : CardSearch) (asked : IsFrontSearch r it) where
  -- the card at the place is that of the search
  known_here : (is : Known) → IsKnownAt r it.place is → IsKnownAfter r (take it.place (choices r.node.now)) it.card is
  known_here is here =
      let some : Some here.card ≡ Some it.card = sym here.here ∙ asked.card in
      let same : here.card ≡ it.card = cc in
      subst (λ card. IsKnownAfter r (take it.place (choices r.node.now)) card is) same here.known_is

  searched_as : (found : Found) (entered : Entered) → IsKnownAt r it.place (known_as found entered)
      → IsSearchedAfter r it.card it.alpha.now.vectors (record { found = found; entered = entered }) × (IsPlainRound r → size_after r it.card ≤ r.nodes)
  searched_as (Exact front) entered is =
      let here = known_here (known.Exact front entered) is in
      (record { found = here.0; exact = λ _. tt; within = here.2 }, here.1)
  searched_as Below entered is =
      let here = known_here (known.Below entered) is in
      let below = below_front r.node.now r.moves (take it.place (choices r.node.now)) it.card it.alpha.now.vectors asked.won here.0 in
      (record { found = below; exact = λ none. absurd (here.1 none); within = here.2 }, λ plain. absurd (here.1 plain.cuts))

  -- how a search would end that finds what is known
  pub known_end : (is : Known) (result : Result SearchResult RootFault) → IsKnownAt r it.place is → IfOk result (λ s. is ≡ known_as s.found s.entered)
      → IfErr result (λ e. (e ≡ fault.Spent it.card) × (is ≡ known.Spent)) → IsCardEnd r it.card it.alpha.now.vectors result
  known_end is (Ok s) here told spent = searched_as s.found s.entered (subst (λ k. IsKnownAt r it.place k) told here)
  known_end is (Err e) here told spent =
      subst (λ (f : RootFault). IsCardEnd r it.card it.alpha.now.vectors (Err f)) (sym spent.0) (refl, known_here known.Spent (subst (λ k. IsKnownAt r it.place k) spent.1 here))

module _ (r : Round) (card : ℕ) (alpha : List Vector) where
  -- the end by what is said of it clause by clause
  pub card_end : (result : Result SearchResult RootFault) → IfOk result (IsSearchedAfter r card alpha) → (IsPlainRound r → IfOk result (λ _. size_after r card ≤ r.nodes))
      → ((other : ℕ) → IsErrOf result (fault.Spent other) → (other ≡ card) × (r.nodes < size_after r card)) → IsCardEnd r card alpha result
  card_end (Ok s) searched fits spent = (searched, fits)
  card_end (Err (fault.Spent other)) searched fits spent = spent other refl
  card_end (Err fault.Memory) searched fits spent = tt

  -- the card that is named as too large
  pub card_spent : (e : RootFault) (other : ℕ) → e ≡ fault.Spent other → IsCardEnd r card alpha (Err e) → (other ≡ card) × (r.nodes < size_after r card)
  card_spent e other is end = subst (λ (f : RootFault). IsCardEnd r card alpha (Err f)) is end
