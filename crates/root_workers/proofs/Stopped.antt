-- What a round found where it stopped, and where no card is left.
use Rattle.std.proofs.Common.{◌≡◌, ◌↔◌, ◌∙◌, ◌+◌, ◌-◌, ℕ, true, false, Bool, Option, IsTrue, List, [], ◌∷◌, ◌++◌, length, refl, sym, ap, subst, arith, true≢false}
use Rattle.std.proofs.lemmas.List.{length-append}
use Rattle.win_vectors.specs.Fronts.{CoversAll}
use Rattle.pareto_fronts.specs.FrontValue.{FrontValue}
use Rattle.strategy_games.specs.Plans.{IsFront}
use Rattle.strategy_tree.specs.Bridge.{bridge}
use Rattle.cut_rules.specs.declared.CutRules.{CutRules}
use Rattle.cut_rules.specs.declared.Stop.{Stop}
use Rattle.cut_rules.specs.declared.Stop.TheVariants.{Never, SameFront, SameWeight}
use Rattle.cut_rules.specs.Rules.{no_cuts}
use Rattle.alphamu_core.specs.declared.answers.Found.{Found}
use Rattle.root_workers.specs.Roots.{AreEnough}
use Rattle.root_workers.specs.Founds.{IsFoundAt, AreFound}
use Rattle.root_workers.specs.declared.rounds.Round.{Round}
use Rattle.root_workers.proofs.Covered.{enough_by_front}
use Rattle.root_workers.proofs.Founds.{AreFoundSoFar, found_more, some_found, all_found}
use Rattle.root_workers.proofs.RootSoFar.{RootSoFar, tried_first, tried_all}

-- a round makes cuts
abbrev pub MakesCuts : Round → Type 0
MakesCuts r = r.rules ≡ no_cuts → ⊥

module _ (r : Round) where
  -- one card more
  pub founds_more : (founds now : List Found) (found : Found) (place : ℕ) → now ≡ founds ++ found ∷ [] → AreFoundSoFar r.node.now r.moves (MakesCuts r) founds → length founds ≡ place
      → IsFoundAt r.node.now r.moves (MakesCuts r) place found → AreFoundSoFar r.node.now r.moves (MakesCuts r) now
  founds_more founds now found place pushed so_far counted here =
      found_more r.node.now r.moves (MakesCuts r) founds now found pushed so_far (subst (λ k. IsFoundAt r.node.now r.moves (MakesCuts r) k found) (sym counted) here)

  pub counted_push : (founds now : List Found) (found : Found) (place : ℕ) → now ≡ founds ++ found ∷ [] → length founds ≡ place → length now ≡ place + 1
  counted_push founds now found place pushed counted =
      let longer : length now ≡ length (founds ++ found ∷ []) = ap length pushed in
      omega (arith, longer, length-append founds (found ∷ []), counted)

  module _ {nodes : ℕ} {plain : Type 0} {cards : List ℕ} {front : FrontValue} {best : Option (ℕ × ℕ)} (so : RootSoFar r.node.now (r.moves - 1) r.weights.now nodes plain cards front best)
      (founds : List Found) (so_far : AreFoundSoFar r.node.now r.moves (MakesCuts r) founds) (counted : length founds ≡ length so.tried) where
    pub founds_at_stop : (says_so : Bool) → says_so ≡ true → (r.rules.stop ≡ Never → says_so ≡ false) → (r.rules.stop ≡ SameFront → IsTrue says_so ↔ CoversAll front.vectors r.previous.now.vectors)
        → ((r.rules.stop ≡ Never → ⊥) → IsFront bridge r.node.now (r.moves - 1) r.previous.now.vectors) → (r.rules.stop ≡ SameWeight → ⊥) → AreFound r.node.now r.moves (MakesCuts r) founds
    founds_at_stop says_so says never covers is_less other = go r.rules.stop refl
      where
        go : (s : Stop) → r.rules.stop ≡ s → AreFound r.node.now r.moves (MakesCuts r) founds
        go Never e = absurd (true≢false (sym says ∙ never e))
        go SameWeight e = absurd (other e)
        go SameFront e = some_found r.node.now r.moves (MakesCuts r) founds so_far
            (subst (λ (cs : List ℕ). AreEnough r.node.now r.moves cs) (tried_first r.node.now (r.moves - 1) r.weights.now so (length founds) counted)
            (enough_by_front r.node.now r.moves so.tried front.vectors r.previous.now.vectors so.won ((covers e).0 says) (is_less (λ f. let no : SameFront ≡ Never = sym e ∙ f in cc))))
            (λ none. let no : SameFront ≡ Never = sym e ∙ ap (λ (rules : CutRules). rules.stop) none in cc)

    pub founds_of_all : cards ≡ [] → AreFound r.node.now r.moves (MakesCuts r) founds
    founds_of_all none_left = all_found r.node.now r.moves (MakesCuts r) founds so_far (counted ∙ tried_all r.node.now (r.moves - 1) r.weights.now so none_left)
