-- The cards of declarer's side, judged by double dummy one after the other.
use Rattle.std.proofs.Common.{◌≡◌, ◌∙◌, ◌≢◌, ◌⊎◌, ◌==◌, eqb, ℕ, true, false, not, List, [], ◌∷◌, filter, length, replicate, refl, sym, ap, subst, inl, inr, ⊎_elim}
use Rattle.std.proofs.lemmas.Bool.{false≢true}
use Rattle.std.proofs.lemmas.Bool.Decides.{eqb_tells}
use Rattle.std.proofs.lemmas.List.{length-replicate}
use Rattle.card_sets.specs.SetWords.{has_card}
use Rattle.win_vectors.specs.Vectors.{either_of}
use Rattle.win_vectors.specs.Fronts.{Vector, Dominates}
use Rattle.trick_rules.specs.Positions.{PositionValue}
use Rattle.trick_rules.specs.Play.{after_card, take_out}
use Rattle.trick_rules.proofs.CardLists.{has_card-take_out, take_out-low, take_out-gone}
use Rattle.strategy_games.proofs.Vectors.{Dominates-trans}
use Rattle.set_nodes.specs.SetNodes.{node_at}
use Rattle.set_nodes.proofs.Numbers.{width_below}
use Rattle.set_nodes.proofs.Places.{HasOne, dominates_ones, no_one}
use Rattle.set_memo.specs.Known.{IsLostAt}
use Rattle.set_search.specs.Judged.{AreAllMade}
use Rattle.set_search.specs.Open.{own_legal, LostAfter, AreOpenCards}
use Rattle.set_search.proofs.OurCards.{before, first_or_later, first_either, second_either, either_within}

-- a card that is left is still to be judged, or each layout is made after it; with each other one that was tried layouts of the core are lost
pub record AreJudged (layouts : List (List ℕ)) (t : PositionValue) (chosen : Vector) (tried rest cards : List ℕ) (core : Vector) : Type 0 where
  pub within : Dominates chosen core
  pub to_come : (card : ℕ) → has_card rest card ≡ true → has_card (own_legal t) card ≡ true
  pub legal : (card : ℕ) → has_card cards card ≡ true → has_card (own_legal t) card ≡ true
  pub made : (card : ℕ) → has_card cards card ≡ true → (has_card rest card ≡ true) ⊎ AreAllMade (node_at layouts (after_card t card) chosen)
  pub each : (card : ℕ) → has_card tried card ≡ true → (has_card cards card ≡ true) ⊎ ((less : ℕ) → LostAfter layouts t less card core)

-- a card is taken out or left
out_or_left : (cards : List ℕ) (card c : ℕ) → has_card cards c ≡ true → (card ≡ c) ⊎ (has_card (take_out card cards) c ≡ true)
out_or_left cards card c h = ⊎_elim
    (λ (same : (eqb c card ≡ true) × (c ≡ card)). inl (sym same.1))
    (λ (other : (eqb c card ≡ false) × (c ≢ card)). inr (has_card-take_out card cards c ∙ rw (h, other.0) refl))
    (eqb_tells c card)

module _ (layouts : List (List ℕ)) (t : PositionValue) (chosen : Vector) (tried : List ℕ) where
  pub judged_none : (core : Vector) → ((card : ℕ) → has_card tried card ≡ true → has_card (own_legal t) card ≡ true) → core ≡ replicate (length chosen) false → AreJudged layouts t chosen tried tried tried core
  judged_none core legal none = record {
    within = dominates_ones chosen core (sym (ap (λ (v : Vector). length v) none ∙ length-replicate (length chosen) false))
        (λ k h. absurd (no_one (length chosen) k (subst (λ (v : Vector). HasOne v k) none h)));
    to_come = legal;
    legal = legal;
    made = λ card h. inl h;
    each = λ card h. inl h;
  }

  module _ (rest later : List ℕ) (card : ℕ) (first : rest ≡ card ∷ later) (cards : List ℕ) (core : Vector) (are : AreJudged layouts t chosen tried rest cards core) where
    pub judged_made : AreAllMade (node_at layouts (after_card t card) chosen) → AreJudged layouts t chosen tried later cards core
    judged_made all = record {
      within = are.within;
      to_come = λ c h. are.to_come c (before rest later card first c h);
      legal = are.legal;
      made = λ c h. ⊎_elim
          (λ (yet : has_card rest c ≡ true). ⊎_elim
          (λ (e : card ≡ c). inr (subst (λ (x : ℕ). AreAllMade (node_at layouts (after_card t x) chosen)) e all))
          (λ (after : has_card later c ≡ true). inl after)
          (first_or_later card later c (sym (ap (λ (xs : List ℕ). has_card xs c) first) ∙ yet)))
          (λ (done : AreAllMade (node_at layouts (after_card t c) chosen)). inr done)
          (are.made c h);
      each = are.each;
    }

    pub judged_lost : (lost more : Vector) (fewer : List ℕ) → more ≡ either_of core lost → fewer ≡ filter (λ c. not (c == card)) cards → Dominates chosen lost → ((less : ℕ) → IsLostAt layouts (after_card t card) less lost)
        → AreJudged layouts t chosen tried later fewer more
    judged_lost lost more fewer is out low gone =
        let wide : length core ≡ length lost = sym (width_below chosen core are.within) ∙ width_below chosen lost low in
        let above : Dominates more core = subst (λ (v : Vector). Dominates v core) (sym is) (first_either core lost wide) in
        let over : Dominates more lost = subst (λ (v : Vector). Dominates v lost) (sym is) (second_either core lost wide) in
        let still : (c : ℕ) → has_card fewer c ≡ true → has_card (take_out card cards) c ≡ true = λ c h. ap (λ (xs : List ℕ). has_card xs c) (sym out) ∙ h in
        record {
          within = either_within chosen core lost more is are.within low;
          to_come = λ c h. are.to_come c (before rest later card first c h);
          legal = λ c h. are.legal c (take_out-low card cards c (still c h));
          made = λ c h. ⊎_elim
              (λ (yet : has_card rest c ≡ true). ⊎_elim
              (λ (e : card ≡ c). absurd (false≢true (sym (take_out-gone card cards) ∙ subst (λ (x : ℕ). has_card (take_out card cards) x ≡ true) (sym e) (still c h))))
              (λ (after : has_card later c ≡ true). inl after)
              (first_or_later card later c (sym (ap (λ (xs : List ℕ). has_card xs c) first) ∙ yet)))
              (λ (done : AreAllMade (node_at layouts (after_card t c) chosen)). inr done)
              (are.made c (take_out-low card cards c (still c h)));
          each = λ c h. ⊎_elim
              (λ (was : has_card cards c ≡ true). ⊎_elim
              (λ (e : card ≡ c). inr (λ less. (lost, over, subst (λ (x : ℕ). IsLostAt layouts (after_card t x) less lost) e (gone less))))
              (λ (left : has_card (take_out card cards) c ≡ true). inl (ap (λ (xs : List ℕ). has_card xs c) out ∙ left))
              (out_or_left cards card c was))
              (λ (before_this : (less : ℕ) → LostAfter layouts t less c core). inr (λ less. let old = before_this less in (old.0, Dominates-trans more core old.0 above old.1, old.2)))
              (are.each c h);
        }

  pub judged_all : (rest cards : List ℕ) (core : Vector) → rest ≡ [] → AreJudged layouts t chosen tried rest cards core → AreOpenCards layouts t chosen tried cards core
  judged_all rest cards core none are = record {
    within = are.within;
    legal = are.legal;
    made = λ c h. ⊎_elim
        (λ (yet : has_card rest c ≡ true). absurd (false≢true (ap (λ (xs : List ℕ). has_card xs c) (sym none) ∙ yet)))
        (λ (done : AreAllMade (node_at layouts (after_card t c) chosen)). done) (are.made c h);
    each = are.each;
  }
