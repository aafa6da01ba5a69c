-- At declarer's turn: the cards tried so far, and the core that they leave.
use Rattle.std.proofs.Common.{◌≡◌, ◌∙◌, ◌≤◌, ◌⊎◌, ℕ, zero, suc, true, false, is_some, List, [], ◌∷◌, length, get_or, Contains, refl, sym, ap, subst, inl, inr, ⊎_elim, arith}
use Rattle.std.proofs.lemmas.Bool.{false≢true}
use Rattle.card_sets.specs.SetWords.{has_card}
use Rattle.win_vectors.specs.Vectors.{ones_of, either_of}
use Rattle.win_vectors.specs.Fronts.{Vector, Dominates}
use Rattle.trick_rules.specs.Positions.{PositionValue, State, to_play}
use Rattle.trick_rules.specs.Play.{after_card, legal_in, decided, is_declarers, CanPlay}
use Rattle.trick_rules.specs.Nodes.{NodeValue, IsNode, states, is_legal, choices, child}
use Rattle.trick_rules.proofs.NodeLemmas.{legal_in-ours}
use Rattle.trick_rules.proofs.PlayLaws.{our_choices_are_legal_everywhere, what_is_legal_is_a_choice, there_is_a_choice, a_choice_can_be_played, a_choice_leads_to_a_node}
use Rattle.strategy_games.proofs.Lists.{Contains-here, Contains-there, Contains-cons, All-at}
use Rattle.strategy_games.proofs.Vectors.{Dominates-trans, Dominates-ones}
use Rattle.strategy_tree.proofs.Rules.{going_on}
use Rattle.strategy_tree.proofs.CardLists.{has_card-from_Contains, Contains-from_has_card}
use Rattle.set_nodes.specs.SetNodes.{still_held, node_at, AreLayoutsAt, legal_at}
use Rattle.set_nodes.proofs.Parts.{first_layout, layout_of}
use Rattle.set_nodes.proofs.Numbers.{keeps_numbers, is_part, layouts_in_part, some_layouts, width_below}
use Rattle.set_nodes.proofs.Legal.{length-legal_at, legal_there}
use Rattle.set_nodes.proofs.Won.{IsWon, won_in_part, won_by_card, lost_by_cards}
use Rattle.set_nodes.proofs.Places.{HasOne, dominates_ones, one_at, one_within, meet_within}
use Rattle.alphamu_core.specs.Kept.{IsTaken}
use Rattle.set_memo.specs.Known.{IsLostAt}
use Rattle.set_search.specs.Judged.{AreAllMade}
use Rattle.set_search.specs.Open.{own_legal, LostAfter, AreOpenCards}
use Rattle.set_search.specs.LeftOut.{IsNoBetter, AreEnough}

-- ---- cards

-- a card of a list is its first or one of the others
pub first_or_later : (card : ℕ) (later : List ℕ) (c : ℕ) → has_card (card ∷ later) c ≡ true → (card ≡ c) ⊎ (has_card later c ≡ true)
first_or_later card later c h = ⊎_elim (λ (e : card ≡ c). inl e) (λ (k : Contains later c). inr (has_card-from_Contains later c k)) (Contains-cons card later c (Contains-from_has_card (card ∷ later) c h))

pub own_in : (t : PositionValue) (left : List ℕ) (card : ℕ) → is_declarers (to_play t) ≡ true → is_legal t card left ≡ has_card (own_legal t) card
own_in t left card ours = ap (λ (cards : List ℕ). has_card cards card) (legal_in-ours t left ours ∙ sym (legal_in-ours t [] ours))

pub own_from_choice : (n : NodeValue) (card : ℕ) → IsNode n → is_declarers (to_play n.position) ≡ true → has_card (choices n) card ≡ true → has_card (own_legal n.position) card ≡ true
own_from_choice n card ok ours choice =
    let first = first_layout n ok in
    let layout = layout_of n first.0 first.1 in
    let legal : has_card (legal_in first.0) card ≡ true = All-at (λ s. has_card (legal_in s) card ≡ true) (states n) (our_choices_are_legal_everywhere n card ours choice) first.0 first.1 in
    sym (own_in n.position layout.0 card ours) ∙ subst (λ (s : State). has_card (legal_in s) card ≡ true) (sym layout.2) legal

pub choice_from_own : (n : NodeValue) (card : ℕ) → IsNode n → is_declarers (to_play n.position) ≡ true → has_card (own_legal n.position) card ≡ true → has_card (choices n) card ≡ true
choice_from_own n card ok ours own =
    let first = first_layout n ok in
    let layout = layout_of n first.0 first.1 in
    what_is_legal_is_a_choice n card first.0 ok first.1
    (subst (λ (s : State). has_card (legal_in s) card ≡ true) layout.2 (own_in n.position layout.0 card ours ∙ own))

-- the first of the rest is among the rest
pub comes : (rest later : List ℕ) (card : ℕ) → rest ≡ card ∷ later → has_card rest card ≡ true
comes rest later card first = ap (λ (cards : List ℕ). has_card cards card) first ∙ has_card-from_Contains (card ∷ later) card (Contains-here card later)

-- and so is what comes after it
pub before : (rest later : List ℕ) (card : ℕ) → rest ≡ card ∷ later → (c : ℕ) → has_card later c ≡ true → has_card rest c ≡ true
before rest later card first c h = ap (λ (cards : List ℕ). has_card cards c) first ∙ has_card-from_Contains (card ∷ later) c (Contains-there card later c (Contains-from_has_card later c h))

-- ---- after a card of declarer's side

module _ (layouts : List (List ℕ)) (t : PositionValue) (ours : is_declarers (to_play t) ≡ true) where
  pub child_ours : (chosen : Vector) (card : ℕ) → length chosen ≡ length layouts → has_card (own_legal t) card ≡ true → child (node_at layouts t chosen) card ≡ node_at layouts (after_card t card) chosen
  child_ours chosen card wide own =
      let legal = legal_at layouts t card in
      let same : length chosen ≡ length legal = wide ∙ sym (length-legal_at layouts t card) in
      keeps_numbers layouts t chosen card wide
      ∙ ap (λ (v : Vector). node_at layouts (after_card t card) v)
      (meet_within chosen legal same (dominates_ones legal chosen (sym same)
      (λ k h. let low = one_within chosen k h in legal_there layouts t card k [] (omega (arith, low, wide)) ∙ own_in t (still_held t (get_or layouts k [])) card ours ∙ own)))

  pub layouts_after_ours : (chosen : Vector) (card : ℕ) → AreLayoutsAt layouts t chosen → has_card (own_legal t) card ≡ true → AreLayoutsAt layouts (after_card t card) chosen
  layouts_after_ours chosen card are own = record {
    width = are.width;
    node = subst IsNode (child_ours chosen card are.width own) (a_choice_leads_to_a_node (node_at layouts t chosen) card are.node (choice_from_own (node_at layouts t chosen) card are.node ours own));
  }

  pub can_play_ours : (chosen : Vector) (card : ℕ) → AreLayoutsAt layouts t chosen → has_card (own_legal t) card ≡ true → CanPlay t card
  can_play_ours chosen card are own = a_choice_can_be_played (node_at layouts t chosen) card are.node (choice_from_own (node_at layouts t chosen) card are.node ours own)

  pub won_by_ours : (chosen : Vector) (card less : ℕ) → AreLayoutsAt layouts t chosen → is_some (decided t) ≡ false → has_card (own_legal t) card ≡ true
      → IsWon (node_at layouts (after_card t card) chosen) less → IsWon (node_at layouts t chosen) (suc less)
  won_by_ours chosen card less are live own w =
      won_by_card (node_at layouts t chosen) less are.node live card ours (choice_from_own (node_at layouts t chosen) card are.node ours own)
      (subst (λ (n : NodeValue). IsWon n less) (sym (child_ours chosen card are.width own)) w)

-- ---- the core so far

-- of the cards that are tried, each is still to come, and double dummy makes each layout after it, or lost with these layouts
pub record IsCoreSoFar (layouts : List (List ℕ)) (t : PositionValue) (less : ℕ) (chosen : Vector) (tried rest : List ℕ) (core : Vector) : Type 0 where
  pub within : Dominates chosen core
  pub to_come : (card : ℕ) → has_card rest card ≡ true → has_card (own_legal t) card ≡ true
  pub made : (card : ℕ) → has_card rest card ≡ true → AreAllMade (node_at layouts (after_card t card) chosen)
  pub each : (card : ℕ) → has_card tried card ≡ true → (has_card rest card ≡ true) ⊎ LostAfter layouts t less card core

pub either_ones : (u v : Vector) (k : ℕ) → HasOne (either_of u v) k → HasOne u k ⊎ HasOne v k
either_ones [] v k h = absurd (false≢true h)
either_ones (a ∷ u) [] k h = absurd (false≢true h)
either_ones (true ∷ u) (b ∷ v) zero h = inl refl
either_ones (false ∷ u) (true ∷ v) zero h = inr refl
either_ones (false ∷ u) (false ∷ v) zero h = absurd (false≢true h)
either_ones (a ∷ u) (b ∷ v) (suc k) h = either_ones u v k h

pub first_either : (u v : Vector) → length u ≡ length v → Dominates (either_of u v) u
first_either [] v e = tt
first_either (a ∷ u) [] e = absurd (omega (arith, e))
first_either (true ∷ u) (b ∷ v) e = (tt, first_either u v (omega (arith, e)))
first_either (false ∷ u) (true ∷ v) e = (tt, first_either u v (omega (arith, e)))
first_either (false ∷ u) (false ∷ v) e = (tt, first_either u v (omega (arith, e)))

pub second_either : (u v : Vector) → length u ≡ length v → Dominates (either_of u v) v
second_either [] [] e = tt
second_either [] (b ∷ v) e = absurd (omega (arith, e))
second_either (a ∷ u) [] e = absurd (omega (arith, e))
second_either (true ∷ u) (b ∷ v) e = (tt, second_either u v (omega (arith, e)))
second_either (false ∷ u) (true ∷ v) e = (tt, second_either u v (omega (arith, e)))
second_either (false ∷ u) (false ∷ v) e = (tt, second_either u v (omega (arith, e)))

-- a set with one more layout or core in it
pub either_within : (chosen core lost more : Vector) → more ≡ either_of core lost → Dominates chosen core → Dominates chosen lost → Dominates chosen more
either_within chosen core lost more is within low =
    let wide : length core ≡ length lost = sym (width_below chosen core within) ∙ width_below chosen lost low in
    let above : Dominates more core = subst (λ (v : Vector). Dominates v core) (sym is) (first_either core lost wide) in
    dominates_ones chosen more (width_below chosen core within ∙ sym (width_below more core above))
    (λ k h. ⊎_elim (λ (old : HasOne core k). one_at chosen core k within old) (λ (new : HasOne lost k). one_at chosen lost k low new)
    (either_ones core lost k (subst (λ (v : Vector). HasOne v k) is h)))

module _ (layouts : List (List ℕ)) (t : PositionValue) (chosen : Vector) (tried : List ℕ) where
  pub core_open : (less : ℕ) (open_cards : List ℕ) (core : Vector) → AreOpenCards layouts t chosen tried open_cards core → IsCoreSoFar layouts t less chosen tried open_cards core
  core_open less open_cards core are = record {
    within = are.within;
    to_come = are.legal;
    made = are.made;
    each = λ card own. ⊎_elim (λ (yet : has_card open_cards card ≡ true). inl yet) (λ (gone : (less : ℕ) → LostAfter layouts t less card core). inr (gone less)) (are.each card own);
  }

  module _ (less : ℕ) where
    pub core_more : (rest later : List ℕ) (card : ℕ) (core lost more : Vector) → IsTaken rest card later → more ≡ either_of core lost → Dominates chosen lost
        → IsLostAt layouts (after_card t card) less lost → IsCoreSoFar layouts t less chosen tried rest core → IsCoreSoFar layouts t less chosen tried later more
    core_more rest later card core lost more taken is low out so =
        let wide : length core ≡ length lost = sym (width_below chosen core so.within) ∙ width_below chosen lost low in
        let above : Dominates more core = subst (λ (v : Vector). Dominates v core) (sym is) (first_either core lost wide) in
        let over : Dominates more lost = subst (λ (v : Vector). Dominates v lost) (sym is) (second_either core lost wide) in
        let earlier : (c : ℕ) → has_card later c ≡ true → has_card rest c ≡ true = λ c h. has_card-from_Contains rest c (taken.part c (Contains-from_has_card later c h)) in
        record {
          within = either_within chosen core lost more is so.within low;
          to_come = λ c h. so.to_come c (earlier c h);
          made = λ c h. so.made c (earlier c h);
          each = λ c own. ⊎_elim
              (λ (yet : has_card rest c ≡ true). ⊎_elim
              (λ (e : c ≡ card). inr (lost, over, subst (λ (x : ℕ). IsLostAt layouts (after_card t x) less lost) (sym e) out))
              (λ (after : Contains later c). inl (has_card-from_Contains later c after))
              (taken.others c (Contains-from_has_card rest c yet)))
              (λ (gone : LostAfter layouts t less c core). inr (gone.0, Dominates-trans more core gone.0 above gone.1, gone.2))
              (so.each c own);
        }

    module _ (enough : AreEnough t tried) (are : AreLayoutsAt layouts t chosen) (ours : is_declarers (to_play t) ≡ true) (live : is_some (decided t) ≡ false)
        (rest : List ℕ) (core : Vector) (none : rest ≡ []) (so : IsCoreSoFar layouts t less chosen tried rest core) where
      -- what is lost after a card is lost after one that is no better
      lost_too : (card kept : ℕ) → has_card (own_legal t) card ≡ true → has_card (own_legal t) kept ≡ true → IsNoBetter t card kept → LostAfter layouts t less kept core → LostAfter layouts t less card core
      lost_too card kept own own_kept better gone =
          let part = gone.0 in
          let there = layouts_in_part layouts t chosen part are (Dominates-trans chosen core part so.within gone.1) (some_layouts layouts (after_card t kept) part gone.2.some) in (
            part,
            gone.1,
            record {
              some = layouts_after_ours layouts t ours part card there own;
              lost = λ w. gone.2.lost (subst (λ (n : NodeValue). IsWon n less) (child_ours layouts t ours part kept there.width own_kept)
                  (better (node_at layouts t part).lefts less there.node (subst (λ (n : NodeValue). IsWon n less) (sym (child_ours layouts t ours part card there.width own)) w)));
            },
          )

      gone_after : (card : ℕ) → has_card (own_legal t) card ≡ true → LostAfter layouts t less card core
      gone_after card own =
          let kept = enough.each card own in
          lost_too card kept.0 own (enough.legal kept.0 kept.1) kept.2
          (⊎_elim
          (λ (yet : has_card rest kept.0 ≡ true). absurd (false≢true (ap (λ (cards : List ℕ). has_card cards kept.0) (sym none) ∙ yet)))
          (λ (gone : LostAfter layouts t less kept.0 core). gone) (so.each kept.0 kept.1))

      core_some : 1 ≤ ones_of core
      core_some =
          let n = node_at layouts t chosen in
          let card = there_is_a_choice n are.node (going_on t live) in
          let gone = gone_after card.0 (own_from_choice n card.0 are.node ours card.1) in
          let some = some_layouts layouts (after_card t card.0) gone.0 gone.2.some in
          let fewer = Dominates-ones core gone.0 gone.1 in
          omega arith

      pub core_all : IsLostAt layouts t (suc less) core
      core_all =
          let there = layouts_in_part layouts t chosen core are so.within core_some in
          let n = node_at layouts t core in record {
            some = there;
            lost = lost_by_cards n less there.node live ours (λ card choice w.
                let own = own_from_choice n card there.node ours choice in
                let gone = gone_after card own in
                let whole = layouts_after_ours layouts t ours core card there own in
                gone.2.lost (won_in_part (node_at layouts (after_card t card) gone.0) (node_at layouts (after_card t card) core) less gone.2.some.node whole.node
                (is_part layouts (after_card t card) core gone.0 gone.1)
                (subst (λ (k : NodeValue). IsWon k less) (child_ours layouts t ours core card there.width own) w)));
          }
