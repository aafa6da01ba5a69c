-- The first of a node's cards, and what they win above a target.
use Rattle.std.proofs.Common.{◌≡◌, ◌∙◌, ◌-◌, ◌++◌, ◌≤◌, ℕ, zero, suc, true≢false, true, false, Some, List, [], ◌∷◌, Contains, length, map, replicate, refl, sym, ap, subst}
use Rattle.std.proofs.lemmas.List.{length-map}
use Rattle.win_vectors.specs.Vectors.{ones_of, either_of, restrict_of}
use Rattle.win_vectors.specs.Fronts.{Vector, Covers, Dominates, IsReduced, meets, spreads}
use Rattle.win_vectors.proofs.Orders.{Dominates-spread_of, length-restrict_of}
use Rattle.pareto_fronts.specs.FrontValue.{FrontValue}
use Rattle.front_join.specs.JoinerValue.{JoinerValue}
use Rattle.trick_rules.specs.Play.{makes}
use Rattle.trick_rules.specs.Nodes.{NodeValue, IsNode, states, choices, child, child_mask}
use Rattle.strategy_games.specs.Plans.{Hear, CanWin, stops, wins, IsFront}
use Rattle.strategy_games.proofs.Lists.{All-at, Contains-nil, Contains-single}
use Rattle.strategy_games.proofs.Vectors.{Dominates-trans}
use Rattle.strategy_games.proofs.Fronts.{reduced_exists}
use Rattle.strategy_tree.specs.Bridge.{bridge}
use Rattle.strategy_tree.proofs.BridgeLaws.{one_front, chosen_plan}
use Rattle.strategy_tree.proofs.BridgeNodes.{mask-bridge, length-states, length-child_mask, length-child_lefts, some_layout}
use Rattle.strategy_tree.proofs.CardLists.{has_card-from_Contains}
use Rattle.cut_rules.specs.Rules.{no_cuts}
use Rattle.front_table.specs.Proven.{IsFrontAt}
use Rattle.alphamu_core.specs.declared.answers.Found.TheVariants.{Exact}
use Rattle.alphamu_core.specs.Kept.{AreEnough, IsTaken}
use Rattle.alphamu_core.proofs.Bounds.{front_results, upper_results}
use Rattle.alphamu_core.proofs.Judging.{ones_above, none_above, length-results}
use Rattle.alphamu_core.proofs.OursSoFar.{OursSoFar, ours_none, ours_more, ours_all, ours_enough}
use Rattle.alphamu_core.proofs.TheirsSoFar.{TheirsSoFar, theirs_none, theirs_more, theirs_all, theirs_covered, theirs_width, theirs_next}
use Rattle.plan_finder.specs.Above.{IsPartAbove, AreAbove}
use Rattle.plan_finder.specs.Choices.{KeepsNone}
use Rattle.plan_finder.proofs.PartsAbove.{part_none, part_all, part_of_part, part_united, part_joined}

-- the vectors above the target of what the cards of declarer's side win that were tried
pub record OursAbove (n : NodeValue) (below : ℕ) (t : Vector) (cards : List ℕ) (best : FrontValue) : Type 0 where
  pub whole : FrontValue
  pub so : OursSoFar n below cards whole
  pub part : IsPartAbove t whole.vectors best.vectors
  pub width : best.width ≡ length n.lefts

-- and of what the replies to a defender's cards win that were tried
pub record TheirsAbove (n : NodeValue) (moves : ℕ) (t : Vector) (cards : List ℕ) (join : JoinerValue) : Type 0 where
  pub whole : JoinerValue
  pub so : TheirsSoFar n moves cards whole
  pub part : IsPartAbove t whole.optimistic.vectors join.optimistic.vectors
  pub width : join.optimistic.width ≡ length n.lefts
  pub covered : join.covered ≡ whole.covered

module _ (n : NodeValue) (below : ℕ) (t : Vector) where
  pub ours_above_none : (cards : List ℕ) (best : FrontValue) → AreEnough n cards → best.vectors ≡ [] → best.width ≡ length n.lefts → OursAbove n below t cards best
  ours_above_none cards best enough empty width = record {
    whole = best;
    so = ours_none n below cards best enough empty width;
    part = part_none t best.vectors best.vectors (λ v m over. Contains-nil v (subst (λ vs. Contains vs v) empty m)) empty;
    width = width;
  }

  module _ {cards : List ℕ} {best : FrontValue} (so : OursAbove n below t cards best) where
    pub ours_above_all : (moves : ℕ) → IsNode n → stops bridge n moves ≡ false → bridge.is_ours n ≡ true → below ≡ moves - 1 → cards ≡ [] → AreAbove n moves t best
    ours_above_all moves sound goes_on ours less none = record {
      whole = so.whole;
      front = ours_all n below so.so moves sound goes_on ours less none;
      part = so.part;
      width = so.width;
    }

    -- the vectors so far win all that double dummy makes
    pub ours_above_enough : (moves : ℕ) → IsNode n → stops bridge n moves ≡ false → bridge.is_ours n ≡ true → below ≡ moves - 1 → Covers best.vectors (map (λ s. makes s) (states n)) → AreAbove n moves t best
    ours_above_enough moves sound goes_on ours less most =
        let results : Vector = map (λ s. makes s) (states n) in
        let upper : FrontValue = record { width = length n.lefts; vectors = results ∷ []; room = 0 } in
        let bound = upper_results n moves upper goes_on (front_results n upper results refl refl (sym (length-results n))) in
        let covered : Covers so.whole.vectors results = (most.0, (so.part.reached most.0 most.1).0, most.2) in
        record {
          whole = so.whole;
          front = ours_enough n below so.so moves sound goes_on ours less (Some upper) bound (λ v among. subst (λ v. Covers so.whole.vectors v) (Contains-single results v among) covered);
          part = so.part;
          width = so.width;
        }

    pub ours_above_more : {card : ℕ} {rest : List ℕ} (taken : IsTaken cards card rest) {m : NodeValue} (is_child : m ≡ child n card) (won more : FrontValue) → AreAbove m below t won
        → IsReduced (best.vectors ++ won.vectors) more.vectors → more.width ≡ best.width → OursAbove n below t rest more
    ours_above_more {card} {rest} taken {m} is_child won more found united width =
        let all = reduced_exists (so.whole.vectors ++ found.whole.vectors) in
        let whole : FrontValue = record { width = so.whole.width; vectors = all.0; room = 0 } in
        record {
          whole = whole;
          so = ours_more n below so.so taken is_child (Exact found.whole) no_cuts whole found.front all.1 refl;
          part = part_united t so.whole.vectors found.whole.vectors best.vectors won.vectors all.0 more.vectors so.part found.part all.1 united;
          width = width ∙ so.width;
        }

-- the bits of a vector of a front
length-in_front : (n : NodeValue) (moves : ℕ) (front : List Vector) → IsFront bridge n moves front → (v : Vector) → Contains front v → length v ≡ length n.lefts
length-in_front n moves front is v m = All-at (λ v. length v ≡ length (bridge.states n)) front (one_front.wide n moves front is) v m ∙ length-states n

-- the whole front is above a target without ones, and has the part above each target
module _ (n : NodeValue) (moves : ℕ) where
  abbrev lowest : Vector
  lowest = replicate (length n.lefts) false

  pub whole_above : (front : FrontValue) → IsFrontAt n moves front → AreAbove n moves (replicate (length n.lefts) false) front
  whole_above front is = record {
    whole = front;
    front = is;
    part = part_all lowest (CanWin bridge n moves) front.vectors is.front (λ v m. none_above (length n.lefts) v (length-in_front n moves front.vectors is.front v m));
    width = is.width;
  }

  pub above_part : (t : Vector) (found part : FrontValue) → length t ≡ length n.lefts → AreAbove n moves (replicate (length n.lefts) false) found → IsPartAbove t found.vectors part.vectors → part.width ≡ found.width → AreAbove n moves t part
  above_part t found part wide are is width = record {
    whole = are.whole;
    front = are.front;
    part = part_of_part t lowest (CanWin bridge n moves) are.whole.vectors found.vectors part.vectors (none_above (length n.lefts) t wide) are.front.front are.part is;
    width = width ∙ are.width;
  }

module _ (n : NodeValue) (moves : ℕ) (t : Vector) where
  pub theirs_above_none : (cards : List ℕ) (join : JoinerValue) (width : ℕ) → AreEnough n cards → length t ≡ length n.lefts → width ≡ length n.lefts → join.optimistic.width ≡ width → IsReduced (replicate width true ∷ []) join.optimistic.vectors
      → join.covered ≡ replicate width false → TheirsAbove n moves t cards join
  theirs_above_none cards join width enough wide layouts same front covered = record {
    whole = join;
    so = theirs_none n moves cards join width enough layouts same front covered;
    part = part_all t (Contains (replicate width true ∷ [])) join.optimistic.vectors front
        (λ v m. subst (λ v. Dominates v t) (Contains-single (replicate width true) v (front.reached v m)) (ones_above width t (wide ∙ sym layouts)));
    width = same ∙ layouts;
    covered = refl;
  }

  module _ {cards : List ℕ} {join : JoinerValue} (so : TheirsAbove n moves t cards join) where
    pub theirs_above_covered : cards ≡ [] → IsNode n → stops bridge n moves ≡ false → join.covered ≡ replicate join.optimistic.width true
    theirs_above_covered none sound goes_on =
        so.covered ∙ theirs_covered n moves so.so none sound goes_on ∙ ap (λ w. replicate w true) (so.so.width ∙ sym so.width)

    pub theirs_above_all : cards ≡ [] → IsNode n → stops bridge n moves ≡ false → bridge.is_ours n ≡ false → AreAbove n moves t join.optimistic
    theirs_above_all none sound goes_on theirs = record {
      whole = so.whole.optimistic;
      front = theirs_all n moves so.so none sound goes_on theirs;
      part = so.part;
      width = so.width;
    }

    module _ {card : ℕ} {rest : List ℕ} (taken : IsTaken cards card rest) {m : NodeValue} (is_child : m ≡ child n card) (bits : Vector) (is_mask : bits ≡ child_mask n card) (wide : length t ≡ length n.lefts) where
      length-bits : length bits ≡ length n.lefts
      length-bits = ap (λ (v : Vector). length v) is_mask ∙ length-child_mask n card

      pub target_wide : length t ≡ length bits
      target_wide = wide ∙ sym length-bits

      pub bits_wide : length bits ≡ join.optimistic.width
      bits_wide = length-bits ∙ sym so.width

      pub some_bits : IsNode n → 1 ≤ ones_of bits
      some_bits sound = subst (λ (v : Vector). 1 ≤ ones_of v) (sym is_mask) (some_layout n card sound (has_card-from_Contains (choices n) card (theirs_next n moves so.so taken)))

      pub part_wide : length (restrict_of t bits) ≡ length m.lefts
      part_wide = length-restrict_of t bits target_wide ∙ ap (λ (v : Vector). ones_of v) is_mask ∙ sym (length-child_lefts n card) ∙ ap (λ (m : NodeValue). length m.lefts) (sym is_child)

      pub won_wide : (won : FrontValue) → AreAbove m moves (restrict_of t bits) won → won.width ≡ ones_of bits
      won_wide won found = found.width ∙ sym found.front.width ∙ theirs_width n moves so.so taken is_child found.whole bits is_mask found.front

      pub theirs_above_more : (more : JoinerValue) (won : FrontValue) → IsNode n → AreAbove m moves (restrict_of t bits) won
          → IsReduced (meets join.optimistic.vectors (spreads bits won.vectors)) more.optimistic.vectors → more.optimistic.width ≡ join.optimistic.width → more.covered ≡ either_of join.covered bits
          → TheirsAbove n moves t rest more
      theirs_above_more more won sound found front width covered =
          let all = reduced_exists (meets so.whole.optimistic.vectors (spreads bits found.whole.vectors)) in
          let whole : JoinerValue = record { optimistic = record { width = so.whole.optimistic.width; vectors = all.0; room = 0 }; covered = either_of so.whole.covered bits } in
          record {
            whole = whole;
            so = theirs_more n moves so.so taken is_child whole found.whole bits sound is_mask found.front all.1 refl refl;
            part = part_joined t bits (wide ∙ sym length-bits) so.whole.optimistic.vectors found.whole.vectors join.optimistic.vectors won.vectors all.0 more.optimistic.vectors
                (λ u among. let w = so.so.won.reached u among in sym (ap (λ (v : Vector). length v) w.3) ∙ length-map (bridge.states n) (λ s. wins bridge (Hear w.0) s) ∙ length-states n ∙ sym length-bits)
                (λ v among. length-in_front m moves found.whole.vectors found.front.front v among ∙ sym found.front.width ∙ theirs_width n moves so.so taken is_child found.whole bits is_mask found.front)
                so.part found.part all.1 front;
            width = width ∙ so.width;
            covered = covered ∙ ap (λ (v : Vector). either_of v bits) so.covered;
          }

      -- where nothing is won above the child's part of the target, nothing is won above the target
      pub theirs_above_cut : (won : FrontValue) → IsNode n → stops bridge n moves ≡ false → bridge.is_ours n ≡ false → AreAbove m moves (restrict_of t bits) won → won.vectors ≡ [] → KeepsNone n moves t
      theirs_above_cut won sound goes_on theirs found empty = λ front is above.
          let c = covers moves goes_on front is above.0 above.1 found.whole.vectors found.front.front in
          let long = length-in_front m moves found.whole.vectors found.front.front c.0 c.1 ∙ sym found.front.width ∙ theirs_width n moves so.so taken is_child found.whole bits is_mask found.front in
          let over = (Dominates-spread_of c.0 above.0 bits long (length-in_front n moves front is above.0 above.1 ∙ sym length-bits)).1 c.2 in
          let part = (Dominates-spread_of c.0 t bits long (wide ∙ sym length-bits)).0 (Dominates-trans _ above.0 t over above.2) in
          let won = found.part.covered c.0 (c.1, part) in
          Contains-nil won.0 (subst (λ vs. Contains vs won.0) empty won.1)
        where
          covers : (moves : ℕ) → stops bridge n moves ≡ false → (front : List Vector) → IsFront bridge n moves front → (u : Vector) → Contains front u → (child_front : List Vector) → IsFront bridge m moves child_front
              → (w : Vector) × Contains child_front w × Dominates w (restrict_of u bits)
          covers zero h front is u among child_front there = absurd (true≢false h)
          covers (suc k) h front is u among child_front there =
              subst (λ (bits : Vector). (w : Vector) × Contains child_front w × Dominates w (restrict_of u bits)) (mask-bridge n card ∙ sym is_mask)
              (chosen_plan.part n k u front child_front card sound h theirs is among (theirs_next n moves so.so taken) (subst (λ (m : NodeValue). IsFront bridge m (suc k) child_front) is_child there))
