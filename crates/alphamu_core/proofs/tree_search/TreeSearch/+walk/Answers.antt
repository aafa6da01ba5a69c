use Rattle.std.proofs.Common.{◌≡◌, ◌∙◌, ◌-◌, ◌+◌, refl, sym, ap, subst, arith}
use Rattle.win_vectors.specs.Fronts.{CoversAll}
use Rattle.pareto_fronts.specs.FrontValue.{FrontValue}
use Rattle.trick_rules.specs.Positions.{PositionValue}
use Rattle.trick_rules.specs.Play.{cards_left}
use Rattle.front_table.specs.Proven.{IsFrontAt}
use Rattle.alphamu_core.specs.declared.answers.RaceFault.TheVariants.{Spent}
use Rattle.alphamu_core.specs.Findings.{IsAnswer}
use Rattle.alphamu_core.specs.Judging.{IsKnown}
use Rattle.alphamu_core.specs.Limits.{IsUnknown}
use Rattle.alphamu_core.specs.Costs.{CostsBy, EntersEach}
use Rattle.strategy_games.specs.Plans.{tree_size}
use Rattle.strategy_tree.specs.Bridge.{bridge}
use Rattle.strategy_tree.proofs.CardLists.{has_card-from_Contains}
use Rattle.strategy_tree.proofs.BridgeLaws.{sizes}
use Rattle.strategy_tree.proofs.BridgeNodes.{stopped, tree_size-positive}
use Rattle.alphamu_core.proofs.Bounds.{cuts_early, width_of_upper, never_reached}
use Rattle.alphamu_core.proofs.OpenNodes.{is_open, fewer_by_five, size_ours, size_theirs}
use Rattle.alphamu_core.proofs.Inherited.{known_theirs}
use Rattle.alphamu_core.proofs.Paid.{costs_one, costs_none, costs_by_part, costs_of_part, paid_none, paid_more, paid_all, paid_below}
use Rattle.alphamu_core.proofs.RacePaid.{costs_memory, costs_late, costs_memory_first, paid_memory}
use Rattle.alphamu_core.specs.Races.{race_fault}
use Rattle.alphamu_core.proofs.SameSearch.{same_none, same_more, still_early, costs_by}
use Rattle.alphamu_core.proofs.OursSoFar.{ours_none, ours_all, ours_enough, ours_next, ours_width, ours_found_width, ours_more}
use Rattle.alphamu_core.proofs.TheirsSoFar.{theirs_none, theirs_covered, theirs_all, theirs_cut, theirs_next, theirs_width, theirs_filled, theirs_exact, theirs_more}
use Rattle.alphamu_core.specs.TreeSearches.{IsSameSearch}
use Rattle.alphamu_core.proofs.tree_search.TreeSearch.+walk.Goals as goal
use Rattle.alphamu_core.proofs.tree_search.TreeSearch.+walk.Goals.{open-in-Upper, open-in-Open}

-- ---- declarer's side

pub at_declarer-known_after-known-requires : goal.at_declarer-known_after-known-requires
at_declarer-known_after-known-requires g t c = record {
  ours = c.requires.ours;
  open_result = is_open c.args.question.now.node.now c.args.moves c.requires.goes_on;
  known = c.requires.known;
  enough = c.cards_to_try-cards.ensures.enough;
}

pub at_declarer-cards-init : goal.at_declarer-cards-init
at_declarer-cards-init g t c = record {
  so = ours_none c.args.question.now.node.now (c.args.moves - 1) c.cards_to_try-cards.result c.new-front.result c.cards_to_try-cards.ensures.enough c.new-front.ensures.empty (c.new-front.ensures.width ∙ c.width.ensures.value);
  heirs = c.known_after-known.ensures;
  paid = paid_none (EntersEach c.args.self.now.rules g.S.FrontStore.blind) c.args.question.now.node.now (c.args.moves - 1) c.cards_to_try-cards.result c.args.self.now.budget.now.left c.cards_to_try-cards.ensures.enough (λ each. c.cards_to_try-cards.ensures.each each.0);
  same = same_none g.met.S.FrontStore.grown_none c.args.self.now;
}

pub at_declarer-child-requires : goal.at_declarer-child-requires
at_declarer-child-requires g t c = has_card-from_Contains _ _ (ours_next c.args.question.now.node.now (c.args.moves - 1) c.cards.invariant.so c.in-Some.ensures.taken)

pub at_declarer-returns-in_err-child-clause-costs : goal.at_declarer-returns-in_err-child-clause-costs
at_declarer-returns-in_err-child-clause-costs g t c =
    let size = size_ours c.args.question.now.node.now c.args.moves c.width.ensures.a_node c.requires.goes_on c.requires.ours in
    paid_memory (EntersEach c.args.self.now.rules g.S.FrontStore.blind) c.args.question.now.node.now (c.args.moves - 1) c.cards.invariant.paid c.args.moves size c.from_residual.result c.from_residual.ensures.1

pub at_declarer-visit-requires : goal.at_declarer-visit-requires
at_declarer-visit-requires g t c κs within =
    let less = fewer_by_five _ _ _ c.width.ensures.a_node (ours_next c.args.question.now.node.now (c.args.moves - 1) c.cards.invariant.so c.in-Some.ensures.taken) c.in_ok-child.ensures.node in
    let width = ours_width c.args.question.now.node.now (c.args.moves - 1) c.cards.invariant.so c.in-Some.ensures.taken c.in_ok-child.ensures.node c.requires.ours in
    let known = subst (λ m. IsKnown m c.known_after-known.result) (sym c.in_ok-child.ensures.node) (c.cards.invariant.heirs c.in-Some.card c.in-Some.ensures.taken.among) in
    (omega arith, (within, (width, known)))

pub at_declarer-returns-in_err-found-clause-costs : goal.at_declarer-returns-in_err-found-clause-costs
at_declarer-returns-in_err-found-clause-costs g t c =
    let size = size_ours c.args.question.now.node.now c.args.moves c.width.ensures.a_node c.requires.goes_on c.requires.ours in
    paid_below (EntersEach c.args.self.now.rules g.S.FrontStore.blind) c.args.question.now.node.now (c.args.moves - 1) c.cards.invariant.paid c.args.moves size c.in-Some.ensures.taken c.in_ok-child.ensures.node
    c.from_residual-in_err-found.result c.in_err-found.field-0.0 (costs_by c.cards.invariant.same.rules c.in_err-found.ensures.costs) c.from_residual-in_err-found.ensures.1

pub at_declarer-unite-requires : goal.at_declarer-unite-requires
at_declarer-unite-requires g t c = ours_found_width c.args.question.now.node.now (c.args.moves - 1) c.cards.invariant.so c.in-Some.ensures.taken c.in_ok-child.ensures.node c.requires.ours c.in_ok-found.found c.cards.self.rules c.in_ok-found.ensures.answer

pub at_declarer-returns-in_err-unite-clause-costs : goal.at_declarer-returns-in_err-unite-clause-costs
at_declarer-returns-in_err-unite-clause-costs g t c =
    let size = size_ours c.args.question.now.node.now c.args.moves c.width.ensures.a_node c.requires.goes_on c.requires.ours in
    let paid = paid_more (EntersEach c.args.self.now.rules g.S.FrontStore.blind) c.args.question.now.node.now (c.args.moves - 1) c.cards.invariant.paid c.in-Some.ensures.taken c.in_ok-child.ensures.node c.in_ok-found.found (costs_by c.cards.invariant.same.rules c.in_ok-found.ensures.costs) in
    paid_memory (EntersEach c.args.self.now.rules g.S.FrontStore.blind) c.args.question.now.node.now (c.args.moves - 1) paid c.args.moves size c.from_residual-in_err-unite.result c.from_residual-in_err-unite.ensures.1

pub at_declarer-returns-in_err-unite-clause-same : goal.at_declarer-returns-in_err-unite-clause-same
at_declarer-returns-in_err-unite-clause-same g t c = same_more g.met.S.FrontStore.grown_more c.cards.invariant.same c.in_ok-found.ensures.same

pub at_declarer-is_reached-requires : goal.at_declarer-is_reached-requires
at_declarer-is_reached-requires g t c =
    width_of_upper c.args.question.now.node.now c.args.moves c.args.upper.now _ c.requires.upper (c.in_ok-unite.ensures.width ∙ c.cards.invariant.so.width)

pub at_declarer-returns-then-is_reached-clause-answer : goal.at_declarer-returns-then-is_reached-clause-answer
at_declarer-returns-then-is_reached-clause-answer g t c =
    let so = ours_more c.args.question.now.node.now (c.args.moves - 1) c.cards.invariant.so c.in-Some.ensures.taken c.in_ok-child.ensures.node c.in_ok-found.found c.cards.self.rules c.unite.new.front c.in_ok-found.ensures.answer c.in_ok-unite.ensures.united c.in_ok-unite.ensures.width in
    ours_enough c.args.question.now.node.now (c.args.moves - 1) so c.args.moves c.width.ensures.a_node c.requires.goes_on c.requires.ours refl c.args.upper.now c.requires.upper (c.is_reached.ensures c.if-is_reached.true)

pub at_declarer-returns-then-is_reached-clause-costs : goal.at_declarer-returns-then-is_reached-clause-costs
at_declarer-returns-then-is_reached-clause-costs g t c =
    let size = size_ours c.args.question.now.node.now c.args.moves c.width.ensures.a_node c.requires.goes_on c.requires.ours in
    let paid = paid_more (EntersEach c.args.self.now.rules g.S.FrontStore.blind) c.args.question.now.node.now (c.args.moves - 1) c.cards.invariant.paid c.in-Some.ensures.taken c.in_ok-child.ensures.node c.in_ok-found.found (costs_by c.cards.invariant.same.rules c.in_ok-found.ensures.costs) in
    paid_all (EntersEach c.args.self.now.rules g.S.FrontStore.blind) c.args.question.now.node.now (c.args.moves - 1) paid c.args.moves size _
    (λ each. absurd (never_reached c.args.upper.now c.unite.new.front.vectors (c.requires.none each.0) (c.is_reached.ensures c.if-is_reached.true)))

pub at_declarer-returns-then-is_reached-clause-same : goal.at_declarer-returns-then-is_reached-clause-same
at_declarer-returns-then-is_reached-clause-same g t c = same_more g.met.S.FrontStore.grown_more c.cards.invariant.same c.in_ok-found.ensures.same

pub at_declarer-cards-preserved : goal.at_declarer-cards-preserved
at_declarer-cards-preserved g t c = record {
  so = ours_more c.args.question.now.node.now (c.args.moves - 1) c.cards.invariant.so c.in-Some.ensures.taken c.in_ok-child.ensures.node c.in_ok-found.found c.cards.self.rules c.unite.new.front c.in_ok-found.ensures.answer c.in_ok-unite.ensures.united c.in_ok-unite.ensures.width;
  heirs = λ card k. c.cards.invariant.heirs card (c.in-Some.ensures.taken.part card k);
  paid = paid_more (EntersEach c.args.self.now.rules g.S.FrontStore.blind) c.args.question.now.node.now (c.args.moves - 1) c.cards.invariant.paid c.in-Some.ensures.taken c.in_ok-child.ensures.node c.in_ok-found.found (costs_by c.cards.invariant.same.rules c.in_ok-found.ensures.costs);
  same = same_more g.met.S.FrontStore.grown_more c.cards.invariant.same c.in_ok-found.ensures.same;
}

pub at_declarer-cards-preserved-else-is_reached : goal.at_declarer-cards-preserved-else-is_reached
at_declarer-cards-preserved-else-is_reached g t c = record {
  so = ours_more c.args.question.now.node.now (c.args.moves - 1) c.cards.invariant.so c.in-Some.ensures.taken c.in_ok-child.ensures.node c.in_ok-found.found c.cards.self.rules c.unite.new.front c.in_ok-found.ensures.answer c.in_ok-unite.ensures.united c.in_ok-unite.ensures.width;
  heirs = λ card k. c.cards.invariant.heirs card (c.in-Some.ensures.taken.part card k);
  paid = paid_more (EntersEach c.args.self.now.rules g.S.FrontStore.blind) c.args.question.now.node.now (c.args.moves - 1) c.cards.invariant.paid c.in-Some.ensures.taken c.in_ok-child.ensures.node c.in_ok-found.found (costs_by c.cards.invariant.same.rules c.in_ok-found.ensures.costs);
  same = same_more g.met.S.FrontStore.grown_more c.cards.invariant.same c.in_ok-found.ensures.same;
}

pub at_declarer-cards-preserved-else-is_reached-2 : goal.at_declarer-cards-preserved-else-is_reached-2
at_declarer-cards-preserved-else-is_reached-2 g t c = record {
  so = ours_more c.args.question.now.node.now (c.args.moves - 1) c.cards.invariant.so c.in-Some.ensures.taken c.in_ok-child.ensures.node c.in_ok-found.found c.cards.self.rules c.unite.new.front c.in_ok-found.ensures.answer c.in_ok-unite.ensures.united c.in_ok-unite.ensures.width;
  heirs = λ card k. c.cards.invariant.heirs card (c.in-Some.ensures.taken.part card k);
  paid = paid_more (EntersEach c.args.self.now.rules g.S.FrontStore.blind) c.args.question.now.node.now (c.args.moves - 1) c.cards.invariant.paid c.in-Some.ensures.taken c.in_ok-child.ensures.node c.in_ok-found.found (costs_by c.cards.invariant.same.rules c.in_ok-found.ensures.costs);
  same = same_more g.met.S.FrontStore.grown_more c.cards.invariant.same c.in_ok-found.ensures.same;
}

pub at_declarer-returns-clause-answer : goal.at_declarer-returns-clause-answer
at_declarer-returns-clause-answer g t c =
    ours_all c.args.question.now.node.now (c.args.moves - 1) c.cards.invariant.so c.args.moves c.width.ensures.a_node c.requires.goes_on c.requires.ours refl c.in_default.ensures.taken.0

pub at_declarer-returns-clause-costs : goal.at_declarer-returns-clause-costs
at_declarer-returns-clause-costs g t c =
    let size = size_ours c.args.question.now.node.now c.args.moves c.width.ensures.a_node c.requires.goes_on c.requires.ours in
    paid_all (EntersEach c.args.self.now.rules g.S.FrontStore.blind) c.args.question.now.node.now (c.args.moves - 1) c.cards.invariant.paid c.args.moves size _ (λ each. c.in_default.ensures.taken.0)

-- ---- a defender

pub at_defender-cards-init : goal.at_defender-cards-init
at_defender-cards-init g t c = record {
  so = theirs_none c.args.question.now.node.now c.args.moves c.cards_to_try-cards.result c.new-joiner.result c.width.result c.cards_to_try-cards.ensures.enough c.width.ensures.value c.new-joiner.ensures.width c.new-joiner.ensures.front c.new-joiner.ensures.covered;
  paid = paid_none (EntersEach c.args.self.now.rules g.S.FrontStore.blind) c.args.question.now.node.now c.args.moves c.cards_to_try-cards.result c.args.self.now.budget.now.left c.cards_to_try-cards.ensures.enough (λ each. c.cards_to_try-cards.ensures.each each.0);
  same = same_none g.met.S.FrontStore.grown_none c.args.self.now;
}

pub at_defender-child-requires : goal.at_defender-child-requires
at_defender-child-requires g t c = has_card-from_Contains _ _ (theirs_next c.args.question.now.node.now c.args.moves c.cards.invariant.so c.in-Some.ensures.taken)

pub at_defender-returns-in_err-child-clause-costs : goal.at_defender-returns-in_err-child-clause-costs
at_defender-returns-in_err-child-clause-costs g t c =
    let size = size_theirs c.args.question.now.node.now c.args.moves c.width.ensures.a_node c.requires.goes_on c.requires.theirs in
    paid_memory (EntersEach c.args.self.now.rules g.S.FrontStore.blind) c.args.question.now.node.now c.args.moves c.cards.invariant.paid c.args.moves size c.from_residual.result c.from_residual.ensures.1

pub at_defender-visit-requires : goal.at_defender-visit-requires
at_defender-visit-requires g t c κs within =
    let less = fewer_by_five _ _ _ c.width.ensures.a_node (theirs_next c.args.question.now.node.now c.args.moves c.cards.invariant.so c.in-Some.ensures.taken) c.in_ok-child.ensures.node in
    let live = is_open c.args.question.now.node.now c.args.moves c.requires.goes_on in
    let known = known_theirs c.args.question.now.node.now _ c.width.ensures.a_node live c.requires.theirs _ c.args.question.now.known c.in_ok-child.ensures.node c.requires.asked.known in
    (omega arith, (within, (c.new-none.ensures.width ∙ c.width-in-Some.ensures.value, known)))

pub at_defender-returns-in_err-won-clause-costs : goal.at_defender-returns-in_err-won-clause-costs
at_defender-returns-in_err-won-clause-costs g t c =
    let size = size_theirs c.args.question.now.node.now c.args.moves c.width.ensures.a_node c.requires.goes_on c.requires.theirs in
    paid_below (EntersEach c.args.self.now.rules g.S.FrontStore.blind) c.args.question.now.node.now c.args.moves c.cards.invariant.paid c.args.moves size c.in-Some.ensures.taken c.in_ok-child.ensures.node
    c.from_residual-in_err-won.result c.in_err-won.field-0.0 (costs_by c.cards.invariant.same.rules c.in_err-won.ensures.costs) c.from_residual-in_err-won.ensures.1

pub at_defender-unreachable-requires : goal.at_defender-unreachable-requires
at_defender-unreachable-requires g t c =
    let answer = subst (λ found. IsAnswer c.in_ok-child.child c.args.moves c.new-none.result.vectors c.cards.self.rules found) c.in-Below.is c.in_ok-won.ensures.answer in
    theirs_exact c.args.question.now.node.now c.args.moves c.cards.invariant.so c.in-Some.ensures.taken c.in_ok-child.ensures.node c.width.ensures.a_node c.new-none.result.vectors c.new-none.ensures.empty answer.0

pub at_defender-add-requires-clause-child_width : goal.at_defender-add-requires-clause-child_width
at_defender-add-requires-clause-child_width g t c =
    let answer = subst (λ found. IsAnswer c.in_ok-child.child c.args.moves c.new-none.result.vectors c.cards.self.rules found) c.in-Exact.is c.in_ok-won.ensures.answer in
    theirs_width c.args.question.now.node.now c.args.moves c.cards.invariant.so c.in-Some.ensures.taken c.in_ok-child.ensures.node c.in-Exact.won c.in_ok-child.mask c.in_ok-child.ensures.mask answer

pub at_defender-add-requires-clause-not_empty : goal.at_defender-add-requires-clause-not_empty
at_defender-add-requires-clause-not_empty g t c =
    let answer = subst (λ found. IsAnswer c.in_ok-child.child c.args.moves c.new-none.result.vectors c.cards.self.rules found) c.in-Exact.is c.in_ok-won.ensures.answer in
    theirs_filled c.args.question.now.node.now c.args.moves c.cards.invariant.so c.in-Some.ensures.taken c.in_ok-child.ensures.node c.in-Exact.won c.width.ensures.a_node answer

pub at_defender-returns-in_err-won-clause-same : goal.at_defender-returns-in_err-won-clause-same
at_defender-returns-in_err-won-clause-same g t c = same_more g.met.S.FrontStore.grown_more c.cards.invariant.same c.in_err-won.ensures.same

pub at_defender-returns-in_err-add-clause-same : goal.at_defender-returns-in_err-add-clause-same
at_defender-returns-in_err-add-clause-same g t c = same_more g.met.S.FrontStore.grown_more c.cards.invariant.same c.in_ok-won.ensures.same

pub at_defender-returns-in_err-add-clause-costs : goal.at_defender-returns-in_err-add-clause-costs
at_defender-returns-in_err-add-clause-costs g t c =
    let size = size_theirs c.args.question.now.node.now c.args.moves c.width.ensures.a_node c.requires.goes_on c.requires.theirs in
    let paid = paid_more (EntersEach c.args.self.now.rules g.S.FrontStore.blind) c.args.question.now.node.now c.args.moves c.cards.invariant.paid c.in-Some.ensures.taken c.in_ok-child.ensures.node c.in_ok-won.field-0 (costs_by c.cards.invariant.same.rules c.in_ok-won.ensures.costs) in
    paid_memory (EntersEach c.args.self.now.rules g.S.FrontStore.blind) c.args.question.now.node.now c.args.moves paid c.args.moves size c.from_residual-in_err-add.result c.from_residual-in_err-add.ensures.1

pub at_defender-returns-then-cut-clause-answer : goal.at_defender-returns-then-cut-clause-answer
at_defender-returns-then-cut-clause-answer g t c =
    let same = same_more g.met.S.FrontStore.grown_more c.cards.invariant.same c.in_ok-won.ensures.same in
    let answer = subst (λ found. IsAnswer c.in_ok-child.child c.args.moves c.new-none.result.vectors c.cards.self.rules found) c.in-Exact.is c.in_ok-won.ensures.answer in
    let so = theirs_more c.args.question.now.node.now c.args.moves c.cards.invariant.so c.in-Some.ensures.taken c.in_ok-child.ensures.node c.add.new.self c.in-Exact.won c.in_ok-child.mask c.width.ensures.a_node c.in_ok-child.ensures.mask answer c.in_ok-add.ensures.front c.in_ok-add.ensures.width c.in_ok-add.ensures.covered in
    (theirs_cut c.args.question.now.node.now c.args.moves so c.args.question.now.alpha.now.vectors c.width.ensures.a_node c.requires.goes_on c.requires.theirs (subst (λ (f : FrontValue). CoversAll c.args.question.now.alpha.now.vectors f.vectors) c.optimistic.ensures.front (c.cut.ensures.0 c.if-cut.true)), cuts_early c.args.self.now.rules (still_early same c.if-self.true))

pub at_defender-returns-then-cut-clause-costs : goal.at_defender-returns-then-cut-clause-costs
at_defender-returns-then-cut-clause-costs g t c =
    let same = same_more g.met.S.FrontStore.grown_more c.cards.invariant.same c.in_ok-won.ensures.same in
    let size = size_theirs c.args.question.now.node.now c.args.moves c.width.ensures.a_node c.requires.goes_on c.requires.theirs in
    let paid = paid_more (EntersEach c.args.self.now.rules g.S.FrontStore.blind) c.args.question.now.node.now c.args.moves c.cards.invariant.paid c.in-Some.ensures.taken c.in_ok-child.ensures.node c.in_ok-won.field-0 (costs_by c.cards.invariant.same.rules c.in_ok-won.ensures.costs) in
    paid_all (EntersEach c.args.self.now.rules g.S.FrontStore.blind) c.args.question.now.node.now c.args.moves paid c.args.moves size _ (λ each. absurd (cuts_early c.args.self.now.rules (still_early same c.if-self.true) each.0))

pub at_defender-returns-then-cut-clause-same : goal.at_defender-returns-then-cut-clause-same
at_defender-returns-then-cut-clause-same g t c = same_more g.met.S.FrontStore.grown_more c.cards.invariant.same c.in_ok-won.ensures.same

pub at_defender-cards-preserved : goal.at_defender-cards-preserved
at_defender-cards-preserved g t c =
    let answer = subst (λ found. IsAnswer c.in_ok-child.child c.args.moves c.new-none.result.vectors c.cards.self.rules found) c.in-Exact.is c.in_ok-won.ensures.answer in
    record {
      so = theirs_more c.args.question.now.node.now c.args.moves c.cards.invariant.so c.in-Some.ensures.taken c.in_ok-child.ensures.node c.add.new.self c.in-Exact.won c.in_ok-child.mask c.width.ensures.a_node c.in_ok-child.ensures.mask answer c.in_ok-add.ensures.front c.in_ok-add.ensures.width c.in_ok-add.ensures.covered;
      paid = paid_more (EntersEach c.args.self.now.rules g.S.FrontStore.blind) c.args.question.now.node.now c.args.moves c.cards.invariant.paid c.in-Some.ensures.taken c.in_ok-child.ensures.node c.in_ok-won.field-0 (costs_by c.cards.invariant.same.rules c.in_ok-won.ensures.costs);
      same = same_more g.met.S.FrontStore.grown_more c.cards.invariant.same c.in_ok-won.ensures.same;
    }

pub at_defender-finish-requires : goal.at_defender-finish-requires
at_defender-finish-requires g t c =
    theirs_covered c.args.question.now.node.now c.args.moves c.cards.invariant.so c.in_default.ensures.taken.0 c.width.ensures.a_node c.requires.goes_on

pub at_defender-returns-clause-answer : goal.at_defender-returns-clause-answer
at_defender-returns-clause-answer g t c =
    subst (λ front. IsFrontAt c.args.question.now.node.now c.args.moves front) (sym c.finish.ensures.value)
    (theirs_all c.args.question.now.node.now c.args.moves c.cards.invariant.so c.in_default.ensures.taken.0 c.width.ensures.a_node c.requires.goes_on c.requires.theirs)

pub at_defender-returns-clause-costs : goal.at_defender-returns-clause-costs
at_defender-returns-clause-costs g t c =
    let size = size_theirs c.args.question.now.node.now c.args.moves c.width.ensures.a_node c.requires.goes_on c.requires.theirs in
    paid_all (EntersEach c.args.self.now.rules g.S.FrontStore.blind) c.args.question.now.node.now c.args.moves c.cards.invariant.paid c.args.moves size _ (λ each. c.in_default.ensures.taken.0)

-- ---- the layouts that are made

pub in_made-by_cards-requires : goal.in_made-by_cards-requires
in_made-by_cards-requires g t c κs within =
    let part = c.in_ok-part.ensures in
    let same : cards_left c.in_ok-part.part.node.position ≡ cards_left c.args.question.now.node.now.position = ap (λ (t : PositionValue). cards_left t) part.position in
    (omega arith, (within, (record { width = part.width; known = part.each; same_rules = refl }, (part.goes_on, (part.upper, λ none. absurd (c.requires.limit.1 none))))))

pub in_made-returns-in_err-part-clause-costs : goal.in_made-returns-in_err-part-clause-costs
in_made-returns-in_err-part-clause-costs g t c =
    costs_memory_first (EntersEach c.args.self.now.rules g.S.FrontStore.blind) c.args.question.now.node.now c.args.moves c.args.self.now.budget.now.left c.args.self.now.budget.now.left c.from_residual.result c.from_residual.ensures.1 refl

pub in_made-returns-in_err-found-clause-costs : goal.in_made-returns-in_err-found-clause-costs
in_made-returns-in_err-found-clause-costs g t c =
    costs_of_part (EntersEach c.args.self.now.rules g.S.FrontStore.blind) (λ each. c.requires.limit.1 each.0) (tree_size bridge c.in_ok-part.part.node c.args.moves) (tree_size bridge c.args.question.now.node.now c.args.moves) c.in_ok-part.ensures.size (c.args.self.now.budget.now.left + 1) c.by_cards.new.self.budget.now.left
    c.from_residual-in_err-found.result c.in_err-found.field-0.0 c.in_err-found.ensures.costs c.from_residual-in_err-found.ensures.1

pub in_made-fill-requires : goal.in_made-fill-requires
in_made-fill-requires g t c = c.in_ok-part.ensures.exact c.args.self.now.rules c.in_ok-found.found c.in_ok-found.ensures.answer

pub in_made-returns-in_err-fill-clause-costs : goal.in_made-returns-in_err-fill-clause-costs
in_made-returns-in_err-fill-clause-costs g t c =
    let costs = c.in_ok-found.ensures.costs in
    costs_memory (EntersEach c.args.self.now.rules g.S.FrontStore.blind) (tree_size bridge c.args.question.now.node.now c.args.moves) (c.args.self.now.budget.now.left + 1) c.by_cards.new.self.budget.now.left c.from_residual-in_err-fill.result c.from_residual-in_err-fill.ensures.1 costs.never_rises (omega (arith, costs.falls, c.in_ok-part.ensures.size))

pub in_made-returns-clause-answer : goal.in_made-returns-clause-answer
in_made-returns-clause-answer g t c = c.in_ok-part.ensures.answer c.args.self.now.rules c.in_ok-found.found c.in_ok-fill.field-0 c.in_ok-found.ensures.answer c.in_ok-fill.ensures

pub in_made-returns-clause-costs : goal.in_made-returns-clause-costs
in_made-returns-clause-costs g t c =
    costs_by_part (EntersEach c.args.self.now.rules g.S.FrontStore.blind) (λ each. c.requires.limit.1 each.0) (tree_size bridge c.in_ok-part.part.node c.args.moves) (tree_size bridge c.args.question.now.node.now c.args.moves) c.in_ok-part.ensures.size (c.args.self.now.budget.now.left + 1) c.by_cards.new.self.budget.now.left c.in_ok-found.found c.in_ok-fill.field-0 c.in_ok-found.ensures.costs

-- ---- a node

pub open-returns-in_err-key-clause-costs : goal.open-returns-in_err-key-clause-costs
open-returns-in_err-key-clause-costs g t c =
    costs_memory_first (EntersEach c.args.self.now.rules g.S.FrontStore.blind) c.args.question.now.node.now c.args.moves c.args.self.now.budget.now.left c.args.self.now.budget.now.left c.from_residual.result c.from_residual.ensures.1 refl

pub open-returns-in_err-found-clause-costs : goal.open-returns-in_err-found-clause-costs
open-returns-in_err-found-clause-costs g t c =
    costs_memory_first (EntersEach c.args.self.now.rules g.S.FrontStore.blind) c.args.question.now.node.now c.args.moves c.args.self.now.budget.now.left c.limit.new.self.budget.now.left c.from_residual-in_err-found.result c.from_residual-in_err-found.ensures.1 c.in_err-found.ensures.unpaid

pub open-returns-in-Settled-clause-costs : goal.open-returns-in-Settled-clause-costs
open-returns-in-Settled-clause-costs g t c =
    let some = tree_size-positive c.args.question.now.node.now c.args.moves in
    costs_one (EntersEach c.args.self.now.rules g.S.FrontStore.blind) (tree_size bridge c.args.question.now.node.now c.args.moves) (c.args.self.now.budget.now.left + 1) c.limit.new.self.budget.now.left c.in-Settled.found
    (λ each. absurd (subst (λ limit. IsUnknown limit) c.in-Settled.is (c.in_ok-found.ensures.unknown each.0 each.1))) some (ap (λ left. left + 1) c.in_ok-found.ensures.unpaid)

pub open-returns-clause-costs : goal.open-returns-clause-costs
open-returns-clause-costs g t c =
    let before = c.in_ok-found.ensures in
    elim c.match-branch-3.branch as (λ _. CostsBy Spent (EntersEach c.args.self.now.rules g.S.FrontStore.blind) (tree_size bridge c.args.question.now.node.now c.args.moves) (c.args.self.now.budget.now.left + 1) c.match-branch-3.self.budget.now.left c.match-branch-3.answer) [
      | open-in-Upper w ↦ rw (w.self-is, w.answer-is, ← before.unpaid) (costs_by before.same.rules w.in_made-answer.ensures.costs)
      | open-in-Open w ↦ rw (w.self-is, w.answer-is, ← before.unpaid) (costs_by before.same.rules w.by_cards-answer.ensures.costs)
    ]

pub open-returns-clause-same : goal.open-returns-clause-same
open-returns-clause-same g t c =
    let before = c.in_ok-found.ensures.same in
    let whole : IsSameSearch g.S.FrontStore.grown c.args.self.now c.match-branch-3.self =
    elim c.match-branch-3.branch as (λ _. IsSameSearch g.S.FrontStore.grown c.args.self.now c.match-branch-3.self) [
      | open-in-Upper w ↦ rw w.self-is (same_more g.met.S.FrontStore.grown_more before w.in_made-answer.ensures.same)
      | open-in-Open w ↦ rw w.self-is (same_more g.met.S.FrontStore.grown_more before w.by_cards-answer.ensures.same)
    ] in
    record {
      store = whole.store;
      budget = whole.budget;
      nodes = whole.nodes;
      runner = whole.runner;
      rules = whole.rules;
      grown = g.met.S.FrontStore.grown_more c.args.self.now.store.now c.match-branch-3.self.store.now c.offer.new.store whole.grown c.offer.ensures;
    }

pub visit-returns-in_err-enter-clause-costs : goal.visit-returns-in_err-enter-clause-costs
visit-returns-in_err-enter-clause-costs g t c =
    costs_none (EntersEach c.args.self.now.rules g.S.FrontStore.blind) (tree_size bridge c.args.node c.args.moves) c.args.self.now.budget.now.left c.enter.new.self.left c.from_residual.result (race_fault c.in_err-enter.field-0.0) c.from_residual.ensures.1 (tree_size-positive c.args.node c.args.moves) c.in_err-enter.ensures.spent.0 c.in_err-enter.ensures.spent.1

pub visit-returns-in_err-leaf-clause-costs : goal.visit-returns-in_err-leaf-clause-costs
visit-returns-in_err-leaf-clause-costs g t c =
    let some = tree_size-positive c.args.node c.args.moves in
    let paid = c.in_ok-enter.ensures.paid in
    costs_memory (EntersEach c.args.self.now.rules g.S.FrontStore.blind) (tree_size bridge c.args.node c.args.moves) c.args.self.now.budget.now.left c.enter.new.self.left c.from_residual-in_err-leaf.result c.from_residual-in_err-leaf.ensures.1 (omega arith) (omega arith)

pub visit-returns-then-stops-clause-costs : goal.visit-returns-then-stops-clause-costs
visit-returns-then-stops-clause-costs g t c =
    costs_one (EntersEach c.args.self.now.rules g.S.FrontStore.blind) (tree_size bridge c.args.node c.args.moves) c.args.self.now.budget.now.left c.enter.new.self.left c.in_ok-leaf.field-0
    (λ each. sizes.at_stop c.args.node c.args.moves (stopped c.args.node c.args.moves (sym c.stops.ensures ∙ c.if-stops.true))) (tree_size-positive c.args.node c.args.moves) c.in_ok-enter.ensures.paid

pub visit-returns-then-is_late-clause-costs : goal.visit-returns-then-is_late-clause-costs
visit-returns-then-is_late-clause-costs g t c =
    let some = tree_size-positive c.args.node c.args.moves in
    let paid = c.in_ok-enter.ensures.paid in
    costs_late (EntersEach c.args.self.now.rules g.S.FrontStore.blind) (tree_size bridge c.args.node c.args.moves) c.args.self.now.budget.now.left c.enter.new.self.left (omega arith) (omega arith)
