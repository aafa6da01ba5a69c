use Rattle.std.proofs.Common.{◌≡◌, ◌∙◌, ◌≤◌, ◌+◌, ◌-◌, ℕ, suc, List, [], get_or, refl, sym, ap, subst, arith}
use Rattle.win_vectors.specs.Vectors.{ones_of}
use Rattle.win_vectors.specs.Fronts.{Vector, Dominates}
use Rattle.trick_rules.specs.Positions.{PositionValue}
use Rattle.trick_rules.specs.Play.{after_card, cards_left}
use Rattle.trick_rules.specs.Nodes.{NodeValue}
use Rattle.trick_rules.proofs.PlayLaws.{a_card_leaves_one_fewer}
use Rattle.strategy_games.proofs.Vectors.{Dominates-trans}
use Rattle.strategy_tree.proofs.CardLists.{has_card-from_Contains}
use Rattle.set_nodes.specs.SetNodes.{node_at, AreLayoutsAt}
use Rattle.set_nodes.proofs.Numbers.{width_below, layouts_in_part}
use Rattle.set_nodes.proofs.Won.{IsWon}
use Rattle.set_memo.specs.declared.verdict.Verdict.{Verdict}
use Rattle.set_memo.specs.Known.{IsLostAt, IsVerdictAt}
use Rattle.set_search.specs.Judged.{AreAllMade}
use Rattle.set_search.proofs.Places.{live_here, some_moves, made_in_part, won_alone, won_where_stopped}
use Rattle.set_search.proofs.OurCards.{can_play_ours, layouts_after_ours, won_by_ours, core_open, core_more, core_all}
use Rattle.set_search.proofs.Replies.{AreWonSoFar, kept_width, can_play_theirs, layouts_after_theirs, made_after_theirs, choice_kept, child_theirs, lost_within, core_by_reply, replies_none, replies_more, replies_all}
use Rattle.set_search.proofs.LeftOut.{won_by_neighbour}
use Rattle.set_search.proofs.Roots.{not_none}
use Rattle.set_search.proofs.search.SetSearch.+walk.Goals as goal
use Rattle.set_search.proofs.search.SetSearch.+walk.Goals.{search-then-count-eq1-via-then-count-eq1, search-then-count-eq1-via-else-count-eq1+then-stops}

-- ---- a position

pub search-returns-then-count-eq1-clause-verdict : goal.search-returns-then-count-eq1-clause-verdict
search-returns-then-count-eq1-clause-verdict t c =
    let L = c.args.layouts.now in
    let P = c.args.position.now in
    let S = c.args.set in
    elim c.then-count-eq1.branch as (λ _. IsWon (node_at L P S) c.args.moves) [
      | search-then-count-eq1-via-then-count-eq1 w ↦ won_alone L P S c.requires.layouts c.args.moves (sym c.count.ensures ∙ w.if-count-eq1.true) c.requires.made
      | search-then-count-eq1-via-else-count-eq1+then-stops w ↦ won_where_stopped L P S c.requires.layouts c.args.moves (sym w.stops.ensures ∙ w.if-stops.true) c.requires.made
    ]

pub search-look-requires : goal.search-look-requires
search-look-requires t c = subst (λ (layouts : List (List ℕ)). AreLayoutsAt layouts c.args.position.now c.args.set) (sym c.requires.memo) c.requires.layouts

pub search-returns-in-Some-clause-verdict : goal.search-returns-in-Some-clause-verdict
search-returns-in-Some-clause-verdict t c = subst (λ (layouts : List (List ℕ)). IsVerdictAt layouts c.args.position.now c.args.moves c.args.set c.in-Some.known) c.requires.memo c.in-Some.ensures

pub search-offer-requires-clause-layouts : goal.search-offer-requires-clause-layouts
search-offer-requires-clause-layouts t c = subst (λ (layouts : List (List ℕ)). AreLayoutsAt layouts c.args.position.now c.args.set) (sym c.by_turn.ensures.memo) c.requires.layouts

pub search-offer-requires-clause-verdict : goal.search-offer-requires-clause-verdict
search-offer-requires-clause-verdict t c = subst (λ (layouts : List (List ℕ)). IsVerdictAt layouts c.args.position.now c.args.moves c.args.set c.in_ok-verdict.verdict) (sym c.by_turn.ensures.memo) c.in_ok-verdict.ensures.verdict

-- ---- declarer's turn

pub by_card-cards-init : goal.by_card-cards-init
by_card-cards-init t c =
    let L = c.args.layouts.now in
    let P = c.args.position.now in
    let S = c.args.set in
    record {
      so = (c.own_cards-tried.result, c.own_cards-tried.ensures, core_open L P S c.own_cards-tried.result (c.args.moves - 1) c.open_cards-open.result.cards c.open_cards-open.result.core c.open_cards-open.ensures);
      budget = refl;
      solver = refl;
      memo = refl;
      known = c.requires.memo;
      paid = omega arith;
      nodes = refl;
    }

pub by_card-play-after-requires : goal.by_card-play-after-requires
by_card-play-after-requires t c =
    let L = c.args.layouts.now in
    let P = c.args.position.now in
    let S = c.args.set in
    let card = c.in-Some.card in
    can_play_ours L P c.requires.ours S card c.requires.layouts
    (c.cards.invariant.so.2.to_come card (has_card-from_Contains c.cards.cards card c.in-Some.ensures.taken.among))

pub by_card-core_first-requires : goal.by_card-core_first-requires
by_card-core_first-requires t c =
    let L = c.args.layouts.now in
    let P = c.args.position.now in
    let S = c.args.set in
    let card = c.in-Some.card in
    let next = has_card-from_Contains c.cards.cards card c.in-Some.ensures.taken.among in
    let own = c.cards.invariant.so.2.to_come card next in
    let fewer : cards_left c.play-after.result + 1 ≡ cards_left P = ap (λ (t : PositionValue). cards_left t + 1) c.play-after.ensures.value
    ∙ a_card_leaves_one_fewer P card c.requires.layouts.node.sound (can_play_ours L P c.requires.ours S card c.requires.layouts own) in (
      omega (arith, fewer),
      (
        subst (λ (t : PositionValue). AreLayoutsAt L t S) (sym c.play-after.ensures.value) (layouts_after_ours L P c.requires.ours S card c.requires.layouts own),
        (subst (λ (t : PositionValue). AreAllMade (node_at L t S)) (sym c.play-after.ensures.value) (c.cards.invariant.so.2.made card next), (c.cards.invariant.so.2.within, c.cards.invariant.known)),
      ),
    )

pub by_card-returns-in-Won-clause-verdict : goal.by_card-returns-in-Won-clause-verdict
by_card-returns-in-Won-clause-verdict t c =
    let L = c.args.layouts.now in
    let P = c.args.position.now in
    let S = c.args.set in
    let card = c.in-Some.card in
    let own = c.cards.invariant.so.2.to_come card (has_card-from_Contains c.cards.cards card c.in-Some.ensures.taken.among) in
    let some = (some_moves P c.args.moves c.requires.goes_on).1 in
    let back : suc (c.args.moves - 1) ≡ c.args.moves = omega (arith, some) in
    let there : IsWon (node_at L c.play-after.result S) (c.args.moves - 1) = subst (λ (v : Verdict). IsVerdictAt L c.play-after.result (c.args.moves - 1) S v) c.in-Won.is c.in_ok-core_first.ensures.verdict in
    subst (λ (k : ℕ). IsWon (node_at L P S) k) back
    (won_by_ours L P c.requires.ours S card (c.args.moves - 1) c.requires.layouts (live_here P c.args.moves c.requires.goes_on) own
    (subst (λ (t : PositionValue). IsWon (node_at L t S) (c.args.moves - 1)) c.play-after.ensures.value there))

pub by_card-either-core-requires : goal.by_card-either-core-requires
by_card-either-core-requires t c =
    let L = c.args.layouts.now in
    let S = c.args.set in
    let out : Dominates S c.in-Core.lost × IsLostAt L c.play-after.result (c.args.moves - 1) c.in-Core.lost
    = subst (λ (v : Verdict). IsVerdictAt L c.play-after.result (c.args.moves - 1) S v) c.in-Core.is c.in_ok-core_first.ensures.verdict in
    sym (width_below S c.cards.core c.cards.invariant.so.2.within) ∙ width_below S c.in-Core.lost out.0

pub by_card-cards-preserved : goal.by_card-cards-preserved
by_card-cards-preserved t c =
    let L = c.args.layouts.now in
    let P = c.args.position.now in
    let S = c.args.set in
    let card = c.in-Some.card in
    let out : Dominates S c.in-Core.lost × IsLostAt L c.play-after.result (c.args.moves - 1) c.in-Core.lost
    = subst (λ (v : Verdict). IsVerdictAt L c.play-after.result (c.args.moves - 1) S v) c.in-Core.is c.in_ok-core_first.ensures.verdict in
    let pays = c.in_ok-core_first.ensures.pays in
    record {
      so = (
        c.cards.invariant.so.0,
        c.cards.invariant.so.1,
        core_more L P S c.cards.invariant.so.0 (c.args.moves - 1) c.cards.cards c.take_highest.new.cards card c.cards.core c.in-Core.lost c.either-core.result c.in-Some.ensures.taken c.either-core.ensures out.0
            (subst (λ (t : PositionValue). IsLostAt L t (c.args.moves - 1) c.in-Core.lost) c.play-after.ensures.value out.1) c.cards.invariant.so.2,
      );
      budget = c.core_first.ensures.same_budget ∙ c.cards.invariant.budget;
      solver = c.core_first.ensures.same_solver ∙ c.cards.invariant.solver;
      memo = c.core_first.ensures.same_memo ∙ c.cards.invariant.memo;
      known = c.core_first.ensures.memo;
      paid = omega (arith, pays.never_rises, c.cards.invariant.paid);
      nodes = pays.nodes ∙ c.cards.invariant.nodes;
    }

pub by_card-returns-clause-verdict : goal.by_card-returns-clause-verdict
by_card-returns-clause-verdict t c =
    let L = c.args.layouts.now in
    let P = c.args.position.now in
    let S = c.args.set in
    let some = (some_moves P c.args.moves c.requires.goes_on).1 in
    let back : suc (c.args.moves - 1) ≡ c.args.moves = omega (arith, some) in (
      c.cards.invariant.so.2.within,
      subst (λ (k : ℕ). IsLostAt L P k c.cards.core) back
          (core_all L P S c.cards.invariant.so.0 (c.args.moves - 1) c.cards.invariant.so.1 c.requires.layouts c.requires.ours (live_here P c.args.moves c.requires.goes_on)
          c.cards.cards c.cards.core c.in_default.ensures.taken.0 c.cards.invariant.so.2),
    )

pub by_card-open_cards-open-requires-clause-legal : goal.by_card-open_cards-open-requires-clause-legal
by_card-open_cards-open-requires-clause-legal t c = c.own_cards-tried.ensures.legal

-- ---- the core so far first

pub core_first-search-requires : goal.core_first-search-requires
core_first-search-requires t c =
    let some : 1 ≤ ones_of c.args.core = omega (arith, c.count.ensures, c.if-count-gt1.true) in
    let L = c.args.layouts.now in
    let A = c.args.after.now in (
      omega arith,
      (
        layouts_in_part L A c.args.set c.args.core c.requires.layouts c.requires.core some,
        (made_in_part L A c.args.set c.requires.layouts c.args.core c.requires.core c.requires.made, c.requires.memo),
      ),
    )

pub core_first-returns-in-Core-clause-verdict : goal.core_first-returns-in-Core-clause-verdict
core_first-returns-in-Core-clause-verdict t c =
    let L = c.args.layouts.now in
    let A = c.args.after.now in
    let out : Dominates c.args.core c.in-Core.lost × IsLostAt L A c.args.moves c.in-Core.lost
    = subst (λ (v : Verdict). IsVerdictAt L A c.args.moves c.args.core v) c.in-Core.is c.in_ok-lost.ensures.verdict in
    (Dominates-trans c.args.set c.args.core c.in-Core.lost c.requires.core out.0, out.1)

-- ---- a defender's turn

pub by_reply-cards-init : goal.by_reply-cards-init
by_reply-cards-init t c =
    let L = c.args.layouts.now in
    let P = c.args.position.now in
    let S = c.args.set in
    record {
      so = subst (λ (cards : List ℕ). AreWonSoFar L P c.args.moves S cards) (sym (ap (λ (t : PositionValue). t.unseen) c.position.view_is))
          (replies_none L P c.args.moves S c.requires.layouts c.requires.theirs);
      budget = refl;
      solver = refl;
      memo = refl;
      known = c.requires.memo;
      paid = omega arith;
      nodes = refl;
    }

pub by_reply-cards-preserved-then-count-eq0 : goal.by_reply-cards-preserved-then-count-eq0
by_reply-cards-preserved-then-count-eq0 t c =
    let L = c.args.layouts.now in
    let P = c.args.position.now in
    let S = c.args.set in
    let card = c.in-Some.card in
    let kept = c.of_card-kept.result in
    record {
      so = replies_more L P c.args.moves S c.requires.layouts c.cards.cards c.take_widest.new.cards card c.in-Some.ensures.taken
          (λ choice. absurd (let some = choice_kept L P S c.requires.layouts card kept (c.of_card-kept.ensures.value ∙ c.legal_sets-legal.ensures c.in-Some.card c.of_card-kept.ensures.a_card) choice in
          let none : ones_of kept ≡ 0 = sym c.count.ensures ∙ c.if-count-eq0.true in omega (arith, some, none))) c.cards.invariant.so;
      budget = c.cards.invariant.budget;
      solver = c.cards.invariant.solver;
      memo = c.cards.invariant.memo;
      known = c.cards.invariant.known;
      paid = c.cards.invariant.paid;
      nodes = c.cards.invariant.nodes;
    }

pub by_reply-has_answered_neighbour-requires : goal.by_reply-has_answered_neighbour-requires
by_reply-has_answered_neighbour-requires t c = λ x low.
    let L = c.args.layouts.now in
    let P = c.args.position.now in
    let S = c.args.set in
    let legal = c.legal_sets-legal.result in
    let card = c.in-Some.card in
    kept_width L P S c.requires.layouts x (get_or legal x []) (c.legal_sets-legal.ensures x low)
    ∙ sym (kept_width L P S c.requires.layouts card (get_or legal card []) (c.legal_sets-legal.ensures card c.of_card-kept.ensures.a_card))

pub by_reply-cards-preserved-then-has_answered_neighbour : goal.by_reply-cards-preserved-then-has_answered_neighbour
by_reply-cards-preserved-then-has_answered_neighbour t c =
    let L = c.args.layouts.now in
    let P = c.args.position.now in
    let S = c.args.set in
    let card = c.in-Some.card in
    let some = subst (λ (k : ℕ). 1 ≤ k) c.count.ensures (not_none c.count.result c.if-count-eq0.false) in
    let by = c.has_answered_neighbour.ensures c.if-has_answered_neighbour.true in
    record {
      so = replies_more L P c.args.moves S c.requires.layouts c.cards.cards c.take_widest.new.cards card c.in-Some.ensures.taken
          (λ choice. won_by_neighbour L P c.args.moves S c.requires.layouts c.cards.cards c.take_widest.new.cards card by.0 c.legal_sets-legal.result c.legal_sets-legal.ensures c.of_card-kept.ensures.a_card
          (subst (λ (v : Vector). 1 ≤ ones_of v) c.of_card-kept.ensures.value some) c.in-Some.ensures.taken by.1 c.cards.invariant.so choice) c.cards.invariant.so;
      budget = c.cards.invariant.budget;
      solver = c.cards.invariant.solver;
      memo = c.cards.invariant.memo;
      known = c.cards.invariant.known;
      paid = c.cards.invariant.paid;
      nodes = c.cards.invariant.nodes;
    }

pub by_reply-play-requires : goal.by_reply-play-requires
by_reply-play-requires t c =
    let L = c.args.layouts.now in
    let P = c.args.position.now in
    let S = c.args.set in
    let some = subst (λ (k : ℕ). 1 ≤ k) c.count.ensures (not_none c.count.result c.if-count-eq0.false) in
    can_play_theirs L P S c.requires.layouts c.in-Some.card c.of_card-kept.result (c.of_card-kept.ensures.value ∙ c.legal_sets-legal.ensures c.in-Some.card c.of_card-kept.ensures.a_card) some

pub by_reply-search-requires : goal.by_reply-search-requires
by_reply-search-requires t c =
    let L = c.args.layouts.now in
    let P = c.args.position.now in
    let S = c.args.set in
    let card = c.in-Some.card in
    let kept = c.of_card-kept.result in
    let is = (c.of_card-kept.ensures.value ∙ c.legal_sets-legal.ensures c.in-Some.card c.of_card-kept.ensures.a_card) in
    let some = subst (λ (k : ℕ). 1 ≤ k) c.count.ensures (not_none c.count.result c.if-count-eq0.false) in
    let fewer : cards_left c.play.result + 1 ≡ cards_left P = ap (λ (t : PositionValue). cards_left t + 1) c.play.ensures.value
    ∙ a_card_leaves_one_fewer P card c.requires.layouts.node.sound (can_play_theirs L P S c.requires.layouts card kept is some) in (
      omega (arith, fewer),
      (
        subst (λ (t : PositionValue). AreLayoutsAt L t kept) (sym c.play.ensures.value) (layouts_after_theirs L P S c.requires.layouts card kept is some),
        (subst (λ (t : PositionValue). AreAllMade (node_at L t kept)) (sym c.play.ensures.value) (made_after_theirs L P S c.requires.layouts card kept is c.requires.theirs (live_here P c.args.moves c.requires.goes_on) some c.requires.made), c.cards.invariant.known),
      ),
    )

pub by_reply-returns-in-Core-clause-verdict : goal.by_reply-returns-in-Core-clause-verdict
by_reply-returns-in-Core-clause-verdict t c =
    let L = c.args.layouts.now in
    let P = c.args.position.now in
    let S = c.args.set in
    let card = c.in-Some.card in
    let kept = c.of_card-kept.result in
    let is = (c.of_card-kept.ensures.value ∙ c.legal_sets-legal.ensures c.in-Some.card c.of_card-kept.ensures.a_card) in
    let lost = c.in-Core.lost in
    let out : Dominates kept lost × IsLostAt L c.play.result c.args.moves lost
    = subst (λ (v : Verdict). IsVerdictAt L c.play.result c.args.moves kept v) c.in-Core.is c.in_ok-lost.ensures.verdict in
    let some = some_moves P c.args.moves c.requires.goes_on in
    let after : IsLostAt L (after_card P card) (suc some.0) lost = subst (λ (k : ℕ). IsLostAt L (after_card P card) k lost) (sym some.1)
    (subst (λ (t : PositionValue). IsLostAt L t c.args.moves lost) c.play.ensures.value out.1) in
    let live = live_here P c.args.moves c.requires.goes_on in (
      lost_within L P S c.requires.layouts card kept is c.requires.theirs live some.0 lost out.0 after,
      subst (λ (k : ℕ). IsLostAt L P k lost) some.1 (core_by_reply L P S c.requires.layouts card kept is c.requires.theirs live some.0 lost out.0 after),
    )

pub by_reply-cards-preserved : goal.by_reply-cards-preserved
by_reply-cards-preserved t c =
    let L = c.args.layouts.now in
    let P = c.args.position.now in
    let S = c.args.set in
    let card = c.in-Some.card in
    let kept = c.of_card-kept.result in
    let is = (c.of_card-kept.ensures.value ∙ c.legal_sets-legal.ensures c.in-Some.card c.of_card-kept.ensures.a_card) in
    let there : IsWon (node_at L c.play.result kept) c.args.moves = subst (λ (v : Verdict). IsVerdictAt L c.play.result c.args.moves kept v) c.in_default-2.is c.in_ok-lost.ensures.verdict in
    let pays = c.in_ok-lost.ensures.pays in
    record {
      so = replies_more L P c.args.moves S c.requires.layouts c.cards.cards c.take_widest.new.cards card c.in-Some.ensures.taken
          (λ choice. subst (λ (n : NodeValue). IsWon n c.args.moves) (sym (child_theirs L P S c.requires.layouts card kept is))
          (subst (λ (t : PositionValue). IsWon (node_at L t kept) c.args.moves) c.play.ensures.value there)) c.cards.invariant.so;
      budget = c.search.ensures.same_budget ∙ c.cards.invariant.budget;
      solver = c.search.ensures.same_solver ∙ c.cards.invariant.solver;
      memo = c.search.ensures.same_memo ∙ c.cards.invariant.memo;
      known = c.search.ensures.memo;
      paid = omega (arith, pays.never_rises, c.cards.invariant.paid);
      nodes = pays.nodes ∙ c.cards.invariant.nodes;
    }

pub by_reply-returns-clause-verdict : goal.by_reply-returns-clause-verdict
by_reply-returns-clause-verdict t c =
    let L = c.args.layouts.now in
    let P = c.args.position.now in
    let S = c.args.set in
    let some = some_moves P c.args.moves c.requires.goes_on in
    subst (λ (k : ℕ). IsWon (node_at L P S) k) some.1
    (replies_all L P some.0 S c.requires.layouts c.requires.theirs (live_here P c.args.moves c.requires.goes_on) c.cards.cards c.in_default.ensures.taken.0
    (subst (λ (k : ℕ). AreWonSoFar L P k S c.cards.cards) (sym some.1) c.cards.invariant.so))
