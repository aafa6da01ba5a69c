use Rattle.std.proofs.Common.{◌≡◌, ap, sym, ◌∙◌}
use Rattle.std.specs.Prelude.{filter, not}
use Rattle.card_sets.specs.SetWords.{has_card, IsSubset}
use Rattle.card_sets.proofs.Sets.{IsSubset-filter}
use Rattle.trick_rules.specs.Play.{legal_in}
use Rattle.trick_rules.proofs.CardLists.{take_out-low}
use Rattle.double_dummy.proofs.Minimax.{first_legal, rest_legal}
use Rattle.double_dummy.proofs.InPlay.{next_is_equal}
use Rattle.dd_solver.specs.Turns.{turn_state}
use Rattle.dd_solver.proofs.EqualsDown.{spoken-without}
use Rattle.dd_solver.proofs.JustBelow.{one_below, spoken-tops}
use Rattle.dd_solver.proofs.enough.one_of_equals.Goals as goal

pub loop-card-init : goal.loop-card-init
loop-card-init c =
    let s = turn_state c.args.turn.now in
    let kept : c.minus-kept.result ≡ filter (λ d. not (has_card (one_below c.args.legal) d)) c.args.legal =
    c.minus-kept.ensures.value ∙ ap (λ below. filter (λ d. not (has_card below d)) c.args.legal) c.one_below.ensures.value in
    let legal : IsSubset c.minus-kept.result (legal_in s) = λ card h.
    ap (λ x. has_card x card) (sym c.requires.legal)
    ∙ IsSubset-filter (λ d. not (has_card (one_below c.args.legal) d)) c.args.legal card (sym (ap (λ x. has_card x card) kept) ∙ h) in
    record {
      rest = λ card h. legal card (c.below_gaps-rest.ensures.within card h);
      legal = legal;
      spoken = spoken-tops s c.args.legal c.minus-kept.result c.requires.legal kept;
    }

pub loop-card-preserved-in-Some-next_equal : goal.loop-card-preserved-in-Some-next_equal
loop-card-preserved-in-Some-next_equal c =
    let s = turn_state c.args.turn.now in
    let card = c.in-Some.card in
    let rest = c.pop_first.new.self in
    let legal = first_legal c.loop-card.rest rest (legal_in s) card c.in-Some.ensures.value c.loop-card.invariant.rest in
    let next = c.in-Some-next_equal._next in
    let eq = next_is_equal s c.args.legal c.args.turn.now.playing card next c.requires.turn.state c.requires.legal c.requires.turn.playing legal c.in-Some-next_equal.ensures.is in
    record {
      rest = rest_legal c.loop-card.rest rest (legal_in s) card c.in-Some.ensures.value c.loop-card.invariant.rest;
      legal = λ d h. c.loop-card.invariant.legal d (take_out-low card c.loop-card.kept d (sym (ap (λ x. has_card x d) c.without-kept.ensures.value) ∙ h));
      spoken = spoken-without s c.loop-card.kept c.without-kept.result card next eq c.without-kept.ensures.value c.loop-card.invariant.spoken;
    }

pub loop-card-preserved : goal.loop-card-preserved
loop-card-preserved c =
    let s = turn_state c.args.turn.now in
    record {
      rest = rest_legal c.loop-card.rest c.pop_first.new.self (legal_in s) c.in-Some.card c.in-Some.ensures.value c.loop-card.invariant.rest;
      legal = c.loop-card.invariant.legal;
      spoken = c.loop-card.invariant.spoken;
    }

pub returns-clause-legal : goal.returns-clause-legal
returns-clause-legal c = c.loop-card.invariant.legal

pub returns-clause-others : goal.returns-clause-others
returns-clause-others c = c.loop-card.invariant.spoken
