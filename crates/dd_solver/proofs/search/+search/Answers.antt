use Rattle.std.proofs.Common.{rules, ◌≢◌, ℕ, not, length, sym, ap, subst, refl, ◌∙◌, arith}
use Rattle.trick_rules.specs.Positions.{State, IsSound, IsState}
use Rattle.trick_rules.specs.Play.{after, cards_left, decided}
use Rattle.trick_rules.proofs.PlayLaws.{a_legal_card_can_be_played, a_legal_card_leads_to_a_state, a_card_leaves_one_fewer}
use Rattle.trick_rules.proofs.Decisions.{open-decided}
use Rattle.double_dummy.proofs.Minimax.{same_answer, other_answer}
use Rattle.equivalent_positions.specs.Alike.{IsClosedUp, HasAnswer, GivesAnswer}
use Rattle.equivalent_positions.proofs.Counting.{no_card_is_closed_up}
use Rattle.equivalent_positions.proofs.Answers.{a_decided_state_answers}
use Rattle.dd_solver.specs.Keys.{key_state}
use Rattle.dd_solver.proofs.GapAfterGap.{gaps-still}
use Rattle.dd_solver.specs.Turns.{turn_state}
use Rattle.dd_solver.proofs.Turns.{open-after}
use Rattle.dd_solver.proofs.Winner.{shorter}
use Rattle.dd_solver.proofs.Tried.{given_by, given-one, given-only, only_held, tried-more, answer-each}
use Rattle.dd_solver.proofs.search.+search.Goals as goal

pub search-returns-in-Some-clause-answer : goal.search-returns-in-Some-clause-answer
search-returns-in-Some-clause-answer t c =
    let s : State = record { position = c.args.position.now; left = c.args.left } in
    record {
      closed = subst IsClosedUp (sym c.empty.ensures.value) no_card_is_closed_up;
      answers = a_decided_state_answers c.empty.result s c.in-Some.made (sym c.decided.ensures ∙ c.in-Some.is);
    }

pub search-search_key-answer-requires : goal.search-search_key-answer-requires
search-search_key-answer-requires t c =
    let s : State = record { position = c.args.position.now; left = c.args.left } in
    let key = c.of-2.result in
    let ranks = c.of-ranks.result in
    let ok : IsState s = record { sound = subst IsSound c.position.view_is c.position.invariant; fits = c.requires.fits } in
    let here : IsState (key_state key) = subst IsState (sym c.of-2.ensures.state) ok in
    let still = gaps-still ranks.gaps (key_state key) (key_state ranks.key) here c.of-ranks.ensures.closed in (
      omega (arith, still.cards, ap (λ (x : State). cards_left x.position) c.of-2.ensures.state, c.decreases),
      (c.of-ranks.ensures.state, (c.of-ranks.ensures.shape, still.decided ∙ ap (λ (x : State). decided x.position) c.of-2.ensures.state ∙ sym c.decided.ensures ∙ c.in_default.is)),
    )

pub search_turn-returns-clause-answer : goal.search_turn-returns-clause-answer
search_turn-returns-clause-answer t c =
    let s = turn_state c.args.turn.now in
    let ours = c.is_ours-ours.result in
    answer-each s c.one_of_equals-cards.result c.with_lower_equals.result ours c.best_of-answer.result (record { made = not ours; counting = c.with_lower_equals.result })
    c.requires.turn.state (open-decided s.position c.requires.open) c.best_of-answer.ensures.given (other_answer c.best_of-answer.result.made ours c.if-answer-ours.false)
    c.one_of_equals-cards.ensures.others refl refl c.with_lower_equals.ensures.closed c.with_lower_equals.ensures.within c.with_lower_equals.ensures.down

pub best_of-search_after-requires : goal.best_of-search_after-requires
best_of-search_after-requires t c = (omega (arith, c.decreases), (c.requires.turn, (c.requires.open, c.requires.legal c.in-Some.card (only_held c.args.cards c.in-Some.card c.in-Some.ensures))))

pub best_of-returns-in-Some-clause-given : goal.best_of-returns-in-Some-clause-given
best_of-returns-in-Some-clause-given t c =
    let s = turn_state c.args.turn.now in
    let card = c.in-Some.card in
    let legal = c.requires.legal card (only_held c.args.cards card c.in-Some.ensures) in
    given-only s c.args.cards c.args.ours card c.search_after.result c.requires.turn.state c.in-Some.ensures legal c.requires.side c.search_after.ensures.closed c.search_after.ensures.given

pub best_of-returns-then-there-ours-clause-given : goal.best_of-returns-then-there-ours-clause-given
best_of-returns-then-there-ours-clause-given t c =
    let s = turn_state c.args.turn.now in
    let card = c.in-Some-first_of.card in
    let ours = c.args.ours in
    let there = c.search_after-there.result in
    let same = same_answer there.made ours c.if-there-ours.true in
    let legal = c.requires.legal card (c.loop-card.invariant.tried.part card c.in-Some-first_of.ensures) in
    given-one s c.args.cards ours card there c.requires.turn.state legal c.requires.side same
    c.search_after-there.ensures.closed (subst (λ b. GivesAnswer there.counting s card b) same c.search_after-there.ensures.given)

pub best_of-loop-card-smaller : goal.best_of-loop-card-smaller
best_of-loop-card-smaller t c =
    let fewer = c.without_like-rest.ensures.fewer in
    omega (arith, shorter c.in-Some-first_of.card c.loop-card.rest c.in-Some-first_of.ensures, ap (length {A = ℕ}) c.without-rest.ensures.value)

pub best_of-loop-card-preserved : goal.best_of-loop-card-preserved
best_of-loop-card-preserved t c =
    let s = turn_state c.args.turn.now in
    let card = c.in-Some-first_of.card in
    let ours = c.args.ours in
    let there = c.search_after-there.result in
    record {
      tried = tried-more s c.args.cards c.loop-card.rest c.without-rest.result c.without_like-rest.result c.loop-card.counting c.joined-counting.result there.counting ours card c.loop-card.invariant.tried
          c.without-rest.ensures.value c.without_like-rest.ensures.within c.without_like-rest.ensures.like
          c.joined-counting.ensures.closed c.joined-counting.ensures.first_within c.joined-counting.ensures.second_within
          (subst (λ b. GivesAnswer there.counting s card b) (other_answer there.made ours c.if-there-ours.false) c.search_after-there.ensures.given);
      limit = c.search_after-there.ensures.limit ∙ c.loop-card.invariant.limit;
    }

pub search_after-search_turn-requires : goal.search_after-search_turn-requires
search_after-search_turn-requires t c =
    let s = turn_state c.args.turn.now in
    let card = c.args.card in
    let ok = c.requires.turn.state in
    let can = a_legal_card_can_be_played s card ok c.requires.legal in
    let fewer = a_card_leaves_one_fewer s.position card ok.sound can in
    let goes_on : length s.position.trick.cards ≢ 3 = search rules in (
      omega (arith, fewer, ap (λ (x : State). cards_left x.position) c.after.ensures.state, c.decreases),
      (c.after.ensures.turn, ap (λ (x : State). decided x.position) c.after.ensures.state ∙ open-after s.position card ok.sound can goes_on c.requires.open),
    )

pub search_after-returns-then-len-ne3-clause-given : goal.search_after-returns-then-len-ne3-clause-given
search_after-returns-then-len-ne3-clause-given t c =
    let s = turn_state c.args.turn.now in
    let there = c.search_turn.result in
    let goes_on : length s.position.trick.cards ≢ 3 = search rules in
    given_by s c.args.card there.made there.counting there.counting c.requires.legal c.search_turn.ensures.answer.closed (λ d h. h) (λ third. absurd (goes_on third))
    (subst (λ (x : State). HasAnswer there.counting x there.made) c.after.ensures.state c.search_turn.ensures.answer.answers)

pub search_after-end_trick-after-requires-clause-held : goal.search_after-end_trick-after-requires-clause-held
search_after-end_trick-after-requires-clause-held t c = a_legal_card_can_be_played (turn_state c.args.turn.now) c.args.card c.requires.turn.state c.requires.legal

pub search_after-search-there-requires : goal.search_after-search-there-requires
search_after-search-there-requires t c =
    let s = turn_state c.args.turn.now in
    let card = c.args.card in
    let ok = c.requires.turn.state in
    let fewer = a_card_leaves_one_fewer s.position card ok.sound (a_legal_card_can_be_played s card ok c.requires.legal) in (
      omega (arith, fewer, ap cards_left c.end_trick-after.ensures.value, c.decreases),
      (
        rw (c.end_trick-after.ensures.value, c.without.ensures.value) (a_legal_card_leads_to_a_state s card ok c.requires.legal).fits,
        rw (c.end_trick-after.ensures.value, c.without.ensures.value) c.shape_after-shape.ensures,
      ),
    )

pub search_after-with_winner-requires-clause-held : goal.search_after-with_winner-requires-clause-held
search_after-with_winner-requires-clause-held t c = a_legal_card_can_be_played (turn_state c.args.turn.now) c.args.card c.requires.turn.state c.requires.legal

pub search_after-returns-clause-given : goal.search_after-returns-clause-given
search_after-returns-clause-given t c =
    let s = turn_state c.args.turn.now in
    let there = c.search-there.result in
    let got : HasAnswer there.counting (after s c.args.card) there.made = rw (c.end_trick-after.ensures.value, c.without.ensures.value) at c.search-there.ensures.answer.answers in
    given_by s c.args.card there.made there.counting c.with_winner.result c.requires.legal c.with_winner.ensures.closed c.with_winner.ensures.within (c.with_winner.ensures.settles c.args.turn.now.left) got
