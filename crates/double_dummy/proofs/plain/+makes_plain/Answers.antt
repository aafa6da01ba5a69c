use Rattle.std.proofs.Common.{◌≡◌, true, eqb, ap, sym, ◌∙◌, arith}
use Rattle.trick_rules.specs.Positions.{PositionValue, State, IsState}
use Rattle.trick_rules.specs.Play.{is_over, legal_in, cards_left}
use Rattle.trick_rules.proofs.PlayLaws.{makes_at_the_end, a_legal_card_can_be_played, a_legal_card_leads_to_a_state, a_card_leaves_one_fewer}
use Rattle.double_dummy.proofs.Minimax.{choice-legal, first_legal}
use Rattle.double_dummy.proofs.plain.+makes_plain.Goals as goal

pub returns-then-over : goal.returns-then-over
returns-then-over t c =
    let s : State = record { position = c.args.position.now; left = c.args.left } in
    let over : is_over s.position ≡ true = sym c.over.ensures.value ∙ c.if-over.true in
    ap (λ (t : PositionValue). eqb t.need 0) c.position.view_is ∙ sym (makes_at_the_end s over)

pub loop-card-init : goal.loop-card-init
loop-card-init t c =
    let s : State = record { position = c.args.position.now; left = c.args.left } in
    let ok : IsState s = record { sound = c.over.ensures.sound; fits = c.requires } in
    record {
      answer = rw c.legal_in-cards.ensures (choice-legal s c.is_ours-ours.result ok (sym c.over.ensures.value ∙ c.if-over.false) (sym c.is_ours-ours.ensures));
      legal = λ card h. rw c.legal_in-cards.ensures at h;
    }

pub play-requires : goal.play-requires
play-requires t c =
    let s : State = record { position = c.args.position.now; left = c.args.left } in
    let legal = first_legal c.loop-card.cards c.pop_first.new.self (legal_in s) c.in-Some.card c.in-Some.ensures.value c.loop-card.invariant.legal in
    a_legal_card_can_be_played s c.in-Some.card (record { sound = c.over.ensures.sound; fits = c.requires }) legal

pub makes_plain-requires : goal.makes_plain-requires
makes_plain-requires t c =
    let s : State = record { position = c.args.position.now; left = c.args.left } in
    let card = c.in-Some.card in
    let ok : IsState s = record { sound = c.over.ensures.sound; fits = c.requires } in
    let legal = first_legal c.loop-card.cards c.pop_first.new.self (legal_in s) card c.in-Some.ensures.value c.loop-card.invariant.legal in
    let fewer = a_card_leaves_one_fewer s.position card ok.sound (a_legal_card_can_be_played s card ok legal) in (
      omega (arith, fewer, ap cards_left c.play.ensures.value, c.decreases),
      rw (c.play.ensures.value, c.without.ensures.value) (a_legal_card_leads_to_a_state s card ok legal).fits,
    )
