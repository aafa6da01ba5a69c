use Rattle.std.proofs.Common.{◌∙◌, ap}
use Rattle.card_sets.specs.SetWords.{has_card}
use Rattle.trick_rules.specs.Positions.{State}
use Rattle.trick_rules.proofs.PlayLaws as play
use Rattle.am_match.proofs.Choosing.{has_head}
use Rattle.am_match.proofs.following.keeping_card.Goals as goal

pub play-requires : goal.play-requires
play-requires c =
    let s : State = record { position = c.args.position.now; left = c.args.left } in
    let card = c.in-Some.card in
    play.a_legal_card_can_be_played s card c.requires
    (c.loop-card.invariant.legal card (ap (λ cs. has_card cs card) c.in-Some.ensures.value ∙ has_head card c.pop_first.new.self))

pub makes-requires : goal.makes-requires
makes-requires c =
    let s : State = record { position = c.args.position.now; left = c.args.left } in
    let card = c.in-Some.card in
    let legal = c.loop-card.invariant.legal card (ap (λ cs. has_card cs card) c.in-Some.ensures.value ∙ has_head card c.pop_first.new.self) in
    rw (c.play.ensures.value, c.without.ensures.value) (play.a_legal_card_leads_to_a_state s card c.requires legal).fits
