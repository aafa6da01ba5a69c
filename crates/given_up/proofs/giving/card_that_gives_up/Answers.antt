use Rattle.std.proofs.Common.{◌≡◌, ◌∙◌, true, false, Some, None, sym, ap, get_or, rules}
use Rattle.std.specs.Option.{option_map}
use Rattle.std.proofs.lemmas.Option.{get_or_from_slice_get}
use Rattle.trick_rules.specs.Positions.{State, IsState}
use Rattle.given_up.specs.GivenUp.{giving_place, giving_card}
use Rattle.given_up.proofs.Card.{place_within, lost_at_first, card_of_place, state_there, is_state_there, holds_there}
use Rattle.given_up.proofs.giving.card_that_gives_up.Goals as goal

pub makes-requires : goal.makes-requires
makes-requires c =
    let s : State = record { position = c.position-position.result.now; left = c.left-left.result } in
    let there = state_there c.args.node.now c.args.place c.position-position.result.now c.left-left.result c.position-position.ensures.value c.left-left.ensures in
    let state : IsState s = is_state_there c.args.node.now c.args.place s c.position-position.ensures.a_node c.requires.a_layout there in
    state.fits

pub giving_place-requires : goal.giving_place-requires
giving_place-requires c =
    let s : State = record { position = c.position-position.result.now; left = c.left-left.result } in
    let there = state_there c.args.node.now c.args.place c.position-position.result.now c.left-left.result c.position-position.ensures.value c.left-left.ensures in
    record {
      state = is_state_there c.args.node.now c.args.place s c.position-position.ensures.a_node c.requires.a_layout there;
      legal = c.requires.legal s there;
    }

pub returns-then-not-makes : goal.returns-then-not-makes
returns-then-not-makes c =
    let s : State = record { position = c.position-position.result.now; left = c.left-left.result } in
    let lost : c.makes.result ≡ false = search rules in
    holds_there (λ t. None ≡ giving_card t c.args.cards.now) c.args.node.now c.args.place c.position-position.result.now c.left-left.result c.position-position.ensures.value c.left-left.ensures
    (lost_at_first s c.args.cards.now (sym c.makes.ensures.answer ∙ lost))

pub get-requires : goal.get-requires
get-requires c =
    let s : State = record { position = c.position-position.result.now; left = c.left-left.result } in
    place_within s c.args.cards.now c.in-Some.at (sym c.giving_place.ensures ∙ c.in-Some.is)

pub returns-in-Some : goal.returns-in-Some
returns-in-Some c =
    let s : State = record { position = c.position-position.result.now; left = c.left-left.result } in
    let made : c.makes.result ≡ true = search rules in
    let there : giving_place s c.args.cards.now ≡ Some c.in-Some.at = sym c.giving_place.ensures ∙ c.in-Some.is in
    holds_there (λ t. Some c.get.result ≡ giving_card t c.args.cards.now) c.args.node.now c.args.place c.position-position.result.now c.left-left.result c.position-position.ensures.value c.left-left.ensures
    (ap Some (sym (get_or_from_slice_get c.args.cards.now c.in-Some.at c.get.result 0 c.get.ensures))
    ∙ sym (ap (option_map (λ place. get_or c.args.cards.now place 0)) there)
    ∙ card_of_place s c.args.cards.now (sym c.makes.ensures.answer ∙ made))

pub returns-in-None : goal.returns-in-None
returns-in-None c =
    let s : State = record { position = c.position-position.result.now; left = c.left-left.result } in
    let made : c.makes.result ≡ true = search rules in
    let there : giving_place s c.args.cards.now ≡ None = sym c.giving_place.ensures ∙ c.in-None.is in
    holds_there (λ t. None ≡ giving_card t c.args.cards.now) c.args.node.now c.args.place c.position-position.result.now c.left-left.result c.position-position.ensures.value c.left-left.ensures
    (sym (ap (option_map (λ place. get_or c.args.cards.now place 0)) there)
    ∙ card_of_place s c.args.cards.now (sym c.makes.ensures.answer ∙ made))
