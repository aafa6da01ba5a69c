use Rattle.std.proofs.Common.{[], ◌∷◌, ◌++◌, sym, ◌∙◌, append_assoc, arith}
use Rattle.plain_fronts.proofs.CardByCard.{falls, child_fits, next_is, over_no_card, over_one_more, over_all}
use Rattle.plain_fronts.proofs.plain.+front.Goals as goal

pub front_over_cards-cards-init : goal.front_over_cards-cards-init
front_over_cards-cards-init t c = record {
  earlier = [];
  are = sym c.choices-cards.ensures;
  width = c.in_ok-front.ensures.width;
  so_far = over_no_card c.args.node.now c.moves_after-left.result c.in_ok-front.front.vectors c.in_ok-front.ensures.ours c.in_ok-front.ensures.theirs;
}

pub front_over_cards-plain_front-requires : goal.front_over_cards-plain_front-requires
front_over_cards-plain_front-requires t c =
    let left = c.cards.invariant in
    let fewer = falls c.args.node.now c.in_ok-child.child left.earlier c.pop_first.new.self c.in-Some.card c.front_of_no_card.ensures.a_node (next_is left c.in-Some.ensures.value) c.in_ok-child.ensures.node in
    (omega (arith, fewer), tt)

pub front_over_cards-with_child-requires : goal.front_over_cards-with_child-requires
front_over_cards-with_child-requires t c =
    let left = c.cards.invariant in
    let fits = child_fits c.args.node.now c.in_ok-child.child left.earlier c.pop_first.new.self c.in-Some.card c.in_ok-child.mask c.cards.front.width c.in_ok-won.won.width
    (next_is left c.in-Some.ensures.value) c.in_ok-child.ensures.node c.in_ok-child.ensures.mask left.width c.in_ok-won.ensures.width in
    record { mask_width = fits.mask_width; child_width = fits.child_width; ours = fits.ours }

pub front_over_cards-cards-preserved : goal.front_over_cards-cards-preserved
front_over_cards-cards-preserved t c =
    let left = c.cards.invariant in
    let are = next_is left c.in-Some.ensures.value in
    record {
      earlier = left.earlier ++ c.in-Some.card ∷ [];
      are = are ∙ sym (append_assoc left.earlier (c.in-Some.card ∷ []) c.pop_first.new.self);
      width = c.in_ok-front-2.ensures.width ∙ left.width;
      so_far = over_one_more c.args.node.now c.in_ok-child.child c.moves_after-left.result left.earlier c.pop_first.new.self c.in-Some.card c.in_ok-child.mask c.cards.front.vectors c.in_ok-won.won.vectors c.in_ok-front-2.front.vectors
          c.front_of_no_card.ensures.a_node are left.so_far c.in_ok-child.ensures.node c.in_ok-child.ensures.mask c.in_ok-won.ensures.front c.in_ok-front-2.ensures.ours c.in_ok-front-2.ensures.theirs;
    }

pub front_over_cards-returns : goal.front_over_cards-returns
front_over_cards-returns t c =
    let left = c.cards.invariant in
    record {
      width = left.width;
      front = over_all c.args.node.now c.args.moves c.moves_after-left.result left.earlier c.cards.cards c.cards.front.vectors c.front_of_no_card.ensures.a_node c.requires c.moves_after-left.ensures.ours c.moves_after-left.ensures.theirs left.are c.in_default.ensures.value.0 left.so_far;
    }
