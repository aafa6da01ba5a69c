use Rattle.std.proofs.Common.{◌∙◌, refl, sym, ap}
use Rattle.std.proofs.lemmas.Bool.{and_parts}
use Rattle.card_sets.specs.SetWords.{has_card}
use Rattle.card_sets.proofs.Sets.{has_card-filter}
use Rattle.told_words.proofs.turns.push_children.Goals as goal

pub cards-init : goal.cards-init
cards-init c = record {
  each = λ card held. ap (λ legal. has_card legal card) (sym c.choices.ensures)
      ∙ (and_parts (has_card c.args.cards card) (has_card c.choices.result card) (sym (has_card-filter (has_card c.choices.result) c.args.cards card) ∙ ap (λ cards. has_card cards card) (sym c.both-left.ensures.value) ∙ held)).1;
  so_far = refl;
}
