use Rattle.std.proofs.Common.{◌∙◌, ap₂, List, ℕ}
use Rattle.std.specs.Prelude.{◌||◌}
use Rattle.card_sets.specs.SetWords.{has_card, cards_where}
use Rattle.told_words.specs.Turns.{plays_so}
use Rattle.told_words.proofs.PlayedSets.{node_more}
use Rattle.told_words.proofs.turns.played_so.Goals as goal

pub loop-place-preserved : goal.loop-place-preserved
loop-place-preserved c =
    c.either-so.ensures.value
    ∙ ap₂ (λ (so here : List ℕ). cards_where (λ card. has_card so card || has_card here card)) c.loop-place.invariant c.played_here.ensures
    ∙ node_more c.args.cards (λ card n. plays_so c.args.seat c.args.manner card n) c.args.places.now c.loop-place.place-index c.place-item.result c.loop-place-test.true c.place-item.is
