use Rattle.std.proofs.Common.{List, not, sym, ap, ◌∙◌, ℕ}
use Rattle.std.proofs.lemmas.Bool.{and_parts, not-true}
use Rattle.card_sets.specs.SetWords.{has_card}
use Rattle.card_sets.proofs.Sets.{has_card-filter}
use Rattle.dd_solver.proofs.relative_ranks.gaps_in.Goals as goal

pub returns-in-Some-clause-free : goal.returns-in-Some-clause-free
returns-in-Some-clause-free c card h =
    let playing = c.args.playing in
    not-true (has_card playing card) (and_parts (has_card c.up_from.result card) (not (has_card playing card))
    (sym (ap (λ (x : List ℕ). has_card x card) c.minus.ensures.value ∙ has_card-filter (λ d. not (has_card playing d)) c.up_from.result card) ∙ h)).1
