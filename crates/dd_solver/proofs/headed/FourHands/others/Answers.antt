use Rattle.std.proofs.Common.{◌||◌, ap, ◌∙◌}
use Rattle.card_sets.specs.SetWords.{has_card}
use Rattle.card_sets.proofs.Sets.{has_card-cards_where, cards_where-agree}
use Rattle.dd_solver.proofs.headed.FourHands.others.Goals as goal

pub returns : goal.returns
returns c =
    let t = c.args.self.now in
    c.either-2.ensures.value ∙ cards_where-agree (λ d. has_card c.either.result d || has_card t.third d) (λ d. has_card t.partner d || has_card t.leader d || has_card t.third d)
    (λ d low. ap (λ b. b || has_card t.third d) (ap (λ l. has_card l d) c.either.ensures.value ∙ has_card-cards_where (λ e. has_card t.partner e || has_card t.leader e) d low))
