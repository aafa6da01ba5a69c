use Rattle.std.proofs.Common.{◌≡◌, subst}
use Rattle.card_sets.specs.SetWords.{cards_where}
use Rattle.trick_rules.proofs.Inside.{seen_as}
use Rattle.double_dummy.specs.Equals.{in_play}
use Rattle.double_dummy.proofs.InPlay.{all_in_play}
use Rattle.double_dummy.proofs.in_play.cards_in_play.Goals as goal

pub returns : goal.returns
returns c =
    let t = seen_as c.position.inside in
    subst (λ u. c.either.result ≡ cards_where (in_play u)) c.position.view_is
    (all_in_play t c.either-ours.result c.either-held.result c.cards_of-played.result c.either.result c.either-ours.ensures.value c.either-held.ensures.value c.cards_of-played.ensures c.either.ensures.value)
