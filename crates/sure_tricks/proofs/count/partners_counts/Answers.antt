use Rattle.std.proofs.Common.{false}
use Rattle.trick_rules.specs.Positions.{seat_after, to_play}
use Rattle.sure_tricks.proofs.Summing.{few_in}
use Rattle.sure_tricks.proofs.count.partners_counts.Goals as goal

pub returns-clause-few : goal.returns-clause-few
returns-clause-few c = few_in (record { position = c.args.position.now; left = c.args.left }) (record { sound = c.to_play.ensures.sound; fits = c.requires })
    (seat_after 2 (to_play c.args.position.now)) (λ suit seat. false)
