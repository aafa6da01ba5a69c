use Rattle.pbn_deal.proofs.Sound.{IsSoundDeal-read}
use Rattle.pbn_deal.proofs.deal.read_deal.Goals as goal

pub returns-clause-sound : goal.returns-clause-sound
returns-clause-sound c = IsSoundDeal-read c.args.value.now c.hands_of_value.result c.hands_of_value.ensures
