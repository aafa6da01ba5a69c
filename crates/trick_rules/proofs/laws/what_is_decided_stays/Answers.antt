use Rattle.trick_rules.proofs.PlayLaws.{what_is_decided_stays}
use Rattle.trick_rules.proofs.laws.what_is_decided_stays.Goals as goal

pub returns : goal.returns
returns c = what_is_decided_stays
