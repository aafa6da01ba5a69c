use Rattle.equivalent_positions.proofs.Stoppers.{stoppers_stay}
use Rattle.equivalent_positions.proofs.laws.stoppers_stay.Goals as goal

pub returns : goal.returns
returns c = λ counting s t seat stoppers closed ok ok' a within are. stoppers_stay counting s t seat stoppers closed ok ok' a within are
