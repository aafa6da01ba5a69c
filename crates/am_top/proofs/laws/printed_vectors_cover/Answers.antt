use Rattle.am_top.proofs.Reporting.{vectors-cover, weight-most}
use Rattle.am_top.proofs.laws.printed_vectors_cover.Goals as goal

pub returns-clause-covers : goal.returns-clause-covers
returns-clause-covers c = vectors-cover

pub returns-clause-most : goal.returns-clause-most
returns-clause-most c = weight-most
