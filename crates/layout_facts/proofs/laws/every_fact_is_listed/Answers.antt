use Rattle.layout_facts.proofs.Listing.{each_holding, each_length}
use Rattle.layout_facts.proofs.laws.every_fact_is_listed.Goals as goal

pub returns-clause-holdings : goal.returns-clause-holdings
returns-clause-holdings c = each_holding

pub returns-clause-lengths : goal.returns-clause-lengths
returns-clause-lengths c = each_length
