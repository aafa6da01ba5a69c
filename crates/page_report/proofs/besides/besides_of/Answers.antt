use Rattle.page_report.proofs.MoreBesides.{each_fits, first_five}
use Rattle.page_report.proofs.besides.besides_of.Goals as goal

pub each_beside-requires : goal.each_beside-requires
each_beside-requires c = each_fits c.args.entries.now c.in-Some.first.now c.in-Some.later.now c.min-few.result c.in-Some.ensures.cases.0 c.requires

pub returns : goal.returns
returns c = first_five c.args.entries.now c.in-Some.first.now c.in-Some.later.now c.min-few.result c.each_beside.result c.in-Some.ensures.cases.0 c.min-few.ensures c.each_beside.ensures
