-- A writer that goes on.
use Rattle.std.proofs.Common.{◌∙◌, refl}
use Rattle.log_maker.specs.declared.tree_writer.TreeWriter.{TreeWriter}
use Rattle.log_maker.specs.Steps.{IsSameWriter}

pub same_none : (now : TreeWriter) → IsSameWriter now now
same_none now = record { log = refl; limit = refl }

pub same_more : {early middle late : TreeWriter} → IsSameWriter early middle → IsSameWriter middle late → IsSameWriter early late
same_more a b = record { log = b.log ∙ a.log; limit = b.limit ∙ a.limit }
