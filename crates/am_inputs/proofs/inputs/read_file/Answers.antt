use Rattle.std.proofs.Common.{Err, ap, subst, ◌∙◌}
use Rattle.am_outside.specs.Shelf.{IsLonger}
use Rattle.am_inputs.proofs.Files.{told_too_long}
use Rattle.am_inputs.proofs.inputs.read_file.Goals as goal

pub returns-in-Err-TooLong-clause-refused : goal.returns-in-Err-TooLong-clause-refused
returns-in-Err-TooLong-clause-refused g c =
    told_too_long (g.S.Shelf.told c.args.shelf.now) c.args.file c.args.name.now _
    (λ files exact. subst (λ most. IsLonger files c.args.name.now most) c.limit_of.ensures (exact.0 (c.in-Err-TooLong.is ∙ ap Err c.in-Err-TooLong.field-0-is)).0) c.read.ensures.too_long
