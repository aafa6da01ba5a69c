use Rattle.std.proofs.Common.{rules, ap, Ok, Err, IfOk}
use Rattle.std.specs.Prelude.{⊤}
use Rattle.am_outside.specs.Shelf.{has_failed}
use Rattle.am_outside.proofs.Rises.{one_more_if-rises, one_more_if-no_fall}
use Rattle.am_outside.proofs.file_shelf.FileShelfShelf.TheImpl.Goals as goal

pub read-tells : goal.read-tells
read-tells g c = record {
  within = search rules;
  failed = λ failed. rw c.ensures.counted (one_more_if-rises (has_failed c.result) c.args.self.now (ap has_failed failed));
  never_falls = λ _. rw c.ensures.counted (one_more_if-no_fall (has_failed c.result) c.args.self.now);
  same_files = search rules;
  file = elim c.result as (λ r. IfOk r (λ _. ⊤)) [ Ok text ↦ tt | Err fault ↦ tt ];
  too_long = search rules;
  others = search rules;
}
