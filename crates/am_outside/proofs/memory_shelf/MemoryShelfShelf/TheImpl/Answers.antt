use Rattle.std.proofs.Common.{rules, ap, ◌∙◌}
use Rattle.am_outside.specs.MemoryShelf.{faults_at}
use Rattle.am_outside.proofs.Shelves.{after_read-rises, after_read-no_fall, after_read-others}
use Rattle.am_outside.proofs.memory_shelf.MemoryShelfShelf.TheImpl.Goals as goal

pub read-tells : goal.read-tells
read-tells c =
    let shelf = c.args.self.now in
    let name = c.args.name.now in
    record {
      within = search rules;
      failed = λ failed. rw c.ensures.after (after_read-rises shelf name (c.ensures.failed.0 failed));
      never_falls = λ other. rw c.ensures.after (after_read-no_fall shelf name other);
      same_files = search rules;
      file = search rules;
      too_long = search rules;
      others = λ other there apart. ap (λ s. faults_at s other) c.ensures.after ∙ after_read-others shelf name other there apart;
    }
