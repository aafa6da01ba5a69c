use Rattle.std.proofs.Common.{ap, sym, ◌∙◌}
use Rattle.am_outside.specs.MemoryShelf.{faults_at}
use Rattle.am_outside.proofs.Stored.{faults_at-present, faults_at-absent}
use Rattle.am_outside.proofs.memory_shelf.MemoryShelf.faults.Goals as goal

pub returns-in-Some : goal.returns-in-Some
returns-in-Some c =
    let shelf = c.self.inside in
    let at = rw c.deref.ensures.value at (sym c.in-Some.ensures) in
    faults_at-present shelf.files.items shelf.shared_faults shelf.calls shelf.fail_list.items c.args.name.now c.in-Some.place c.index.result.now at c.index.ensures
    ∙ ap (λ s. faults_at s c.args.name.now) c.self.view_is

pub returns-in-None : goal.returns-in-None
returns-in-None c =
    let shelf = c.self.inside in
    let absent = rw c.deref.ensures.value at (sym c.in-None.ensures) in
    sym (faults_at-absent shelf.files.items shelf.shared_faults shelf.calls shelf.fail_list.items c.args.name.now absent)
    ∙ ap (λ s. faults_at s c.args.name.now) c.self.view_is
