use Rattle.std.proofs.Common.{Some, ap, sym, ◌∙◌}
use Rattle.std.specs.FinMap.{get}
use Rattle.am_outside.proofs.Stored.{bytes-present, bytes-absent}
use Rattle.am_outside.proofs.memory_shelf.MemoryShelf.file.Goals as goal

pub returns-in-Some : goal.returns-in-Some
returns-in-Some c =
    let shelf = c.self.inside in
    let at = rw c.deref.ensures.value at (sym c.in-Some.ensures) in
    ap Some c.bytes.ensures
    ∙ bytes-present shelf.files.items shelf.shared_faults shelf.calls shelf.fail_list.items c.args.name.now c.in-Some.place c.index.result.now at c.index.ensures
    ∙ ap (λ s. get s.files c.args.name.now) c.self.view_is

pub returns-in-None : goal.returns-in-None
returns-in-None c =
    let shelf = c.self.inside in
    let absent = rw c.deref.ensures.value at (sym c.in-None.ensures) in
    bytes-absent shelf.files.items shelf.shared_faults shelf.calls shelf.fail_list.items c.args.name.now absent
    ∙ ap (λ s. get s.files c.args.name.now) c.self.view_is
