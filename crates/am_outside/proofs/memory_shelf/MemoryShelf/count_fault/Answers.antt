use Rattle.std.proofs.Common.{set, ap, sym, ◌∙◌}
use Rattle.am_outside.specs.MemoryShelf.{with_fault}
use Rattle.am_outside.proofs.Stored.{seen, with_fault-present, with_fault-absent}
use Rattle.am_outside.proofs.memory_shelf.MemoryShelf.count_fault.Goals as goal

pub returns-in-Some : goal.returns-in-Some
returns-in-Some c =
    let shelf = c.self.inside in
    let files = shelf.files.items in
    let place = c.in-Some.place in
    let file = c.index_mut-file.result.now in
    let at = rw c.deref.ensures.value at (sym c.in-Some.ensures) in
    ap (λ n. seen (set files place (record { name = file.name; bytes = file.bytes; faults = n })) shelf.shared_faults shelf.calls shelf.fail_list.items) c.count_one-file.ensures
    ∙ with_fault-present files shelf.shared_faults shelf.calls shelf.fail_list.items c.args.name.now place file at c.index_mut-file.ensures.value
    ∙ ap (λ s. with_fault s c.args.name.now) c.self.view_is

pub returns-in-None : goal.returns-in-None
returns-in-None c =
    let shelf = c.self.inside in
    let absent = rw c.deref.ensures.value at (sym c.in-None.ensures) in
    ap (λ n. seen shelf.files.items n shelf.calls shelf.fail_list.items) c.count_one-self-inside.ensures
    ∙ with_fault-absent shelf.files.items shelf.shared_faults shelf.calls shelf.fail_list.items c.args.name.now absent
    ∙ ap (λ s. with_fault s c.args.name.now) c.self.view_is
