use Rattle.std.proofs.Common.{[], ◌∷◌, ◌++◌, set, ap, sym, ◌∙◌}
use Rattle.am_outside.specs.MemoryShelf.{with_file}
use Rattle.am_outside.proofs.Stored.{seen, with_file-present, with_file-absent}
use Rattle.am_outside.proofs.memory_shelf.MemoryShelf.add.Goals as goal

pub returns-in-Some-clause-added : goal.returns-in-Some-clause-added
returns-in-Some-clause-added c =
    let shelf = c.self.inside in
    let files = shelf.files.items in
    let place = c.in-Some.place in
    let file = c.index_mut.result.now in
    let bytes = c.args.bytes.now in
    let content = c.in_ok-content.ensures in
    let at = rw c.deref.ensures.value at (sym c.in-Some.ensures) in
    ap (λ b. seen (set files place (record { name = file.name; bytes = b; faults = file.faults })) shelf.shared_faults shelf.calls shelf.fail_list.items) content
    ∙ with_file-present files shelf.shared_faults shelf.calls shelf.fail_list.items c.args.name.now place file bytes at c.index_mut.ensures.value
    ∙ ap (λ s. with_file s c.args.name.now bytes) c.self.view_is

pub returns-in_ok-push-in-None-clause-added : goal.returns-in_ok-push-in-None-clause-added
returns-in_ok-push-in-None-clause-added c =
    let shelf = c.self.inside in
    let files = shelf.files.items in
    let name = c.args.name.now in
    let bytes = c.args.bytes.now in
    let content = c.in_ok-content.ensures in
    let key = c.in_ok-key-in-None.ensures ∙ c.as_bytes.ensures.value in
    let absent = rw c.deref.ensures.value at (sym c.in-None.ensures) in
    ap (λ fs. seen fs shelf.shared_faults shelf.calls shelf.fail_list.items) c.in_ok-push-in-None.ensures.items
    ∙ (λ j. seen (files ++ (record { name = key j; bytes = content j; faults = shelf.shared_faults }) ∷ []) shelf.shared_faults shelf.calls shelf.fail_list.items)
    ∙ with_file-absent files shelf.shared_faults shelf.calls shelf.fail_list.items name bytes absent
    ∙ ap (λ s. with_file s name bytes) c.self.view_is
