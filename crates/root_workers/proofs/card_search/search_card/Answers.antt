use Rattle.std.proofs.Common.{◌≡◌, rules, subst}
use Rattle.shared_table.specs.Passes.{view_of}
use Rattle.shared_table.specs.Stores.{HasGrownAt}
use Rattle.root_workers.proofs.card_search.search_card.Goals as goal

pub returns-then-round-clause-grown : goal.returns-then-round-clause-grown
returns-then-round-clause-grown c = λ i.
    let early : c.new-store.result.pass.now ≡ c.args.pass.now = c.new-store.ensures.pass in
    let late : c.after_card.new.store.pass.now ≡ c.pass-1.given.0 = search rules in
    subst (λ p. HasGrownAt i (view_of c.args.pass.now) (view_of p)) late
    (subst (λ p. HasGrownAt i (view_of p) (view_of c.after_card.new.store.pass.now)) early (c.after_card.ensures.grown.each i))
