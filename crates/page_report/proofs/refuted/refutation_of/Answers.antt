use Rattle.std.proofs.Common.{◌≡◌, ◌∙◌, ◌<◌, ℕ, Option, Some, length, slice_get, refl, ap, sym, subst, rules}
use Rattle.std.proofs.lemmas.Option.{slice_get-get_or}
use Rattle.strategy_games.specs.Plans.{Fits}
use Rattle.strategy_tree.specs.Bridge.{bridge}
use Rattle.am_report.specs.Answers.{ReadEntryValue}
use Rattle.page_text.specs.declared.refutations.Refutation.{Refutation}
use Rattle.page_report.specs.Refuted.{IsRefutedAt}
use Rattle.page_report.proofs.refuted.refutation_of.Goals as goal

pub played_line-requires : goal.played_line-requires
played_line-requires c =
    let within : c.in-Some.place < length c.args.entries.now = search rules in
    record {
      fits = subst (λ (read : ReadEntryValue). (moves : ℕ) × Fits bridge read.entry.plan c.args.node.now moves) (sym c.index-entries-place.is) (c.requires.fit c.in-Some.place c.index-entries-place.result within);
    }

pub returns : goal.returns
returns c =
    let place = c.in-Some.place in
    let read = c.index-entries-place.result in
    let within : place < length c.args.entries.now = search rules in
    let there : slice_get c.args.entries.now place ≡ Some read = slice_get-get_or c.args.entries.now place read within ∙ ap Some (sym c.index-entries-place.is) in
    let told : Refutation = record { card = c.args.belief.now.card; believed = c.args.belief.now.vector; line = c.in_ok-line.line } in
    subst (λ (found : Option ℕ). IsRefutedAt c.args.node.now c.args.entries.now c.args.belief.now found (Some told)) (sym c.in-Some.is ∙ c.refuting_place.ensures.value)
    (read, told, there, refl, record { card = refl; believed = refl; number = c.in_ok-line.ensures.number; played = c.in_ok-line.ensures.played })
