use Rattle.std.proofs.Common.{◌≡◌, ◌<◌, ◌≤◌, length, Some, slice_get, take, true, arith, refl, subst}
use Rattle.std.proofs.lemmas.Option.{slice_get_within, slice_get_read}
use Rattle.trick_rules.specs.Nodes.{choices}
use Rattle.alphamu_core.specs.declared.answers.Found.{Found}
use Rattle.root_workers.specs.Founds.{IsFoundAfter}
use Rattle.root_workers.proofs.CardPlaces.{get_in}
use Rattle.root_workers.proofs.Founds.{found_here}
use Rattle.root_workers.proofs.Causes.{enough_more}
use Rattle.root_workers.proofs.reports.outcome_of.Goals as goal

pub returns-then-place-len-clause-cause : goal.returns-then-place-len-clause-cause
returns-then-place-len-clause-cause c =
    let r = c.args.question.now in
    let within = slice_get_within (choices r.node.now) c.args.place c.args.card c.requires.card in
    let all : length c.args.founds.now.items ≤ c.args.place = omega arith in
    let few : length c.args.founds.now.items < length (choices r.node.now) = omega (arith, within, all) in
    let enough = c.requires.founds.enough few in
    (enough.1, enough_more r.node.now r.moves r.options.now r.table.now (length c.args.founds.now.items) c.args.place enough.0 all)

pub put_front-requires-clause-card : goal.put_front-requires-clause-card
put_front-requires-clause-card c = get_in (choices c.args.question.now.node.now) c.args.place c.args.card c.requires.card

pub put_front-requires-clause-front : goal.put_front-requires-clause-front
put_front-requires-clause-front c =
    let r = c.args.question.now in
    let inside : c.args.place < length c.args.founds.now.items = omega arith in
    let here : slice_get c.args.founds.now.items c.args.place ≡ Some c.index.result.now = slice_get_read c.args.founds.now.items (length c.args.founds.now.items) c.args.place c.index.result.now refl inside c.index.ensures in
    subst (λ (f : Found). IsFoundAfter r.node.now r.moves (r.options.now.cuts ≡ true) (take c.args.place (choices r.node.now)) c.args.card f) c.in-Exact.is
    (found_here r.node.now r.moves (r.options.now.cuts ≡ true) c.args.founds.now.items c.args.place c.args.card c.index.result.now c.requires.founds here c.requires.card)

pub returns-in-Below-clause-cause : goal.returns-in-Below-clause-cause
returns-in-Below-clause-cause c =
    let r = c.args.question.now in
    let inside : c.args.place < length c.args.founds.now.items = omega arith in
    let here : slice_get c.args.founds.now.items c.args.place ≡ Some c.index.result.now = slice_get_read c.args.founds.now.items (length c.args.founds.now.items) c.args.place c.index.result.now refl inside c.index.ensures in
    let is = subst (λ (f : Found). IsFoundAfter r.node.now r.moves (r.options.now.cuts ≡ true) (take c.args.place (choices r.node.now)) c.args.card f) c.in-Below.is
    (found_here r.node.now r.moves (r.options.now.cuts ≡ true) c.args.founds.now.items c.args.place c.args.card c.index.result.now c.requires.founds here c.requires.card) in
    (is.1, is.0)
