use Rattle.std.proofs.Common.{◌≡◌, ◌≤◌, Option, false, None, length, slice_get, get_or, sym, ap, arith}
use Rattle.std.specs.Prelude.{◌&&◌}
use Rattle.std.specs.Option.{option_map_or}
use Rattle.std.proofs.lemmas.Option.{slice_get_past}
use Rattle.page_text.specs.declared.plays.PlayedOut.{PlayedOut}
use Rattle.page_text.specs.Refutations.{fails_with}
use Rattle.page_text.proofs.refutations.gives_up.Goals as goal

pub returns-in-None : goal.returns-in-None
returns-in-None c =
    let outs = c.args.refuted.now.line.plays.items in
    let past : length c.deref.result.now ≤ c.from.result = c.in-None.ensures.lookup.3 in
    let beyond : length outs ≤ c.args.place = omega (arith, past, ap length c.deref.ensures.value, c.from.ensures) in
    let none : slice_get outs c.args.place ≡ None = slice_get_past outs c.args.place beyond in
    sym (ap (λ (o : Option PlayedOut). option_map_or (λ play. get_or c.args.refuted.now.believed c.args.place false && fails_with c.args.card play) o false) none)
