use Rattle.std.proofs.Common.{◌≡◌, ◌∙◌, ◌≤◌, ◌++◌, Option, None, [], length, slice_get, sym, ap, arith}
use Rattle.std.specs.Option.{option_map_or}
use Rattle.std.proofs.lemmas.List.{append-nil}
use Rattle.std.proofs.lemmas.Option.{slice_get_past}
use Rattle.page_text.specs.declared.plays.PlayedOut.{PlayedOut}
use Rattle.page_text.specs.Plays.{play_pieces}
use Rattle.page_text.proofs.plays.push_play_at.Goals as goal

pub returns-in-None : goal.returns-in-None
returns-in-None c =
    let outs = c.args.line.now.plays.items in
    let past : length c.deref.result.now ≤ c.from.result = c.in-None.ensures.lookup.3 in
    let beyond : length outs ≤ c.args.place = omega (arith, past, ap length c.deref.ensures.value, c.from.ensures) in
    let none : slice_get outs c.args.place ≡ None = slice_get_past outs c.args.place beyond in
    sym (ap (λ (o : Option PlayedOut). c.args.page.now ++ option_map_or (play_pieces c.args.begun c.args.line.now.number) o []) none ∙ append-nil c.args.page.now)
