use Rattle.std.proofs.Common.{length, arith, ap, sym, subst}
use Rattle.std.specs.Prelude.{IfOk, IfErr}
use Rattle.layout_maker.proofs.MadeAccepted.{accepted}
use Rattle.am_answer.specs.Stages.{IsTaskRefusal, IsTextFor}
use Rattle.am_top.proofs.Steps.{problem-root}
use Rattle.am_top.proofs.jobs.solve_made.Goals as goal

pub read_root-requires-clause-deal_within : goal.read_root-requires-clause-deal_within
read_root-requires-clause-deal_within g c = let is = accepted c.args.number in omega (arith, ap length c.in_ok-made.ensures.0, is.short_deal)

pub read_root-requires-clause-layouts_within : goal.read_root-requires-clause-layouts_within
read_root-requires-clause-layouts_within g c = let is = accepted c.args.number in omega (arith, ap length c.in_ok-made.ensures.1, is.short_layouts)

pub returns-clause-text : goal.returns-clause-text
returns-clause-text g c =
    subst (λ found. IfOk c.summarize.result (IsTextFor found))
    (sym (problem-root c.args.number c.args.search.now c.in_ok-root.root c.in_ok-made.made.deal c.in_ok-made.made.layouts c.in_ok-made.ensures.0 c.in_ok-made.ensures.1 c.in_ok-root.ensures.root)) c.summarize.ensures.text

pub returns-clause-refused : goal.returns-clause-refused
returns-clause-refused g c =
    subst (λ found. IfErr c.summarize.result (IsTaskRefusal found))
    (sym (problem-root c.args.number c.args.search.now c.in_ok-root.root c.in_ok-made.made.deal c.in_ok-made.made.layouts c.in_ok-made.ensures.0 c.in_ok-made.ensures.1 c.in_ok-root.ensures.root)) c.summarize.ensures.refused
