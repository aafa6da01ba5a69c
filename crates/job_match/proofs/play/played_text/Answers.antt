use Rattle.std.proofs.Common.{arith, ap, sym, subst, length}
use Rattle.trick_rules.specs.Nodes.{IsNode}
use Rattle.strategy_games.specs.Plans.{Fits}
use Rattle.strategy_tree.specs.Bridge.{bridge}
use Rattle.strategy_tree.specs.PlanMeaning.{plan_of}
use Rattle.am_report.specs.Answers.{EntryValue}
use Rattle.am_answer.specs.declared.root.Root.{Root}
use Rattle.job_match.proofs.Played.{first_fits, first_wide, text-opened}
use Rattle.job_match.proofs.play.played_text.Goals as goal

pub get-bit-requires : goal.get-bit-requires
get-bit-requires g c =
    let node = subst (λ (r : Root). IsNode r.kept.node) c.root.view_is c.width.ensures.a_node in
    let wide = first_wide c.args.job.now.root.now.kept.node c.args.job.now.root.now.kept.weights c.args.job.now.moves c.args.first.now.vector c.args.first.now.plan node c.requires.first in
    omega (arith, wide, ap (λ (e : EntryValue). length e.vector) c.first.view_is, c.requires.inside)

pub play_out-requires-clause-fits : goal.play_out-requires-clause-fits
play_out-requires-clause-fits g c =
    let node = subst (λ (r : Root). IsNode r.kept.node) c.root.view_is c.width.ensures.a_node in
    subst (λ (r : Root). Fits bridge (plan_of c.first.inside.plan) r.kept.node c.args.job.now.moves) (sym c.root.view_is)
    (subst (λ (e : EntryValue). Fits bridge e.plan c.args.job.now.root.now.kept.node c.args.job.now.moves) (sym c.first.view_is)
    (first_fits c.args.job.now.root.now.kept.node c.args.job.now.root.now.kept.weights c.args.job.now.moves c.args.first.now.vector c.args.first.now.plan node c.requires.first))

pub returns : goal.returns
returns g c = record {
  text = text-opened _ c.args.job.now.root.now c.root.view_is _ c.args.first.now c.first.view_is c.args.job.now.moves (record { layout = c.args.job.now.layout; place = c.args.place; switch = c.args.job.now.switch }) _ _ _
      c.third_at-swap.ensures.seated c.third_at-swap.ensures.third c.match_text.result _ c.get-bit.result c.in_ok-played.played.made c.in_ok-played.played.cards
      c.requires.first c.requires.inside c.get-bit.ensures c.in_ok-played.ensures.follows c.in_ok-played.ensures.made c.in_ok-played.ensures.told c.match_text.ensures;
}
