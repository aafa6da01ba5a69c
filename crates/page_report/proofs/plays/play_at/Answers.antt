use Rattle.std.proofs.Common.{◌≡◌, ℕ, rules, sym, subst}
use Rattle.strategy_games.specs.Plans.{Plan, Fits, wins}
use Rattle.strategy_tree.specs.Bridge.{bridge}
use Rattle.strategy_tree.specs.PlanMeaning.{plan_of}
use Rattle.line_plays.specs.Defended.{PlaysOut}
use Rattle.given_up.proofs.Given.{played_legal}
use Rattle.page_report.proofs.plays.play_at.Goals as goal

pub play_in_layout-play-requires-clause-fits : goal.play_in_layout-play-requires-clause-fits
play_in_layout-play-requires-clause-fits c =
    let is_plan : plan_of c.read-inside.inside.0.0.plan ≡ c.args.read.now.entry.plan = search rules in
    subst (λ (p : Plan ℕ). (moves : ℕ) × Fits bridge p c.args.node.now moves) (sym is_plan) c.requires.fits

pub card_that_gives_up-given_up-requires-clause-legal : goal.card_that_gives_up-given_up-requires-clause-legal
card_that_gives_up-given_up-requires-clause-legal c = λ s at_layout.
    played_legal (plan_of c.read-inside.inside.0.0.plan) s c.play_in_layout-play.result.cards (c.play_in_layout-play.ensures.cards s at_layout).each

pub returns : goal.returns
returns c = λ s at_layout.
    let is_plan : plan_of c.read-inside.inside.0.0.plan ≡ c.args.read.now.entry.plan = search rules in
    record {
      cards = subst (λ (p : Plan ℕ). PlaysOut p s c.play_in_layout-play.result.cards) is_plan (c.play_in_layout-play.ensures.cards s at_layout);
      made = subst (λ (p : Plan ℕ). c.play_in_layout-play.result.made ≡ wins bridge p s) is_plan (c.play_in_layout-play.ensures.made s at_layout);
      given_up = c.card_that_gives_up-given_up.ensures s at_layout;
    }
