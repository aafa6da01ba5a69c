use Rattle.std.proofs.Common.{◌≡◌, ◌∙◌, ◌++◌, sym, ap, subst}
use Rattle.std.specs.Prelude.{OnOk}
use Rattle.told_plans.specs.Told.{ToldPlay, ToldHear}
use Rattle.told_plans.specs.ToldMeaning.{told_of, branches_of}
use Rattle.told_plans.proofs.ToldMeanings.{told_of-Play, told_of-Hear}
use Rattle.told_words.specs.Strategies.{reached_of}
use Rattle.told_words.specs.Reached.{lines_below}
use Rattle.told_words.proofs.reached.+reached.Goals as goal

pub push_below-returns-in-Play : goal.push_below-returns-in-Play
push_below-returns-in-Play t c =
    let reached = reached_of c.args.strategy.now in
    let is = ap told_of c.in-Play.is ∙ told_of-Play c.in-Play.card c.in-Play.rest ∙ ap (λ p. ToldPlay c.in-Play.card (told_of p)) (sym c.deref.ensures) in
    subst (λ told. OnOk c.push_play.result (c.push_play.new.found.items ≡ c.args.found.now.items ++ lines_below reached told c.args.sets.now)) (sym is) c.push_play.ensures

pub push_below-returns-in-Hear : goal.push_below-returns-in-Hear
push_below-returns-in-Hear t c =
    let reached = reached_of c.args.strategy.now in
    let is = ap told_of c.in-Hear.is ∙ told_of-Hear c.in-Hear.branches ∙ ap (λ bs. ToldHear (branches_of bs)) (sym c.deref-in-Hear.ensures.value) in
    subst (λ told. OnOk c.push_branches.result (c.push_branches.new.found.items ≡ c.args.found.now.items ++ lines_below reached told c.args.sets.now)) (sym is) c.push_branches.ensures
