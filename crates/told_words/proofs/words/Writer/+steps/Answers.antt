use Rattle.std.proofs.Common.{◌≡◌, ◌∙◌, ◌++◌, List, ℕ, sym, ap, ap₂, subst, append_assoc}
use Rattle.std.specs.Prelude.{OnOk}
use Rattle.told_plans.specs.Told.{ToldPlay, ToldHear, and_card}
use Rattle.told_plans.specs.ToldMeaning.{told_of, branches_of}
use Rattle.told_plans.proofs.ToldMeanings.{told_of-Play, told_of-Hear}
use Rattle.told_words.specs.Strategies.{layouts_of}
use Rattle.told_words.specs.declared.lines.Line.{Line}
use Rattle.told_words.specs.Words.{steps_text, branch_lines, line_end, further_in}
use Rattle.told_words.proofs.Telling.{several_lines, play_whole}
use Rattle.told_words.proofs.words.Writer.+steps.Goals as goal

pub push_steps-returns-in-Play : goal.push_steps-returns-in-Play
push_steps-returns-in-Play t c =
    let layouts = layouts_of c.args.strategy.now in
    let is = ap told_of c.in-Play.is ∙ told_of-Play c.in-Play.card c.in-Play.rest ∙ ap (λ p. ToldPlay c.in-Play.card (told_of p)) (sym c.deref.ensures) in
    subst (λ told. OnOk c.push_play.result (c.push_play.new.self ≡ c.args.self.now ++ steps_text layouts told c.args.line c.args.step.now)) (sym is) c.push_play.ensures

pub push_steps-returns-in-Hear : goal.push_steps-returns-in-Hear
push_steps-returns-in-Hear t c =
    let layouts = layouts_of c.args.strategy.now in
    let is = ap told_of c.in-Hear.is ∙ told_of-Hear c.in-Hear.branches ∙ ap (λ bs. ToldHear (branches_of bs)) (sym c.deref-in-Hear.ensures.value) in
    subst (λ told. OnOk c.push_hear.result (c.push_hear.new.self ≡ c.args.self.now ++ steps_text layouts told c.args.line c.args.step.now)) (sym is) c.push_hear.ensures

pub push_play-returns : goal.push_play-returns
push_play-returns t c =
    let layouts = layouts_of c.args.strategy.now in
    let whole = play_whole layouts c.args.card (told_of c.args.rest.now) c.args.line c.going_on.result c.args.step.now c.in_ok-after.after c.with-cards.result
    c.args.self.now c.push_played.new.self c.push_given_up_at.new.self (c.with-cards.ensures.value ∙ ap (λ cards. and_card cards c.args.card) c.empty.ensures.value)
    c.in_ok-push_played.ensures c.in_ok-push_given_up_at.ensures c.going_on.ensures c.in_ok-after.ensures in
    subst (λ text. OnOk c.push_next.result (c.push_next.new.self ≡ text)) whole c.push_next.ensures

pub push_hear-returns-then-branches-ne1 : goal.push_hear-returns-then-branches-ne1
push_hear-returns-then-branches-ne1 t c =
    let layouts = layouts_of c.args.strategy.now in
    let branches = branches_of c.args.branches.now in
    let whole : c.end_line.new.self ++ branch_lines layouts branches c.further_in.result c.args.step.now ≡ c.args.self.now ++ steps_text layouts (ToldHear branches) c.args.line c.args.step.now =
    ap₂ (λ (out : List ℕ) (line : Line). out ++ branch_lines layouts branches line c.args.step.now) c.in_ok-end_line.ensures c.further_in.ensures
    ∙ append_assoc c.args.self.now (line_end c.args.line) (branch_lines layouts branches (further_in c.args.line) c.args.step.now)
    ∙ ap (λ text. c.args.self.now ++ text) (sym (several_lines layouts c.args.branches.now c.args.line c.args.step.now c.if-branches-ne1.true)) in
    subst (λ text. OnOk c.push_branches.result (c.push_branches.new.self ≡ text)) whole c.push_branches.ensures
