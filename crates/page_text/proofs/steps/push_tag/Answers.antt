use Rattle.std.proofs.Common.{◌≡◌, option_copied, subst}
use Rattle.std.specs.Prelude.{OnOk}
use Rattle.page_text.proofs.Nested.{tag_added}
use Rattle.page_text.proofs.steps.push_tag.Goals as goal

pub returns : goal.returns
returns c =
    let whole = tag_added c.args.page.now c.number_between.new.self c.number.new.self c.own.new.self c.push_mark.new.page c.args.line c.args.place (option_copied c.args.layouts)
    c.in_ok-number_between.ensures c.in_ok-number.ensures c.in_ok-own.ensures c.in_ok-push_mark.ensures in
    subst (λ pieces. OnOk c.own-2.result (c.own-2.new.self ≡ pieces)) whole c.own-2.ensures
