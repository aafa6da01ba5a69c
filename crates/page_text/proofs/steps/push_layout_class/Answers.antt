use Rattle.std.proofs.Common.{◌≡◌, ◌∙◌, ◌++◌, ◌+◌, Bool, false, cond, [], sym, ap, subst, codes}
use Rattle.std.specs.Prelude.{OnOk}
use Rattle.std.proofs.lemmas.List.{append-nil}
use Rattle.std.proofs.lemmas.Option.{get_or_from_slice_get}
use Rattle.page_text.specs.Shared.{numbered}
use Rattle.page_text.proofs.steps.push_layout_class.Goals as goal

pub returns-then-not-get : goal.returns-then-not-get
returns-then-not-get c =
    let bit = get_or_from_slice_get c.args.layouts c.args.place c.get.result false c.get.ensures ∙ c.if-not-get.true in
    sym (ap (λ (b : Bool). c.args.page.now ++ cond b (numbered (codes "l") (codes " ") (c.args.place + 1)) []) bit ∙ append-nil c.args.page.now)

pub returns : goal.returns
returns c =
    let bit = get_or_from_slice_get c.args.layouts c.args.place c.get.result false c.get.ensures ∙ c.if-not-get.false in
    subst (λ pieces. OnOk c.push_numbered.result (c.push_numbered.new.page ≡ c.args.page.now ++ pieces))
    (sym (ap (λ (b : Bool). cond b (numbered (codes "l") (codes " ") (c.args.place + 1)) []) bit)) c.push_numbered.ensures
