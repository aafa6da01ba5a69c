use Rattle.std.proofs.Common.{◌≡◌, List, Ok, inr, ap, ◌∙◌, sym, subst}
use Rattle.std.specs.Prelude.{MatchResult, Result}
use Rattle.layout_list.specs.declared.line.Layout.{Layout}
use Rattle.layout_maker.specs.declared.fault.MakeFault.{MakeFault}
use Rattle.layout_maker.specs.Divisions.{if_few, IsMakeFaultOf}
use Rattle.layout_maker.proofs.Told.{layouts_made-shown}
use Rattle.layout_maker.proofs.list.all_layouts.Goals as goal

pub returns-in_default-allowed_choices : goal.returns-in_default-allowed_choices
returns-in_default-allowed_choices c =
    let shown = sym c.unseen.ensures.value ∙ c.in-Some.is in
    inr (layouts_made-shown c.args.board.now c.in-Some.unseen shown ∙ ap if_few c.in_default-allowed_choices.ensures.hands)

pub returns : goal.returns
returns c =
    let shown = sym c.unseen.ensures.value ∙ c.in-Some.is in
    let same = layouts_made-shown c.args.board.now c.in-Some.unseen shown ∙ ap if_few c.in-Some-allowed_choices.ensures.hands in
    subst (λ (made : Result (List Layout) MakeFault). MatchResult c.listed.result (λ layouts. made ≡ Ok layouts.items) (IsMakeFaultOf made)) (sym same) c.listed.ensures
