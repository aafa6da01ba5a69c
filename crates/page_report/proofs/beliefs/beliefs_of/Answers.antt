use Rattle.std.proofs.Common.{◌≡◌, ◌∙◌, length, sym, subst}
use Rattle.layout_list.specs.Kept.{KeptValue}
use Rattle.page_report.proofs.Believed.{believed_wide}
use Rattle.page_report.proofs.beliefs.beliefs_of.Goals as goal

pub weighed-requires : goal.weighed-requires
weighed-requires c =
    believed_wide c.kept.inside.node c.kept.inside.weights _ (c.deref.ensures.value ∙ c.in_ok-table.ensures)
    (subst (λ (kept : KeptValue). length kept.weights ≡ length kept.node.lefts) (sym c.kept.view_is) c.requires.weighed)
