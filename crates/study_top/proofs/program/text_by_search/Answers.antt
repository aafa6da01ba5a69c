use Rattle.std.proofs.Common.{inl, inr, subst, sym}
use Rattle.std.proofs.lemmas.Result.{IfErr-weaker}
use Rattle.trick_rules.specs.Nodes.{IsNode}
use Rattle.am_answer.specs.declared.root.Root.{Root}
use Rattle.am_answer.proofs.Passed.{refused_by}
use Rattle.study_top.specs.Study.{AreCardsFor, IsSearchRefusal}
use Rattle.study_top.proofs.SolvedTold.{never_refused}
use Rattle.study_top.proofs.program.text_by_search.Goals as goal

pub returns-in_err-cards-clause-refused : goal.returns-in_err-cards-clause-refused
returns-in_err-cards-clause-refused g c =
    refused_by (IsSearchRefusal c.args.study c.args.root.now c.args.moves c.args.search.now) c.from_residual-in_err-cards.result c.in_err-cards.field-0.0 c.from_residual-in_err-cards.ensures.1
    (inr (inl c.in_err-cards.ensures.refused))

pub returns-clause-refused : goal.returns-clause-refused
returns-clause-refused g c =
    IfErr-weaker c.text_of.result _ _
    (never_refused c.args.root.now c.args.moves c.args.search.now (subst (λ (root : Root). IsNode root.kept.node) c.root.view_is c.width.ensures.a_node) c.requires.root c.requires.weights c.requires.moves c.in_ok-report.report c.in_ok-report.ensures.text c.args.study _
    (subst (AreCardsFor c.args.study c.args.root.now c.args.moves c.args.search.now) (sym c.as_ref.ensures.value) c.in_ok-cards.ensures.cards))
    c.text_of.ensures.refused
