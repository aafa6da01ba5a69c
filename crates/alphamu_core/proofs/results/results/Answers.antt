use Rattle.std.proofs.Common.{◌≡◌, ◌∙◌, ℕ, true, false, Option, Some, None, IfSome, length, map, replicate, sym, ap, subst}
use Rattle.win_vectors.specs.Fronts.{Vector, Covers, Dominates}
use Rattle.trick_rules.specs.Play.{makes}
use Rattle.trick_rules.specs.Nodes.{NodeValue, states}
use Rattle.alphamu_core.specs.declared.known.Known.{Known}
use Rattle.alphamu_core.specs.declared.known.Known.TheVariants.{AllMade}
use Rattle.alphamu_core.specs.Judging.{IsJudged, IsKnown}
use Rattle.alphamu_core.proofs.Judging.{length-results, judged_all, ones_above}
use Rattle.alphamu_core.proofs.Inherited.{all_made}
use Rattle.alphamu_core.proofs.results.results.Goals as goal

pub judge_ahead-requires-clause-above : goal.judge_ahead-requires-clause-above
judge_ahead-requires-clause-above c =
    let n : NodeValue = c.args.question.now.node.now in
    subst (λ v. Dominates v (map (λ s. makes s) (states n))) (sym c.all-all.ensures) (ones_above c.width.result (map (λ s. makes s) (states n)) (length-results n ∙ sym c.width.ensures.value))

-- what is left of both passes
both : (results mask start some : Vector) (width : ℕ) (o : Option Vector) → length results ≡ width → IsJudged results mask false start width some → IfSome o (λ made. IsJudged results mask true some width made) → IfSome o (λ made. made ≡ results)
both results mask start some width None wide first h = tt
both results mask start some width (Some made) wide first h = judged_all results mask start some made width wide first h

pub returns-in_ok-made-in-Nothing-clause-results : goal.returns-in_ok-made-in-Nothing-clause-results
returns-in_ok-made-in-Nothing-clause-results c =
    let n : NodeValue = c.args.question.now.node.now in
    both (map (λ s. makes s) (states n)) c.common-sure.result c.in_ok-some-in-Nothing.some c.in_ok-made-in-Nothing.made (length n.lefts) c.judge-in-Nothing.result (length-results n) c.in_ok-made-in-Nothing.ensures.judged c.judge-in-Nothing.ensures.judged

-- each layout is known to be made
known_made : (n : NodeValue) (known : Known) (width : ℕ) → IsKnown n known → known ≡ AllMade → width ≡ length n.lefts → replicate width true ≡ map (λ s. makes s) (states n)
known_made n known width knows is wide = ap (λ width. replicate width true) wide ∙ all_made n (subst (λ (known : Known). IsKnown n known) is knows)

pub returns-in-AllMade-clause-results : goal.returns-in-AllMade-clause-results
returns-in-AllMade-clause-results c =
    let same = c.all-all.ensures ∙ known_made c.args.question.now.node.now c.args.question.now.known c.width.result c.requires.known c.in-AllMade.is c.width.ensures.value in
    subst (λ (v : Vector). IfSome c.unless_covered.result (λ results. results ≡ v)) same c.unless_covered.ensures.results

pub returns-in-AllMade-clause-cut : goal.returns-in-AllMade-clause-cut
returns-in-AllMade-clause-cut c = λ none.
    let same = c.all-all.ensures ∙ known_made c.args.question.now.node.now c.args.question.now.known c.width.result c.requires.known c.in-AllMade.is c.width.ensures.value in
    let covered = c.unless_covered.ensures.cut none in
    (covered.0, subst (λ v. Covers c.args.question.now.alpha.now.vectors v) same covered.1)
