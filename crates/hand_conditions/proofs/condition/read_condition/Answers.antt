use Rattle.std.proofs.Common.{sym, ap, subst, ◌∙◌}
use Rattle.std.specs.Prelude.{option_map}
use Rattle.hand_conditions.specs.Reading.{before_terms, IsConditionFaultOf}
use Rattle.hand_conditions.proofs.Pieces.{terms_left, terms-more, terms-refused}
use Rattle.hand_conditions.proofs.condition.read_condition.Goals as goal

pub terms-preserved : goal.terms-preserved
terms-preserved c =
    let step = terms-more c.in-Some.told.now c.split_term.result.0.now c.split_term.result.1 c.terms.terms.items c.in-Ok.term c.split_term.ensures.term c.in-Ok.ensures in
    c.terms.invariant ∙ ap (λ r. before_terms c.terms.terms.items (terms_left (option_map (λ text. text.now) r))) c.in-Some.is ∙ step
    ∙ ap (λ items. before_terms items (terms_left (option_map (λ text. text.now) c.split_term.result.1))) (sym c.in_ok-push-in-Ok.ensures.items)

pub returns-in-Err : goal.returns-in-Err
returns-in-Err c =
    let step = terms-refused c.in-Some.told.now c.split_term.result.0.now c.split_term.result.1 c.terms.terms.items c.in-Err.fault c.split_term.ensures.term c.in-Err.ensures in
    subst (λ told. IsConditionFaultOf told c.term_fault.result)
    (sym (c.terms.invariant ∙ ap (λ r. before_terms c.terms.terms.items (terms_left (option_map (λ text. text.now) r))) c.in-Some.is ∙ step)) c.term_fault.ensures
