use Rattle.std.proofs.Common.{◌≡◌, ◌∙◌, ◌++◌, ℕ, List, Bool, [], ◌∷◌, eqb, map, ap, ap₂, sym, append-nil, append_assoc, rules}
use Rattle.card_sets.specs.SetWords.{has_card}
use Rattle.trick_rules.proofs.CardLists.{first_has, or_true}
use Rattle.fusion_base.specs.declared.table.CardVector.{CardVector}
use Rattle.fusion_base.proofs.Sampled.{line_of}
use Rattle.fusion_base.proofs.table.lines_of.Goals as goal

pub loop-card-init : goal.loop-card-init
loop-card-init c = record {
  listed = ap₂ (λ (lines : List CardVector) (rest : List ℕ). lines ++ map (line_of c.args.node.now) rest) c.new-lines.ensures.items c.choices-rest.ensures;
  legal = λ card h. sym (ap (λ xs. has_card xs card) c.choices-rest.ensures) ∙ h;
}

pub vector_of-vector-requires-clause-choice : goal.vector_of-vector-requires-clause-choice
vector_of-vector-requires-clause-choice c = c.loop-card.invariant.legal c.in-Some.card (rw c.in-Some.ensures.value (first_has c.in-Some.card c.pop_first.new.self))

pub loop-card-preserved : goal.loop-card-preserved
loop-card-preserved c =
    let n = c.args.node.now in
    let card = c.in-Some.card in
    let lines = c.loop-card.lines.items in
    let later = map (line_of n) c.pop_first.new.self in
    record {
      listed =
          ap (λ (items : List CardVector). items ++ later) c.in_ok-push.ensures.items
          ∙ append_assoc lines _ later
          ∙ ap (λ (vector : List Bool). lines ++ record { card = card; vector = vector } ∷ later) c.vector_of-vector.ensures
          ∙ sym (ap (λ (rest : List ℕ). lines ++ map (line_of n) rest) c.in-Some.ensures.value)
          ∙ c.loop-card.invariant.listed;
      legal = λ d h. c.loop-card.invariant.legal d (rw (c.in-Some.ensures.value, h) (or_true (eqb card d)));
    }

pub returns : goal.returns
returns c =
    let lines = c.loop-card.lines.items in
    let done : c.loop-card.rest ≡ [] = search rules in
    sym (append-nil lines) ∙ sym (ap (λ (rest : List ℕ). lines ++ map (line_of c.args.node.now) rest) done) ∙ c.loop-card.invariant.listed
