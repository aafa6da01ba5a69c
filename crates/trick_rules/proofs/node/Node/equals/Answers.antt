use Rattle.std.proofs.Common.{refl, rules}
use Rattle.std.proofs.lemmas.Slice.Eq.{slice_eq-Decides, bytes_eq-Decides}
use Rattle.trick_rules.specs.Nodes.{NodeValue}
use Rattle.trick_rules.proofs.Parts.{same_if_second_parts}
use Rattle.trick_rules.proofs.node.Node.equals.Goals as goal

pub returns-then-equals : goal.returns-then-equals
returns-then-equals c =
    same_if_second_parts (λ p l. record { position = p; lefts = l }) (λ (node : NodeValue). node.lefts) (λ p l. refl) _ _ c.self.inside.position c.other.inside.position _ _ _ _ _
    c.self.view_is c.other.view_is (search rules) c.as_slice.ensures.value c.as_slice-then-equals.ensures.value
    (slice_eq-Decides bytes_eq-Decides c.as_slice.result.now c.as_slice-then-equals.result.now c.eq.result c.eq.ensures)
