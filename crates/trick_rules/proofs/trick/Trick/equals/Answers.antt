use Rattle.std.proofs.Common.{refl, rules}
use Rattle.std.proofs.lemmas.Bool.Decides.{Decides-eqb}
use Rattle.std.proofs.lemmas.Slice.Eq.{slice_eq-Decides}
use Rattle.trick_rules.specs.Positions.{TrickValue}
use Rattle.trick_rules.proofs.Parts.{same_if_second_parts}
use Rattle.trick_rules.proofs.trick.Trick.equals.Goals as goal

pub returns-then-eq : goal.returns-then-eq
returns-then-eq c =
    same_if_second_parts (λ l cs. record { leader = l; cards = cs }) (λ (trick : TrickValue). trick.cards) (λ l cs. refl) _ _ c.self.inside.leader c.other.inside.leader _ _ _ _ _
    c.self.view_is c.other.view_is (search rules) c.as_slice.ensures.value c.as_slice-then-eq.ensures.value
    (slice_eq-Decides Decides-eqb c.as_slice.result.now c.as_slice-then-eq.result.now c.eq-then-eq.result c.eq-then-eq.ensures)
