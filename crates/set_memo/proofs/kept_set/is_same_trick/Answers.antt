use Rattle.std.proofs.Common.{◌≡◌, ◌∙◌, sym, ap₂, rules}
use Rattle.std.proofs.lemmas.Bool.Decides.{Decides-eqb}
use Rattle.std.proofs.lemmas.Slice.Eq.{slice_eq-Decides}
use Rattle.trick_rules.specs.Positions.{TrickValue}
use Rattle.set_memo.proofs.kept_set.is_same_trick.Goals as goal

pub returns-then-eq : goal.returns-then-eq
returns-then-eq c same =
    let cards = (slice_eq-Decides Decides-eqb c.as_slice.result.now c.as_slice-then-eq.result.now c.eq-then-eq.result c.eq-then-eq.ensures).0 same in
    let leaders : c.one.inside.leader ≡ c.other.inside.leader = search rules in
    sym c.one.view_is ∙ ap₂ {C = TrickValue} (λ leader cards. record { leader = leader; cards = cards }) leaders (sym c.as_slice.ensures.value ∙ cards ∙ c.as_slice-then-eq.ensures.value) ∙ c.other.view_is
