use Rattle.std.proofs.Common.{◌≡◌, ◌<◌, ◌+◌, [], map, length, filter, MatchOption, ap, ap₂, ◌∙◌, sym, subst, arith}
use Rattle.std.proofs.lemmas.Bool.{false≢true}
use Rattle.card_sets.specs.SetWords.{has_card, IsSubset}
use Rattle.pbn_deal.specs.BoardRead.{together}
use Rattle.layout_maker.specs.Divisions.{hands_of_size}
use Rattle.layout_maker.specs.Choosing.{fitting_hands}
use Rattle.layout_maker.proofs.Fitting.{sure, fitting_hands-no_place, fitting_hands-few, fitting_hands-choices, placed-subset, free-both, length-free}
use Rattle.layout_maker.proofs.dividing.fitting_choices.Goals as goal

pub returns-then-not-is_subset-clause-hands : goal.returns-then-not-is_subset-clause-hands
returns-then-not-is_subset-clause-hands c =
    let may = c.args.may.now in
    fitting_hands-no_place may c.args.size c.args.unseen c.is_subset.ensures.a_set
    (λ inside. false≢true (sym c.if-not-is_subset.true ∙ c.is_subset.ensures.value.1 (subst (IsSubset c.args.unseen) (sym c.either.ensures.value) inside)))

pub returns-in_err-wanted-clause-hands : goal.returns-in_err-wanted-clause-hands
returns-in_err-wanted-clause-hands c =
    let may = c.args.may.now in
    let few : c.args.size < length (sure may c.args.unseen) = omega (arith, ap length c.minus-sure.ensures.value, c.count.ensures.value, c.in_err-wanted.ensures) in
    subst (λ o. MatchOption o (fitting_hands may c.args.size c.args.unseen ≡ []) (λ choices. fitting_hands may c.args.size c.args.unseen ≡ map (together choices.sure) (hands_of_size choices.wanted choices.free)))
    (sym c.from_residual.ensures) (fitting_hands-few may c.args.size c.args.unseen c.is_subset.ensures.a_set few)

pub returns-clause-hands : goal.returns-clause-hands
returns-clause-hands c =
    let may = c.args.may.now in
    let unseen = c.args.unseen in
    let sure_is = c.minus-sure.ensures.value in
    let free_is = c.both-2.ensures.value ∙ ap (filter (has_card may.right)) c.both.ensures.value ∙ free-both may unseen in
    let fewer = c.in_ok-wanted.ensures in
    let size_is : c.args.size ≡ length (sure may unseen) + c.in_ok-wanted.wanted = omega (arith, ap length sure_is, c.count.ensures.value, fewer.0, fewer.1) in
    fitting_hands-choices may c.args.size c.in_ok-wanted.wanted unseen c.is_subset.ensures.a_set (placed-subset may unseen c.is_subset.ensures.a_set (subst (IsSubset unseen) c.either.ensures.value (c.is_subset.ensures.value.0 c.if-not-is_subset.false))) size_is
    ∙ sym (ap₂ (λ s f. map (together s) (hands_of_size c.in_ok-wanted.wanted f)) sure_is free_is)

pub returns-clause-few : goal.returns-clause-few
returns-clause-few c =
    let may = c.args.may.now in
    let free_is = c.both-2.ensures.value ∙ ap (filter (has_card may.right)) c.both.ensures.value ∙ free-both may c.args.unseen in
    omega (arith, ap length free_is, length-free may c.args.unseen)
