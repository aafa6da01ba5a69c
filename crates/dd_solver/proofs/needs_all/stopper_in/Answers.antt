use Rattle.std.proofs.Common.{◌≡◌, true, sym, subst, ◌∙◌}
use Rattle.card_sets.specs.SetWords.{has_card}
use Rattle.dd_solver.specs.NeedsAll.{AreHighest}
use Rattle.dd_solver.proofs.NeedsAll.{only_card, head_highest}
use Rattle.dd_solver.proofs.needs_all.stopper_in.Goals as goal

pub returns-in-Some-clause-held : goal.returns-in-Some-clause-held
returns-in-Some-clause-held c card h = subst (λ d. has_card c.args.theirs d ≡ true)
    (sym (only_card c.in-Some.card card c.empty-in-Some.result c.with.result c.empty-in-Some.ensures.value c.with.ensures.value h)) (sym c.has.ensures.value ∙ c.if-has.true)

pub both : (c : goal.After-with) → (AreHighest c.with.result c.args.ours) × (AreHighest c.with.result c.args.theirs)
both c = head_highest c.args.ours c.args.theirs c.either.result c.of_suit.result c.empty-in-Some.result c.with.result c.args.suit c.in-Some.card
    c.empty-in-Some.ensures.value c.with.ensures.value c.either.ensures.value c.in-Some.ensures.same c.in-Some.ensures.highest c.of_suit.ensures.value c.of_suit.ensures.a_set c.has.ensures.a_set

pub returns-in-Some-clause-ours : goal.returns-in-Some-clause-ours
returns-in-Some-clause-ours c = (both c).0

pub returns-in-Some-clause-theirs : goal.returns-in-Some-clause-theirs
returns-in-Some-clause-theirs c = (both c).1
