use Rattle.std.proofs.Common.{◌≡◌, ◌+◌, ◌≤◌, ◌++◌, ◌∷◌, [], List, Option, None, Some, length, refl, sym, subst, rules}
use Rattle.std.specs.Prelude.{IfSome}
use Rattle.board_decisions.specs.declared.list.Decision.{Decision}
use Rattle.board_decisions.specs.Decisions.{IsWeighed, IsFoundAt}
use Rattle.board_decisions.proofs.Listed.{AreListedBelow, more_none, more_some, all_listed}
use Rattle.board_decisions.proofs.list.decisions.Goals as goal
use Rattle.board_decisions.proofs.list.decisions.Goals.{in-Some+in_ok-map_err, in_default}

none_found : (found : Option Decision) → ((decision : Decision) → found ≡ Some decision → ⊥) → found ≡ None
none_found None none = refl
none_found (Some decision) none = absurd (none decision refl)

pub loop-place-preserved : goal.loop-place-preserved
loop-place-preserved c =
    let board = c.args.board.now in
    let bytes = c.args.bytes.now in
    let from = c.args.from in
    let place = c.loop-place.place in
    let before = c.loop-place.found.items in
    let found = c.in_ok-decision.ensures.found in
    elim c.match-branch-2.branch as (λ _. AreListedBelow board bytes from (place + 1) c.match-branch-2.found.items) [
      | in-Some+in_ok-map_err w ↦
          let decision = w.in-Some.decision in
          let items : c.match-branch-2.found.items ≡ before ++ decision ∷ [] = search rules in
          let weighed : IsWeighed decision = subst (λ (o : Option Decision). IfSome o IsWeighed) w.in-Some.is c.in_ok-decision.ensures.weighed in
          subst (λ (listed : List Decision). AreListedBelow board bytes from (place + 1) listed) (sym items)
          (more_some board bytes from place before decision (subst (λ (o : Option Decision). IsFoundAt board bytes from place o) w.in-Some.is found) weighed c.loop-place.invariant)
      | in_default w ↦
          let none = none_found c.in_ok-decision.field-0 w.in_default.not-Some in
          let items : c.match-branch-2.found.items ≡ before = search rules in
          subst (λ (listed : List Decision). AreListedBelow board bytes from (place + 1) listed) (sym items)
          (more_none board bytes from place before (subst (λ (o : Option Decision). IsFoundAt board bytes from place o) none found) c.loop-place.invariant)
    ]

pub returns-clause-decisions : goal.returns-clause-decisions
returns-clause-decisions c =
    let past : length c.args.board.now.plays ≤ c.loop-place.place = search rules in
    all_listed c.args.board.now c.args.bytes.now c.args.from c.loop-place.place c.loop-place.found.items past c.loop-place.invariant
