use Rattle.std.proofs.Common.{◌≡◌, ◌∙◌, ◌≤◌, ℕ, sym, true, false, get_or, ⊎_elim, arith}
use Rattle.std.proofs.lemmas.Bool.{cases_Bool}
use Rattle.win_vectors.specs.Vectors.{ones_of}
use Rattle.set_nodes.proofs.Numbers.{layouts_in_part}
use Rattle.set_nodes.proofs.Places.{HasOne, some_ones}
use Rattle.set_search.specs.Judged.{makes_there, IsLostPlace}
use Rattle.set_search.proofs.Places.{if_some, none_of, lost_in_part, all_made, made_there}
use Rattle.set_search.proofs.open_cards.lost_first_in.Goals as goal
use Rattle.set_search.proofs.open_cards.lost_first_in.Goals.{then-count-gt0+else-is_some, else-count-gt0}

pub lost_layout-place-requires : goal.lost_layout-place-requires
lost_layout-place-requires c =
    let some : 1 ≤ ones_of c.args.core = omega (arith, c.count.ensures, c.if-count-gt0.true) in
    layouts_in_part c.args.layouts.now c.args.position.now c.args.set c.args.core c.requires.layouts c.requires.core some

pub returns-then-is_some-clause-lost : goal.returns-then-is_some-clause-lost
returns-then-is_some-clause-lost c =
    let L = c.args.layouts.now in
    let P = c.args.position.now in
    if_some (IsLostPlace L P c.args.core) (IsLostPlace L P c.args.set) (λ place lost. lost_in_part L P c.args.set c.args.core place c.requires.core lost) c.lost_layout-place.result c.lost_layout-place.ensures.lost

pub returns-clause-none : goal.returns-clause-none
returns-clause-none c = λ none.
    let L = c.args.layouts.now in
    let P = c.args.position.now in
    let S = c.args.set in
    let K = c.args.core in
    let in_core : (k : ℕ) → HasOne K k → makes_there L P k ≡ true = λ k h.
    let some = some_ones K k h in
    elim c.if-count-gt0.branch as (λ _. makes_there L P k ≡ true) [
      | then-count-gt0+else-is_some w ↦ made_there L P K (layouts_in_part L P S K c.requires.layouts c.requires.core some) (w.lost_layout-place.ensures.none (none_of w.lost_layout-place.result (sym w.is_some.ensures ∙ w.if-is_some.false))) k h
      | else-count-gt0 w ↦ absurd (omega (arith, some, c.count.ensures, w.if-count-gt0.false))
    ] in
    all_made L P S c.requires.layouts (λ k h. ⊎_elim
    (λ (inside : HasOne K k). in_core k inside)
    (λ (out : get_or K k false ≡ false). c.lost_outside.ensures.none none k h out)
    (cases_Bool (get_or K k false)))
