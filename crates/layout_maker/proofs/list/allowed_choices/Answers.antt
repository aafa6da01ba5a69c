use Rattle.std.proofs.Common.{◌≡◌, List, ℕ, Option, None, Some, [], ap, ◌∙◌, sym, subst, map, length}
use Rattle.std.specs.Prelude.{IfSome, MatchOption}
use Rattle.card_sets.specs.SetWords.{IsCardSet}
use Rattle.pbn_deal.specs.Boards.{BoardValue, FitsUnseen, IsBoard}
use Rattle.pbn_deal.specs.BoardRead.{together}
use Rattle.layout_list.specs.declared.line.Layout.{Layout}
use Rattle.layout_maker.specs.declared.dividing.Choices.{Choices}
use Rattle.layout_maker.specs.Divisions.{hands_of_size, layout_with, layouts_over}
use Rattle.layout_maker.specs.Choosing.{fitting_hands}
use Rattle.layout_maker.proofs.Told.{layouts_over-fitting, layouts_over-none}
use Rattle.layout_maker.proofs.list.allowed_choices.Goals as goal

unseen_set : (b : BoardValue) (unseen : List ℕ) → b.unseen ≡ Some unseen → IsBoard b → IsCardSet unseen
unseen_set b unseen is sound = (subst (λ o. IfSome o (FitsUnseen b)) is sound.dealt.unseen_fits).set

over_choices : (choices : Option Choices) (hands : List (List ℕ)) (unseen : List ℕ) (layouts : List Layout) → layouts ≡ map (layout_with unseen) hands
    → MatchOption choices (hands ≡ []) (λ found. hands ≡ map (together found.sure) (hands_of_size found.wanted found.free))
    → MatchOption choices (layouts ≡ []) (λ found. layouts ≡ map (layout_with unseen) (map (together found.sure) (hands_of_size found.wanted found.free)))
over_choices None hands unseen layouts same none = same ∙ ap (map (layout_with unseen)) none
over_choices (Some found) hands unseen layouts same are = same ∙ ap (map (layout_with unseen)) are

pub returns-in_err-may-clause-hands : goal.returns-in_err-may-clause-hands
returns-in_err-may-clause-hands c =
    let b = c.args.board.now in
    let unseen = c.args.unseen in
    let none = layouts_over-none b unseen (unseen_set b unseen c.requires.shown c.requires.sound) (sym c.may_hold.ensures ∙ c.in_err-may.was) in
    subst (λ (o : Option Choices). MatchOption o (layouts_over b unseen ≡ []) (λ found. layouts_over b unseen ≡ map (layout_with unseen) (map (together found.sure) (hands_of_size found.wanted found.free))))
    (sym c.from_residual.ensures) none

pub returns-clause-hands : goal.returns-clause-hands
returns-clause-hands c =
    let b = c.args.board.now in
    let unseen = c.args.unseen in
    let may = c.in_ok-may.may in
    let size = c.count.ensures.value ∙ ap length c.declarer_hand.ensures.value in
    over_choices c.fitting_choices.result (fitting_hands may c.count.result unseen) unseen (layouts_over b unseen)
    (layouts_over-fitting b unseen may (unseen_set b unseen c.requires.shown c.requires.sound) (sym c.may_hold.ensures ∙ c.in_ok-may.was)
    ∙ ap (map (layout_with unseen)) (ap (λ n. fitting_hands may n unseen) (sym size)))
    c.fitting_choices.ensures.hands
