use Rattle.std.proofs.Common.{◌≡◌, ◌-◌, [], ◌∷◌, ◌++◌, suc, ap, ap₂, ◌∙◌, sym, arith, append_assoc, append-nil}
use Rattle.std.proofs.lemmas.Result.{on_ok_weaker}
use Rattle.layout_maker.specs.Divisions.{hands_of_size}
use Rattle.layout_maker.proofs.Adding.{layouts_of, layouts_of-one, layouts_of-none, layouts_of-more}
use Rattle.layout_maker.proofs.dividing.+add_layouts.Goals as goal

pub returns-then-wanted-eq0 : goal.returns-then-wanted-eq0
returns-then-wanted-eq0 t c =
    c.in_ok-push.ensures.items
    ∙ ap (λ xs. c.args.layouts.now.items ++ xs)
    (ap (λ right. record { left = c.args.hand; right = right } ∷ []) c.minus.ensures.value
    ∙ sym (layouts_of-one c.args.unseen c.args.hand c.args.free c.requires)
    ∙ ap (λ n. layouts_of c.args.unseen c.args.hand (hands_of_size n c.args.free)) (sym c.if-wanted-eq0.true))

pub returns-then-count-wanted : goal.returns-then-count-wanted
returns-then-count-wanted t c =
    sym (append-nil c.args.layouts.now.items)
    ∙ ap (λ xs. c.args.layouts.now.items ++ xs) (sym (layouts_of-none c.args.unseen c.args.hand c.args.free c.args.wanted (omega (arith, c.count.ensures.value))))

pub returns : goal.returns
returns t c =
    let rest = c.pop_first.new.self in
    let is = c.in-Some.ensures.value in
    let n = c.args.wanted - 1 in
    let more : c.args.wanted ≡ suc n = omega arith in
    on_ok_weaker c.add_layouts-2.result
    (λ second. second
    ∙ ap (λ xs. xs ++ layouts_of c.args.unseen c.args.hand (hands_of_size c.args.wanted rest)) c.in_ok-add_layouts.ensures
    ∙ append_assoc c.args.layouts.now.items (layouts_of c.args.unseen c.with.result (hands_of_size n rest)) (layouts_of c.args.unseen c.args.hand (hands_of_size c.args.wanted rest))
    ∙ ap (λ xs. c.args.layouts.now.items ++ xs)
    (ap (λ w. layouts_of c.args.unseen c.with.result (hands_of_size n rest) ++ layouts_of c.args.unseen c.args.hand (hands_of_size w rest)) more
    ∙ sym (layouts_of-more c.args.unseen c.args.hand c.with.result rest c.in-Some.card n c.with.ensures.value)
    ∙ sym (ap₂ (λ w f. layouts_of c.args.unseen c.args.hand (hands_of_size w f)) more is)))
    c.add_layouts-2.ensures
