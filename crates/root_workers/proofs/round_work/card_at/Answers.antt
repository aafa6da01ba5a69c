use Rattle.std.proofs.Common.{◌≡◌, ◌∙◌, ℕ, Option, Some, None, List, ◌∷◌, [], drop, slice_get, sym, subst, arith}
use Rattle.std.specs.Prelude.{IfSome, MatchOption}
use Rattle.trick_rules.specs.Nodes.{choices}
use Rattle.root_workers.proofs.CardPlaces.{drop_first, drop_rest}
use Rattle.root_workers.proofs.round_work.card_at.Goals as goal

-- the card that is taken next
next_card : (all old new : List ℕ) (place : ℕ) (result : Option ℕ) → old ≡ drop place all → MatchOption result ((old ≡ []) × (new ≡ [])) (λ card. old ≡ card ∷ new) → IfSome result (λ card. slice_get all place ≡ Some card)
next_card all old new place (Some card) from taken = drop_first all place card new (sym from ∙ taken)
next_card all old new place None from taken = tt

pub loop-earlier-preserved : goal.loop-earlier-preserved
loop-earlier-preserved c =
    let cards = choices c.args.node.now in
    drop_rest cards c.loop-earlier.earlier c.in_ok-pop_first.field-0 c.pop_first.new.self (sym c.loop-earlier.invariant ∙ c.in_ok-pop_first.ensures.value)

pub returns : goal.returns
returns c =
    let end : c.loop-earlier.earlier ≡ c.args.place = omega (arith, c.loop-earlier-test.false, c.loop-earlier.auto.earlier-end) in
    next_card (choices c.args.node.now) c.loop-earlier.cards c.pop_first-2.new.self c.args.place c.pop_first-2.result
    (subst (λ k. c.loop-earlier.cards ≡ drop k (choices c.args.node.now)) end c.loop-earlier.invariant) c.pop_first-2.ensures.value
