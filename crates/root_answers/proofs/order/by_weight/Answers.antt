use Rattle.std.proofs.Common.{◌≡◌, ◌∙◌, length, sym, subst, arith, rules, All}
use Rattle.std.specs.List.{AllPairs}
use Rattle.std.proofs.lemmas.Fn.{always_returns_same}
use Rattle.std.proofs.lemmas.List.{take_all}
use Rattle.win_vectors.specs.Fronts.{Vector, Precedes}
use Rattle.root_answers.proofs.ReportOrder.{weight_in, in_report_order}
use Rattle.root_answers.proofs.order.by_weight.Goals as goal

pub returns-clause-reported : goal.returns-clause-reported
returns-clause-reported c =
    let ws = c.args.weights.now in
    let whole = c.loop-vector.invariant ∙ take_all c.loop-vector.vector-index c.args.ordered.now (omega (arith, c.loop-vector-test.false)) in
    let keys = always_returns_same _ (λ a r. r ≡ record { 0 = weight_in ws a.0.now }) _ (λ a r next called. search rules) in
    let sorted = c.in_ok-sort_by_cached_key.ensures.sorted (λ (v : Vector). record { 0 = weight_in ws v }) keys in
    let stable = c.in_ok-sort_by_cached_key.ensures.stable (λ (v : Vector). record { 0 = weight_in ws v }) keys in
    in_report_order ws c.loop-vector.vectors.items c.sort_by_cached_key.new.self.items
    (subst (All (λ v. length v ≡ length ws)) (sym whole) c.requires.wide) (subst (AllPairs Precedes) (sym whole) c.requires.ordered)
    c.in_ok-sort_by_cached_key.ensures.permutation sorted stable
