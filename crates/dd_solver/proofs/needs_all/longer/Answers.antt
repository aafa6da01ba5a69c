use Rattle.std.proofs.Common.{ℕ, List, max, length, sym, ap, ap₂, ◌∙◌, arith}
use Rattle.std.proofs.lemmas.Bool.{false≢true}
use Rattle.card_sets.proofs.SetCounts.{length-le_52}
use Rattle.dd_solver.proofs.NeedsAll.{longer_open, longer_stopped}
use Rattle.dd_solver.proofs.needs_all.longer.Goals as goal

pub returns-then-not-is_empty-clause-value : goal.returns-then-not-is_empty-clause-value
returns-then-not-is_empty-clause-value c = sym (longer_stopped c.args.hands.now.own c.args.hands.now.partner c.args.stoppers c.args.suit
    (λ e. false≢true (sym c.if-not-is_empty.true ∙ c.is_empty.ensures.value.1 (c.of_suit.ensures.value ∙ e))))

pub returns-clause-value : goal.returns-clause-value
returns-clause-value c =
    let own = ap (λ (l : List ℕ). length l) c.of_suit-2.ensures.value in
    let partner = ap (λ (l : List ℕ). length l) c.of_suit-3.ensures.value in
    c.max.ensures ∙ ap₂ (λ (i j : ℕ). max i j) (c.count-own.ensures.value ∙ own) (c.count-partner.ensures.value ∙ partner)
    ∙ sym (longer_open c.args.hands.now.own c.args.hands.now.partner c.args.stoppers c.args.suit (sym c.of_suit.ensures.value ∙ c.is_empty.ensures.value.0 c.if-not-is_empty.false))

pub returns-clause-few : goal.returns-clause-few
returns-clause-few c = omega (
  arith,
  c.max.ensures,
  c.count-own.ensures.value,
  c.count-partner.ensures.value,
  length-le_52 c.of_suit-2.result c.of_suit-2.ensures.a_set,
  length-le_52 c.of_suit-3.result c.of_suit-3.ensures.a_set,
)
