use Rattle.std.proofs.Common.{ap, sym, ◌∙◌, arith}
use Rattle.hand_conditions.specs.Conditions.{points}
use Rattle.hand_conditions.proofs.Honours.{points-counted, points-few, points-none}
use Rattle.hand_conditions.proofs.counted.points.Goals as goal

pub returns-then-is_empty : goal.returns-then-is_empty
returns-then-is_empty c = sym (ap points (c.is_empty.ensures.value.0 c.if-is_empty.true) ∙ points-none)

pub overflow_mul-result : goal.overflow_mul-result
overflow_mul-result c = let all = points-counted c.args.hand in let few = points-few c.args.hand c.is_empty.ensures.a_set in omega (arith, all, few, c.count_at.ensures)

pub overflow_mul-result-2 : goal.overflow_mul-result-2
overflow_mul-result-2 c = let all = points-counted c.args.hand in let few = points-few c.args.hand c.is_empty.ensures.a_set in omega (arith, all, few, c.count_at.ensures, c.count_at-2.ensures)

pub overflow_add-result : goal.overflow_add-result
overflow_add-result c = let all = points-counted c.args.hand in let few = points-few c.args.hand c.is_empty.ensures.a_set in omega (arith, all, few, c.count_at.ensures, c.count_at-2.ensures)

pub overflow_mul-result-3 : goal.overflow_mul-result-3
overflow_mul-result-3 c = let all = points-counted c.args.hand in let few = points-few c.args.hand c.is_empty.ensures.a_set in omega (arith, all, few, c.count_at.ensures, c.count_at-2.ensures, c.count_at-3.ensures)

pub overflow_add-result-2 : goal.overflow_add-result-2
overflow_add-result-2 c = let all = points-counted c.args.hand in let few = points-few c.args.hand c.is_empty.ensures.a_set in omega (arith, all, few, c.count_at.ensures, c.count_at-2.ensures, c.count_at-3.ensures)

pub overflow_add-result-3 : goal.overflow_add-result-3
overflow_add-result-3 c = let all = points-counted c.args.hand in let few = points-few c.args.hand c.is_empty.ensures.a_set in omega (arith, all, few, c.count_at.ensures, c.count_at-2.ensures, c.count_at-3.ensures, c.count_at-4.ensures)

pub returns : goal.returns
returns c = let all = points-counted c.args.hand in let few = points-few c.args.hand c.is_empty.ensures.a_set in omega (arith, all, few, c.count_at.ensures, c.count_at-2.ensures, c.count_at-3.ensures, c.count_at-4.ensures)
