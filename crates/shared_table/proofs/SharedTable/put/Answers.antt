use Rattle.std.proofs.Common.{rules, ◌≡◌, ◌<◌, sym, ap, ◌∙◌, subst}
use mathlib.Core.List.{IsPrefix}
use Rattle.front_table.specs.Entries.{PutLeaves}
use Rattle.shared_table.specs.Shards.{taken, given, held}
use Rattle.shared_table.specs.Passes.{list_at, table_plan}
use Rattle.shared_table.proofs.Prefixes.{E}
use Rattle.shared_table.proofs.Telling.{got_turn, seen_last, list_taken, put_good, put_told}
use Rattle.shared_table.proofs.SharedTable.put.Goals as goal

pub give-requires-clause-begins : goal.give-requires-clause-begins
give-requires-clause-begins c =
    let i = c.shard-shard.result in
    let v = c.args.pass.now.seat.me.0 in
    let found = held c.take.new.seat.me.1 in
    let took = c.take.ensures.taken c.if-not-take.false in
    let inside = subst (λ n. i < n) (sym c.requires.pass.seat.all) c.shard-shard.ensures.below in
    let now : list_at i c.put_inside-answer.new.seat.me.0 ≡ found = ap (list_at i) c.put_inside-answer.ensures.view ∙ list_taken i v c.take.new.seat.me.0 found inside took in
    let kept = put_good (table_plan c.args.self.now) i found (held c.put_inside-answer.new.seat.me.1) c.args.entry c.put_inside-answer.result (c.take.ensures.good c.if-not-take.false) (search rules) c.put_inside-answer.ensures.answer in
    subst (λ (l : E). IsPrefix l (held c.put_inside-answer.new.seat.me.1)) (sym now) kept.1

pub give-requires-clause-good : goal.give-requires-clause-good
give-requires-clause-good c =
    let i = c.shard-shard.result in
    let found = held c.take.new.seat.me.1 in
    (put_good (table_plan c.args.self.now) i found (held c.put_inside-answer.new.seat.me.1) c.args.entry c.put_inside-answer.result (c.take.ensures.good c.if-not-take.false) (search rules) c.put_inside-answer.ensures.answer).0

pub returns-clause-answer : goal.returns-clause-answer
returns-clause-answer c =
    let plan = table_plan c.args.self.now in
    let i = c.shard-shard.result in
    let v = c.args.pass.now.seat.me.0 in
    let w = c.give.new.seat.me.0 in
    let found = held c.take.new.seat.me.1 in
    let left = held c.put_inside-answer.new.seat.me.1 in
    let answer = c.put_inside-answer.result in
    let took = c.take.ensures.taken c.if-not-take.false in
    let begins = c.take.ensures.begins c.if-not-take.false in
    let is : w ≡ given i left (taken i found v) = c.give.ensures.given ∙ (ap (given i left) c.put_inside-answer.ensures.view ∙ ap (given i left) took) in
    let inside = subst (λ n. i < n) (sym c.requires.pass.seat.all) c.shard-shard.ensures.below in
    let kept = put_good plan i found left c.args.entry answer (c.take.ensures.good c.if-not-take.false) (search rules) c.put_inside-answer.ensures.answer in
    let got = got_turn plan i v w found left inside is begins kept.1 kept.0 in
    let put = subst (λ (l : E). PutLeaves plan.room found c.args.entry answer l) (sym (seen_last i v w found left inside is)) c.put_inside-answer.ensures.answer in
    put_told plan i c.args.entry v w found answer (search rules) got begins put (λ wide. search rules)
