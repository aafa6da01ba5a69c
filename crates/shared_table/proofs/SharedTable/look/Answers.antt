use Rattle.std.proofs.Common.{rules, ◌≡◌, ◌<◌, sym, ap, ◌∙◌, subst}
use Rattle.front_table.specs.Entries.{HasKey}
use Rattle.shared_table.specs.Shards.{taken, given, held, Sat}
use Rattle.shared_table.specs.Passes.{list_at, table_plan, GotTurn}
use Rattle.shared_table.proofs.Prefixes.{E, prefix_self}
use Rattle.shared_table.proofs.Telling.{got_turn, seen_last}
use Rattle.shared_table.proofs.SharedTable.look.Goals as goal

pub returns-then-found-clause-answer : goal.returns-then-found-clause-answer
returns-then-found-clause-answer c =
    let p = c.requires.pass in
    let i = c.shard-shard.result in
    let v = c.args.pass.now.seat.me.0 in
    let w = c.give.new.seat.me.0 in
    let found = held c.take.new.seat.me.1 in
    let took = c.take.ensures.taken c.if-not-take.false in
    let is : w ≡ given i found (taken i found v) = c.give.ensures.given ∙ (ap (λ (m : Sat). given i (held m.1) m.0) c.look_inside-found.ensures.same ∙ ap (given i found) took) in
    let inside = subst (λ n. i < n) (sym p.seat.all) c.shard-shard.ensures.below in
    let got = got_turn (table_plan c.args.self.now) i v w found found inside is (c.take.ensures.begins c.if-not-take.false) (prefix_self found) (c.take.ensures.good c.if-not-take.false) in
    let key : HasKey found c.args.node.now c.args.moves = c.look_inside-found.ensures.found.0 (search rules) in
    let there = subst (λ (l : E). HasKey l c.args.node.now c.args.moves) (sym (seen_last i v w found found inside is)) key in
    subst (λ k. GotTurn (table_plan c.args.self.now) k v w × HasKey (list_at k w) c.args.node.now c.args.moves) c.shard-shard.ensures.shard (got, there)
