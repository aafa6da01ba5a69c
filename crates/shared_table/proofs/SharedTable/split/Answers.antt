use Rattle.std.proofs.Common.{rules, ap, ◌∙◌}
use Rattle.shared_table.specs.Shards.{newcomer}
use Rattle.shared_table.proofs.Keeps.{splits}
use Rattle.shared_table.proofs.Parting.{seat_out, newcomer_out, length-newcomer, has_parted}
use Rattle.shared_table.proofs.SharedTable.split.Goals as goal

pub split_seat-seat-requires : goal.split_seat-seat-requires
split_seat-seat-requires c = (search rules, search rules, splits _ _ _ c.requires.pass.out)

pub returns-clause-passes : goal.returns-clause-passes
returns-clause-passes c =
    let p = c.requires.pass in
    let s = c.split_seat-seat.ensures in (
      seat_out _ _ _ c.args.pass.now.seat.me.0 (s.0 ∙ p.seat.table) (s.2 ∙ ap (λ l. (c.args.pass.now.seat.me.0, l)) p.empty) p.seat.plan_is p.seat.all p.out,
      seat_out _ _ _ (newcomer c.args.pass.now.seat.me.0) (s.3 ∙ p.seat.table) s.4 p.seat.plan_is (length-newcomer c.args.pass.now.seat.me.0 ∙ p.seat.all) (newcomer_out c.args.pass.now.seat.me.0),
    )

pub returns-clause-parted : goal.returns-clause-parted
returns-clause-parted c = let s = c.split_seat-seat.ensures in has_parted _ _ _ (ap (λ m. m.0) s.2) (ap (λ m. m.0) s.4)
