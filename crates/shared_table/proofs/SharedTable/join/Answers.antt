use Rattle.std.proofs.Common.{rules, ◌≡◌, refl, sym, ap, ◌∙◌}
use Rattle.shared_table.specs.Shards.{seen_at, both, settled_view, Sat}
use Rattle.shared_table.proofs.Keeps.{joins, settles_all}
use Rattle.shared_table.proofs.Parting.{seat_out, both_out, joined_out, length-joined, has_joined}
use Rattle.shared_table.proofs.SharedTable.join.Goals as goal

pub join_seat-requires : goal.join_seat-requires
join_seat-requires c =
    let p = c.requires.passes.0 in
    let q = c.requires.passes.1 in
    (search rules, search rules, q.empty, search rules, joins _ _ _ _ _ p.out q.out (p.seat.all ∙ sym q.seat.all))

pub load-requires : goal.load-requires
load-requires c =
    let p = c.requires.passes.0 in
    let q = c.requires.passes.1 in
    let is = c.join_seat.ensures.2 in
    let planned : c.args.self.now.plan ≡ c.args.self.now.table.shared.key = search rules in (
      c.join_seat.ensures.0 ∙ p.seat.table,
      search rules,
      settles_all _ _ _ _ _ (ap (λ (m : Sat). m.0.plan) is ∙ (p.seat.plan_is ∙ planned))
          (λ k. ap (λ (m : Sat). (seen_at k m.0).inside) is ∙ both_out c.args.pass.now.seat.me.0 c.args.other.seat.me.0 (p.seat.all ∙ sym q.seat.all) p.out k),
    )

pub returns-clause-pass : goal.returns-clause-pass
returns-clause-pass c =
    let p = c.requires.passes.0 in
    let q = c.requires.passes.1 in
    let v = c.args.pass.now.seat.me.0 in
    let w = c.args.other.seat.me.0 in
    let sizes = p.seat.all ∙ sym q.seat.all in
    let is = c.join_seat.ensures.2 in
    let tells = c.load.ensures.2 in
    let view = tells.1 ∙ ap (λ (m : Sat). settled_view m.0) is in
    let carried = tells.0 ∙ (ap (λ (m : Sat). m.1) is ∙ p.empty) in
    seat_out _ _ _ (settled_view (both v w)) (c.load.ensures.0 ∙ (c.join_seat.ensures.0 ∙ p.seat.table)) (λ i. (view i, carried i)) p.seat.plan_is (length-joined v w ∙ p.seat.all) (joined_out v w sizes p.out)

pub returns-clause-joined : goal.returns-clause-joined
returns-clause-joined c =
    let p = c.requires.passes.0 in
    let q = c.requires.passes.1 in
    has_joined _ _ _ c.join_seat.new.seat.me c.load.new.seat.me _ p.seat.all q.seat.all p.seat.plan_is (ap (λ (m : Sat). m.0) c.join_seat.ensures.2) c.load.ensures.2 refl
