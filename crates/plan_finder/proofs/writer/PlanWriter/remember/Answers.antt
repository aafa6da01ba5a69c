use Rattle.std.proofs.Common.{◌≡◌, ◌∙◌, length, rules}
use Rattle.std.proofs.lemmas.List.Elements.{All-set}
use Rattle.plan_finder.specs.Written.{SlotStands}
use Rattle.plan_finder.proofs.WrittenPlans.{remembered_stands}
use Rattle.plan_finder.proofs.writer.PlanWriter.remember.Goals as goal

pub invariant_of-self : goal.invariant_of-self
invariant_of-self c =
    let long : c.len.result ≡ length c.self.inside.text.items = search rules in
    All-set (SlotStands c.self.inside.text.items) c.self.inside.slots.items _ _
    (remembered_stands _ c.args.node.now c.args.moves c.args.vector.now c.self.inside.text.items c.args.self.now c.args.start _ c.in_ok-copy.ensures (c.self.view_is ∙ c.make_slots.ensures) long c.requires)
    c.self.invariant

pub invariant_of-self-then-not-is_empty-2 : goal.invariant_of-self-then-not-is_empty-2
invariant_of-self-then-not-is_empty-2 c =
    let long : c.len.result ≡ length c.self.inside.text.items = search rules in
    All-set (SlotStands c.self.inside.text.items) c.self.inside.slots.items _ _
    (remembered_stands _ c.args.node.now c.args.moves c.args.vector.now c.self.inside.text.items c.args.self.now c.args.start _ c.in_ok-copy.ensures (c.self.view_is ∙ c.make_slots.ensures) long c.requires)
    c.self.invariant
