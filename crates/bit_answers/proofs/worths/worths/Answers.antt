use Rattle.std.proofs.Common.{◌+◌, take, sym, ◌∙◌, subst}
use Rattle.std.specs.List.{AllZip}
use Rattle.trick_rules.specs.Nodes.{choices}
use Rattle.bit_answers.specs.Answers.{IsWorth}
use Rattle.flat_plans.proofs.Listed.{zip_next}
use Rattle.fusion_base.proofs.Entries.{within, entry_card, entry_vector}
use Rattle.bit_answers.proofs.Sampled.{entry_choice}
use Rattle.bit_answers.proofs.worths.worths.Goals as goal

pub front_after-requires-clause-card : goal.front_after-requires-clause-card
front_after-requires-clause-card c =
    entry_choice c.args.asked.now.node c.deref-entry-items.result.now c.loop-entry.entry-index c.entry-item.result (c.deref-entry-items.ensures.value ∙ c.in_ok-believed.ensures) c.loop-entry-test.true c.entry-item.is

pub worth_of-requires-clause-card : goal.worth_of-requires-clause-card
worth_of-requires-clause-card c =
    entry_choice c.args.asked.now.node c.deref-entry-items.result.now c.loop-entry.entry-index c.entry-item.result (c.deref-entry-items.ensures.value ∙ c.in_ok-believed.ensures) c.loop-entry-test.true c.entry-item.is

pub worth_of-requires-clause-believed : goal.worth_of-requires-clause-believed
worth_of-requires-clause-believed c =
    entry_vector c.args.asked.now.node c.deref-entry-items.result.now c.loop-entry.entry-index c.entry-item.result (c.deref-entry-items.ensures.value ∙ c.in_ok-believed.ensures) c.loop-entry-test.true c.entry-item.is

pub loop-entry-preserved : goal.loop-entry-preserved
loop-entry-preserved c =
    let n = c.args.asked.now.node in
    let table = c.deref-entry-items.result.now in
    let place = c.loop-entry.entry-index in
    let entry = c.entry-item.result in
    let is = c.deref-entry-items.ensures.value ∙ c.in_ok-believed.ensures in
    record {
      so_far =
          subst (λ all. AllZip (IsWorth n c.args.asked.now.weights c.args.asked.now.moves) (take (place + 1) (choices n)) all) (sym c.in_ok-push.ensures.items)
          (zip_next (IsWorth n c.args.asked.now.weights c.args.asked.now.moves) (choices n) c.loop-entry.all.items place entry.card c.worth_of.result
          (within n table place entry is c.loop-entry-test.true c.entry-item.is) (entry_card n table place entry is c.loop-entry-test.true c.entry-item.is)
          c.loop-entry.invariant.so_far c.worth_of.ensures);
      pass = c.front_after.ensures.pass;
    }
