use Rattle.std.proofs.Common.{◌≡◌, ◌∙◌, ◌+◌, ◌<◌, ◌≤◌, ◌++◌, ◌∷◌, [], List, Err, Contains, ap, length, take, sym, subst, arith, rules}
use Rattle.std.specs.List.{AllZip}
use Rattle.std.proofs.lemmas.Grind.{common_steps}
use Rattle.std.proofs.lemmas.List.{take_all}
use Rattle.std.proofs.lemmas.Slice.Zip.{all_zipped_more}
use Rattle.root_workers.specs.declared.root.Options.{Options}
use Rattle.am_answer.specs.Refusals.{layout_status, root_status}
use Rattle.am_answer.proofs.Passed.{refused_by}
use Rattle.board_decisions.specs.declared.list.Decision.{Decision}
use Rattle.board_decisions.specs.Decisions.{AreDecisions, IsFaultBefore}
use Rattle.review_text.specs.declared.reviewed.Reviewed.{Reviewed}
use Rattle.job_review.specs.Reviews.{IsToldOf, IsReviewRefusal}
use Rattle.job_review.proofs.Endings.{review_is, refusal_of, spent_of}
use Rattle.job_review.proofs.review.review_of.Goals as goal

pub returns-in_err-found-clause-refused : goal.returns-in_err-found-clause-refused
returns-in_err-found-clause-refused c =
    let board = c.args.board.now in
    let layouts = c.args.layouts.now in
    let nodes = c.args.asked.now.search.nodes in
    let fault = c.in_err-found.field-0.0 in
    let is = subst (λ bytes. IsFaultBefore board bytes c.args.asked.now.from fault) c.bytes.ensures c.in_err-found.ensures.refused in
    refused_by (IsReviewRefusal board layouts c.args.asked.now.moves c.args.asked.now.from nodes) c.from_residual.result (layout_status fault) c.from_residual.ensures.1
    (refusal_of board layouts c.args.asked.now.moves c.args.asked.now.from nodes fault is)

pub returns-in_err-next-clause-refused : goal.returns-in_err-next-clause-refused
returns-in_err-next-clause-refused c =
    let board = c.args.board.now in
    let layouts = c.args.layouts.now in
    let nodes = c.args.asked.now.search.nodes in
    let decision = c.decision-item.result in
    let found = c.in_ok-found.found.items in
    let are = subst (λ bytes. AreDecisions board bytes c.args.asked.now.from found) c.bytes.ensures c.in_ok-found.ensures.decisions in
    let among : Contains found decision = search rules in
    refused_by (IsReviewRefusal board layouts c.args.asked.now.moves c.args.asked.now.from nodes) c.from_residual-in_err-next.result (root_status c.in_err-next.field-0.0) c.from_residual-in_err-next.ensures.1
    (spent_of board layouts c.args.asked.now.moves c.args.asked.now.from _ decision c.decision.view_is c.options_of-options.result.nodes nodes (ap (λ (o : Options). o.nodes) c.options_of-options.ensures) found are among
    c.in_err-next.field-0.0 (λ card is. c.in_err-next.ensures.spent card (ap Err is)))

pub loop-decision-preserved : goal.loop-decision-preserved
loop-decision-preserved c =
    let told_as = IsToldOf c.args.board.now c.args.asked.now.moves in
    let items = c.deref-decision-items.result.now in
    let place = c.loop-decision.decision-index in
    let before = c.loop-decision.told.items in
    let one_more : take place items ++ c.decision-item.result ∷ [] ≡ take (place + 1) items = grind (arith, common_steps) in
    record {
      so =
          subst (λ (decisions : List Decision). AllZip told_as decisions c.push.new.self.items) one_more
          (subst (λ (told : List Reviewed). AllZip told_as (take place items ++ c.decision-item.result ∷ []) told) (sym c.in_ok-push.ensures.items)
          (all_zipped_more told_as (take place items) before c.decision-item.result c.in_ok-next.next c.loop-decision.invariant.so c.in_ok-next.ensures.told));
      pass = c.told_of.ensures.pass;
    }

pub returns-clause-told : goal.returns-clause-told
returns-clause-told c =
    let board = c.args.board.now in
    let moves = c.args.asked.now.moves in
    let from = c.args.asked.now.from in
    let items = c.deref-decision-items.result.now in
    let found = c.in_ok-found.found.items in
    let place = c.loop-decision.decision-index in
    let are = subst (λ bytes. AreDecisions board bytes from found) c.bytes.ensures c.in_ok-found.ensures.decisions in
    let past : length items ≤ place = search rules in
    let all : take place items ≡ found = search (rules, take_all place items past) in
    let some : 0 < length found = search rules in
    let told = subst (λ (decisions : List Decision). AllZip (IsToldOf board moves) decisions c.loop-decision.told.items) all c.loop-decision.invariant.so in
    review_is board c.args.layouts.now moves from found c.loop-decision.told.items some are told
