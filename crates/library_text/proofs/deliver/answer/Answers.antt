use Rattle.std.proofs.Common.{sym, subst}
use Rattle.am_answer.specs.Stages.{IsTextFor}
use Rattle.library_text.specs.Requests.{request_of, task_for}
use Rattle.library_text.proofs.Answering.{answered_text, answered_refusal}
use Rattle.library_text.proofs.deliver.answer.Goals as goal

pub returns-in-Ok : goal.returns-in-Ok
returns-in-Ok c =
    answered_text _ _ _ _ _ c.bytes.result.now (subst (IsTextFor (task_for (request_of c.args.request))) (sym c.bytes.ensures) c.in-Ok.ensures.text)
    c.put_text.ensures.ends c.put_text.ensures.done c.put_text.ensures.no_room

pub returns-in-Err : goal.returns-in-Err
returns-in-Err c = answered_refusal _ _ _ _ _ c.in-Err.status c.in-Err.ensures.refused c.put_refusal.ensures
