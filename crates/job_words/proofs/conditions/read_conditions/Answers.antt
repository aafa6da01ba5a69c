use Rattle.job_words.specs.declared.bad_word.OptionName.TheVariants as name
use Rattle.job_words.specs.Options.{options_of}
use Rattle.job_words.proofs.ConditionLemmas.{passed, read_there, unread_there, unread_east, unread_south, unread_west}
use Rattle.job_words.proofs.conditions.read_conditions.Goals as goal

pub returns-in_err-east : goal.returns-in_err-east
returns-in_err-east c =
    let o = options_of c.args.options.now in
    passed _ _ c.from_residual-in_err-east.result _ c.from_residual-in_err-east.ensures.1
    (unread_east o _ (read_there name.North _ _ _ c.deref.ensures.value c.in_ok-north.ensures) _
    (unread_there name.East _ _ _ c.deref-2.ensures.value c.in_err-east.ensures))

pub returns-in_err-south : goal.returns-in_err-south
returns-in_err-south c =
    let o = options_of c.args.options.now in
    passed _ _ c.from_residual-in_err-south.result _ c.from_residual-in_err-south.ensures.1
    (unread_south o _ (read_there name.North _ _ _ c.deref.ensures.value c.in_ok-north.ensures)
    _ (read_there name.East _ _ _ c.deref-2.ensures.value c.in_ok-east.ensures) _
    (unread_there name.South _ _ _ c.deref-3.ensures.value c.in_err-south.ensures))

pub returns-in_err-west : goal.returns-in_err-west
returns-in_err-west c =
    let o = options_of c.args.options.now in
    passed _ _ c.from_residual-in_err-west.result _ c.from_residual-in_err-west.ensures.1
    (unread_west o _ (read_there name.North _ _ _ c.deref.ensures.value c.in_ok-north.ensures)
    _ (read_there name.East _ _ _ c.deref-2.ensures.value c.in_ok-east.ensures)
    _ (read_there name.South _ _ _ c.deref-3.ensures.value c.in_ok-south.ensures) _
    (unread_there name.West _ _ _ c.deref-4.ensures.value c.in_err-west.ensures))
