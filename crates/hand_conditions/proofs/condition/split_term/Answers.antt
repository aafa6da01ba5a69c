use Rattle.hand_conditions.proofs.Pieces.{piece_alone, piece_first}
use Rattle.hand_conditions.proofs.condition.split_term.Goals as goal

pub returns-in-Some-clause-term : goal.returns-in-Some-clause-term
returns-in-Some-clause-term c = piece_first c.args.text.now c.in-Some.term.now c.in-Some.rest.now c.in-Some.ensures.value

pub returns-in-None-clause-term : goal.returns-in-None-clause-term
returns-in-None-clause-term c = piece_alone c.args.text.now c.in-None.ensures.value
