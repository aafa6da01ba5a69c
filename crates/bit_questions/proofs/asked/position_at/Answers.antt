use Rattle.trick_rules.specs.Positions.{PositionValue}
use Rattle.bit_questions.specs.declared.question.Question.{Question}
use Rattle.bit_questions.specs.declared.fault.QuestionFault.{QuestionFault}
use Rattle.bit_questions.specs.declared.fault.QuestionFault.TheVariants.{Overlap, Sizes, PlayedTwice}
use Rattle.bit_questions.specs.Numbers.{IsAskedPosition}
use Rattle.bit_questions.specs.Causes.{LacksPart, IsFaultOf}
use Rattle.bit_questions.specs.Tables.{position_of}
use Rattle.bit_questions.proofs.asked.position_at.Goals as goal

-- what the position of a question lacks is a fault of the question
lacks : (q : Question) (t : PositionValue) (fault : QuestionFault) → IsAskedPosition q t → LacksPart t fault → IsFaultOf q fault
lacks q t Overlap asked lack lefts weights = (t, asked, lack)
lacks q t Sizes asked lack lefts weights = (t, asked, lack)
lacks q t PlayedTwice asked lack lefts weights = (t, asked, lack)
lacks q t _ asked lack lefts weights = absurd lack

pub returns-in-None-clause-refused : goal.returns-in-None-clause-refused
returns-in-None-clause-refused c =
    let table = c.in_ok-table.table in
    let is = c.in_ok-table.ensures.table in
    lacks c.args.question.now (position_of table c.in_ok-trick.trick.now) c.fault.result
    (record {
      declarer = is.declarer;
      dummy = is.dummy;
      unseen = is.unseen;
      trick = c.in_ok-trick.ensures.trick;
      leader = is.leader;
      trump = is.trump;
      need = is.need.0;
    })
    c.fault.ensures
