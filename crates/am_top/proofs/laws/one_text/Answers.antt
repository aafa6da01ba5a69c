use Rattle.am_top.proofs.Reporting.{one-solve, one-card, one-prove, one-made, one-boards}
use Rattle.am_top.proofs.laws.one_text.Goals as goal

pub returns-clause-solve : goal.returns-clause-solve
returns-clause-solve c = one-solve

pub returns-clause-card : goal.returns-clause-card
returns-clause-card c = one-card

pub returns-clause-prove : goal.returns-clause-prove
returns-clause-prove c = one-prove

pub returns-clause-made : goal.returns-clause-made
returns-clause-made c = one-made

pub returns-clause-boards : goal.returns-clause-boards
returns-clause-boards c = one-boards
