use Rattle.card_brackets.proofs.OneTable as theory
use Rattle.card_brackets.proofs.laws.one_table.Goals as goal

pub returns : goal.returns
returns c = theory.one_table
