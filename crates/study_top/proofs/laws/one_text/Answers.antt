use Rattle.study_top.proofs.OneText as theory
use Rattle.study_top.proofs.laws.one_text.Goals as goal

pub returns : goal.returns
returns c = theory.one_text
