use Rattle.log_texts.proofs.LogBack.{log_text-read}
use Rattle.log_texts.proofs.laws.log_text_reads_back.Goals as goal

pub returns : goal.returns
returns c = log_text-read
