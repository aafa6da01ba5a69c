use Rattle.pbn_plain.proofs.ReadBack.{plain_text-read, marked_text-read}
use Rattle.pbn_plain.proofs.laws.plain_text_reads_back.Goals as goal

pub returns-clause-plain : goal.returns-clause-plain
returns-clause-plain c = plain_text-read

pub returns-clause-marked : goal.returns-clause-marked
returns-clause-marked c = marked_text-read
