use Rattle.pbn_deal.proofs.ReadBack.{deal_text-read}
use Rattle.pbn_deal.proofs.writing.deal_text_reads_back.Goals as goal

pub returns : goal.returns
returns c = deal_text-read
