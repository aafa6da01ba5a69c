use Rattle.pbn_plain.proofs.ExampleRead.{example-written, example-text, example-games, example-read}
use Rattle.pbn_plain.proofs.laws.example_reads_back.Goals as goal

pub returns : goal.returns
returns c = record { written = example-written; text = example-text; games = example-games; read = example-read }
