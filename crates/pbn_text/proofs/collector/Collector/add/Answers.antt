use Rattle.pbn_text.proofs.collector.Collector.add.Goals as goal

pub returns-in-Token : goal.returns-in-Token
returns-in-Token c = λ left. rw c.in-Token.is (c.add_token.ensures left)
