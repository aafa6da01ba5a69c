use Rattle.std.proofs.Common.{◌≡◌, ◌++◌, sym, subst}
use Rattle.std.specs.Prelude.{OnOk}
use Rattle.told_words.specs.Phrases.{phrase}
use Rattle.told_words.proofs.phrases.push_phrase.Goals as goal

pub returns-in-Dummy : goal.returns-in-Dummy
returns-in-Dummy c =
    subst (λ seat. OnOk c.push_own-in-Dummy.result (c.push_own-in-Dummy.new.out ≡ c.args.out.now ++ phrase c.args.declarer seat c.args.turn.manner c.args.cards)) (sym c.in-Dummy.is) c.push_own-in-Dummy.ensures
