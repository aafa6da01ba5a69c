use Rattle.std.proofs.Common.{◌≡◌, ◌++◌, false, drop}
use Rattle.told_words.specs.Phrases.{phrases}
use Rattle.told_words.proofs.phrases.push_turns.Given as goal

abbrev pub invariant-loop-turn : goal.invariant-loop-turn
invariant-loop-turn l =
    l.out ++ phrases l.declarer l.cards l.places l.begun (drop l.turn-index l.turns) ≡ l.initial.out ++ phrases l.declarer l.cards l.places false l.turns
