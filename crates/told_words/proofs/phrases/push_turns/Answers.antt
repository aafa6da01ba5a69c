use Rattle.std.proofs.Common.{get_or}
use Rattle.std.proofs.lemmas.List.{get_or_default}
use Rattle.card_sets.specs.declared.seat.Seat.TheVariants.{Declarer}
use Rattle.told_words.specs.declared.phrases.Turn.{Turn}
use Rattle.told_words.specs.declared.turns.Manner.TheVariants.{Lead}
use Rattle.told_words.proofs.Telling.{turn_more}
use Rattle.told_words.proofs.phrases.push_turns.Goals as goal

pub loop-turn-preserved : goal.loop-turn-preserved
loop-turn-preserved c =
    let turns = c.args.turns.now in
    let i = c.loop-turn.turn-index in
    let any : Turn = record { seat = Declarer; manner = Lead } in
    let turn : Turn = get_or turns i any in
    turn_more c.args.declarer c.args.cards c.args.places.now c.loop-turn.begun c.has_begun-begun.result turns i turn c.loop-turn.out c.push_next_phrase.new.out _ c.played_so-own.result
    c.loop-turn-test.true (get_or_default turns i any turn c.loop-turn-test.true) c.played_so-own.ensures c.in_ok-push_next_phrase.ensures c.has_begun-begun.ensures c.loop-turn.invariant
