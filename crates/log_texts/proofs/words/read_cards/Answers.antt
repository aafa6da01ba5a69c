use Rattle.std.proofs.Common.{◌≡◌, ◌+◌, ◌∙◌, Some, None, length, sym, arith, rules}
use Rattle.strategy_tree.specs.PlanRead.{card_named}
use Rattle.log_texts.specs.Reading.{pieces_at}
use Rattle.log_texts.proofs.SaidPieces.{said_nothing, said_all, some_pieces, cards_said-many, cards_said-nothing, cards_said-all}
use Rattle.log_texts.proofs.words.read_cards.Goals as goal

pub returns-then-len-eq-MOST_CARDS : goal.returns-then-len-eq-MOST_CARDS
returns-then-len-eq-MOST_CARDS c =
    let more : c.cards.rest ≡ Some c.in-Some.text = first_of (search rules, cc) in
    let counted : length c.cards.path + length (pieces_at 46 c.in-Some.text.now) ≡ length (pieces_at 46 c.args.word.now) = rw more at c.cards.invariant.counted in
    let full : length c.cards.path ≡ 52 = sym c.len.ensures.value ∙ c.if-len-eq-MOST_CARDS.true in
    sym (cards_said-many c.args.word.now (omega (arith, counted, full, some_pieces 46 c.in-Some.text.now)))

pub returns-in_err-read_named_card : goal.returns-in_err-read_named_card
returns-in_err-read_named_card c =
    let more : c.cards.rest ≡ Some c.in-Some.text = first_of (search rules, cc) in
    let none : card_named c.split_at_mark.result.0.now ≡ None = first_of (search rules, cc) in
    c.from_residual.ensures
    ∙ sym (cards_said-nothing c.args.word.now (said_nothing 46 card_named _ c.cards.path c.in-Some.text.now c.split_at_mark.result.0.now c.split_at_mark.result.1 (rw more at c.cards.invariant.so_far) c.split_at_mark.ensures.pieces none))

pub returns : goal.returns
returns c =
    let none : c.cards.rest ≡ None = search rules in
    let counted : length c.cards.path + 0 ≡ length (pieces_at 46 c.args.word.now) = rw none at c.cards.invariant.counted in
    sym (cards_said-all c.args.word.now c.cards.path (omega (arith, counted, c.cards.invariant.few)) (said_all 46 card_named _ c.cards.path c.cards.rest none c.cards.invariant.so_far))
