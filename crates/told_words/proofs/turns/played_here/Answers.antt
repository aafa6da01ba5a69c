use Rattle.std.proofs.Common.{◌∙◌, sym, ap, subst, ℕ, Bool}
use Rattle.std.specs.Prelude.{filter}
use Rattle.card_sets.specs.SetWords.{has_card}
use Rattle.trick_rules.specs.Positions.{to_play, PositionValue}
use Rattle.trick_rules.specs.Nodes.{choices}
use Rattle.told_words.specs.Turns.{manner_of, same_manner, same_seat}
use Rattle.told_words.proofs.PlayedSets.{Collected, collect_one, collect_none, collected, not_its_turn}
use Rattle.told_words.proofs.turns.played_here.Goals as goal

pub returns-then-not-is_turn : goal.returns-then-not-is_turn
returns-then-not-is_turn c =
    let n = c.args.place.now in
    let test : ℕ → Bool = λ card. same_manner (manner_of n.position card) c.args.manner in
    let turn = sym (c.is_turn.ensures ∙ ap (λ (t : PositionValue). same_seat (to_play t) c.args.seat) c.position.ensures.value) ∙ c.if-not-is_turn.true in
    not_its_turn c.args.cards (choices n) c.empty-here.result (same_seat (to_play n.position) c.args.seat) test turn c.empty-here.ensures.value

pub cards-preserved-then-is_so : goal.cards-preserved-then-is_so
cards-preserved-then-is_so c =
    let n = c.args.place.now in
    let test : ℕ → Bool = λ card. same_manner (manner_of n.position card) c.args.manner in
    let passes = sym (c.is_so.ensures ∙ ap (λ (t : PositionValue). same_manner (manner_of t c.in-Some.card) c.args.manner) c.position-in-Some.ensures.value) ∙ c.if-is_so.true in
    record {
      a_set = c.with-here.ensures.a_set;
      each = subst (λ cards. Collected c.both-left.result test cards c.pop_first.new.self) (sym c.with-here.ensures.value) (collect_one c.both-left.result test c.cards.here c.cards.left c.pop_first.new.self c.in-Some.card c.in-Some.ensures.value c.cards.invariant.each passes);
    }

pub cards-preserved : goal.cards-preserved
cards-preserved c =
    let n = c.args.place.now in
    let test : ℕ → Bool = λ card. same_manner (manner_of n.position card) c.args.manner in
    let fails = sym (c.is_so.ensures ∙ ap (λ (t : PositionValue). same_manner (manner_of t c.in-Some.card) c.args.manner) c.position-in-Some.ensures.value) ∙ c.if-is_so.false in
    record {
      a_set = c.cards.invariant.a_set;
      each = collect_none c.both-left.result test c.cards.here c.cards.left c.pop_first.new.self c.in-Some.card c.in-Some.ensures.value c.cards.invariant.each fails;
    }

pub returns : goal.returns
returns c =
    let n = c.args.place.now in
    let test : ℕ → Bool = λ card. same_manner (manner_of n.position card) c.args.manner in
    let turn = sym (c.is_turn.ensures ∙ ap (λ (t : PositionValue). same_seat (to_play t) c.args.seat) c.position.ensures.value) ∙ c.if-not-is_turn.false in
    let all = c.both-left.ensures.value ∙ ap (λ legal. filter (has_card legal) c.args.cards) c.choices.ensures in
    collected c.args.cards (choices n) c.both-left.result c.cards.here c.cards.left (same_seat (to_play n.position) c.args.seat) test all turn c.in_default.ensures.value.0 c.cards.invariant.a_set c.cards.invariant.each
