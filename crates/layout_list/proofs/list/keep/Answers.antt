use Rattle.std.proofs.Common.{◌≡◌, [], Option, length, sym, ap, ◌∙◌, subst, inr}
use Rattle.std.specs.Prelude.{option_copied, All, MatchOption}
use Rattle.trick_rules.specs.Positions.{PositionValue, IsSound, IsState}
use Rattle.pbn_deal.specs.BoardRead.{together}
use Rattle.layout_list.specs.Verdicts.{first_position}
use Rattle.layout_list.specs.Layouts.{IsAfter}
use Rattle.layout_list.proofs.Keep.{start_states, first_over, kept_none, kept_some, as_many}
use Rattle.layout_list.proofs.list.keep.Goals as goal

pub keep_or_drop-requires-clause-states : goal.keep_or_drop-requires-clause-states
keep_or_drop-requires-clause-states c =
    let first = c.in-Some.first.now in
    let layouts = c.args.layouts.now in
    let is = sym c.first.ensures.value ∙ ap option_copied c.in-Some.is in
    let start_is = c.first_position-start.ensures.value ∙ ap (first_position c.args.board.now) c.unseen.ensures in
    subst (λ (t : PositionValue). All (λ d. IsState (record { position = t; left = d.layout.left })) layouts) (sym start_is)
    (start_states c.args.board.now (together first.layout.left first.layout.right) layouts (subst IsSound start_is c.first_position-start.ensures.sound) (first_over c.args.board.now layouts first is c.requires.one_deal))

pub returns-in_default-position-clause-kept : goal.returns-in_default-position-clause-kept
returns-in_default-position-clause-kept c =
    let first = c.in-Some.first.now in
    let is = sym c.first.ensures.value ∙ ap option_copied c.in-Some.is in
    let start_is = c.first_position-start.ensures.value ∙ ap (first_position c.args.board.now) c.unseen.ensures in
    inr (kept_none c.args.board.now c.args.layouts.now first _ _ _ _ is start_is c.plays.ensures.value c.in_ok-numbers.ensures.lefts c.in_ok-numbers.ensures.position c.in_default-position.is)

pub returns-clause-kept : goal.returns-clause-kept
returns-clause-kept c =
    let first = c.in-Some.first.now in
    let is = sym c.first.ensures.value ∙ ap option_copied c.in-Some.is in
    let start_is = c.first_position-start.ensures.value ∙ ap (first_position c.args.board.now) c.unseen.ensures in
    let sorting = c.in_ok-numbers.field-0 in
    let weights_are = c.weights_of.ensures ∙ c.deref-2.ensures.value ∙ c.in_ok-numbers.ensures.weights in
    let after = subst (λ (o : Option PositionValue). MatchOption o (sorting.lefts.items ≡ []) (IsAfter c.plays.result.now c.first_position-start.result sorting.lefts.items)) c.in-Some-position.is c.in_ok-numbers.ensures.position in
    let node_is = c.in_ok-node.ensures.node ∙ ap (λ l. record { position = c.in-Some-position.position; lefts = l }) c.deref.ensures.value in
    kept_some c.args.board.now c.args.layouts.now first c.first_position-start.result c.plays.result.now sorting.numbers.items _ sorting.lefts.items sorting.dropped.items c.in-Some-position.position c.in_ok-node.node
    is start_is c.plays.ensures.value c.in_ok-numbers.ensures.numbers weights_are c.in_ok-numbers.ensures.lefts c.in_ok-numbers.ensures.dropped after node_is

pub returns-clause-as_many : goal.returns-clause-as_many
returns-clause-as_many c =
    let sorting = c.in_ok-numbers.field-0 in
    as_many c.plays.result.now c.first_position-start.result c.args.layouts.now sorting.numbers.items sorting.lefts.items c.in_ok-numbers.ensures.numbers c.in_ok-numbers.ensures.lefts
    ∙ sym (ap length (ap (λ n. n.lefts) c.in_ok-node.ensures.node ∙ c.deref.ensures.value))
