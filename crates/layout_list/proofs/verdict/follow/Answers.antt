use Rattle.std.proofs.Common.{◌≡◌, ℕ, ◌<◌, ◌+◌, List, ◌∷◌, None, length, drop, get_or, suc, sym, ap, ap₂, ◌∙◌, subst, arith}
use Rattle.trick_rules.specs.Positions.{State, IsState}
use Rattle.trick_rules.specs.Play.{after}
use Rattle.pbn_deal.specs.declared.board.Played.{Played}
use Rattle.pbn_deal.specs.Boards.{IsCourse}
use Rattle.layout_list.specs.Verdicts.{cause_of, or_later, contradiction, position_after, hand_after, course_of}
use Rattle.layout_list.proofs.Follow.{Onward, onward}
use Rattle.pbn_deal.proofs.Split.{split_at}
use Rattle.layout_list.proofs.verdict.follow.Goals as goal

pub play-position-requires : goal.play-position-requires
play-position-requires c =
    let t = c.loop-index.position in
    let play = c.index-plays-index.result in
    let plays = c.args.plays.now in
    let i = c.loop-index.index in
    let lt : i < length plays = omega arith in
    let split = split_at plays i play lt c.index-plays-index.is in
    let fair = subst (IsCourse t.trump (course_of t)) split c.loop-index.invariant.fair in
    (onward (record { position = t; left = c.loop-index.hand }) play (drop (i + 1) plays) c.loop-index.invariant.state fair (sym c.cause_of.ensures ∙ c.in_default.is)).can

pub loop-index-preserved : goal.loop-index-preserved
loop-index-preserved c =
    let t = c.loop-index.position in
    let s : State = record { position = t; left = c.loop-index.hand } in
    let play = c.index-plays-index.result in
    let plays = c.args.plays.now in
    let i = c.loop-index.index in
    let rest = drop (i + 1) plays in
    let lt : i < length plays = omega arith in
    let split = split_at plays i play lt c.index-plays-index.is in
    let fair = subst (IsCourse t.trump (course_of t)) split c.loop-index.invariant.fair in
    let none : cause_of s play ≡ None = sym c.cause_of.ensures ∙ c.in_default.is in
    let on : Onward s play rest = onward s play rest c.loop-index.invariant.state fair none in
    let table_is = sym c.play-position.ensures.value in
    let hand_is = sym c.without-hand.ensures.value in
    let same : after s play.card ≡ record { position = c.play-position.result; left = c.without-hand.result } = ap₂ (λ t h. record { position = t; left = h }) table_is hand_is in
    record {
      state = subst IsState same on.state;
      fair = subst (λ (n : State). IsCourse n.position.trump (course_of n.position) rest) same on.fair;
      verdict =
          c.loop-index.invariant.verdict ∙ ap (contradiction (i + 1) s) split ∙ ap (λ o. or_later o (i + 1) (contradiction (i + 1 + 1) (after s play.card) rest)) none
          ∙ ap (λ n. contradiction (i + 1 + 1) n rest) same;
      position = c.loop-index.invariant.position ∙ ap (position_after t) split ∙ ap (λ t. position_after t rest) table_is;
      left = c.loop-index.invariant.left ∙ ap (hand_after c.loop-index.hand) split ∙ ap (λ h. hand_after h rest) hand_is;
    }
