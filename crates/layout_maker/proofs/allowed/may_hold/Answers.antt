use Rattle.std.proofs.Common.{◌≡◌, ℕ, ◌<◌, ◌+◌, List, ◌∷◌, None, cond, suc, length, drop, get_or, ap, ap₂, ◌∙◌, sym, arith}
use Rattle.trick_rules.specs.Play.{take_out, next_trick}
use Rattle.pbn_deal.specs.declared.board.Played.{Played}
use Rattle.layout_maker.specs.Choosing.{after_plays, narrowed}
use Rattle.pbn_deal.proofs.Split.{split_at}
use Rattle.layout_maker.proofs.allowed.may_hold.Goals as goal

pub loop-play-preserved : goal.loop-play-preserved
loop-play-preserved c =
    let play = c.play-item.result in
    let trump = c.trump-trump.result in
    let before = c.loop-play in
    let i = c.loop-play.play-index in
    let plays = c.plays-play-items.result.now in
    let rest = drop (i + 1) plays in
    let lt : i < length plays = omega arith in
    record {
      short = c.add.ensures.short;
      told =
          c.loop-play.invariant.told
          ∙ ap (after_plays trump before.trick before.hidden before.may) (split_at plays i play lt c.play-item.is)
          ∙ ap (λ b. cond b (after_plays trump (next_trick trump before.trick play.card) (take_out play.card before.hidden) (narrowed play.seat before.trick.cards before.hidden play.card before.may) rest) None) (sym c.may_play.ensures ∙ c.if-not-may_play.false)
          ∙ sym (ap (λ k. after_plays trump k c.without-hidden.result c.narrow-may.result rest) c.add.ensures.value
          ∙ ap₂ (λ u m. after_plays trump (next_trick trump before.trick play.card) u m rest) c.without-hidden.ensures.value c.narrow-may.ensures);
    }
