use Rattle.std.proofs.Common.{◌≡◌, ◌+◌, [], ◌∷◌, ◌++◌, drop, sym, ap, ◌∙◌, arith, true}
use Rattle.std.specs.Prelude.{is_ok, cond}
use Rattle.pbn_deal.specs.Boards.{next_course, course_after}
use Rattle.pbn_deal.proofs.CourseSteps.{course_after-append}
use Rattle.pbn_deal.proofs.RowSteps.{row_more}
use Rattle.pbn_deal.proofs.Split.{split_at}
use Rattle.pbn_deal.proofs.row.play_row.Goals as goal

pub loop-entry-preserved : goal.loop-entry-preserved
loop-entry-preserved c =
    let entry = c.entry-item.result in
    let row = c.args.row.now in
    let i = c.loop-entry.entry-index in
    let ok : is_ok c.push.result ≡ true = sym c.map_err.ensures.variant ∙ ap is_ok c.in_ok-map_err.was in
    let pushed = c.push.ensures.items ∙ ap (λ b. cond b (c.loop-entry.plays.items ++ record { seat = c.to_play-seat.result; card = c.in-Some.card } ∷ []) c.loop-entry.plays.items) ok in
    let fair = sym c.card_fault.ensures ∙ c.in_default-card_fault.is in
    record {
      short = c.play.ensures.short;
      after =
          c.play.ensures.value ∙ ap (λ k. next_course c.args.trump k c.in-Some.card) c.loop-entry.invariant.after
          ∙ sym (ap (course_after c.args.trump c.args.course.now) pushed ∙ course_after-append c.args.trump c.args.course.now c.loop-entry.plays.items (record { seat = c.to_play-seat.result; card = c.in-Some.card } ∷ []));
      read = row_more c.args.trump c.args.tricks c.args.course.now c.loop-entry.course c.play.new.self row (drop i row) (drop (i + 1) row) entry c.in-Some.card c.to_play-seat.result c.loop-entry.plays.items c.push.new.self.items c.loop-entry.invariant.read (split_at row i entry (omega arith) c.entry-item.is) c.in-Some.is c.to_play-seat.ensures fair c.play.ensures.value pushed;
    }
