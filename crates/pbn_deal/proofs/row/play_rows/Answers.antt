use Rattle.std.proofs.Common.{◌≡◌, ◌++◌, sym, ap, ◌∙◌, true, None}
use Rattle.std.specs.Prelude.{is_ok, cond, option_copied}
use Rattle.pbn_deal.specs.Rows.{rows_of, first_entry, in_turn, gap_line, row_played}
use Rattle.pbn_deal.proofs.RowSteps.{rows_more, first_entry-rows_of}
use Rattle.pbn_deal.proofs.row.play_rows.Goals as goal

pub loop-rest-preserved : goal.loop-rest-preserved
loop-rest-preserved c =
    let row = c.split_row-row.result.0 in
    let others = rows_of c.split_row-row.result.1.now in
    let leader = c.loop-rest.course.trick.leader in
    let ok : is_ok c.extend_from_slice.result ≡ true = sym c.map_err.ensures.variant ∙ ap is_ok c.in_ok-map_err.was in
    let added = c.extend_from_slice.ensures.items ∙ ap (λ b. cond b (c.loop-rest.plays.items ++ c.deref.result.now) c.loop-rest.plays.items) ok ∙ ap (λ xs. c.loop-rest.plays.items ++ xs) c.deref.ensures.value in
    let turned : c.in_turn-row.result ≡ in_turn c.args.first leader row = c.in_turn-row.ensures ∙ ap (λ k. in_turn c.args.first k.trick.leader row) c.course.view_is in
    let whole : gap_line (in_turn c.args.first leader row) (first_entry others) ≡ None =
    ap (gap_line (in_turn c.args.first leader row)) (first_entry-rows_of c.split_row-row.result.1.now ∙ sym c.first.ensures.value)
    ∙ ap (λ r. gap_line r (option_copied c.first.result)) (sym turned) ∙ sym c.gap_line.ensures ∙ c.in_default.is in
    let played = sym (ap (row_played c.args.trump c.loop-rest.tricks_left c.loop-rest.course) turned) ∙ c.in_ok-more.ensures.plays in
    record {
      short = c.play_row.ensures.short;
      read = rows_more c.args.trump c.args.first c.args.tricks c.loop-rest.tricks_left c.saturating_sub-tricks_left.result c.args.course.now c.loop-rest.course c.play_row.new.course
          (rows_of c.args.entries.now) (rows_of c.loop-rest.rest.now) others row c.loop-rest.plays.items c.in_ok-more.more.items c.extend_from_slice.new.self.items
          c.loop-rest.invariant.read c.split_row-row.ensures.row whole played c.in_ok-more.ensures.after c.saturating_sub-tricks_left.ensures added;
    }
