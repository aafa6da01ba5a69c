use Rattle.std.proofs.Common.{sym}
use Rattle.std.proofs.lemmas.Option.{slice_get_within, get_or_from_slice_get}
use Rattle.card_letters.specs.Letters.{letters_of}
use Rattle.log_texts.proofs.Pieces.{marked_more}
use Rattle.log_texts.proofs.writing.push_path.Goals as goal

pub loop-place-preserved : goal.loop-place-preserved
loop-place-preserved c = marked_more 46 letters_of c.args.text.now c.loop-place.text c.push_mark.new.text c.push-in-loop-place.new.self c.args.path.now c.loop-place.place
    c.get.result (slice_get_within c.args.path.now c.loop-place.place c.get.result c.get.ensures)
    (sym (get_or_from_slice_get c.args.path.now c.loop-place.place c.get.result c.get.result c.get.ensures)) c.loop-place.invariant
    c.in_ok-push_mark.ensures (rw c.letters_of.ensures at c.in_ok-push.ensures.appended)
