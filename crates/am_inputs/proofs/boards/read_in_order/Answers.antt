use Rattle.std.proofs.Common.{◌≡◌, ◌∙◌, ◌+◌, ◌≤◌, ℕ, List, Ok, length, sym, subst, arith}
use Rattle.std.specs.Prelude.{IfSome}
use Rattle.std.proofs.lemmas.List.Elements.{All-push}
use Rattle.am_answer.specs.declared.status.FileWord.TheVariants.{Layouts}
use Rattle.am_answer.specs.Files.{file_read, layouts_from, limit_of, AreWithinLimit}
use Rattle.am_answer.specs.Games.{layouts_name}
use Rattle.am_answer.specs.Stages.{IsReadRefusal}
use Rattle.am_inputs.proofs.InOrder.{HasRead, one-more-read, one-refused, passed-refusal}
use Rattle.am_inputs.proofs.boards.read_in_order.Goals as goal

pub returns-in_err-text-clause-refused : goal.returns-in_err-text-clause-refused
returns-in_err-text-clause-refused g c =
    let told = g.S.Shelf.told c.args.shelf.now in
    let status = c.in_err-text.field-0.0 in
    let named : c.as_str.result.now ≡ layouts_name c.args.name.now (c.loop-place.place + 1) = c.as_str.ensures.value ∙ c.in_ok-file.ensures in
    let here = subst (λ t. IfSome t (λ files. IsReadRefusal (file_read files Layouts c.as_str.result.now) status)) c.loop-place.invariant.told c.in_err-text.ensures.refused in
    passed-refusal c.from_residual-in_err-text.result status told (λ files. IsReadRefusal (layouts_from files c.args.name.now 1 c.args.count)) c.from_residual-in_err-text.ensures.1
    (one-refused told c.args.name.now c.args.count c.loop-place.texts.items c.loop-place.place status c.loop-place-test.true c.loop-place.invariant.read
    (subst (λ name. IfSome told (λ files. IsReadRefusal (file_read files Layouts name) status)) named here))

pub loop-place-preserved : goal.loop-place-preserved
loop-place-preserved g c =
    let told = g.S.Shelf.told c.args.shelf.now in
    let named : c.as_str.result.now ≡ layouts_name c.args.name.now (c.loop-place.place + 1) = c.as_str.ensures.value ∙ c.in_ok-file.ensures in
    let here = subst (λ t. IfSome t (λ files. file_read files Layouts c.as_str.result.now ≡ Ok c.in_ok-text.text)) c.loop-place.invariant.told c.in_ok-text.ensures.read in
    record {
      told = c.read_file.ensures.same_files ∙ c.loop-place.invariant.told;
      read = subst (λ texts. HasRead told c.args.name.now c.args.count texts (c.loop-place.place + 1)) (sym c.in_ok-push.ensures.items)
          (one-more-read told c.args.name.now c.args.count c.loop-place.texts.items c.in_ok-text.text c.loop-place.place c.loop-place-test.true c.loop-place.invariant.read
          (subst (λ name. IfSome told (λ files. file_read files Layouts name ≡ Ok c.in_ok-text.text)) named here));
      within = subst AreWithinLimit (sym c.in_ok-push.ensures.items) (All-push (λ (text : List ℕ). length text ≤ limit_of Layouts) c.loop-place.texts.items c.in_ok-text.text c.loop-place.invariant.within c.in_ok-text.ensures.within);
      never_falls = λ other. omega (arith, c.loop-place.invariant.never_falls other, c.read_file.ensures.never_falls other);
    }
