use Rattle.std.proofs.Common.{◌∙◌, All, subst, sym, ap₂, arith}
use Rattle.std.specs.Prelude.{IfOk}
use Rattle.std.proofs.lemmas.List.Elements.{All-push}
use Rattle.am_answer.specs.Answers.{IsRoot, game_root}
use Rattle.am_inputs.proofs.GamesRead.{files_of, roots-next, roots-all}
use Rattle.am_inputs.proofs.boards.roots_of.Goals as goal

pub loop-place-preserved : goal.loop-place-preserved
loop-place-preserved c = record {
  so_far = roots-next (files_of c.args.games.now c.args.layouts.now) c.loop-place.place c.index-games-place.result c.index-layouts-place.result c.loop-place.roots.items c.push.new.self.items c.in_ok-found.found (omega (arith, c.min-count.ensures, c.loop-place-test.true)) c.loop-place.invariant.so_far
      (c.in_ok-found.ensures.found ∙ ap₂ game_root c.index-games-place.is c.index-layouts-place.is) c.in_ok-push.ensures.items;
  are_roots = subst (All (λ found. IfOk found IsRoot)) (sym c.in_ok-push.ensures.items) (All-push (λ found. IfOk found IsRoot) c.loop-place.roots.items c.in_ok-found.found c.loop-place.invariant.are_roots c.in_ok-found.ensures.is_root);
}

pub returns-clause-roots : goal.returns-clause-roots
returns-clause-roots c = roots-all (files_of c.args.games.now c.args.layouts.now) c.loop-place.place c.loop-place.roots.items (λ less. omega (arith, less, c.min-count.ensures, c.loop-place-test.false)) c.loop-place.invariant.so_far
