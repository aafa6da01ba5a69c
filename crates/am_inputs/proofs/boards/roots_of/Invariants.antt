use Rattle.std.proofs.Common.{◌≡◌, All, take}
use Rattle.std.specs.Prelude.{IfOk}
use Rattle.am_answer.specs.Answers.{IsRoot, game_roots}
use Rattle.am_inputs.proofs.GamesRead.{files_of}
use Rattle.am_inputs.proofs.boards.roots_of.Given as goal

abbrev pub invariant-loop-place : goal.invariant-loop-place
invariant-loop-place l = record {
  so_far : l.roots.items ≡ take l.place (game_roots (files_of l.games l.layouts));
  are_roots : All (λ found. IfOk found IsRoot) l.roots.items;
}
