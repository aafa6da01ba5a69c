use Rattle.std.proofs.Common.{◌≡◌, length, take}
use Rattle.bit_questions.proofs.layouts.weights_at.Given as goal

abbrev pub invariant-loop-place : goal.invariant-loop-place
invariant-loop-place l = record { count : length l.all ≡ l.width; so_far : take l.place l.all ≡ take l.place l.weights }
