use Rattle.std.proofs.Common.{◌≡◌, ◌++◌, flat_map, take}
use Rattle.page_text.specs.Refutations.{refutation_in}
use Rattle.page_text.proofs.refutations.push_each_refutation.Given as goal

abbrev pub invariant-loop-refuted : goal.invariant-loop-refuted
invariant-loop-refuted l = l.page ≡ l.initial.page ++ flat_map refutation_in (take l.refuted-index l.all)
