use Rattle.std.proofs.Common.{◌≡◌, ◌+◌, ◌++◌, ◌≤◌, [], drop, length}
use Rattle.std.specs.Prelude.{All, MatchOption}
use Rattle.std.specs.List.{enumerate_from}
use Rattle.win_vectors.specs.Weights.{IsWeight}
use Rattle.layout_list.specs.Layouts.{numbers_kept, weights_kept, lefts_kept, dropped, IsAfter}
use Rattle.layout_list.proofs.list.keep_or_drop.Given as goal

-- what is sorted so far comes before what the layouts left come to
abbrev pub invariant-loop-index : goal.invariant-loop-index
invariant-loop-index l = record {
  count : length l.sorting.lefts.items ≤ l.index;
  numbers : numbers_kept l.plays l.start (enumerate_from 1 l.layouts) ≡ l.sorting.numbers.items ++ numbers_kept l.plays l.start (enumerate_from (l.index + 1) (drop l.index l.layouts));
  weights : weights_kept l.plays l.start (enumerate_from 1 l.layouts) ≡ l.sorting.weights.items ++ weights_kept l.plays l.start (enumerate_from (l.index + 1) (drop l.index l.layouts));
  weighed : All IsWeight l.sorting.weights.items;
  as_many : length l.sorting.weights.items ≡ length l.sorting.lefts.items;
  lefts : lefts_kept l.plays l.start (enumerate_from 1 l.layouts) ≡ l.sorting.lefts.items ++ lefts_kept l.plays l.start (enumerate_from (l.index + 1) (drop l.index l.layouts));
  ruled_out : dropped l.plays l.start (enumerate_from 1 l.layouts) ≡ l.sorting.dropped.items ++ dropped l.plays l.start (enumerate_from (l.index + 1) (drop l.index l.layouts));
  position : MatchOption l.sorting.position (l.sorting.lefts.items ≡ []) (IsAfter l.plays l.start l.sorting.lefts.items);
}
