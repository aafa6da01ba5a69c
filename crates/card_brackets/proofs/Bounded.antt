-- The bounds of a row, with every greater number of moves.
use Rattle.std.proofs.Common.{◌-◌}
use Rattle.win_vectors.specs.Weights.{weight_of}
use Rattle.win_vectors.proofs.WeightLemmas.{weight_of-monotone}
use Rattle.trick_rules.specs.Nodes.{child}
use Rattle.strategy_tree.proofs.Rules.{lawful}
use Rattle.sure_nodes.proofs.SureBridge.{bracket}
use Rattle.card_brackets.specs.Rows.{RowsBracket}
use Rattle.card_brackets.proofs.Leading.{best_after}

pub rows_bracket : RowsBracket
rows_bracket n weights moves extra card row best sound choice is won =
    let law = bracket (weight_of weights) (weight_of-monotone weights) in
    let below = lawful.holds n card sound choice in
    (law.low (child n card) (moves - 1) extra row.least best below is.least won, law.high (child n card) (moves - 1) extra best row.most below won (best_after n weights moves card row is))
