use Rattle.std.proofs.Common.{◌≤◌, arith}
use Rattle.win_vectors.proofs.WordVectors.{widths-same}
use Rattle.win_vectors.proofs.Together.{dominates-by_words, Decides-by_words, dominates-by_word, Decides-by_word}
use Rattle.win_vectors.proofs.win_vector.WinVector.dominates.Goals as goal

pub returns-clause-value : goal.returns-clause-value
returns-clause-value c = dominates-by_words c.self.inside.width c.other.inside.width c.self.inside.words c.other.inside.words c.args.self c.args.other c.self.view_is c.other.view_is c.requires c.self.invariant c.other.invariant

pub returns-clause-meaning : goal.returns-clause-meaning
returns-clause-meaning c = Decides-by_words c.self.inside.width c.other.inside.width c.self.inside.words c.other.inside.words c.args.self c.args.other c.self.view_is c.other.view_is c.requires c.self.invariant c.other.invariant

pub returns-then-other-le-WORD_PLACES-clause-value : goal.returns-then-other-le-WORD_PLACES-clause-value
returns-then-other-le-WORD_PLACES-clause-value c =
    let same = widths-same c.self.inside.width c.other.inside.width c.self.inside.words c.other.inside.words c.args.self c.args.other c.self.view_is c.other.view_is c.requires in
    let narrow : c.self.inside.width ≤ 64 = omega arith in
    dominates-by_word c.self.inside.width c.other.inside.width c.self.inside.words c.other.inside.words c.args.self c.args.other c.self.view_is c.other.view_is c.requires c.self.invariant c.other.invariant narrow

pub returns-then-other-le-WORD_PLACES-clause-meaning : goal.returns-then-other-le-WORD_PLACES-clause-meaning
returns-then-other-le-WORD_PLACES-clause-meaning c =
    let same = widths-same c.self.inside.width c.other.inside.width c.self.inside.words c.other.inside.words c.args.self c.args.other c.self.view_is c.other.view_is c.requires in
    let narrow : c.self.inside.width ≤ 64 = omega arith in
    Decides-by_word c.self.inside.width c.other.inside.width c.self.inside.words c.other.inside.words c.args.self c.args.other c.self.view_is c.other.view_is c.requires c.self.invariant c.other.invariant narrow
