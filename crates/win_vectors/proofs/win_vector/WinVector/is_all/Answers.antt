use Rattle.std.proofs.Common.{◌≡◌, ◌∙◌, sym, ap, length}
use Rattle.std.proofs.lemmas.Bool.{eq-eqb, eqb-true}
use Rattle.bit_lists.proofs.Words.{length-bits_of}
use Rattle.win_vectors.specs.Vectors.{ones_of}
use Rattle.win_vectors.proofs.VectorLemmas.{all-from_ones, ones_of-all}
use Rattle.win_vectors.proofs.win_vector.WinVector.is_all.Goals as goal

pub returns : goal.returns
returns c =
    let long : c.self.inside.width ≡ length c.args.self = sym (length-bits_of c.self.inside.width c.self.inside.words) ∙ ap length c.self.view_is in (
      λ e. all-from_ones c.args.self (sym c.count.ensures ∙ eqb-true c.count.result c.self.inside.width e ∙ long),
      λ e. eq-eqb c.count.result c.self.inside.width (c.count.ensures ∙ ap ones_of e ∙ ones_of-all (length c.args.self) ∙ sym long),
    )
