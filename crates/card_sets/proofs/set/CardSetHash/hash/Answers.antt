use Rattle.std.proofs.Common.{sym, ap, ◌∙◌}
use Rattle.std.specs.Hash as fed
use Rattle.bit_lists.specs.Bits.{number_at}
use Rattle.bit_lists.proofs.Places.{number_at-places}
use Rattle.card_sets.proofs.set.CardSetHash.hash.Goals as goal

pub returns : goal.returns
returns g c =
    c.write_u64.ensures
    ∙ ap (λ n. g.H.Hasher.write c.args.state.now (fed.le_bytes 8 n)) (sym (number_at-places 52 c.self.inside.bits c.self.invariant) ∙ ap number_at c.self.view_is)
