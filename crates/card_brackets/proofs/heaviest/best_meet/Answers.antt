use Rattle.std.proofs.Common.{◌≡◌, ◌∙◌, ◌∷◌, [], List, Contains, length, sym, subst}
use Rattle.std.proofs.lemmas.Option.{get_or_from_slice_get, slice_get_within}
use Rattle.win_vectors.specs.Fronts.{Vector, IsReduced}
use Rattle.card_brackets.proofs.HeavyVectors.{met_of, met_filled}
use Rattle.card_brackets.proofs.heaviest.best_meet.Goals as goal

pub first_best-requires-clause-filled : goal.first_best-requires-clause-filled
first_best-requires-clause-filled c =
    let one = subst (λ (old : List Vector). IsReduced (c.args.vector ∷ old) c.insert.new.self.vectors) c.new-single.ensures.empty c.in_ok-insert.ensures.ok in
    met_filled c.args.vector c.insert.new.self.vectors c.args.after.now.front.vectors c.in_ok-joined.joined.vectors c.args.after.now.mask one c.in_ok-joined.ensures.reduced c.requires.filled

pub returns-clause-met : goal.returns-clause-met
returns-clause-met c =
    let one = subst (λ (old : List Vector). IsReduced (c.args.vector ∷ old) c.insert.new.self.vectors) c.new-single.ensures.empty c.in_ok-insert.ensures.ok in
    let front : List Vector = c.in_ok-joined.joined.vectors in
    let best = c.first_best.ensures.best in
    let found : Vector = c.first_best.result in
    let among : Contains front found = (best.place, slice_get_within front best.place found best.here, get_or_from_slice_get front best.place found found best.here) in
    met_of c.args.vector c.insert.new.self.vectors c.args.after.now.front.vectors front c.args.after.now.mask one c.in_ok-joined.ensures.reduced found among
