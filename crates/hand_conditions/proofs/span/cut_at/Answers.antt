use Rattle.std.proofs.Common.{◌+◌, take, drop, ap}
use Rattle.std.specs.Option.{option_map}
use Rattle.std.proofs.lemmas.List.{take_rest}
use Rattle.hand_conditions.proofs.span.cut_at.Goals as goal

pub returns-clause-value : goal.returns-clause-value
returns-clause-value c =
    let text = c.args.text.now in
    rw (take_rest text (c.in_ok-place.place + 1)) (ap (option_map (λ n. (take n text, drop (n + 1) text))) c.in_ok-place.ensures.value)
