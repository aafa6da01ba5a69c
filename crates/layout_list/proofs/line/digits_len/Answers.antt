use Rattle.std.proofs.Common.{◌≡◌, ℕ, true, take, sym, ◌∙◌, rules, tests, subst}
use Rattle.std.specs.Str.{all_ascii_digits}
use Rattle.std.proofs.lemmas.Iterator.{YieldsList-from_slice}
use Rattle.std.proofs.lemmas.Iterator.Search.{position_from_yields_List}
use Rattle.byte_text.proofs.Places.{end_from_position}
use Rattle.layout_list.specs.Lines.{ends_digits}
use Rattle.layout_list.proofs.ReadWeights.{digits_at_front}
use Rattle.layout_list.proofs.line.digits_len.Goals as goal

pub returns-clause-len : goal.returns-clause-len
returns-clause-len c =
    let text = c.args.text.now in
    let found = position_from_yields_List ends_digits _ _ c.position.result c.position.ensures.ran (YieldsList-from_slice text cc) (λ x b q k. search (rules, tests)) in
    c.unwrap_or.ensures ∙ end_from_position ends_digits text c.position.result found

pub returns-clause-digits : goal.returns-clause-digits
returns-clause-digits c = subst (λ (n : ℕ). all_ascii_digits (take n c.args.text.now) ≡ true) (sym (returns-clause-len c)) (digits_at_front c.args.text.now)
