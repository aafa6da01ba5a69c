use Rattle.std.proofs.Common.{◌≡◌, ◌∷◌, rules}
use Rattle.log_texts.specs.Reading.{pieces_at}
use Rattle.log_texts.proofs.SaidLines.{words_said-beyond}
use Rattle.log_texts.proofs.reading.words_of.Goals as goal

pub returns-in-Some : goal.returns-in-Some
returns-in-Some c =
    let first : pieces_at 32 c.args.line.now ≡ c.split_at_mark.result.0.now ∷ pieces_at 32 c.in_ok-rest.field-0.now = search rules in
    let second : pieces_at 32 c.in_ok-rest.field-0.now ≡ c.split_at_mark-2.result.0.now ∷ pieces_at 32 c.in_ok-rest-2.field-0.now = search rules in
    let third : pieces_at 32 c.in_ok-rest-2.field-0.now ≡ c.split_at_mark-3.result.0.now ∷ pieces_at 32 c.in_ok-rest-3.field-0.now = search rules in
    let fourth : pieces_at 32 c.in_ok-rest-3.field-0.now ≡ c.split_at_mark-4.result.0.now ∷ pieces_at 32 c.in_ok-rest-4.field-0.now = search rules in
    let fifth : pieces_at 32 c.in_ok-rest-4.field-0.now ≡ c.split_at_mark-5.result.0.now ∷ pieces_at 32 c.in-Some.field-0.now = rw c.in-Some.is at c.split_at_mark-5.ensures.pieces in
    words_said-beyond c.args.line.now _ _ _ _ _ c.in_ok-rest.field-0.now c.in_ok-rest-2.field-0.now c.in_ok-rest-3.field-0.now c.in_ok-rest-4.field-0.now c.in-Some.field-0.now first second third fourth fifth
