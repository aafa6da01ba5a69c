use Rattle.std.proofs.Common.{◌∙◌, ap, ◌++◌}
use Rattle.review_text.specs.Texts.{review_text, decisions_text}
use Rattle.review_text.proofs.text.review_text.Goals as goal

pub returns : goal.returns
unfolding review_text
returns c = c.in_ok-push_decisions.ensures ∙ ap (λ text. text ++ decisions_text c.args.told.now) c.in_ok-text.ensures
