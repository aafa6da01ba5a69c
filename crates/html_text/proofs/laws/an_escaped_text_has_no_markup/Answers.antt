use Rattle.html_text.proofs.Escaped.{no_markup}
use Rattle.html_text.proofs.laws.an_escaped_text_has_no_markup.Goals as goal

pub returns-clause-signs : goal.returns-clause-signs
returns-clause-signs c = no_markup
