use Rattle.std.proofs.Common.{◌∙◌, sym, rules, tests, codes, string_bytes}
use Rattle.std.specs.Str.{bytes_eq}
use Rattle.std.proofs.lemmas.Iterator.Search.{any_from_yields_List}
use Rattle.std.proofs.lemmas.Iterator.{YieldsList-from_slice}
use Rattle.job_words.proofs.TextLemmas.{list_any-map}
use Rattle.job_words.proofs.place.has_two_dashes.Goals as goal

pub returns : goal.returns
returns c =
    any_from_yields_List (λ word. bytes_eq (string_bytes word) (codes "--")) _ _ c.any.result c.any.ensures.ran (YieldsList-from_slice c.args.words.now cc) (λ x b q k. search (rules, tests))
    ∙ sym (list_any-map (λ text. bytes_eq text (codes "--")) (λ word. string_bytes word) c.args.words.now)
