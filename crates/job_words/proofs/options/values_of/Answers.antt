use Rattle.std.proofs.Common.{◌≡◌, ◌∙◌, ℕ, List, [], map, sym, ap, Some, None}
use Rattle.std.specs.Prelude.{option_map, unwrap_or}
use Rattle.std.specs.Borrow.{Bor}
use Rattle.std.proofs.lemmas.Result.{IfOk-weaker}
use Rattle.clap.specs.Words.{all_of, found_of, rows_of}
use Rattle.clap.proofs.WalkLemmas.{raw_values-rows}
use Rattle.job_words.proofs.options.values_of.Goals as goal

-- the texts of values
abbrev texts : Bor (List (Bor (List ℕ))) → List (List ℕ)
texts values = map (λ (v : Bor (List ℕ)). v.now) values.now

pub returns-in-Some : goal.returns-in-Some
returns-in-Some c =
    let found = found_of c.args.matches.now in
    let rows : option_map texts c.get_strs.result ≡ all_of c.args.name.now (rows_of found) = c.get_strs.ensures ∙ raw_values-rows found c.args.name.now in
    let given = ap (λ o. unwrap_or o []) (sym (ap (option_map texts) c.in-Some.is) ∙ rows) in
    IfOk-weaker c.from_slice.result _ _ (λ values is. ap (map (λ (v : Bor (List ℕ)). v.now)) is ∙ given) c.from_slice.ensures.items

pub returns-in-None : goal.returns-in-None
returns-in-None c =
    let found = found_of c.args.matches.now in
    let rows : option_map texts c.get_strs.result ≡ all_of c.args.name.now (rows_of found) = c.get_strs.ensures ∙ raw_values-rows found c.args.name.now in
    ap (map (λ (v : Bor (List ℕ)). v.now)) c.new.ensures.items ∙ ap (λ o. unwrap_or o []) (sym (ap (option_map texts) c.in-None.is) ∙ rows)
