use Rattle.std.proofs.Common.{refl, codes}
use Rattle.job_words.specs.Values.{job_named}
use Rattle.job_words.proofs.TextLemmas.{bytes_ne}
use Rattle.job_words.proofs.values.job_named.Goals as goal

pub returns-in_default : goal.returns-in_default
unfolding job_named
returns-in_default c =
    let solve = bytes_ne c.args.name.now (codes "solve") c.in_default.not-solve in
    let card = bytes_ne c.args.name.now (codes "card") c.in_default.not-card in
    let played = bytes_ne c.args.name.now (codes "match") c.in_default.not-match in
    let fusion = bytes_ne c.args.name.now (codes "fusion") c.in_default.not-fusion in
    let list = bytes_ne c.args.name.now (codes "list") c.in_default.not-list in
    let check = bytes_ne c.args.name.now (codes "check") c.in_default.not-check in
    let made = bytes_ne c.args.name.now (codes "made") c.in_default.not-made in
    let prove = bytes_ne c.args.name.now (codes "prove") c.in_default.not-prove in
    let audit = bytes_ne c.args.name.now (codes "audit") c.in_default.not-audit in
    let boards = bytes_ne c.args.name.now (codes "boards") c.in_default.not-boards in
    rw (solve, card, played, fusion, list, check, made, prove, audit, boards) refl
