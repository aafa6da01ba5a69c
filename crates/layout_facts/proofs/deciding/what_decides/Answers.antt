use Rattle.std.proofs.Common.{◌≡◌, ◌∙◌, true, false, List, length, map, All, sym, ap, subst, rules}
use Rattle.layout_facts.specs.declared.judged.Judged.{Judged}
use Rattle.layout_facts.specs.Facts.{facts}
use Rattle.layout_facts.specs.Reasons.{judge}
use Rattle.layout_facts.proofs.Splitting.{all_wide, decided_by_table, decided_by_none}
use Rattle.layout_facts.proofs.deciding.what_decides.Goals as goal

pub returns-then-not-is_split : goal.returns-then-not-is_split
returns-then-not-is_split c =
    let not_split : c.is_split.result ≡ false = search rules in
    decided_by_none c.args.node.now c.args.vector (sym c.is_split.ensures ∙ not_split)

pub first_reason-requires : goal.first_reason-requires
first_reason-requires c =
    let n = c.args.node.now in
    let table : c.deref-2.result.now ≡ map (judge n) facts = c.deref-2.ensures.value ∙ c.in_ok-table.ensures ∙ ap (map (judge n)) (c.deref.ensures.value ∙ c.in_ok-listed.ensures) in
    subst (λ (entries : List Judged). All (λ (first : Judged). All (λ (second : Judged). length first.vector ≡ length second.vector) entries) entries) (sym table) (all_wide n facts)

pub returns : goal.returns
returns c =
    let n = c.args.node.now in
    let table : c.deref-2.result.now ≡ map (judge n) facts = c.deref-2.ensures.value ∙ c.in_ok-table.ensures ∙ ap (map (judge n)) (c.deref.ensures.value ∙ c.in_ok-listed.ensures) in
    let split : c.is_split.result ≡ true = search rules in
    decided_by_table n c.args.vector c.first_reason.result c.deref-2.result.now (sym c.is_split.ensures ∙ split) table c.first_reason.ensures
