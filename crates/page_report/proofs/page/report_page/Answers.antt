use Rattle.std.proofs.Common.{◌≡◌, ◌∙◌, ℕ, List, All, length, ap, sym, subst}
use Rattle.trick_rules.specs.Nodes.{NodeValue}
use Rattle.layout_list.specs.Kept.{KeptValue}
use Rattle.strategy_games.specs.Plans.{Fits}
use Rattle.strategy_tree.specs.Bridge.{bridge}
use Rattle.am_report.specs.Answers.{ReadEntryValue}
use Rattle.page_report.proofs.MoreLines.{one_each}
use Rattle.page_report.proofs.page.report_page.Goals as goal

-- the same entries fit the same node
fit_there : (node there : NodeValue) (entries same : List ReadEntryValue) → entries ≡ same → node ≡ there → All (λ read. (moves : ℕ) × Fits bridge read.entry.plan node moves) entries
    → All (λ read. (moves : ℕ) × Fits bridge read.entry.plan there moves) same
fit_there node there entries same is_same is_there fit =
    subst (λ (es : List ReadEntryValue). All (λ read. (moves : ℕ) × Fits bridge read.entry.plan there moves) es) is_same
    (subst (λ (n : NodeValue). All (λ read. (moves : ℕ) × Fits bridge read.entry.plan n moves) entries) is_there fit)

pub lines_of-requires : goal.lines_of-requires
lines_of-requires c = record {
  fit = fit_there _ _ _ _ (sym c.deref.ensures.value) (sym (ap (λ (k : KeptValue). k.node) c.kept.view_is))
      (λ i d low. (c.args.shown.now.report.now.moves, c.requires.fit i d low));
}

pub refuted_of-requires : goal.refuted_of-requires
refuted_of-requires c = record {
  fit = fit_there _ _ _ _ (sym c.deref-2.ensures.value) (sym (ap (λ (k : KeptValue). k.node) c.kept.view_is))
      (λ i d low. (c.args.shown.now.report.now.moves, c.requires.fit i d low));
  one_each = ap length c.deref-3.ensures.value ∙ one_each _ _ _ _ c.in_ok-lines.ensures ∙ ap length (c.deref.ensures.value ∙ sym c.deref-2.ensures.value);
}

pub besides_of-requires : goal.besides_of-requires
besides_of-requires c =
    let node = c.args.shown.now.kept.now.node in
    let moves = c.args.shown.now.report.now.moves in
    record {
      node = node;
      moves = moves;
      fit = subst (λ (es : List ReadEntryValue). All (λ read. Fits bridge read.entry.plan node moves) es) (sym c.deref-5.ensures.value) c.requires.fit;
    }

pub played_lines-requires : goal.played_lines-requires
played_lines-requires c = record {
  fit = fit_there _ _ _ _ (sym c.deref-6.ensures.value) (sym (ap (λ (k : KeptValue). k.node) c.kept.view_is))
      (λ i d low. (c.args.shown.now.report.now.moves, c.requires.fit i d low));
}
