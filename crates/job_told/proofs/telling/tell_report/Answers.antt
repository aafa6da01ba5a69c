use Rattle.std.proofs.Common.{◌≡◌, ◌∙◌, ◌++◌, List, ℕ, length, All, sym, ap, ap₂, subst}
use Rattle.card_sets.specs.declared.seat.Compass.{Compass}
use Rattle.trick_rules.specs.Nodes.{NodeValue}
use Rattle.layout_list.specs.Kept.{KeptValue}
use Rattle.strategy_games.specs.Plans.{Fits}
use Rattle.strategy_tree.specs.Bridge.{bridge}
use Rattle.am_report.specs.Answers.{ReadEntryValue}
use Rattle.am_report.specs.Reading.{report_of}
use Rattle.told_report.specs.ToldReport.{AreWords}
use Rattle.job_told.proofs.GoodPlans.{plans_good, good_widths, good_plans, told_report}
use Rattle.job_told.proofs.telling.tell_report.Goals as goal

pub tell_strategies-requires : goal.tell_strategies-requires
tell_strategies-requires c =
    let root = c.args.root.now in
    let report = report_of c.in_ok-report.report in
    let good = plans_good root c.args.bytes.now report (length report.entries) c.in_ok-report.ensures.read c.in_ok-report.ensures.good in
    let weighed = ap (λ (k : KeptValue). length k.weights) c.kept.view_is ∙ c.requires.weighed in
    let node = sym (ap (λ (k : KeptValue). k.node) c.kept.view_is) in
    record {
      widths = subst (λ (entries : List ReadEntryValue). All (λ read. length c.kept.inside.weights ≡ length read.entry.vector) entries) (sym c.deref.ensures.value)
          (good_widths root.kept.node c.kept.inside.weights report.moves report.entries weighed good);
      fit = subst (λ (entries : List ReadEntryValue). All (λ read. (moves : ℕ) × Fits bridge read.entry.plan c.kept.inside.node moves) entries) (sym c.deref.ensures.value)
          (subst (λ (n : NodeValue). All (λ read. (moves : ℕ) × Fits bridge read.entry.plan n moves) report.entries) node (good_plans root.kept.node report.moves report.entries good));
    }

pub returns-clause-text : goal.returns-clause-text
returns-clause-text c =
    let root = c.args.root.now in
    let report = report_of c.in_ok-report.report in
    let words = c.in_ok-words.words in
    let entries = subst (λ (es : List ReadEntryValue). AreWords c.compass-declarer.result c.kept.inside.weights c.kept.inside.node es words) c.deref.ensures.value c.in_ok-words.ensures in
    let node = subst (λ (k : NodeValue). AreWords c.compass-declarer.result c.kept.inside.weights k report.entries words) (ap (λ (k : KeptValue). k.node) c.kept.view_is) entries in
    let weights = subst (λ (ws : List ℕ). AreWords c.compass-declarer.result ws root.kept.node report.entries words) (ap (λ (k : KeptValue). k.weights) c.kept.view_is) node in
    let whole = subst (λ (d : Compass). AreWords d root.kept.weights root.kept.node report.entries words) c.compass-declarer.ensures weights in
    told_report root c.args.bytes.now report words c.push.new.self c.in_ok-report.ensures.read c.in_ok-report.ensures.good whole (c.in_ok-push.ensures.appended ∙ ap₂ (λ (a b : List ℕ). a ++ b) c.in_ok-text.ensures c.bytes.ensures)
