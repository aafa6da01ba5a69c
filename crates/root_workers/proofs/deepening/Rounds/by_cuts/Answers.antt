use Rattle.std.proofs.Common.{◌≡◌, ◌∙◌, true, Err, ap, sym, true≢false}
use Rattle.std.specs.Prelude.{⊤}
use Rattle.cut_rules.specs.declared.CutRules.{CutRules}
use Rattle.root_workers.specs.Plain.{IsPlain}
use Rattle.root_workers.proofs.Founds.{found_by}
use Rattle.root_workers.proofs.RootEnds.{end_passed, fault_end, spent_end}
use Rattle.root_workers.proofs.Seen.{seen_more}
use Rattle.root_workers.proofs.deepening.Rounds.by_cuts.Goals as goal

pub returns-in_err-before-clause-answer : goal.returns-in_err-before-clause-answer
returns-in_err-before-clause-answer g c =
    let q = c.args.self.now.question.now in
    let n = q.node.now in
    end_passed n q.moves q.options.now.nodes q.weights.now _ _ _ c.from_residual.result c.in_err-before.field-0.0 c.from_residual.ensures.1
    (fault_end n q.moves q.options.now.nodes q.weights.now ⊤ ⊤ (IsPlain q.options.now) c.in_err-before.field-0.0 (λ card is. c.in_err-before.ensures.spent card (ap Err is))
    (λ plain card is. absurd (true≢false (sym c.requires.cuts ∙ plain.cuts))))

pub returns-clause-grown : goal.returns-clause-grown
returns-clause-grown g c = seen_more c.args.pass.now c.deepened.new.pass c.run_round.new.pass c.deepened.ensures.grown c.run_round.ensures.grown

pub returns-in_err-last-clause-answer : goal.returns-in_err-last-clause-answer
returns-in_err-last-clause-answer g c =
    let q = c.args.self.now.question.now in
    let n = q.node.now in
    end_passed n q.moves q.options.now.nodes q.weights.now _ _ _ c.from_residual-in_err-last.result c.in_err-last.field-0.0 c.from_residual-in_err-last.ensures.1
    (fault_end n q.moves q.options.now.nodes q.weights.now ⊤ ⊤ (IsPlain q.options.now) c.in_err-last.field-0.0
    (λ card is. (spent_end n q.moves q.options.now.nodes q.weights.now ⊤ ⊤ _ c.in_err-last.field-0.0 card is c.in_err-last.ensures.end).0)
    (λ plain card is. absurd (true≢false (sym c.requires.cuts ∙ plain.cuts))))

pub returns-in_err-last-clause-grown : goal.returns-in_err-last-clause-grown
returns-in_err-last-clause-grown g c = seen_more c.args.pass.now c.deepened.new.pass c.run_round.new.pass c.deepened.ensures.grown c.run_round.ensures.grown

pub returns-clause-answer : goal.returns-clause-answer
returns-clause-answer g c =
    let q = c.args.self.now.question.now in
    let end = c.in_ok-last.ensures.end in record {
      front = λ other. end.front (λ e. other (sym (ap (λ (r : CutRules). r.stop) c.all.ensures) ∙ e));
      founds = λ other. found_by q.node.now q.moves _ (q.options.now.cuts ≡ true) c.in_ok-last.last.founds.items (λ _. c.requires.cuts)
          (end.founds (λ e. other (sym (ap (λ (r : CutRules). r.stop) c.all.ensures) ∙ e)));
      card = end.card;
      weight = end.weight;
      within = c.larger-last.ensures.within q.options.now.nodes end.within c.in_ok-before.ensures.within;
      fits = λ plain. absurd (true≢false (sym c.requires.cuts ∙ plain.cuts));
    }
