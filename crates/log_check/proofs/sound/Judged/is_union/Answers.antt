use Rattle.std.proofs.Common.{◌∙◌, ℕ, List, Contains, sym, subst}
use Rattle.win_vectors.specs.Fronts.{Vector, CoversAll}
use Rattle.log_check.specs.declared.lines.LogLine.{LogLine}
use Rattle.log_check.specs.Logs.{cited_lines, StandBehind}
use Rattle.log_check.proofs.sound.Judged.is_union.Goals as goal

pub returns : goal.returns
returns c =
    let cited = cited_lines c.args.self.now.earlier.now c.args.self.now.line.now.from in
    let covered = λ (vs : List Vector) (ns : List ℕ). (l : LogLine) → Contains (cited_lines c.args.self.now.earlier.now ns) l → CoversAll vs l.vectors in (
      λ h. record {
        goes_on = sym c.stops.ensures ∙ c.if-stops.false;
        ours = sym c.is_ours.ensures ∙ c.if-not-is_ours.false;
        behind = subst (λ (cs : List ℕ). StandBehind c.args.self.now.line.now.path cs cited) c.choices.ensures
            (subst (λ (ns : List ℕ). StandBehind c.args.self.now.line.now.path c.choices.result (cited_lines c.args.self.now.earlier.now ns)) c.as_slice-numbers.ensures
            (c.stand_behind.ensures.0 c.if-not-stand_behind.false));
        covered = subst (λ (vs : List Vector). covered vs c.args.self.now.line.now.from) c.as_slice.ensures
            (subst (λ (ns : List ℕ). covered c.as_slice.result.now ns) c.as_slice-numbers.ensures (c.covers_lines.ensures.0 h));
      },
      λ union. c.covers_lines.ensures.1
          (subst (λ (ns : List ℕ). covered c.as_slice.result.now ns) (sym c.as_slice-numbers.ensures)
          (subst (λ (vs : List Vector). covered vs c.args.self.now.line.now.from) (sym c.as_slice.ensures) union.covered)),
    )
