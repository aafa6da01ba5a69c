use Rattle.std.proofs.Common.{◌≡◌, ◌≢◌, ◌∙◌, ℕ, [], false, refl, List, sym, subst}
use Rattle.std.proofs.lemmas.Bool.{false≢true, true≢false}
use Rattle.win_vectors.specs.Fronts.{Vector, CoversAll}
use Rattle.log_check.specs.Logs.{cited_lines}
use Rattle.log_check.specs.Steps.{StandBehindSome}
use Rattle.log_check.proofs.CitedLines.{refute}
use Rattle.log_check.proofs.Judged.{none_in, some_in, join_some, join_from, join_covers}
use Rattle.log_check.proofs.sound.Judged.is_join.Goals as goal
use Rattle.log_check.proofs.sound.Judged.is_join.Goals.{then-stops-via-then-stops, then-stops-via-else-stops+then-is_ours, then-stops-via-else-stops+else-is_ours+then-is_empty, then-stops-via-else-stops+else-is_ours+else-is_empty+then-not-stand_behind_some}

pub returns-then-stops : goal.returns-then-stops
returns-then-stops c =
    let cited = cited_lines c.args.self.now.earlier.now c.args.self.now.line.now.from in
    elim c.then-stops.branch [
      | then-stops-via-then-stops w ↦ refute (λ j. true≢false (sym w.if-stops.true ∙ c.stops.ensures ∙ j.goes_on)) false refl
      | then-stops-via-else-stops+then-is_ours w ↦ refute (λ j. true≢false (sym w.if-is_ours.true ∙ w.is_ours.ensures ∙ j.theirs)) false refl
      | then-stops-via-else-stops+else-is_ours+then-is_empty w ↦
          (let none : c.args.self.now.line.now.from ≡ [] = none_in c.as_slice-numbers.result.now c.args.self.now.line.now.from c.as_slice-numbers.ensures (sym w.is_empty.ensures ∙ w.if-is_empty.true) in
          refute (λ j. j.some none) false refl)
      | then-stops-via-else-stops+else-is_ours+else-is_empty+then-not-stand_behind_some w ↦
          refute (λ j. false≢true (sym w.if-not-stand_behind_some.true ∙ w.stand_behind_some.ensures.1
          (subst (λ (ns : List ℕ). StandBehindSome c.args.self.now.line.now.path w.choices.result 0 (cited_lines c.args.self.now.earlier.now ns)) (sym c.as_slice-numbers.ensures)
          (subst (λ (cs : List ℕ). StandBehindSome c.args.self.now.line.now.path cs 0 cited) (sym w.choices.ensures)
          (join_some c.args.self.now.node.now c.args.self.now.line.now cited j))))) false refl
    ]

pub returns : goal.returns
returns c =
    let cited = cited_lines c.args.self.now.earlier.now c.args.self.now.line.now.from in
    let on = sym c.stops.ensures ∙ c.if-stops.false in
    let theirs = sym c.is_ours.ensures ∙ c.if-is_ours.false in
    let some : c.args.self.now.line.now.from ≢ [] = some_in c.as_slice-numbers.result.now c.args.self.now.line.now.from c.as_slice-numbers.ensures (sym c.is_empty.ensures ∙ c.if-is_empty.false) in
    let behind = subst (λ (cs : List ℕ). StandBehindSome c.args.self.now.line.now.path cs 0 cited) c.choices.ensures
    (subst (λ (ns : List ℕ). StandBehindSome c.args.self.now.line.now.path c.choices.result 0 (cited_lines c.args.self.now.earlier.now ns)) c.as_slice-numbers.ensures
    (c.stand_behind_some.ensures.0 c.if-not-stand_behind_some.false)) in (
      λ h. join_from c.args.self.now.node.now c.args.self.now.line.now cited c.in_ok-front.front.vectors on theirs some behind c.in_ok-front.ensures
          (subst (λ (vs : List Vector). CoversAll vs c.in_ok-front.front.vectors) c.as_slice.ensures
          (subst (λ (vs : List Vector). CoversAll c.as_slice.result.now vs) c.as_slice-2.ensures.value (c.covers_all.ensures.0 h))),
      λ j. c.covers_all.ensures.1
          (subst (λ (vs : List Vector). CoversAll c.as_slice.result.now vs) (sym c.as_slice-2.ensures.value)
          (subst (λ (vs : List Vector). CoversAll vs c.in_ok-front.front.vectors) (sym c.as_slice.ensures)
          (join_covers c.args.self.now.node.now c.args.self.now.line.now cited c.in_ok-front.front.vectors j c.in_ok-front.ensures))),
    )
