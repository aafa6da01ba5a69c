use Rattle.std.proofs.Common.{◌≡◌, ◌+◌, ◌≤◌, ◌∙◌, ℕ, List, [], length, take, sym, ap, subst, inl, inr}
use Rattle.std.proofs.lemmas.Bool.{false≢true}
use Rattle.std.proofs.lemmas.List.{take_all}
use Rattle.std.proofs.lemmas.List.Elements.{all_zip_more}
use Rattle.win_vectors.specs.Fronts.{Vector}
use Rattle.log_check.specs.declared.lines.LogLine.{LogLine}
use Rattle.log_check.specs.Logs.{IsSoundLine, AreSound, EndsAtRoot}
use Rattle.log_check.specs.Steps.{SayAlike, SayAllAlike}
use Rattle.log_check.proofs.Judged.{sound-none, sound-push, first_unsound}
use Rattle.log_check.proofs.Alike.{all-sym, sound-alike, are-alike, ends-alike}
use Rattle.log_check.proofs.check.check_log.Goals as goal

pub loop-place-init : goal.loop-place-init
loop-place-init c = record {
  sound = subst (λ (ls : List LogLine). AreSound c.args.node.now c.args.moves ls) (sym c.new-judged.ensures.items)
      (sound-none c.args.node.now c.args.moves c.as_slice-lines.result.now);
  alike = subst (λ (ls : List LogLine). SayAllAlike [] ls) (sym c.new-judged.ensures.items) tt;
}

pub is_sound-requires : goal.is_sound-requires
is_sound-requires c = subst (λ (ls : List LogLine). AreSound c.args.node.now c.args.moves ls) (sym c.deref.ensures.value) c.loop-place.invariant.sound

pub returns-then-not-branch : goal.returns-then-not-branch
returns-then-not-branch c =
    let earlier = take c.loop-place.place c.as_slice-lines.result.now in
    inl (first_unsound c.args.node.now c.args.moves c.as_slice-lines.result.now c.args.log.now c.loop-place.place
    c.index-lines-place.result c.as_slice-lines.ensures.value c.loop-place-test.true c.index-lines-place.is
    (are-alike c.args.node.now c.args.moves c.loop-place.judged.items earlier (all-sym earlier c.loop-place.judged.items c.loop-place.invariant.alike) c.loop-place.invariant.sound)
    (λ sound. false≢true (sym c.if-not-branch.true ∙ c.in_ok-is_sound.ensures.1
    (subst (λ (ls : List LogLine). IsSoundLine c.args.node.now c.args.moves ls c.in_ok-line.line) (sym c.deref.ensures.value)
    (sound-alike c.args.node.now c.args.moves earlier c.loop-place.judged.items c.index-lines-place.result c.in_ok-line.line
    c.loop-place.invariant.alike c.in_ok-line.ensures sound)))))

pub loop-place-preserved : goal.loop-place-preserved
loop-place-preserved c = record {
  sound = subst (λ (ls : List LogLine). AreSound c.args.node.now c.args.moves ls) (sym c.in_ok-push.ensures.items)
      (sound-push c.args.node.now c.args.moves c.loop-place.judged.items c.in_ok-line.line c.loop-place.invariant.sound
      (subst (λ (ls : List LogLine). IsSoundLine c.args.node.now c.args.moves ls c.in_ok-line.line) c.deref.ensures.value
      (c.in_ok-is_sound.ensures.0 c.if-not-branch.false)));
  alike = subst (λ (ls : List LogLine). SayAllAlike (take (c.loop-place.place + 1) c.as_slice-lines.result.now) ls) (sym c.in_ok-push.ensures.items)
      (all_zip_more SayAlike c.as_slice-lines.result.now c.loop-place.judged.items c.loop-place.place c.index-lines-place.result c.in_ok-line.line
      c.loop-place-test.true c.index-lines-place.is c.loop-place.invariant.alike c.in_ok-line.ensures);
}

-- the whole log is like what was judged
whole : (lines log judged : List LogLine) (place : ℕ) → lines ≡ log → length lines ≤ place → SayAllAlike (take place lines) judged → SayAllAlike log judged
whole lines log judged place same past alike = subst (λ (ls : List LogLine). SayAllAlike ls judged) (take_all place lines past ∙ same) alike

pub returns-then-ends_at_root : goal.returns-then-ends_at_root
returns-then-ends_at_root c =
    let n = c.args.node.now in
    let all = whole c.as_slice-lines.result.now c.args.log.now c.loop-place.judged.items c.loop-place.place c.as_slice-lines.ensures.value
    c.loop-place-test.false c.loop-place.invariant.alike in
    let back = all-sym c.args.log.now c.loop-place.judged.items all in
    record {
      sound = are-alike n c.args.moves c.loop-place.judged.items c.args.log.now back c.loop-place.invariant.sound;
      ends = ends-alike n c.args.moves c.in_ok-best.best c.args.vectors.now c.loop-place.judged.items c.args.log.now
          (c.in_ok-best.ensures.1, c.in_ok-best.ensures.0) back
          (subst (λ (vs : List Vector). EndsAtRoot vs c.loop-place.judged.items) c.as_slice.ensures
          (subst (λ (ls : List LogLine). EndsAtRoot c.as_slice.result.now ls) c.deref-2.ensures.value (c.ends_at_root.ensures.0 c.if-ends_at_root.true)));
    }

pub returns : goal.returns
returns c =
    let n = c.args.node.now in
    let all = whole c.as_slice-lines.result.now c.args.log.now c.loop-place.judged.items c.loop-place.place c.as_slice-lines.ensures.value
    c.loop-place-test.false c.loop-place.invariant.alike in
    inr (record {
      counted = ap (λ (ls : List LogLine). length ls + 1) c.as_slice-lines.ensures.value;
      sound = are-alike n c.args.moves c.loop-place.judged.items c.args.log.now (all-sym c.args.log.now c.loop-place.judged.items all) c.loop-place.invariant.sound;
      unended = λ ends. false≢true (sym c.if-ends_at_root.false ∙ c.ends_at_root.ensures.1
          (subst (λ (vs : List Vector). EndsAtRoot vs c.deref-2.result.now) (sym c.as_slice.ensures)
          (subst (λ (ls : List LogLine). EndsAtRoot c.in_ok-best.best ls) (sym c.deref-2.ensures.value)
          (ends-alike n c.args.moves c.args.vectors.now c.in_ok-best.best c.args.log.now c.loop-place.judged.items c.in_ok-best.ensures all ends))));
    })
