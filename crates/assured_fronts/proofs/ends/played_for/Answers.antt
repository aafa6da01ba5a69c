use Rattle.std.proofs.Common.{◌≡◌, ◌<◌, ◌≤◌, ◌&&◌, ℕ, Bool, List, [], length, get_or, set, sym, ap, ap₂, ◌∙◌, arith, rules}
use Rattle.std.specs.Prelude.{nat_eq}
use Rattle.std.specs.Cmp.Lexicographic.{pointwise}
use Rattle.std.proofs.lemmas.Option.{get_or_from_slice_get}
use Rattle.trick_rules.specs.Play.{makes}
use Rattle.double_dummy.proofs.LayoutResults.{results_upto, results_upto-more}
use Rattle.assured_fronts.specs.AssuredAt.{won_playing_for}
use Rattle.assured_fronts.proofs.Leaves.{made_wide, made_at, upto_won}
use Rattle.assured_fronts.proofs.ends.played_for.Goals as goal

pub get-requires : goal.get-requires
get-requires c =
    let wide = made_wide c.args.node.now c.args.made c.requires.made in
    let low : c.loop-other.other < length c.args.node.now.lefts = search rules in
    omega arith

pub loop-other-preserved : goal.loop-other-preserved
loop-other-preserved c =
    let n = c.args.node.now in
    let F : List ℕ → Bool = λ left. pointwise nat_eq c.left-chosen.result left && makes (record { position = n.position; left = left }) in
    let is : c.left-left.result ≡ get_or n.lefts c.loop-other.other c.left-left.result = sym (get_or_from_slice_get n.lefts c.loop-other.other c.left-left.result c.left-left.result c.left-left.ensures) in
    let low : c.loop-other.other < length n.lefts = search rules in
    let made : c.get.result ≡ makes (record { position = n.position; left = c.left-left.result }) = made_at n c.args.made c.loop-other.other c.left-left.result c.get.result c.requires.made c.get.ensures c.left-left.ensures in
    let bit : c.both.result ≡ F c.left-left.result = c.both.ensures ∙ ap₂ (λ (a b : Bool). a && b) c.eq.ensures made in
    c.set-won.ensures
    ∙ ap (λ won. set won c.loop-other.other c.both.result) c.loop-other.invariant
    ∙ ap (λ (b : Bool). set (results_upto F n.lefts c.loop-other.other) c.loop-other.other b) bit
    ∙ results_upto-more F n.lefts c.loop-other.other c.left-left.result low is

pub returns : goal.returns
returns c =
    let n = c.args.node.now in
    let all : length n.lefts ≤ c.loop-other.other = search rules in
    c.loop-other.invariant ∙ upto_won n c.left-chosen.result c.loop-other.other all
    ∙ ap (won_playing_for n) (sym (get_or_from_slice_get n.lefts c.args.place c.left-chosen.result [] c.left-chosen.ensures))
