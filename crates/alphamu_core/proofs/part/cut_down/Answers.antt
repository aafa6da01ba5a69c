use Rattle.std.proofs.Common.{◌≡◌, ◌∙◌, true, All, sym, ap, subst}
use Rattle.trick_rules.specs.Play.{makes}
use Rattle.trick_rules.specs.Nodes.{NodeValue, states}
use Rattle.alphamu_core.proofs.Inherited.{known_part}
use Rattle.alphamu_core.proofs.MadeLayouts.{results_width, part_width, part_goes_on, part_upper, part_size}
use Rattle.alphamu_core.proofs.CutDowns.{exact_width, filled_answer}
use Rattle.alphamu_core.proofs.part.cut_down.Goals as goal

pub part_of-requires-clause-width : goal.part_of-requires-clause-width
part_of-requires-clause-width c = results_width c.args.node.now c.args.made c.requires.made.results

pub returns : goal.returns
returns c =
    let n : NodeValue = c.args.node.now in
    let sound = c.in_ok-part.ensures.a_node in
    let so = c.requires.made in
    let wide = c.requires.width ∙ sym (results_width n c.args.made so.results) in
    let bound = c.in_ok-upper.ensures in
    record {
      position = ap (λ (m : NodeValue). m.position) c.in_ok-part.ensures.part;
      each = subst (λ (m : NodeValue). All (λ s. makes s ≡ true) (states m)) (sym c.in_ok-part.ensures.part) (known_part n c.args.made so.results);
      width = c.in_ok-alpha.ensures.width ∙ sym (part_width n sound c.args.made so.results so.some c.args.moves c.in_ok-part.ensures.part);
      goes_on = part_goes_on n sound c.args.made so.results so.some c.args.moves c.in_ok-part.ensures.part c.requires.goes_on;
      upper = part_upper n sound c.args.made so.results so.some c.args.moves c.in_ok-part.ensures.part c.args.upper c.in_ok-upper.upper so.bound bound.width bound.parts;
      size = part_size n sound c.args.made so.results so.some c.args.moves c.in_ok-part.ensures.part;
      exact = exact_width n sound c.args.made so.results so.some c.args.moves c.in_ok-part.ensures.part c.in_ok-alpha.alpha.vectors;
      answer = filled_answer n sound c.args.made so.results so.some c.args.moves c.in_ok-part.ensures.part c.args.alpha.now c.in_ok-alpha.alpha c.in_ok-alpha.ensures.wide wide c.in_ok-alpha.ensures.parts;
    }
