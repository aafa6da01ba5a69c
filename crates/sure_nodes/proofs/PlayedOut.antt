-- Double dummy at bridge makes nothing that play doesn't.
use Rattle.std.proofs.Common.{◌≡◌, ◌∙◌, true, false, sym, subst}
use Rattle.trick_rules.specs.Positions.{to_play}
use Rattle.trick_rules.specs.Play.{after, legal_in, is_over, is_declarers, makes}
use Rattle.trick_rules.specs.Nodes.{IsNode, choices}
use Rattle.trick_rules.proofs.CardLists.{card_from_list_any, cards_from_list_all}
use Rattle.trick_rules.proofs.PlayLaws as play
use Rattle.strategy_tree.specs.Bridge.{bridge}
use Rattle.strategy_tree.proofs.CardLists.{Contains-from_has_card}
use Rattle.strategy_tree.proofs.Rules.{table_of, going_on}
use Rattle.assured_games.specs.Laws.{IsPlayedOut}
use Rattle.sure_nodes.proofs.Cashed.{state_of}

pub played_out : IsPlayedOut bridge IsNode
played_out = record {
  ours = λ n s sound among live ours made.
      let at = table_of n s among in
      let on : is_over s.position ≡ false = subst (λ t. is_over t ≡ false) (sym at) (going_on n.position live) in
      let side : is_declarers (to_play s.position) ≡ true = subst (λ t. is_declarers (to_play t) ≡ true) (sym at) ours in
      let c = card_from_list_any (λ d. makes (after s d)) (legal_in s) (sym (play.makes_by_some_card s (state_of n s sound among) on side) ∙ made) in
      (c.0, Contains-from_has_card (choices n) c.0 (play.what_is_legal_is_a_choice n c.0 s sound among c.1), c.2);
  theirs = λ n s c sound among live theirs made choice legal.
      let at = table_of n s among in
      let on : is_over s.position ≡ false = subst (λ t. is_over t ≡ false) (sym at) (going_on n.position live) in
      let side : is_declarers (to_play s.position) ≡ false = subst (λ t. is_declarers (to_play t) ≡ false) (sym at) theirs in
      cards_from_list_all (λ d. makes (after s d)) (legal_in s) (sym (play.makes_against_each_card s (state_of n s sound among) on side) ∙ made) c legal;
}
