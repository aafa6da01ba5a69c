-- A sure node at bridge is won in each layout, and the laws of assured vectors hold there.
use Rattle.std.proofs.Common.{◌≡◌, ◌+◌, ℕ, ◌∷◌, true, not, ◌&&◌, ◌==◌, nat_lt, List, [], length, Contains, refl, sym, subst, arith}
use Rattle.std.proofs.lemmas.Bool.{and_parts, not-true, ltb-false, eqb-true}
use Rattle.win_vectors.specs.Fronts.{Vector}
use Rattle.win_vectors.specs.Weights.{IsMonotone}
use Rattle.card_sets.specs.SetWords.{IsCardSet}
use Rattle.card_sets.specs.declared.card.Suit.TheVariants.{Spades, Hearts, Diamonds, Clubs}
use Rattle.trick_rules.specs.Positions.{State, to_play}
use Rattle.trick_rules.specs.Play.{is_declarers}
use Rattle.trick_rules.specs.Nodes.{IsNode, states}
use Rattle.strategy_tree.specs.Bridge.{bridge}
use Rattle.strategy_tree.proofs.Rules.{table_of, lawful, double_dummy}
use Rattle.assured_games.specs.Laws.{IsSureOfAll, IsBracketed, HasBracket}
use Rattle.assured_games.proofs.Between as theory
use Rattle.sure_tricks.specs.Sure.{AreSure}
use Rattle.sure_nodes.specs.SureNodes.{own, sure_tops, is_sure_node}
use Rattle.sure_nodes.proofs.Cashed.{some_state, state_of, cashed}
use Rattle.sure_nodes.proofs.PlayedOut.{played_out}
use Rattle.sure_nodes.proofs.TopCards.{tops, own_set, length_tops, tops_sure}

no_cards : (xs : List ℕ) → length xs ≡ 0 → xs ≡ []
no_cards [] e = refl
no_cards (x ∷ xs) e = absurd (omega arith)

pub sure_of_all : IsSureOfAll bridge IsNode is_sure_node
sure_of_all n m sound is =
    let t = n.position in
    let outer = and_parts (is_declarers (to_play t) && (length t.trick.cards == 0)) (not (nat_lt (sure_tops t Spades + sure_tops t Hearts + sure_tops t Diamonds + sure_tops t Clubs) t.need)) is in
    let inner = and_parts (is_declarers (to_play t)) (length t.trick.cards == 0) outer.0 in
    let enough = ltb-false (sure_tops t Spades + sure_tops t Hearts + sure_tops t Diamonds + sure_tops t Clubs) t.need (not-true _ outer.1) in
    let each : (s : State) → Contains (states n) s → AreSure s (to_play t) (tops t) = λ s mem.
    let at = table_of n s mem in
    subst (λ u. AreSure s (to_play u) (tops u)) at (tops_sure s (state_of n s sound mem) (subst (λ u. is_declarers (to_play u) ≡ true) (sym at) inner.0)) in
    let first = some_state n sound in
    let set : IsCardSet (own t) = subst (λ u. IsCardSet (own u)) (table_of n first.0 first.1) (own_set first.0 (state_of n first.0 sound first.1) (subst (λ u. is_declarers (to_play u) ≡ true) (sym (table_of n first.0 first.1)) inner.0)) in
    let many = length_tops t set in
    cashed n m (tops t) sound inner.0 (no_cards t.trick.cards (eqb-true (length t.trick.cards) 0 inner.1)) each (omega arith)

pub bracketed : IsBracketed bridge IsNode is_sure_node
bracketed = theory.bracketed bridge is_sure_node IsNode lawful played_out sure_of_all

pub bracket : (measure : Vector → ℕ) → IsMonotone measure → HasBracket bridge IsNode is_sure_node measure
bracket measure monotone = theory.bracket bridge is_sure_node IsNode lawful played_out sure_of_all double_dummy measure monotone
