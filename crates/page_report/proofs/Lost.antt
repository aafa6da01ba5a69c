-- What a line loses of what sampling believes in is named.
use Rattle.std.proofs.Common.{◌≡◌, ◌∙◌, ◌↔◌, ◌<◌, ℕ, zero, suc, ◌+◌, Bool, true, false, not, Option, Some, None, List, [], ◌∷◌, length, get_or, refl, ap, sym, subst, arith}
use Rattle.std.specs.Prelude.{IsSome, ◌&&◌, if◌then◌else◌}
use Rattle.std.specs.Option.{option_map}
use Rattle.std.proofs.lemmas.Bool.{and_parts, and_from, eq-eqb}
use Rattle.card_sets.specs.SetWords.{has_card}
use Rattle.trick_rules.specs.Positions.{State, IsState, to_play}
use Rattle.trick_rules.specs.Play.{legal_in, after, makes, is_declarers, Makes}
use Rattle.trick_rules.proofs.PlayLaws as play
use Rattle.trick_rules.proofs.Soundness.{held_low}
use Rattle.am_match.proofs.WonLines.{going_on}
use Rattle.strategy_games.specs.Plans.{wins}
use Rattle.strategy_tree.specs.Bridge.{bridge}
use Rattle.strategy_check.proofs.Followed.{followed_state}
use Rattle.given_up.specs.GivenUp.{AreLegal, makes_after, giving_place, giving_card}
use Rattle.given_up.proofs.FirstPlace.{found_first}
use Rattle.given_up.proofs.Given.{played_legal, a_lost_layout_is_given_up}
use Rattle.page_text.specs.declared.plays.PlayedOut.{PlayedOut}
use Rattle.page_text.specs.Refutations.{is_card, fails_with}
use Rattle.page_report.specs.Played.{IsPlayedOut}
use Rattle.page_report.specs.Refuted.{NamesWhatIsLost}

-- each of some legal cards is one of the 52
legal_low : (s : State) (cards : List ℕ) (place : ℕ) → IsState s → AreLegal s cards → place < length cards → get_or cards place 0 < 52
legal_low s [] place state legal low = absurd (omega arith)
legal_low s (c ∷ cards) zero state legal low = held_low s.position state.sound c (to_play s.position) (play.a_legal_card_can_be_played s c state legal.0)
legal_low s (c ∷ cards) (suc k) state legal low =
    legal_low (after s c) cards k (play.a_legal_card_leads_to_a_state s c state legal.0) legal.1 (omega arith)

-- double dummy makes before a card of declarer's side if it makes after it
makes_before : (s : State) (card : ℕ) → IsState s → is_declarers (to_play s.position) ≡ true → has_card (legal_in s) card ≡ true → makes (after s card) ≡ true → makes s ≡ true
makes_before s card state ours legal made =
    let later = (play.makes_by_the_rules (after s card) (play.a_legal_card_leads_to_a_state s card state legal)).0 made in
    (play.makes_by_the_rules s state).1 (Makes.some_card (going_on s card state legal) ours card legal later)

failed : (b : Bool) → not b ≡ true → b ≡ false
failed true e = sym e
failed false e = refl

-- what is found is a place of the cards
inside : (s : State) (cards : List ℕ) (place : ℕ) → giving_place s cards ≡ Some place → place < length cards
unfolding giving_place
inside s cards place is = omega (arith, (found_first (λ m. not (makes_after s cards (m + 1))) 0 (length cards) place is).within)

-- what is found is the card of that place, if double dummy makes at first
its_card : (s : State) (cards : List ℕ) (place : ℕ) → makes s ≡ true → giving_place s cards ≡ Some place → giving_card s cards ≡ Some (get_or cards place 0)
unfolding giving_card
its_card s cards place made is =
    ap (λ (b : Bool). if b then option_map (λ p. get_or cards p 0) (giving_place s cards) else None) made ∙ ap (option_map (λ p. get_or cards p 0)) is

-- the card with which a lost layout is given up
given_with : (s : State) (cards : List ℕ) (found : Option ℕ) → IsState s → AreLegal s cards → makes s ≡ true → giving_place s cards ≡ found → IsSome found
    → (card : ℕ) × (card < 52) × (giving_card s cards ≡ Some card)
given_with s cards None state legal made is some = absurd (cc)
given_with s cards (Some place) state legal made is some =
    (get_or cards place 0, legal_low s cards place state legal (inside s cards place is), its_card s cards place made is)

pub names_what_is_lost : NamesWhatIsLost
names_what_is_lost read s believed shown follow ours legal made out = (lost, named)
  where
    lost : ((card : ℕ) × (card < 52) × (fails_with card shown ≡ true)) → wins bridge read.entry.plan s ≡ false
    lost t = sym out.made ∙ failed shown.made (and_parts (not shown.made) (is_card t.0 shown.given_up) t.2).0

    named : wins bridge read.entry.plan s ≡ false → (card : ℕ) × (card < 52) × (fails_with card shown ≡ true)
    named loses =
        let state = followed_state read.entry.plan s follow in
        let makes_here = makes_before s believed state ours legal made in
        let are_legal = played_legal read.entry.plan s shown.cards out.cards.each in
        let given = given_with s shown.cards (giving_place s shown.cards) state are_legal makes_here refl
        (a_lost_layout_is_given_up read.entry.plan s shown.cards follow out.cards makes_here loses) in
        let fails : not shown.made ≡ true = ap not (out.made ∙ loses) in
        let is : is_card given.0 shown.given_up ≡ true = ap (is_card given.0) (out.given_up ∙ given.2) ∙ eq-eqb given.0 given.0 refl in
        (given.0, given.1, and_from (not shown.made) (is_card given.0 shown.given_up) fails is)
