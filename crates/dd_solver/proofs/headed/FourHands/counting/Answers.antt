use Rattle.std.proofs.Common.{◌≡◌, List, ℕ, sym, ap, ap₂, subst, ◌∙◌, arith}
use Rattle.card_sets.specs.declared.card.Suit.{Suit}
use Rattle.card_sets.specs.declared.card.Suit.TheVariants.{Spades, Hearts, Diamonds, Clubs}
use Rattle.card_sets.specs.SetWords.{has_card}
use Rattle.trick_rules.specs.Play.{take_out}
use Rattle.equivalent_positions.specs.Alike.{IsClosedUp}
use Rattle.equivalent_positions.proofs.Counting.{a_card_and_all_higher}
use Rattle.dd_solver.specs.Sure.{AreWinners}
use Rattle.dd_solver.specs.Headed.{further_in, others_of}
use Rattle.dd_solver.proofs.SureCards.{fewer}
use Rattle.dd_solver.proofs.HeadingHand.{none_follow}
use Rattle.dd_solver.proofs.headed.FourHands.counting.Goals as goal

pub returns-then-rest-eq0 : goal.returns-then-rest-eq0
returns-then-rest-eq0 c = none_follow c.args.trump c.args.self.now c.args.card c.args.rest c.up_from.result c.if-rest-eq0.true c.up_from.ensures

pub joined-requires-clause-first : goal.joined-requires-clause-first
joined-requires-clause-first c = subst IsClosedUp (sym c.up_from-2.ensures) (a_card_and_all_higher c.args.card)

pub returns : goal.returns
returns c =
    let four = c.args.self.now in
    let card = c.args.card in
    let all = c.further-all.ensures in
    let less = c.without.ensures in
    let needed = c.without.result in
    let own_is : c.without-own.result ≡ take_out card four.own = c.without-own.ensures.value in
    let number = λ (suit : Suit). further_in c.args.trump (take_out card four.own) (others_of four) suit in
    let is : (suit : Suit) → further_in c.args.trump c.without-own.result c.others.result suit ≡ number suit =
    (λ suit. ap₂ (λ (l m : List ℕ). further_in c.args.trump l m suit) own_is c.others.ensures) in
    record {
      closed = c.joined.ensures.closed;
      heads = λ d h. c.joined.ensures.first_within d (ap (λ l. has_card l d) c.up_from-2.ensures ∙ h);
      counts = needed;
      few = fewer needed c.further-all.result number (all.spades ∙ is Spades) (all.hearts ∙ is Hearts) (all.diamonds ∙ is Diamonds) (all.clubs ∙ is Clubs) less.spades less.hearts less.diamonds less.clubs;
      total = omega (arith, less.total, c.total.ensures, c.total-2.ensures, c.if-total-rest.false);
      partner = subst (λ (l : List ℕ). AreWinners needed l four.partner c.joined.result) own_is (λ d held few theirs. c.joined.ensures.second_within d (c.rank_winners-winners.ensures.partner d held few theirs));
      leader = subst (λ (l : List ℕ). AreWinners needed l four.leader c.joined.result) own_is (λ d held few theirs. c.joined.ensures.second_within d (c.rank_winners-winners.ensures.last d held few theirs));
      third = subst (λ (l : List ℕ). AreWinners needed l four.third c.joined.result) own_is (λ d held few theirs. c.joined.ensures.second_within d (c.rank_winners-winners.ensures.next d held few theirs));
    }
