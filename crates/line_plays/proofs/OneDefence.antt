-- One card of a strategy that is played out against a defence that beats it.
use Rattle.std.proofs.Common.{◌≡◌, ◌==◌, ◌<◌, ◌&&◌, ℕ, Bool, true, false, not, cond, List, [], ◌∷◌, Option, Some, None, Contains, find, refl, sym, ap, ap₂, subst, ◌∙◌, arith}
use Rattle.std.specs.List.{list_any}
use Rattle.std.proofs.lemmas.Bool.{false≢true, eqb-true}
use borrow.Author.Tests.{eq-eqb}
use Rattle.card_sets.specs.declared.seat.Seat.{Seat}
use Rattle.card_sets.specs.declared.seat.Seat.TheVariants.{Declarer, Left, Dummy, Right}
use Rattle.card_sets.specs.SetWords.{has_card, first_card, IsCardSet}
use Rattle.card_sets.proofs.Sets.{tail-after, IsCardSet-tail, IsCardSet-cards_where}
use Rattle.trick_rules.specs.Positions.{State, to_play}
use Rattle.trick_rules.specs.Play.{legal_in, after, is_declarers, is_over, makes}
use Rattle.trick_rules.proofs.PlayLaws as play
use Rattle.trick_rules.proofs.CardLists.{list_all-from_cards, list_any-from_card}
use Rattle.strategy_games.proofs.Lists.{Contains-here, Contains-there}
use Rattle.strategy_games.specs.Plans.{Plan, Replies, Stop, Play, Hear, NoReply, Reply, Fits, cards_of, wins}
use Rattle.strategy_tree.specs.Bridge.{bridge}
use Rattle.strategy_tree.proofs.CardLists.{has_card-from_Contains}
use Rattle.strategy_tree.proofs.Rules.{table_of}
use Rattle.strategy_tree.proofs.Winning.{wins_each, wins-Stop, wins_each-Reply}
use Rattle.strategy_check.specs.Following.{CanFollow}
use Rattle.strategy_check.proofs.Followed.{followed_state}
use Rattle.am_match.specs.Defences.{Sitter, at_seat}
use Rattle.am_match.specs.PlayOuts.{reply_to, plan_after, IsNext}
use Rattle.am_match.proofs.OneCard.{played_by_us, kept_by, kept_is_legal, none_kept, no_card, follow_next, win_next}
use Rattle.line_plays.specs.Defended.{beating_card, IsNextCard}

-- ---- the same card at a table at which nobody sits

nobody : (seat : Seat) (who : Sitter) → at_seat [] seat ≡ Some who → ⊥
nobody Declarer who there = cc
nobody Left who there = cc
nobody Dummy who there = cc
nobody Right who there = cc

pub as_next : (plan : Plan ℕ) (s : State) (card : ℕ) → IsNextCard plan s card → IsNext plan s [] card
as_next plan s card next = record {
  legal = next.legal;
  ours = next.ours;
  theirs = λ theirs who there. absurd (nobody (to_play s.position) who there);
}

pub follow_theirs : (plan : Plan ℕ) (s : State) (card : ℕ) → CanFollow plan s → is_declarers (to_play s.position) ≡ false → has_card (legal_in s) card ≡ true
    → CanFollow (plan_after plan card) (after s card)
follow_theirs plan s card follow theirs legal = follow_next plan s [] card follow (record {
  legal = legal;
  ours = λ ours. absurd (false≢true (sym theirs ∙ ours));
  theirs = λ _ who there. absurd (nobody (to_play s.position) who there);
})

-- ---- the card that beats the plan

pub beating_is_legal : (plan : Plan ℕ) (s : State) (card : ℕ) → beating_card plan s ≡ Some card → has_card (legal_in s) card ≡ true
beating_is_legal plan s card beats =
    let loses : ℕ → Bool = λ c. not (wins bridge (plan_after plan c) (after s c)) in
    kept_is_legal (find loses (legal_in s)) loses (legal_in s) card refl beats

pub some_card_beats : (plan : Plan ℕ) (s : State) → CanFollow plan s → is_over s.position ≡ false → beating_card plan s ≡ None → ⊥
some_card_beats plan s follow live none =
    let legal = play.there_is_a_legal_card s (followed_state plan s follow) live in
    no_card (legal_in s) legal.0 (none_kept (find (λ c. not (wins bridge (plan_after plan c) (after s c))) (legal_in s)) (legal_in s) none) legal.1

-- ---- what each card leaves

differ : (c card : ℕ) → c < card → (c == card) ≡ false
differ c card less = go (c == card) refl
  where
    go : (b : Bool) → (c == card) ≡ b → b ≡ false
    go false is = refl
    go true is = absurd (omega (arith, eqb-true c card is, less))

all_replies_win : (rs : Replies ℕ) (s : State) → IsCardSet (cards_of rs)
    → ((card : ℕ) → Contains (cards_of rs) card → has_card (legal_in s) card ≡ true → wins bridge (reply_to rs card) (after s card) ≡ true)
    → wins_each rs s ≡ true
all_replies_win NoReply s a_set each = refl
all_replies_win (Reply c q rs) s a_set each =
    wins_each-Reply c q rs s ∙ ap₂ (λ a b. a && b) (first (has_card (legal_in s) c) refl) (all_replies_win rs s (IsCardSet-tail c (cards_of rs) a_set) later)
  where
    first : (b : Bool) → has_card (legal_in s) c ≡ b → cond b (wins bridge q (after s c)) true ≡ true
    first false is = refl
    first true is =
        sym (ap (λ (b : Bool). wins bridge (cond b q (reply_to rs c)) (after s c)) (eq-eqb c c refl)) ∙ each c (Contains-here c (cards_of rs)) is

    later : (card : ℕ) → Contains (cards_of rs) card → has_card (legal_in s) card ≡ true → wins bridge (reply_to rs card) (after s card) ≡ true
    later card among legal =
        let other : (c == card) ≡ false = differ c card (tail-after c (cards_of rs) a_set card (has_card-from_Contains (cards_of rs) card among)) in
        sym (ap (λ (b : Bool). wins bridge (cond b q (reply_to rs card)) (after s card)) other) ∙ each card (Contains-there c (cards_of rs) card among) legal

-- a plan wins if each card of the defender leaves a win
all_win : (plan : Plan ℕ) (s : State) → CanFollow plan s → is_over s.position ≡ false → is_declarers (to_play s.position) ≡ false
    → ((card : ℕ) → has_card (legal_in s) card ≡ true → wins bridge (plan_after plan card) (after s card) ≡ true)
    → wins bridge plan s ≡ true
all_win Stop s follow live theirs each =
    wins-Stop s ∙ play.makes_against_each_card s (followed_state Stop s follow) live theirs
    ∙ list_all-from_cards (λ c. makes (after s c)) (legal_in s) (λ c legal. sym (wins-Stop (after s c)) ∙ each c legal)
all_win (Play c q) s follow live theirs each = absurd (false≢true (sym theirs ∙ played_by_us c q s follow))
all_win (Hear rs) s follow live theirs each =
    all_replies_win rs s (subst IsCardSet (sym follow.fits.2) (IsCardSet-cards_where _)) (λ card among legal. each card legal)

none_of : (p : ℕ → Bool) (xs : List ℕ) → list_any p xs ≡ false → (c : ℕ) → has_card xs c ≡ true → p c ≡ false
none_of p xs none c holds = go (p c) refl
  where
    go : (b : Bool) → p c ≡ b → b ≡ false
    go false is = refl
    go true is = absurd (false≢true (sym none ∙ list_any-from_card p xs c holds is))

not_so : (b : Bool) → not b ≡ true → b ≡ false
not_so false h = refl
not_so true h = absurd (false≢true h)

so : (b : Bool) → not b ≡ false → b ≡ true
so true h = refl
so false h = absurd (false≢true (sym h))

-- ---- a plan that loses goes on to lose

lost_by_them : (plan : Plan ℕ) (s : State) (card : ℕ) → CanFollow plan s → is_over s.position ≡ false → is_declarers (to_play s.position) ≡ false
    → beating_card plan s ≡ Some card → wins bridge plan s ≡ false → wins bridge (plan_after plan card) (after s card) ≡ false
lost_by_them plan s card follow live theirs beats lost = go (list_any loses (legal_in s)) refl
  where
    loses : ℕ → Bool
    loses c = not (wins bridge (plan_after plan c) (after s c))

    go : (b : Bool) → list_any loses (legal_in s) ≡ b → wins bridge (plan_after plan card) (after s card) ≡ false
    go true some = not_so (wins bridge (plan_after plan card) (after s card)) (kept_by loses (legal_in s) (first_card (legal_in s)) card some beats)
    go false none = absurd (false≢true (sym lost
        ∙ all_win plan s follow live theirs (λ c legal. so (wins bridge (plan_after plan c) (after s c)) (none_of loses (legal_in s) none c legal))))

heard_from_them : (rs : Replies ℕ) (s : State) → CanFollow (Hear rs) s → is_declarers (to_play s.position) ≡ false
heard_from_them rs s follow = ap (λ t. is_declarers (to_play t)) (table_of follow.node s follow.among) ∙ follow.fits.1

lost_by_us : (plan : Plan ℕ) (s : State) (card : ℕ) → CanFollow plan s → is_over s.position ≡ false → is_declarers (to_play s.position) ≡ true
    → IsNextCard plan s card → wins bridge plan s ≡ false → wins bridge (plan_after plan card) (after s card) ≡ false
lost_by_us Stop s card follow live ours next lost =
    wins-Stop (after s card)
    ∙ none_of (λ c. makes (after s c)) (legal_in s) (sym (play.makes_by_some_card s (followed_state Stop s follow) live ours) ∙ sym (wins-Stop s) ∙ lost) card next.legal
lost_by_us (Play c q) s card follow live ours next lost =
    let same : card ≡ c = next.ours ours in
    subst (λ (d : ℕ). wins bridge q (after s d) ≡ false) (sym same) lost
lost_by_us (Hear rs) s card follow live ours next lost = absurd (false≢true (sym (heard_from_them rs s follow) ∙ ours))

-- the next card changes nothing of whether the plan wins
pub win_same : (plan : Plan ℕ) (s : State) (card : ℕ) → CanFollow plan s → is_over s.position ≡ false → IsNextCard plan s card
    → wins bridge (plan_after plan card) (after s card) ≡ wins bridge plan s
win_same plan s card follow live next = go (wins bridge plan s) refl
  where
    lost : (b : Bool) → is_declarers (to_play s.position) ≡ b → wins bridge plan s ≡ false → wins bridge (plan_after plan card) (after s card) ≡ false
    lost true ours is = lost_by_us plan s card follow live ours next is
    lost false theirs is = lost_by_them plan s card follow live theirs (next.theirs theirs) is

    go : (b : Bool) → wins bridge plan s ≡ b → wins bridge (plan_after plan card) (after s card) ≡ b
    go true won = win_next plan s [] card follow live (as_next plan s card next) won
    go false is = lost (is_declarers (to_play s.position)) refl is
