-- One card of a play-out: the plan can be followed on, and what it wins is won still.
use Rattle.std.proofs.Common.{◌≡◌, ◌==◌, ℕ, zero, suc, Bool, true, false, ◌&&◌, ◌||◌, cond, Option, None, Some, List, [], ◌∷◌, Contains, find, refl, sym, ap, subst, ◌∙◌, ⊎_elim}
use Rattle.std.specs.List.{list_any}
use Rattle.std.proofs.lemmas.Bool.{false≢true}
use borrow.Author.Tests.{eqb-true, eq-eqb}
use Rattle.card_sets.specs.SetWords.{has_card, first_card}
use Rattle.card_sets.proofs.Sets.{find-holds, first_card-none}
use Rattle.trick_rules.specs.Positions.{State, IsState, to_play}
use Rattle.trick_rules.specs.Play.{legal_cards, legal_in, after, hand_of, is_declarers, is_over, makes}
use Rattle.trick_rules.specs.Nodes.{NodeValue, child, choices}
use Rattle.trick_rules.proofs.PlayLaws as play
use Rattle.trick_rules.proofs.CardLists.{cards_from_list_all}
use Rattle.strategy_games.proofs.Lists.{Contains-nil, Contains-cons}
use Rattle.strategy_games.specs.Plans.{Plan, Replies, Stop, Play, Hear, NoReply, Reply, Fits, FitEach, cards_of, wins}
use Rattle.strategy_games.specs.Misfits.{or_else}
use Rattle.strategy_tree.specs.Bridge.{bridge}
use Rattle.strategy_tree.proofs.CardLists.{Contains-from_has_card}
use Rattle.strategy_tree.proofs.Rules.{table_of, going_on}
use Rattle.strategy_tree.proofs.Winning.{wins_each, wins-Stop, wins_each-Reply}
use Rattle.strategy_check.specs.Following.{CanFollow}
use Rattle.strategy_check.proofs.Followed.{followed_state, follow_on, follow_Play}
use Rattle.am_match.specs.Defences.{Sitter, IsLegalFrom, MayPlay, tell, tell_table, at_seat}
use Rattle.am_match.specs.PlayOuts.{reply_to, plan_after, keeping_card, IsByPlan, IsNext}
use Rattle.am_match.proofs.Sitting.{at_seat-told}

-- ---- the reply to a card

other_reply : (c : ℕ) (cs : List ℕ) (card : ℕ) → Contains (c ∷ cs) card → (c == card) ≡ false → Contains cs card
other_reply c cs card among differs = ⊎_elim
    (λ (same : c ≡ card). absurd (false≢true (sym differs ∙ eq-eqb c card same)))
    (λ (later : Contains cs card). later)
    (Contains-cons c cs card among)

fits_reply : (rs : Replies ℕ) (n : NodeValue) (moves card : ℕ) → FitEach bridge rs n moves → Contains (cards_of rs) card
    → Fits bridge (reply_to rs card) (child n card) moves
fits_reply NoReply n moves card fits among = absurd (Contains-nil card among)
fits_reply (Reply c q rs) n moves card fits among = go (c == card) refl (λ later. fits_reply rs n moves card fits.1 later)
  where
    go : (b : Bool) → (c == card) ≡ b → (Contains (cards_of rs) card → Fits bridge (reply_to rs card) (child n card) moves)
        → Fits bridge (cond b q (reply_to rs card)) (child n card) moves
    go true same others = subst (λ (d : ℕ). Fits bridge q (child n d) moves) (eqb-true c card same) fits.0
    go false differs others = others (other_reply c (cards_of rs) card among differs)

and_first : (a b : Bool) → (a && b) ≡ true → a ≡ true
and_first true b h = refl
and_first false b h = absurd (false≢true h)

and_second : (a b : Bool) → (a && b) ≡ true → b ≡ true
and_second true b h = h
and_second false b h = absurd (false≢true h)

wins_reply : (rs : Replies ℕ) (s : State) (card : ℕ) → Contains (cards_of rs) card → has_card (legal_in s) card ≡ true
    → wins_each rs s ≡ true → wins bridge (reply_to rs card) (after s card) ≡ true
wins_reply NoReply s card among legal won = absurd (Contains-nil card among)
wins_reply (Reply c q rs) s card among legal won = go (c == card) refl (λ later rest. wins_reply rs s card later legal rest)
  where
    both : (cond (has_card (legal_in s) c) (wins bridge q (after s c)) true && wins_each rs s) ≡ true
    both = sym (wins_each-Reply c q rs s) ∙ won

    first : cond (has_card (legal_in s) c) (wins bridge q (after s c)) true ≡ true
    first = and_first (cond (has_card (legal_in s) c) (wins bridge q (after s c)) true) (wins_each rs s) both

    won_here : (c ≡ card) → wins bridge q (after s card) ≡ true
    won_here same =
        let legal_here : has_card (legal_in s) c ≡ true = ap (λ d. has_card (legal_in s) d) same ∙ legal in
        subst (λ (d : ℕ). wins bridge q (after s d) ≡ true) same
        (sym (ap (λ b. cond b (wins bridge q (after s c)) true) legal_here) ∙ first)

    go : (b : Bool) → (c == card) ≡ b
        → (Contains (cards_of rs) card → wins_each rs s ≡ true → wins bridge (reply_to rs card) (after s card) ≡ true)
        → wins bridge (cond b q (reply_to rs card)) (after s card) ≡ true
    go true same others = won_here (eqb-true c card same)
    go false differs others = others (other_reply c (cards_of rs) card among differs) (and_second (cond (has_card (legal_in s) c) (wins bridge q (after s c)) true) (wins_each rs s) both)

-- ---- the card that keeps the result

pub kept_by : (p : ℕ → Bool) (xs : List ℕ) (other : Option ℕ) (card : ℕ) → list_any p xs ≡ true → or_else (find p xs) other ≡ Some card → p card ≡ true
kept_by p [] other card some is = absurd (false≢true some)
kept_by p (x ∷ xs) other card some is = go (p x) refl some is (λ later kept. kept_by p xs other card later kept)
  where
    go : (b : Bool) → p x ≡ b → (b || list_any p xs) ≡ true → or_else (cond b (Some x) (find p xs)) other ≡ Some card
        → (list_any p xs ≡ true → or_else (find p xs) other ≡ Some card → p card ≡ true) → p card ≡ true
    go true passes some is others = let same : x ≡ card = cc in ap p (sym same) ∙ passes
    go false fails some is others = others some is

-- ---- whose turn it is

pub played_by_us : (card : ℕ) (rest : Plan ℕ) (s : State) → CanFollow (Play card rest) s → is_declarers (to_play s.position) ≡ true
played_by_us card rest s f = go f.moves f.fits
  where
    go : (moves : ℕ) → Fits bridge (Play card rest) f.node moves → is_declarers (to_play s.position) ≡ true
    go zero h = absurd h
    go (suc m) h = ap (λ t. is_declarers (to_play t)) (table_of f.node s f.among) ∙ h.1

heard_choice : (rs : Replies ℕ) (s : State) (card : ℕ) → CanFollow (Hear rs) s → has_card (legal_in s) card ≡ true → Contains (cards_of rs) card
heard_choice rs s card f legal = subst (λ (cards : List ℕ). Contains cards card) (sym f.fits.2)
    (Contains-from_has_card (choices f.node) card (play.what_is_legal_is_a_choice f.node card s f.sound f.among legal))

-- a plan that hears cards has a reply to each legal one
pub replied_to : (plan : Plan ℕ) (s : State) (card : ℕ) → CanFollow plan s → has_card (legal_in s) card ≡ true
    → (rs : Replies ℕ) → plan ≡ Hear rs → Contains (cards_of rs) card
replied_to plan s card f legal rs is = heard_choice rs s card (subst (λ (p : Plan ℕ). CanFollow p s) is f) legal

-- ---- the laws

pub follow_next : (plan : Plan ℕ) (s : State) (table : List Sitter) (card : ℕ) → CanFollow plan s → IsNext plan s table card
    → CanFollow (plan_after plan card) (after s card)
follow_next Stop s table card f next =
    follow_on f.node 0 card Stop s f.sound f.among
    (Contains-from_has_card (choices f.node) card (play.what_is_legal_is_a_choice f.node card s f.sound f.among next.legal))
    next.legal refl
follow_next (Play c q) s table card f next =
    let same : card ≡ c = next.ours (played_by_us c q s f) in
    subst (λ (d : ℕ). CanFollow q (after s d)) (sym same) (follow_Play c q s f).1
follow_next (Hear rs) s table card f next =
    follow_on f.node f.moves card (reply_to rs card) s f.sound f.among
    (Contains-from_has_card (choices f.node) card (play.what_is_legal_is_a_choice f.node card s f.sound f.among next.legal))
    next.legal (fits_reply rs f.node f.moves card f.fits.3 (heard_choice rs s card f next.legal))

pub win_next : (plan : Plan ℕ) (s : State) (table : List Sitter) (card : ℕ) → CanFollow plan s → is_over s.position ≡ false
    → IsNext plan s table card → wins bridge plan s ≡ true → wins bridge (plan_after plan card) (after s card) ≡ true
win_next Stop s table card f live next won =
    wins-Stop (after s card) ∙ go (is_declarers (to_play s.position)) refl
  where
    state : IsState s
    state = followed_state Stop s f

    made : makes s ≡ true
    made = sym (wins-Stop s) ∙ won

    go : (b : Bool) → is_declarers (to_play s.position) ≡ b → makes (after s card) ≡ true
    go true ours = kept_by (λ c. makes (after s c)) (legal_in s) _ card (sym (play.makes_by_some_card s state live ours) ∙ made) (next.ours ours)
    go false theirs = cards_from_list_all (λ c. makes (after s c)) (legal_in s) (sym (play.makes_against_each_card s state live theirs) ∙ made) card next.legal
win_next (Play c q) s table card f live next won =
    let same : card ≡ c = next.ours (played_by_us c q s f) in
    subst (λ (d : ℕ). wins bridge q (after s d) ≡ true) (sym same) won
win_next (Hear rs) s table card f live next won =
    wins_reply rs s card (heard_choice rs s card f next.legal) next.legal won

-- at the end the plan has stopped
pub stopped_at_the_end : (plan : Plan ℕ) (s : State) → CanFollow plan s → is_over s.position ≡ true → plan ≡ Stop
stopped_at_the_end Stop s f over = refl
stopped_at_the_end (Play c q) s f over = absurd (go f.moves f.fits)
  where
    go : (moves : ℕ) → Fits bridge (Play c q) f.node moves → ⊥
    go zero h = h
    go (suc m) h = false≢true (sym (going_on f.node.position h.0) ∙ sym (ap (λ t. is_over t) (table_of f.node s f.among)) ∙ over)
stopped_at_the_end (Hear rs) s f over = absurd (go f.moves f.fits)
  where
    go : (moves : ℕ) → Fits bridge (Hear rs) f.node moves → ⊥
    go zero h = false≢true (sym h.0)
    go (suc m) h = false≢true (sym (going_on f.node.position h.0) ∙ sym (ap (λ t. is_over t) (table_of f.node s f.among)) ∙ over)

-- so it wins what is made
pub wins_at_the_end : (plan : Plan ℕ) (s : State) → CanFollow plan s → is_over s.position ≡ true → (s.position.need == 0) ≡ wins bridge plan s
wins_at_the_end plan s f over =
    sym (play.makes_at_the_end s over) ∙ sym (wins-Stop s) ∙ ap (λ (p : Plan ℕ). wins bridge p s) (sym (stopped_at_the_end plan s f over))

pub made_at_the_end : (plan : Plan ℕ) (s : State) → CanFollow plan s → is_over s.position ≡ true → wins bridge plan s ≡ true
    → (s.position.need == 0) ≡ true
made_at_the_end plan s f over won = wins_at_the_end plan s f over ∙ won

-- ---- which card is next

-- the card that keeps the result is legal
pub kept_is_legal : (found : Option ℕ) (p : ℕ → Bool) (xs : List ℕ) (card : ℕ) → find p xs ≡ found → or_else found (first_card xs) ≡ Some card → has_card xs card ≡ true
kept_is_legal None p xs card is kept = (find-holds (λ _. true) xs card kept).0
kept_is_legal (Some c) p xs card is kept = (find-holds p xs card (is ∙ kept)).0

pub keeping_is_legal : (s : State) (card : ℕ) → keeping_card s ≡ Some card → has_card (legal_in s) card ≡ true
keeping_is_legal s card kept = kept_is_legal (find (λ c. makes (after s c)) (legal_in s)) (λ c. makes (after s c)) (legal_in s) card refl kept

pub none_kept : (found : Option ℕ) (xs : List ℕ) → or_else found (first_card xs) ≡ None → xs ≡ []
none_kept None xs none = first_card-none xs none
none_kept (Some c) xs none = cc

pub no_card : (xs : List ℕ) (card : ℕ) → xs ≡ [] → has_card xs card ≡ true → ⊥
no_card xs card none holds = false≢true (sym (ap (λ cs. has_card cs card) none) ∙ holds)

-- until play is over there is such a card, and the hand of the seat to play has one
pub some_card_keeps : (s : State) → IsState s → is_over s.position ≡ false → keeping_card s ≡ None → ⊥
some_card_keeps s state live none =
    let legal = play.there_is_a_legal_card s state live in
    no_card (legal_in s) legal.0 (none_kept (find (λ c. makes (after s c)) (legal_in s)) (legal_in s) none) legal.1

pub some_card_in_hand : (s : State) → IsState s → is_over s.position ≡ false → hand_of s (to_play s.position) ≡ [] → ⊥
some_card_in_hand s state live none =
    let legal = play.there_is_a_legal_card s state live in
    no_card (hand_of s (to_play s.position)) legal.0 none (play.a_legal_card_is_held s legal.0 legal.1)

pub our_next : (plan : Plan ℕ) (s : State) (table : List Sitter) (card : ℕ) → is_declarers (to_play s.position) ≡ true
    → has_card (legal_in s) card ≡ true → IsByPlan plan s card → IsNext plan s table card
our_next plan s table card ours legal by_plan = record {
  legal = legal;
  ours = λ _. by_plan;
  theirs = λ theirs. absurd (false≢true (sym theirs ∙ ours));
}

pub their_next : (plan : Plan ℕ) (s : State) (table : List Sitter) (hand : List ℕ) (card : ℕ) → is_declarers (to_play s.position) ≡ false
    → hand ≡ hand_of s (to_play s.position) → IsLegalFrom s.position hand card
    → ((who : Sitter) → at_seat table (to_play s.position) ≡ Some who → MayPlay who.style s.position hand card)
    → IsNext plan s table card
their_next plan s table hand card theirs is legal may = record {
  legal = ap (λ cs. has_card (legal_cards s.position.trick.cards cs) card) (sym is) ∙ legal;
  ours = λ ours. absurd (false≢true (sym theirs ∙ ours));
  theirs = λ _ who there. subst (λ (cs : List ℕ). MayPlay who.style s.position cs card) is (may who there);
}

-- what the table was told changes no style
pub next_untold : (plan : Plan ℕ) (s : State) (cards : List ℕ) (table : List Sitter) (card : ℕ)
    → IsNext plan s (tell_table cards table) card → IsNext plan s table card
next_untold plan s cards table card next = record {
  legal = next.legal;
  ours = next.ours;
  theirs = λ theirs who there. next.theirs theirs (tell cards who) (at_seat-told cards table (to_play s.position) who there);
}
