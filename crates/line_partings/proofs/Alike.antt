-- Plans of one node do the same until they part.
use Rattle.std.proofs.Common.{◌≡◌, ◌∙◌, ℕ, zero, suc, true, false, refl, sym, subst, ◌∷◌}
use Rattle.card_sets.specs.SetWords.{IsCardSet}
use Rattle.card_sets.proofs.Sets.{IsCardSet-cards_where, IsCardSet-tail}
use Rattle.trick_rules.specs.Nodes.{NodeValue, child}
use Rattle.strategy_games.specs.Plans.{Plan, Replies, Stop, Play, Hear, Reply, cards_of, Fits, FitEach}
use Rattle.strategy_tree.specs.Bridge.{bridge}
use Rattle.line_partings.specs.Partings.{FitOneNode}

stop_or_play : (c : ℕ) (p : Plan ℕ) (n : NodeValue) (moves : ℕ) → Fits bridge Stop n moves → Fits bridge (Play c p) n moves → ⊥
stop_or_play c p n zero stop play = play
stop_or_play c p n (suc moves) stop play = let bad : true ≡ false = sym stop ∙ play.0 in cc

stop_or_hear : (rs : Replies ℕ) (n : NodeValue) (moves : ℕ) → Fits bridge Stop n moves → Fits bridge (Hear rs) n moves → ⊥
stop_or_hear rs n moves stop hear = let bad : true ≡ false = sym stop ∙ hear.0 in cc

play_or_hear : (c : ℕ) (p : Plan ℕ) (rs : Replies ℕ) (n : NodeValue) (moves : ℕ) → Fits bridge (Play c p) n moves → Fits bridge (Hear rs) n moves → ⊥
play_or_hear c p rs n zero play hear = play
play_or_hear c p rs n (suc moves) play hear = let bad : true ≡ false = sym play.1 ∙ hear.1 in cc

-- ---- what the one does at once, the other does

pub both_stop : (other : Plan ℕ) → FitOneNode Stop other → Stop ≡ other
both_stop Stop fit = refl
both_stop (Play c p) fit = absurd (stop_or_play c p fit.node fit.moves fit.fits fit.other_fits)
both_stop (Hear rs) fit = absurd (stop_or_hear rs fit.node fit.moves fit.fits fit.other_fits)

pub play_and_stop : (c : ℕ) (p : Plan ℕ) → FitOneNode (Play c p) Stop → ⊥
play_and_stop c p fit = stop_or_play c p fit.node fit.moves fit.other_fits fit.fits

pub play_and_hear : (c : ℕ) (p : Plan ℕ) (rs : Replies ℕ) → FitOneNode (Play c p) (Hear rs) → ⊥
play_and_hear c p rs fit = play_or_hear c p rs fit.node fit.moves fit.fits fit.other_fits

pub hear_and_stop : (rs : Replies ℕ) → FitOneNode (Hear rs) Stop → ⊥
hear_and_stop rs fit = stop_or_hear rs fit.node fit.moves fit.other_fits fit.fits

pub hear_and_play : (rs : Replies ℕ) (c : ℕ) (p : Plan ℕ) → FitOneNode (Hear rs) (Play c p) → ⊥
hear_and_play rs c p fit = play_or_hear c p rs fit.node fit.moves fit.other_fits fit.fits

-- ---- after a card

fit_rest : (c : ℕ) (p : Plan ℕ) (q : Plan ℕ) (n : NodeValue) (moves : ℕ) → Fits bridge (Play c p) n moves → Fits bridge (Play c q) n moves → FitOneNode p q
fit_rest c p q n zero fits other_fits = absurd fits
fit_rest c p q n (suc moves) fits other_fits = record { node = child n c; moves = moves; fits = fits.3; other_fits = other_fits.3 }

pub fit_after : (c : ℕ) (p q : Plan ℕ) → FitOneNode (Play c p) (Play c q) → FitOneNode p q
fit_after c p q fit = fit_rest c p q fit.node fit.moves fit.fits fit.other_fits

-- ---- the replies of both

-- replies to the same cards, in card order, each two of which fit one node
pub record ReplyAlike (rs ss : Replies ℕ) : Type 0 where
  pub node : NodeValue
  pub moves : ℕ
  pub fits : FitEach bridge rs node moves
  pub other_fits : FitEach bridge ss node moves
  pub same_cards : cards_of rs ≡ cards_of ss
  pub in_order : IsCardSet (cards_of rs)

pub reply_alike : (rs ss : Replies ℕ) → FitOneNode (Hear rs) (Hear ss) → ReplyAlike rs ss
reply_alike rs ss fit = record {
  node = fit.node;
  moves = fit.moves;
  fits = fit.fits.3;
  other_fits = fit.other_fits.3;
  same_cards = fit.fits.2 ∙ sym fit.other_fits.2;
  in_order = subst IsCardSet (sym fit.fits.2) (IsCardSet-cards_where _);
}

-- the first replies of both, and those after them
pub record FirstAlike (c d : ℕ) (p q : Plan ℕ) (rs ss : Replies ℕ) : Type 0 where
  pub same : c ≡ d
  pub fit : FitOneNode p q
  pub later : ReplyAlike rs ss
  pub in_order : IsCardSet (c ∷ cards_of rs)

pub first_alike : (c d : ℕ) (p q : Plan ℕ) (rs ss : Replies ℕ) → ReplyAlike (Reply c p rs) (Reply d q ss) → FirstAlike c d p q rs ss
first_alike c d p q rs ss alike =
    let cards : c ∷ cards_of rs ≡ d ∷ cards_of ss = alike.same_cards in
    let same : c ≡ d = cc in
    let rest : cards_of rs ≡ cards_of ss = cc in
    record {
      same = same;
      fit = record {
        node = child alike.node c;
        moves = alike.moves;
        fits = alike.fits.0;
        other_fits = subst (λ x. Fits bridge q (child alike.node x) alike.moves) (sym same) alike.other_fits.0;
      };
      later = record {
        node = alike.node;
        moves = alike.moves;
        fits = alike.fits.1;
        other_fits = alike.other_fits.1;
        same_cards = rest;
        in_order = IsCardSet-tail c (cards_of rs) alike.in_order;
      };
      in_order = alike.in_order;
    }
