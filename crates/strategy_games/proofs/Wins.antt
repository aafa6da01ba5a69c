-- What plans win: a card of declarer's side, a defender's replies, and double dummy as a bound.
use Rattle.std.proofs.Common.{◌≡◌, ◌&&◌, ◌++◌, ◌∙◌, ℕ, Bool, true, false, cond, List, [], ◌∷◌, map, filter, Contains, refl, sym, ap, ap₂, subst}
use Rattle.std.specs.List.{list_all}
use Rattle.std.proofs.lemmas.List.Folds.{list_all-append}
use Rattle.win_vectors.specs.Vectors.{meet_of, spread_of, restrict_of}
use Rattle.win_vectors.specs.Fronts.{Vector}
use Rattle.strategy_games.specs.Games.{Game, mask, IsLawful}
use Rattle.strategy_games.specs.Plans.{Plan, Replies, Stop, Play, Hear, NoReply, Reply, cards_of, Fits, FitEach, ends, ends_each, wins, wins_vector}
use Rattle.strategy_games.proofs.Lists.{Contains-map, Contains-filter, map-agree, All-at}
use Rattle.strategy_games.proofs.Masks.{meet-map, spread-map, restrict-map, filter_all, map-map}

-- ---- one reply more, at the end

pub with_reply : {C : Type 0} → Replies C → C → Plan C → Replies C
with_reply NoReply c q = Reply c q NoReply
with_reply (Reply d p rs) c q = Reply d p (with_reply rs c q)

pub cards_of-with_reply : {C : Type 0} (rs : Replies C) (c : C) (q : Plan C) → cards_of (with_reply rs c q) ≡ cards_of rs ++ c ∷ []
unfolding with_reply
cards_of-with_reply NoReply c q = refl
cards_of-with_reply {C} (Reply d p rs) c q = ap (λ (l : List C). d ∷ l) (cards_of-with_reply rs c q)

again : {C : Type 0} (d : C) (q : Plan C) (rs : Replies C) (d' : C) (cs : List C) (c : C) → d ≡ d' → (less : Replies C) × (p : Plan C) × (cards_of less ≡ cs) × (rs ≡ with_reply less c p)
    → (less : Replies C) × (p : Plan C) × (cards_of less ≡ d' ∷ cs) × (Reply d q rs ≡ with_reply less c p)
unfolding with_reply
again {C} d q rs d' cs c heads r = (Reply d q r.0, r.1, ap₂ (λ (x : C) (l : List C). x ∷ l) heads r.2, ap (λ (l : Replies C). Reply d q l) r.3)

-- replies to some cards and one more end with a reply to that one
pub split_reply : {C : Type 0} (rs : Replies C) (cs : List C) (c : C) → cards_of rs ≡ cs ++ c ∷ [] → (less : Replies C) × (q : Plan C) × (cards_of less ≡ cs) × (rs ≡ with_reply less c q)
unfolding with_reply
split_reply NoReply [] c e = absurd cc
split_reply NoReply (d ∷ cs) c e = absurd cc
split_reply {C} (Reply d q NoReply) [] c e = let heads : d ≡ c = cc in (NoReply, q, refl, ap (λ (x : C). Reply x q NoReply) heads)
split_reply (Reply d q (Reply d' q' rs)) [] c e = absurd cc
split_reply {C} (Reply d q rs) (d' ∷ cs) c e =
    let tails : cards_of rs ≡ cs ++ c ∷ [] = cc in
    let heads : d ≡ d' = cc in
    again d q rs d' cs c heads (split_reply rs cs c tails)

module _ {N S C : Type 0} (g : Game N S C) where
  pub FitEach-with_reply : (rs : Replies C) (c : C) (q : Plan C) (n : N) (m : ℕ) → FitEach g rs n m → Fits g q (g.child n c) m → FitEach g (with_reply rs c q) n m
  unfolding with_reply
  FitEach-with_reply NoReply c q n m h k = (k, tt)
  FitEach-with_reply (Reply d p rs) c q n m h k = (h.0, FitEach-with_reply rs c q n m h.1 k)

  pub FitEach-of_with_reply : (rs : Replies C) (c : C) (q : Plan C) (n : N) (m : ℕ) → FitEach g (with_reply rs c q) n m → FitEach g rs n m × Fits g q (g.child n c) m
  unfolding with_reply
  FitEach-of_with_reply NoReply c q n m h = (tt, h.0)
  FitEach-of_with_reply (Reply d p rs) c q n m h = let r = FitEach-of_with_reply rs c q n m h.1 in ((h.0, r.0), r.1)

  -- what a reply lets through in a layout: everything where its card isn't legal
  abbrev pub lets : C → Plan C → S → Bool
  lets c q s = cond (g.is_legal c s) (wins g q (g.after c s)) true

  pub wins-first : (c : C) (q : Plan C) (rs : Replies C) (s : S) → wins g (Hear (Reply c q rs)) s ≡ (lets c q s && wins g (Hear rs) s)
  wins-first c q rs s = list_all-append (λ e. g.makes e) (cond (g.is_legal c s) (ends g q (g.after c s)) []) (ends_each g rs s) ∙ ap (λ (b : Bool). b && wins g (Hear rs) s) (go (g.is_legal c s))
    where
      go : (b : Bool) → list_all (λ e. g.makes e) (cond b (ends g q (g.after c s)) []) ≡ cond b (wins g q (g.after c s)) true
      go true = refl
      go false = refl

  and_comm : (a b : Bool) → (a && b) ≡ (b && a)
  and_comm true true = refl
  and_comm true false = refl
  and_comm false true = refl
  and_comm false false = refl

  and_assoc : (a b c : Bool) → (a && (b && c)) ≡ ((a && b) && c)
  and_assoc true b c = refl
  and_assoc false b c = refl

  wins-last : (rs : Replies C) (c : C) (q : Plan C) (s : S) → wins g (Hear (with_reply rs c q)) s ≡ (wins g (Hear rs) s && lets c q s)
  unfolding with_reply
  wins-last NoReply c q s = wins-first c q NoReply s ∙ and_comm (lets c q s) true
  wins-last (Reply d p rs) c q s = wins-first d p (with_reply rs c q) s ∙ ap (λ (b : Bool). lets d p s && b) (wins-last rs c q s) ∙ and_assoc (lets d p s) (wins g (Hear rs) s) (lets c q s) ∙ ap (λ (b : Bool). b && lets c q s) (sym (wins-first d p rs s))

  -- a plan that stops wins what double dummy makes
  pub wins-stop : (s : S) → wins g Stop s ≡ g.makes s
  wins-stop s = and_comm (g.makes s) true

  pub wins_vector-stop : (n : N) → wins_vector g Stop n ≡ map (λ s. g.makes s) (g.states n)
  wins_vector-stop n = map-agree (λ s. wins g Stop s) (λ s. g.makes s) (g.states n) (λ s m. wins-stop s)

  module _ (Sound : N → Type 0) (law : IsLawful g Sound) where
    -- a child's states, where the card is legal in each layout
    pub states-child : (n : N) (c : C) → Sound n → g.is_ours n ≡ true → Contains (g.choices n) c → g.states (g.child n c) ≡ map (λ s. g.after c s) (g.states n)
    states-child n c sound ours m = law.keeps n c sound m ∙ ap (λ (l : List S). map (λ s. g.after c s) l) (filter_all (λ s. g.is_legal c s) (g.states n) (λ s k. All-at (λ t. g.is_legal c t ≡ true) (g.states n) (law.seen n c sound ours m) s k))

    -- a card of declarer's side: the plan below it wins the same layouts
    pub wins_vector-play : (n : N) (c : C) (q : Plan C) → Sound n → g.is_ours n ≡ true → Contains (g.choices n) c → wins_vector g (Play c q) n ≡ wins_vector g q (g.child n c)
    wins_vector-play n c q sound ours m = sym (ap (λ (l : List S). map (λ s. wins g q s) l) (states-child n c sound ours m) ∙ map-map (λ s. wins g q s) (λ s. g.after c s) (g.states n))

    -- a reply's vector, spread over the node
    pub spread-reply : (n : N) (c : C) (q : Plan C) → Sound n → Contains (g.choices n) c → spread_of (wins_vector g q (g.child n c)) (mask g n c) ≡ map (λ s. lets c q s) (g.states n)
    spread-reply n c q sound m = ap (λ (l : Vector). spread_of l (mask g n c)) (ap (λ (l : List S). map (λ s. wins g q s) l) (law.keeps n c sound m) ∙ map-map (λ s. wins g q s) (λ s. g.after c s) (filter (λ s. g.is_legal c s) (g.states n)))
        ∙ spread-map (λ s. g.is_legal c s) (λ s. wins g q (g.after c s)) (g.states n)

    meet-reply : (n : N) (c : C) (q : Plan C) (rs : Replies C) → Sound n → Contains (g.choices n) c
        → map (λ s. wins g (Hear rs) s && lets c q s) (g.states n) ≡ meet_of (wins_vector g (Hear rs) n) (spread_of (wins_vector g q (g.child n c)) (mask g n c))
    meet-reply n c q rs sound m = sym (ap (λ (l : Vector). meet_of (wins_vector g (Hear rs) n) l) (spread-reply n c q sound m) ∙ meet-map (λ s. wins g (Hear rs) s) (λ s. lets c q s) (g.states n))

    -- a reply, before others or after them: the meet with its vector, spread over the node
    pub wins_vector-first : (n : N) (c : C) (q : Plan C) (rs : Replies C) → Sound n → Contains (g.choices n) c
        → wins_vector g (Hear (Reply c q rs)) n ≡ meet_of (wins_vector g (Hear rs) n) (spread_of (wins_vector g q (g.child n c)) (mask g n c))
    wins_vector-first n c q rs sound m = map-agree (λ s. wins g (Hear (Reply c q rs)) s) (λ s. wins g (Hear rs) s && lets c q s) (g.states n) (λ s k. wins-first c q rs s ∙ and_comm (lets c q s) (wins g (Hear rs) s)) ∙ meet-reply n c q rs sound m

    pub wins_vector-last : (n : N) (c : C) (q : Plan C) (rs : Replies C) → Sound n → Contains (g.choices n) c
        → wins_vector g (Hear (with_reply rs c q)) n ≡ meet_of (wins_vector g (Hear rs) n) (spread_of (wins_vector g q (g.child n c)) (mask g n c))
    wins_vector-last n c q rs sound m = map-agree (λ s. wins g (Hear (with_reply rs c q)) s) (λ s. wins g (Hear rs) s && lets c q s) (g.states n) (λ s k. wins-last rs c q s) ∙ meet-reply n c q rs sound m

    -- a layout in which the card is legal is one of the child's
    pub Contains-after : (n : N) (c : C) (s : S) → Sound n → Contains (g.choices n) c → Contains (g.states n) s → g.is_legal c s ≡ true → Contains (g.states (g.child n c)) (g.after c s)
    Contains-after n c s sound m k legal = subst (λ (l : List S). Contains l (g.after c s)) (sym (law.keeps n c sound m)) (Contains-map (λ s. g.after c s) (filter (λ s. g.is_legal c s) (g.states n)) s (Contains-filter (λ s. g.is_legal c s) (g.states n) s k legal))

    -- the part of a vector at the layouts of a child
    pub restrict-child : (n : N) (c : C) (F : S → Bool) → Sound n → Contains (g.choices n) c → restrict_of (map F (g.states n)) (mask g n c) ≡ map F (filter (λ s. g.is_legal c s) (g.states n))
    restrict-child n c F sound m = restrict-map (λ s. g.is_legal c s) F (g.states n)
