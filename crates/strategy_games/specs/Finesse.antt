-- The smallest game in which seeing all layouts wins more than any strategy: a queen lies in one of two hands, and declarer guesses once.
use Rattle.std.specs.Prelude.{◌≡◌, ◌<◌, ℕ, Bool, true, false, ⊤, List, [], ◌∷◌, length, map, filter, All, Option, Some, None, Contains, Decides, refl}
use Rattle.std.proofs.Common.{zero, suc, get_or, ap, sym, not-suc-le-zero, lt-suc_self, true≢false, zero-lt-suc, suc-ne-zero, le_of_suc-le-suc}
use Rattle.std.proofs.lemmas.List.Elements.{All-nil, All-cons}
use Rattle.strategy_games.specs.Games.{Game, IsLawful, IsDoubleDummy, IsSettled}

-- what everybody sees: nothing yet, the hand that declarer guesses, and then the hand that shows the queen. (`true`: the left hand)
pub data Spot : Type 0 where
  ToGuess : Spot
  Guessed : Bool → Spot
  Shown : Bool → Bool → Spot

-- the guess, once it is made, and the hand with the queen
pub record Deal : Type 0 where
  pub guess : Option Bool
  pub queen : Bool

-- is this the same hand?
abbrev pub same_hand : Bool → Bool → Bool
same_hand true q = q
same_hand false true = false
same_hand false false = true

abbrev pub deals : Spot → List Deal
deals ToGuess = record { guess = None; queen = true } ∷ record { guess = None; queen = false } ∷ []
deals (Guessed h) = record { guess = Some h; queen = true } ∷ record { guess = Some h; queen = false } ∷ []
deals (Shown h q) = record { guess = Some h; queen = q } ∷ []

abbrev pub guesses : Spot → Bool
guesses ToGuess = true
guesses (Guessed h) = false
guesses (Shown h q) = false

abbrev pub shows : Spot → Bool
shows ToGuess = false
shows (Guessed h) = false
shows (Shown h q) = true

abbrev pub right : Spot → Bool
right ToGuess = false
right (Guessed h) = false
right (Shown h q) = same_hand h q

abbrev pub turns_left : Spot → ℕ
turns_left ToGuess = 2
turns_left (Guessed h) = 1
turns_left (Shown h q) = 0

abbrev pub hands : Spot → List Bool
hands ToGuess = true ∷ false ∷ []
hands (Guessed h) = true ∷ false ∷ []
hands (Shown h q) = []

abbrev pub next : Spot → Bool → Spot
next ToGuess h = Guessed h
next (Guessed h) q = Shown h q
next (Shown h q) r = Shown h q

-- any hand may be guessed; the hand with the queen shows it
abbrev pub may : Option Bool → Bool → Bool → Bool
may None c q = true
may (Some h) c q = same_hand c q

abbrev pub guess_after : Option Bool → Bool → Option Bool
guess_after None c = Some c
guess_after (Some h) c = Some h

-- before the guess a declarer who sees the queen guesses right
abbrev pub made : Option Bool → Bool → Bool
made None q = true
made (Some h) q = same_hand h q

abbrev pub finesse : Game Spot Deal Bool
finesse = record {
  states = deals;
  is_ours = guesses;
  is_over = shows;
  is_decided = shows;
  is_made = right;
  cards_left = turns_left;
  choices = hands;
  child = next;
  is_legal = λ c d. may d.guess c d.queen;
  after = λ c d. record { guess = guess_after d.guess c; queen = d.queen };
  makes = λ d. made d.guess d.queen;
}

-- each node is sound
abbrev pub Any : Spot → Type 0
Any n = ⊤

-- ---- the rules hold

none_in : {X : Type 0} (x : X) → Contains [] x → ⊥
none_in x m = not-suc-le-zero m.1

both_in : (q : Bool) → Contains (true ∷ false ∷ []) q
both_in true = (0, zero-lt-suc 1, refl)
both_in false = (1, lt-suc_self 1, refl)

pub finesse-keeps : (n : Spot) (c : Bool) → Any n → Contains (hands n) c → deals (next n c) ≡ map (λ d. finesse.after c d) (filter (λ d. finesse.is_legal c d) (deals n))
finesse-keeps ToGuess c sound m = refl
finesse-keeps (Guessed h) true sound m = refl
finesse-keeps (Guessed h) false sound m = refl
finesse-keeps (Shown h q) c sound m = absurd (none_in c m)

pub finesse-seen : (n : Spot) (c : Bool) → Any n → guesses n ≡ true → Contains (hands n) c → All (λ d. finesse.is_legal c d ≡ true) (deals n)
finesse-seen ToGuess c sound e m = All-cons (λ d. finesse.is_legal c d ≡ true) (record { guess = None; queen = true }) (record { guess = None; queen = false } ∷ []) refl
    (All-cons (λ d. finesse.is_legal c d ≡ true) (record { guess = None; queen = false }) [] refl (All-nil (λ d. finesse.is_legal c d ≡ true)))
finesse-seen (Guessed h) c sound e m = absurd (true≢false (sym e))
finesse-seen (Shown h q) c sound e m = absurd (true≢false (sym e))

pub finesse-some_card : (n : Spot) → Any n → shows n ≡ false → hands n ≡ [] → ⊥
finesse-some_card ToGuess sound on e = suc-ne-zero 1 (ap (λ (l : List Bool). length l) e)
finesse-some_card (Guessed h) sound on e = suc-ne-zero 1 (ap (λ (l : List Bool). length l) e)
finesse-some_card (Shown h q) sound on e = true≢false on

pub finesse-falls : (n : Spot) (c : Bool) → Any n → shows n ≡ false → Contains (hands n) c → turns_left (next n c) < turns_left n
finesse-falls ToGuess c sound on m = lt-suc_self 1
finesse-falls (Guessed h) c sound on m = zero-lt-suc 0
finesse-falls (Shown h q) c sound on m = absurd (true≢false on)

pub finesse_lawful : IsLawful finesse Any
finesse_lawful = record {
  holds = λ n c sound m. tt;
  keeps = finesse-keeps;
  seen = finesse-seen;
  ended = λ n sound e. e;
  some_card = finesse-some_card;
  falls = finesse-falls;
}

after_guess : (o : Option Bool) (c q : Bool) → made (guess_after o c) q ≡ true → made o q ≡ true
after_guess None c q e = refl
after_guess (Some h) c q e = e

own_hand : (o : Option Bool) (q : Bool) → may o q q ≡ true
own_hand None q = refl
own_hand (Some h) true = refl
own_hand (Some h) false = refl

pub finesse-theirs : (n : Spot) (d : Deal) → Any n → Contains (deals n) d → shows n ≡ false → guesses n ≡ false → ((c : Bool) → Contains (hands n) c → finesse.is_legal c d ≡ true → finesse.makes (finesse.after c d) ≡ true) → finesse.makes d ≡ true
finesse-theirs ToGuess d sound m on theirs h = absurd (true≢false theirs)
finesse-theirs (Guessed g) d sound m on theirs h = after_guess d.guess d.queen d.queen (h d.queen (both_in d.queen) (own_hand d.guess d.queen))
finesse-theirs (Shown g q) d sound m on theirs h = absurd (true≢false on)

pub finesse_double_dummy : IsDoubleDummy finesse Any
finesse_double_dummy = record {
  ours = λ n d c sound m on ours k e. after_guess d.guess c d.queen e;
  theirs = finesse-theirs;
}

one_deal : (d e : Deal) → Contains (d ∷ []) e → d ≡ e
one_deal d e m = go m.0 m.1 m.2
  where
    go : (k : ℕ) → k < 1 → get_or (d ∷ []) k e ≡ e → d ≡ e
    go zero l is = is
    go (suc k) l is = absurd (not-suc-le-zero (le_of_suc-le-suc l))

pub finesse-same : (n : Spot) (d : Deal) → Any n → shows n ≡ true → Contains (deals n) d → finesse.makes d ≡ right n
finesse-same ToGuess d sound e m = absurd (true≢false (sym e))
finesse-same (Guessed h) d sound e m = absurd (true≢false (sym e))
finesse-same (Shown h q) d sound e m = ap (λ (x : Deal). made x.guess x.queen) (sym (one_deal (record { guess = Some h; queen = q }) d m))

pub finesse-stays : (n : Spot) (c : Bool) → Any n → shows n ≡ true → Contains (hands n) c → (shows (next n c) ≡ true) × (right (next n c) ≡ right n)
finesse-stays ToGuess c sound e m = absurd (true≢false (sym e))
finesse-stays (Guessed h) c sound e m = absurd (true≢false (sym e))
finesse-stays (Shown h q) c sound e m = absurd (none_in c m)

pub finesse-some_legal : (n : Spot) (d : Deal) → Any n → shows n ≡ false → Contains (deals n) d → (c : Bool) × Contains (hands n) c × (finesse.is_legal c d ≡ true)
finesse-some_legal ToGuess d sound on m = (d.queen, both_in d.queen, own_hand d.guess d.queen)
finesse-some_legal (Guessed h) d sound on m = (d.queen, both_in d.queen, own_hand d.guess d.queen)
finesse-some_legal (Shown h q) d sound on m = absurd (true≢false on)

pub finesse_settled : IsSettled finesse Any
finesse_settled = record { same = finesse-same; stays = finesse-stays; some_legal = finesse-some_legal }

pub hands_told : (c d : Bool) → Decides (same_hand c d) (c ≡ d)
hands_told true true = (λ e. refl, λ e. refl)
hands_told true false = (λ e. sym e, λ e. sym e)
hands_told false true = (λ e. e, λ e. e)
hands_told false false = (λ e. refl, λ e. refl)
