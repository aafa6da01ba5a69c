-- What is winnable at a node, from what is after its cards.
use Rattle.std.proofs.Common.{◌≡◌, ◌∙◌, ℕ, suc, true, false, length, Contains, List, [], ◌∷◌, filter, refl, sym, ap, subst}
use Rattle.std.proofs.lemmas.List.{length-map}
use Rattle.win_vectors.specs.Vectors.{ones_of, restrict_of, spread_of}
use Rattle.win_vectors.specs.Fronts.{Vector, Dominates}
use Rattle.strategy_games.specs.Games.{Game, mask, IsLawful, IsDoubleDummy}
use Rattle.strategy_games.specs.Plans.{Stop, Hear, stops, wins, wins_vector}
use Rattle.strategy_games.proofs.Vectors.{Dominates-trans}
use Rattle.strategy_games.proofs.Masks.{Dominates-map}
use Rattle.strategy_games.proofs.Wins.{wins_vector-stop}
use Rattle.strategy_games.proofs.Recursion.{CanWin-stop}
use Rattle.strategy_games.proofs.Nodes.{by_card_to, by_card_from, by_reply_from}
use Rattle.strategy_games.proofs.Moves.{made_by}
use Rattle.strategy_games.proofs.Replying.{spread_over, replies_over}
use Rattle.assured_games.specs.Made.{results}
use Rattle.assured_games.proofs.Zips.{length_kept, spread_up, spread_down}
use Rattle.winnable_sets.specs.Sets.{IsWinnable}
use Rattle.winnable_sets.specs.Laws.{HasTurns, HasCores}

module _ {N S C : Type 0} (g : Game N S C) where
  pub width-winnable : (n : N) (m : ℕ) (set : Vector) → IsWinnable g n m set → length set ≡ length (g.states n)
  width-winnable n m set w = go (wins_vector g w.0 n) set w.2 ∙ length-map (g.states n) (λ s. wins g w.0 s)
    where
      go : (u v : Vector) → Dominates u v → length v ≡ length u
      go [] [] d = refl
      go [] (b ∷ v) d = elim d [ ]
      go (a ∷ u) [] d = elim d [ ]
      go (a ∷ u) (b ∷ v) d = ap suc (go u v d.1)

  pub at_stop_to : (n : N) (m : ℕ) (set : Vector) → stops g n m ≡ true → IsWinnable g n m set → Dominates (results g n) set
  at_stop_to n m set stop w =
      subst (λ v. Dominates v set) (sym (CanWin-stop g n m (wins_vector g w.0 n) stop (w.0, w.1, refl)) ∙ wins_vector-stop g n) w.2

  pub at_stop_from : (n : N) (m : ℕ) (set : Vector) → stops g n m ≡ true → Dominates (results g n) set → IsWinnable g n m set
  at_stop_from n m set stop d = (Stop, stop, subst (λ v. Dominates v set) (sym (wins_vector-stop g n)) d)

  module _ (Sound : N → Type 0) (law : IsLawful g Sound) where
    at_declarer_to : (n : N) (m : ℕ) (set : Vector) → Sound n → g.is_decided n ≡ false → g.is_ours n ≡ true
        → IsWinnable g n (suc m) set → (c : C) × Contains (g.choices n) c × IsWinnable g (g.child n c) m set
    at_declarer_to n m set sound live ours w =
        let by = by_card_from g Sound law n m sound live ours (wins_vector g w.0 n) (w.0, w.1, refl) in
        (by.0, by.1, (by.2.0, by.2.1, subst (λ v. Dominates v set) (sym by.2.2) w.2))

    at_declarer_from : (n : N) (m : ℕ) (set : Vector) → Sound n → g.is_decided n ≡ false → g.is_ours n ≡ true
        → (c : C) × Contains (g.choices n) c × IsWinnable g (g.child n c) m set → IsWinnable g n (suc m) set
    at_declarer_from n m set sound live ours w =
        let by = by_card_to g Sound law n m sound live ours (wins_vector g w.2.0 (g.child n w.0)) (w.0, w.1, (w.2.0, w.2.1, refl)) in
        (by.0, by.1, subst (λ v. Dominates v set) (sym by.2) w.2.2)

    -- a child has as many layouts as its mask has ones
    width-child : (n : N) (c : C) → Sound n → Contains (g.choices n) c → length (g.states (g.child n c)) ≡ ones_of (mask g n c)
    width-child n c sound mem =
        ap (λ (ss : List S). length ss) (law.keeps n c sound mem)
        ∙ length-map (filter (λ s. g.is_legal c s) (g.states n)) (λ s. g.after c s)
        ∙ length_kept (λ s. g.is_legal c s) (g.states n)

    at_defender_to : (n : N) (m : ℕ) (set : Vector) → Sound n → g.is_decided n ≡ false → g.is_ours n ≡ false
        → IsWinnable g n (suc m) set → (c : C) → Contains (g.choices n) c
        → IsWinnable g (g.child n c) (suc m) (restrict_of set (mask g n c))
    at_defender_to n m set sound live theirs w c mem =
        let by = by_reply_from g Sound law n m live theirs (wins_vector g w.0 n) (w.0, w.1, refl) in
        let q = spread_over g Sound law by.0 n (suc m) c sound mem (subst (λ (l : List C). Contains l c) (sym by.1) mem) by.2 in
        let won = wins_vector g q.0 (g.child n c) in
        let over : Dominates (spread_of won (mask g n c)) set =
        Dominates-trans (spread_of won (mask g n c)) (wins_vector g (Hear by.0) n) set q.2 (subst (λ v. Dominates v set) (sym by.3) w.2) in
        let wide : length won ≡ ones_of (mask g n c) = length-map (g.states (g.child n c)) (λ s. wins g q.0 s) ∙ width-child n c sound mem in
        (q.0, q.1, spread_down won set (mask g n c) wide over)

    at_defender_from : (n : N) (m : ℕ) (set : Vector) → Sound n → g.is_decided n ≡ false → g.is_ours n ≡ false → length set ≡ length (g.states n)
        → ((c : C) → Contains (g.choices n) c → IsWinnable g (g.child n c) (suc m) (restrict_of set (mask g n c)))
        → IsWinnable g n (suc m) set
    at_defender_from n m set sound live theirs wide each =
        let masked : (c : C) → length set ≡ length (mask g n c) = λ c. wide ∙ sym (length-map (g.states n) (λ s. g.is_legal c s)) in
        let rs = replies_over g Sound law n (suc m) set (g.choices n) sound wide
        (λ c mem. let w = each c mem in
        (w.0, (mem, w.1, spread_up (wins_vector g w.0 (g.child n c)) set (mask g n c) (masked c) w.2))) in
        (Hear rs.0, (live, theirs, rs.1, rs.2.0), rs.2.1)

    pub turns : HasTurns g Sound
    turns = record {
      at_stop = λ n m set stop. (at_stop_to n m set stop, at_stop_from n m set stop);
      at_declarer = λ n m set sound live ours. (at_declarer_to n m set sound live ours, at_declarer_from n m set sound live ours);
      at_defender = λ n m set sound live theirs wide. (at_defender_to n m set sound live theirs, at_defender_from n m set sound live theirs wide);
    }

    -- ---- cores

    pub less_winnable : (n : N) (m : ℕ) (set part : Vector) → Dominates set part → IsWinnable g n m set → IsWinnable g n m part
    less_winnable n m set part d w = (w.0, w.1, Dominates-trans (wins_vector g w.0 n) set part w.2 d)

    module _ (double : IsDoubleDummy g Sound) where
      pub made : (n : N) (m : ℕ) (set : Vector) → Sound n → IsWinnable g n m set → Dominates (results g n) set
      made n m set sound w = Dominates-trans (results g n) (wins_vector g w.0 n) set
          (Dominates-map (λ s. g.makes s) (λ s. wins g w.0 s) (g.states n) (λ s among h. made_by g Sound law double w.0 n m s sound w.1 among h)) w.2

      width-contains : (u v : Vector) → Dominates u v → length u ≡ length v
      width-contains [] [] d = refl
      width-contains [] (b ∷ v) d = elim d [ ]
      width-contains (a ∷ u) [] d = elim d [ ]
      width-contains (a ∷ u) (b ∷ v) d = ap suc (width-contains u v d.1)

      pub cores : HasCores g Sound
      cores = record {
        at_declarer = λ n m set sound live ours wide each. record {
          width = wide;
          lost = λ w.
              let by = at_declarer_to n m set sound live ours w in
              let core = each by.0 by.1 in
              core.1.lost (less_winnable (g.child n by.0) m set core.0 core.2 by.2);
        };
        at_defender = λ n m set c sound live theirs wide mem core. record {
          width = wide;
          lost = λ w. core.lost (at_defender_to n m set sound live theirs w c mem);
        };
        larger = λ n m set core c d. record {
          width = width-contains set core d ∙ c.width;
          lost = λ w. c.lost (less_winnable n m set core d w);
        };
        lost = λ n m set sound wide out. record { width = wide; lost = λ w. out (made n m set sound w) };
      }
