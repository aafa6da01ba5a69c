-- What double dummy says of the assured front.
use Rattle.std.proofs.Common.{◌∙◌, ℕ, Bool, [], ◌∷◌, ap, subst}
use Rattle.strategy_games.specs.Games.{Game, IsLawful, IsDoubleDummy}
use Rattle.strategy_games.proofs.Fronts.{front_single}
use Rattle.strategy_games.proofs.Vectors.{Dominates-trans}
use Rattle.assured_games.specs.Assured.{Secures, IsAssured, IsAssuredFront}
use Rattle.assured_games.specs.Laws.{IsPlayedOut, IsSureOfAll}
use Rattle.assured_games.specs.Made.{results, MakesOnly, IsWithinMade, LeavesOut, LostMayBeLeftOut}
use Rattle.assured_games.proofs.Lines.{marked, line_for}
use Rattle.assured_games.proofs.Steps.{made}
use Rattle.assured_games.proofs.LeftOut.{filled_front}

module _ {N S C : Type 0} (g : Game N S C) (sure : N → Bool) (Sound : N → Type 0) (law : IsLawful g Sound) (double : IsDoubleDummy g Sound) (played : IsPlayedOut g Sound) (sure_of : IsSureOfAll g Sound sure) where
  -- a line that follows double dummy for the layout that is made
  one_made : (n : N) (m : ℕ) (t : S) → Sound n → MakesOnly g n t → IsAssuredFront g sure n m (results g n ∷ [])
  one_made n m t sound only =
      let p = line_for g sure Sound law played t n m sound in
      front_single (IsAssured g sure n m) (results g n) (
        p.0,
        p.1.0,
        marked (λ s. g.makes s) (λ s. Secures g p.0 s) (g.states n)
            (λ s k e. let same = only.1 s k e in subst (λ x. Secures g p.0 x) same (p.1.1 only.0 (ap (λ x. g.makes x) same ∙ e))),
      )
      (λ v a. made g sure Sound law double sure_of n m v sound a)

  pub within_made : IsWithinMade g Sound sure
  within_made = record { made = made g sure Sound law double sure_of; one_made = one_made }

  pub lost_out : (R : N → N → Type 0) → LeavesOut g Sound sure R → LostMayBeLeftOut g Sound sure R
  lost_out R out k n m kept part front sound whole r wide some lost f reduced =
      filled_front g sure Sound law R out played k n m kept sound whole r wide some
      (λ v a. Dominates-trans kept (results g n) v lost (made g sure Sound law double sure_of n m v whole a)) part front f reduced
