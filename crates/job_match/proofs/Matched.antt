-- The match in the layout of a number.
use Rattle.std.proofs.Common.{◌≡◌, ◌∙◌, ℕ, Option, Some, None, Result, Ok, Err, IsErrAnd, refl, sym, subst}
use Rattle.std.specs.Prelude.{IfErr}
use Rattle.job_words.specs.declared.asks.Search.{Search}
use Rattle.am_answer.specs.declared.root.Root.{Root}
use Rattle.am_answer.specs.declared.status.Status.{Status}
use Rattle.am_answer.specs.declared.status.Status.TheVariants.{NoLayout}
use Rattle.am_answer.specs.Answers.{match_at, place_of}
use Rattle.am_answer.specs.Tasks.{TaskValue, Match}
use Rattle.am_answer.specs.Stages.{IsTaskRefusal}

module _ (root : Root) (moves : ℕ) (search' : Search) (layout : ℕ) (switch : Option ℕ) where
  pub not_kept : place_of layout root ≡ None → match_at root moves search' layout switch ≡ Err (NoLayout layout)
  unfolding match_at
  not_kept is = rw is refl

  pub is_kept : (place : ℕ) → place_of layout root ≡ Some place
      → match_at root moves search' layout switch ≡ Ok (Match root moves search' (record { layout = layout; place = place; switch = switch }))
  unfolding match_at
  is_kept place is = rw is refl

-- the status that `?` passes on refuses too
pub refused_on : {T : Type 0} (result : Result T Status) (status : Status) (answer other : Result TaskValue Status) → IsErrAnd result (λ e. e ≡ status) → other ≡ answer → IsTaskRefusal answer status → IfErr result (IsTaskRefusal other)
refused_on (Ok x) status answer other passed same is = absurd passed
refused_on (Err e) status answer other passed same is = subst (λ a. IsTaskRefusal a e) (sym same) (subst (λ s. IsTaskRefusal answer s) (sym passed) is)
