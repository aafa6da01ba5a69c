-- The text of a log, and a root card whose tree is too large.
use Rattle.std.proofs.Common.{◌≡◌, ℕ, List, Ok, refl, subst}
use Rattle.log_texts.specs.LogText.{IsLogTextFor}
use Rattle.strategy_tree.specs.declared.root_fault.RootFault.{RootFault}
use Rattle.strategy_tree.specs.declared.root_fault.RootFault.TheVariants.{Spent, Memory}
use Rattle.am_answer.specs.declared.root.Root.{Root}
use Rattle.am_answer.specs.Tasks.{Prove}
use Rattle.am_answer.specs.Endings.{IsSpentOn, IsWithinIfPlain}
use Rattle.am_answer.specs.Refusals.{root_status}
use Rattle.am_answer.specs.Stages.{IsTaskRefusal, IsTextFor}

module _ (opened root : Root) (same : opened ≡ root) (moves nodes : ℕ) where
  -- the log of a root as it is opened is that of the root as it is
  pub prove_text : (text : List ℕ) → IsLogTextFor opened.kept.node moves text → IsWithinIfPlain (Prove opened moves nodes)
      → IsTextFor (Ok (Prove root moves nodes)) text
  prove_text text is fits = subst (λ (r : Root). IsTextFor (Ok (Prove r moves nodes)) text) same (record {
    task = Prove opened moves nodes;
    accepted = refl;
    is_text = is;
    fits = fits;
  })

  -- the tree is too large, or memory ran out
  pub prove_refused : (fault : RootFault) → ((card : ℕ) → fault ≡ Spent card → IsSpentOn (Prove opened moves nodes) card) → IsTaskRefusal (Ok (Prove root moves nodes)) (root_status fault)
  prove_refused (Spent card) spent = subst (λ (r : Root). IsTaskRefusal (Ok (Prove r moves nodes)) (root_status (Spent card))) same (Prove opened moves nodes, refl, spent card refl)
  prove_refused Memory spent = tt
