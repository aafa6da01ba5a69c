-- A search that ends with no answer.
use Rattle.std.proofs.Common.{◌≡◌, ℕ, Result, Ok, IsErrAnd, refl, sym, subst, arith}
use Rattle.std.specs.Prelude.{IfErr}
use Rattle.trick_rules.specs.Nodes.{NodeValue}
use Rattle.job_words.specs.declared.asks.Search.{Search}
use Rattle.job_words.specs.Asks.{IsSearchWithinLimits}
use Rattle.strategy_tree.specs.RootTrees.{IsSpentAt, IsFirstSpentAt, AllFit}
use Rattle.root_workers.specs.declared.root.Options.{Options}
use Rattle.root_workers.specs.Plain as options
use Rattle.strategy_tree.specs.declared.root_fault.RootFault as faults
use Rattle.am_answer.specs.declared.root.Root.{Root}
use Rattle.am_answer.specs.declared.status.Status.{Status}
use Rattle.am_answer.specs.Tasks.{TaskValue}
use Rattle.am_answer.specs.Endings.{IsPlain, IsSpentBy, IsSpentOn}
use Rattle.am_answer.specs.Refusals.{root_status}
use Rattle.am_answer.specs.Stages.{IsTaskRefusal}
use Rattle.am_answer.proofs.Passed.{refused_by}

-- the tree is too large, or memory ran out
pub spent_task : (task : TaskValue) (fault : faults.RootFault) → ((card : ℕ) → fault ≡ faults.TheVariants.Spent card → IsSpentOn task card) → IsTaskRefusal (Ok task) (root_status fault)
spent_task task (faults.TheVariants.Spent card) spent = (task, refl, spent card refl)
spent_task task faults.TheVariants.Memory spent = tt

-- at a card that the loop over root cards names
pub spent_by : (n : NodeValue) (moves : ℕ) (search' : Search) (card : ℕ) → IsSpentAt n moves search'.nodes card → (IsPlain search' → IsFirstSpentAt n moves search'.nodes card) → IsSpentBy n moves search' card
spent_by n moves search' card spent first = record { spent = spent; first = first }

-- at a card of a plan: in a plain search there is none where the trees of all root cards fit
pub spent_later : (n : NodeValue) (moves : ℕ) (search' : Search) (card : ℕ) → IsSpentAt n moves search'.nodes card → (IsPlain search' → AllFit n moves search'.nodes) → IsSpentBy n moves search' card
spent_later n moves search' card spent fits = record { spent = spent; first = λ plain. absurd (omega (arith, fits plain card spent.0, spent.1)) }

-- how a root is searched, as the words ask
abbrev pub asked : Search → Options
asked s = record { nodes = s.nodes; workers = s.workers; table = s.table; cuts = s.cuts }

-- what is said by the options of a root as it is opened is said by the words of the root as it is
pub spent_as : (opened root : Root) → opened ≡ root → (o : Options) (s : Search) → o ≡ asked s → (moves card : ℕ) → IsSpentAt opened.kept.node moves o.nodes card → IsSpentAt root.kept.node moves s.nodes card
spent_as opened root is o s same moves card spent =
    subst (λ (r : Root). IsSpentAt r.kept.node moves s.nodes card) is
    (subst (λ (p : Options). IsSpentAt opened.kept.node moves p.nodes card) same spent)

pub first_as : (opened root : Root) → opened ≡ root → (o : Options) (s : Search) → o ≡ asked s → (moves card : ℕ) → (options.IsPlain o → IsFirstSpentAt opened.kept.node moves o.nodes card) → IsPlain s → IsFirstSpentAt root.kept.node moves s.nodes card
first_as opened root is o s same moves card first plain =
    subst (λ (r : Root). IsFirstSpentAt r.kept.node moves s.nodes card) is
    (subst (λ (p : Options). options.IsPlain p → IsFirstSpentAt opened.kept.node moves p.nodes card) same first (record { table = plain.0; cuts = plain.1 }))

pub fits_as : (opened root : Root) → opened ≡ root → (o : Options) (s : Search) → o ≡ asked s → (moves : ℕ) → (options.IsPlain o → AllFit opened.kept.node moves o.nodes) → IsPlain s → AllFit root.kept.node moves s.nodes
fits_as opened root is o s same moves fits plain =
    subst (λ (r : Root). AllFit r.kept.node moves s.nodes) is
    (subst (λ (p : Options). options.IsPlain p → AllFit opened.kept.node moves p.nodes) same fits (record { table = plain.0; cuts = plain.1 }))

pub workers_as : (o : Options) (s : Search) → o ≡ asked s → IsSearchWithinLimits s → options.HasWorkers o
workers_as o s same within = subst (λ (p : Options). options.HasWorkers p) (sym same) (record { some = within.workers.0; few = within.workers.1 })

-- ---- how a job is refused, if the search of the root as it is opened ends with a fault

module _ {T : Type 0} (opened root : Root) (is : opened ≡ root) (o : Options) (s : Search) (same : o ≡ asked s) (moves : ℕ) (task : TaskValue) where
  refused_at : (result : Result T Status) (fault : faults.RootFault) → ((card : ℕ) → IsSpentBy root.kept.node moves s card → IsSpentOn task card)
      → IsErrAnd result (λ e. e ≡ root_status fault) → ((card : ℕ) → fault ≡ faults.TheVariants.Spent card → IsSpentBy root.kept.node moves s card) → IfErr result (IsTaskRefusal (Ok task))
  refused_at result fault on_task passed spent = refused_by (IsTaskRefusal (Ok task)) result (root_status fault) passed (spent_task task fault (λ card e. on_task card (spent card e)))

  -- by the loop over root cards
  pub refused_first : (result : Result T Status) (fault : faults.RootFault) → ((card : ℕ) → IsSpentBy root.kept.node moves s card → IsSpentOn task card)
      → IsErrAnd result (λ e. e ≡ root_status fault)
      → ((card : ℕ) → fault ≡ faults.TheVariants.Spent card → IsSpentAt opened.kept.node moves o.nodes card)
      → ((card : ℕ) → fault ≡ faults.TheVariants.Spent card → options.IsPlain o → IsFirstSpentAt opened.kept.node moves o.nodes card) → IfErr result (IsTaskRefusal (Ok task))
  refused_first result fault on_task passed spent first = refused_at result fault on_task passed
      (λ card e. spent_by root.kept.node moves s card (spent_as opened root is o s same moves card (spent card e)) (first_as opened root is o s same moves card (first card e)))

  -- by the finder of a plan, after the loop
  pub refused_later : (result : Result T Status) (fault : faults.RootFault) → ((card : ℕ) → IsSpentBy root.kept.node moves s card → IsSpentOn task card)
      → IsErrAnd result (λ e. e ≡ root_status fault)
      → ((card : ℕ) → fault ≡ faults.TheVariants.Spent card → IsSpentAt opened.kept.node moves o.nodes card)
      → (options.IsPlain o → AllFit opened.kept.node moves o.nodes) → IfErr result (IsTaskRefusal (Ok task))
  refused_later result fault on_task passed spent fits = refused_at result fault on_task passed
      (λ card e. spent_later root.kept.node moves s card (spent_as opened root is o s same moves card (spent card e)) (fits_as opened root is o s same moves fits))
