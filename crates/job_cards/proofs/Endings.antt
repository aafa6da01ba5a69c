-- How the job ends: with the text of what was found, or with a fault.
use Rattle.std.proofs.Common.{◌≡◌, ℕ, List, refl, subst}
use Rattle.job_words.specs.declared.asks.Search.{Search}
use Rattle.root_workers.specs.declared.root.Options.{Options}
use Rattle.strategy_tree.specs.declared.root_fault.RootFault.{RootFault}
use Rattle.strategy_tree.specs.declared.root_fault.RootFault.TheVariants.{Spent, Memory}
use Rattle.am_answer.specs.declared.root.Root.{Root}
use Rattle.am_answer.specs.Refusals.{root_status}
use Rattle.card_brackets.specs.declared.table.CardTable.{CardTable}
use Rattle.card_brackets.specs.Rows.{IsTableUpTo, IsSpentUpTo}
use Rattle.exact_cards.specs.declared.table.ExactTable.{ExactTable}
use Rattle.exact_cards.specs.ExactRows.{IsExactTable, AreFinalUnlessSpent}
use Rattle.text_forms.specs.declared.form.Form.{Form}
use Rattle.card_forms.specs.Forms.{cards_in, exact_in}
use Rattle.job_cards.specs.Cards.{IsCardsText, IsCardsRefusal, IsExactText, IsPlannedTable}

-- the same root, once as it is and once as it is opened
module _ (opened root : Root) (same : opened ≡ root) (moves : ℕ) where
  pub table_of : (table : CardTable) → IsTableUpTo opened.kept.node opened.kept.weights moves table → IsTableUpTo root.kept.node root.kept.weights moves table
  table_of table is = subst (λ (r : Root). IsTableUpTo r.kept.node r.kept.weights moves table) same is

  pub text_of : (form : Form) (table : CardTable) (text : List ℕ) → IsTableUpTo root.kept.node root.kept.weights moves table → text ≡ cards_in form opened.kept.node opened.kept.weights table → IsCardsText root moves form text
  text_of form table text is written = (table, is, subst (λ (r : Root). text ≡ cards_in form r.kept.node r.kept.weights table) same written)

  refused : (s : Search) (fault : RootFault) → ((card : ℕ) → fault ≡ Spent card → IsSpentUpTo root.kept.node root.kept.weights moves s.nodes card) → IsCardsRefusal root moves s (root_status fault)
  refused s (Spent card) spent = spent card refl
  refused s Memory spent = tt

  pub refusal_of : (o : Options) (s : Search) → o ≡ record { nodes = s.nodes; workers = s.workers; table = s.table; cuts = s.cuts } → (fault : RootFault)
      → ((card : ℕ) → fault ≡ Spent card → IsSpentUpTo opened.kept.node opened.kept.weights moves o.nodes card) → IsCardsRefusal root moves s (root_status fault)
  refusal_of o s asked fault spent = refused s fault (λ card is.
      subst (λ (r : Root). IsSpentUpTo r.kept.node r.kept.weights moves s.nodes card) same
      (subst (λ (p : Options). IsSpentUpTo opened.kept.node opened.kept.weights moves p.nodes card) asked (spent card is)))

pub exact_of : (opened root : Root) → opened ≡ root → (nodes : ℕ) (form : Form) (table : ExactTable) (text : List ℕ) → IsExactTable opened.kept.node opened.kept.weights table → AreFinalUnlessSpent nodes table
    → text ≡ exact_in form opened.kept.node opened.kept.weights table → IsExactText root nodes form text
exact_of opened root same nodes form table text is spent written = (
  table,
  subst (λ (r : Root). IsExactTable r.kept.node r.kept.weights table) same is,
  spent,
  subst (λ (r : Root). text ≡ exact_in form r.kept.node r.kept.weights table) same written,
)

pub planned_of : (opened root : Root) → opened ≡ root → (nodes moves : ℕ) (exact : ExactTable) → IsExactTable opened.kept.node opened.kept.weights exact → AreFinalUnlessSpent nodes exact
    → IsPlannedTable root nodes moves (record { moves = moves; rows = exact.rows; named = exact.named })
planned_of opened root same nodes moves exact is spent = (
  exact,
  subst (λ (r : Root). IsExactTable r.kept.node r.kept.weights exact) same is,
  spent,
  refl,
)
