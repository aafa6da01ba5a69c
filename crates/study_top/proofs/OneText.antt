-- The cards side by side have one text.
use Rattle.std.proofs.Common.{◌≡◌, ◌∙◌, ℕ, List, Result, Ok, sym, ap, subst}
use Rattle.am_answer.specs.declared.root.Root.{Root}
use Rattle.am_answer.specs.declared.status.Status.{Status}
use Rattle.job_words.specs.declared.study.FormName.{FormName}
use Rattle.text_forms.specs.declared.form.Form.{Form}
use Rattle.card_brackets.proofs.OneTable.{one_table}
use Rattle.card_forms.specs.declared.planned.Planned.TheVariants.{Moves}
use Rattle.card_forms.specs.Forms.{rows_in}
use Rattle.job_cards.specs.Cards.{IsCardsText}
use Rattle.study_top.specs.Forms.{form_of}
use Rattle.study_top.specs.Study.{IsToldAt, HasOneText}

cards_at : (root : Root) (moves : ℕ) (form : Form) (text more : List ℕ) → IsCardsText root moves form text → IsCardsText root moves form more → text ≡ more
cards_at root moves form text more (table, is, written) (other, also, again) =
    let weights = root.kept.weights in
    let (same_moves, same_rows, same_card) = one_table root.kept.node weights moves table other is also in
    written ∙ ap (λ m. rows_in form root.kept.node weights (Moves m) table.rows.items table.named) same_moves
    ∙ ap (λ rows. rows_in form root.kept.node weights (Moves other.moves) rows table.named) same_rows
    ∙ ap (λ card. rows_in form root.kept.node weights (Moves other.moves) other.rows.items card) same_card ∙ sym again

ok_same : (root other : Root) → ◌≡◌ {A = Result Root Status} (Ok root) (Ok other) → root ≡ other
ok_same root other same = cc

pub one_cards : (deal layouts : List ℕ) (moves : ℕ) (form : FormName) (text more : List ℕ) → IsToldAt deal layouts (λ root. IsCardsText root moves (form_of form) text)
    → IsToldAt deal layouts (λ root. IsCardsText root moves (form_of form) more) → text ≡ more
one_cards deal layouts moves form text more (root, at, is) (other, also_at, also) =
    let same = ok_same root other (sym at ∙ also_at) in
    cards_at other moves (form_of form) text more (subst (λ (r : Root). IsCardsText r moves (form_of form) text) same is) also

pub one_text : HasOneText
one_text deal layouts moves search other form text more is also = one_cards deal layouts moves form text more is also
