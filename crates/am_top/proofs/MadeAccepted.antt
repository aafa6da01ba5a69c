-- Words that ask for the problem of a number are accepted.
use Rattle.std.proofs.Common.{◌≡◌, ◌∙◌, ℕ, List, Some, Ok, refl}
use Rattle.am_outside.specs.Shelf.{Files}
use Rattle.job_words.specs.declared.asks.Search.{Search}
use Rattle.job_words.specs.declared.asks.Ask.TheVariants.{Made}
use Rattle.job_words.specs.Words.{words_read}
use Rattle.layout_maker.specs.MadeProblem.{made_deal, made_layouts, IsAcceptedProblem}
use Rattle.layout_maker.proofs.MadeAccepted.{accepted}
use Rattle.am_answer.specs.declared.root.Root.{Root}
use Rattle.am_answer.specs.Answers.{answer, task_in, made_in, root_in, root_on, board_in, kept_in}
use Rattle.am_answer.specs.Tasks as tasks
use Rattle.am_answer.specs.Files.{inputs_read, named_read}

abbrev root_made : (number : ℕ) → IsAcceptedProblem number → Root
root_made number is = record { board = is.board; kept = is.kept }

root-made : (number : ℕ) (is : IsAcceptedProblem number) → root_in (made_deal number) (made_layouts number) ≡ Ok (root_made number is)
unfolding root_in root_on board_in kept_in
root-made number is = rw (is.one_game, is.its_board, is.its_layouts, is.is_on, is.own_turn) refl

answer-made : (words : List (List ℕ)) (files : Files) (number : ℕ) (search : Search) → words_read words ≡ Some (Made number search) → answer words files ≡ made_in number search
unfolding answer inputs_read named_read task_in
answer-made words files number search asked = rw asked refl

-- the number leads to a root
pub made-problem : (number : ℕ) (search : Search) → (root : Root) × (made_in number search ≡ Ok (tasks.Made number root search))
unfolding made_in
made-problem number search = (root_made number (accepted number), rw (root-made number (accepted number)) refl)

pub made-accepted : (words : List (List ℕ)) (files : Files) (number : ℕ) (search : Search) → words_read words ≡ Some (Made number search)
    → (root : Root) × (answer words files ≡ Ok (tasks.Made number root search))
made-accepted words files number search asked =
    let made = made-problem number search in
    (made.0, answer-made words files number search asked ∙ made.1)
