-- How a call has ended, by what was put into the buffer.
use Rattle.std.proofs.Common.{◌≡◌, ◌≢◌, ◌⊎◌, inl, inr, ℕ, ◌<◌, ◌≤◌, List, length, take, sym, ◌∙◌, subst, arith}
use Rattle.am_answer.specs.declared.status.Status.{Status}
use Rattle.am_answer.specs.declared.status.Status.TheVariants.{Memory}
use Rattle.am_answer.specs.Codes.{code_of}
use Rattle.am_answer.specs.Stages.{IsTextFor}
use Rattle.library_text.specs.Requests.{RequestValue, task_for, IsCallRefusal}
use Rattle.library_text.specs.Answered.{HasLine, IsAnswered}
use Rattle.library_text.proofs.Steps.{no_text}

module _ (request : RequestValue) (number : ℕ) (before now : List ℕ) (written : ℕ) where
  -- with a text
  pub answered_text : (text : List ℕ) → IsTextFor (task_for request) text → (number ≡ 0) ⊎ (number ≡ 8)
      → (number ≡ 0 → (written ≤ length now) × (take written now ≡ text))
      → (number ≡ 8 → (now ≡ before) × (length before < length text) × (written ≡ length text))
      → IsAnswered request number before now written
  answered_text text is ends there no_room = record {
    done = λ done. ((there done).0, subst (IsTextFor (task_for request)) (sym (there done).1) is);
    no_room = λ full. ((no_room full).0, text, is, (no_room full).1, (no_room full).2);
    refused = λ not_done not_full. absurd (elim ends [ inl done ↦ not_done done | inr full ↦ not_full full ]);
  }

  still_refused : (status said : Status) → IsCallRefusal (task_for request) status → (said ≡ status) ⊎ (said ≡ Memory) → IsCallRefusal (task_for request) said
  still_refused status said refused (inl same) = subst (IsCallRefusal (task_for request)) (sym same) refused
  still_refused status said refused (inr memory) = subst (IsCallRefusal (task_for request)) (sym memory) tt

  -- with the line of a refusal
  pub answered_refusal : (status : Status) → IsCallRefusal (task_for request) status
      → ((said : Status) × ((said ≡ status) ⊎ (said ≡ Memory)) × (number ≡ code_of said) × HasLine said now written)
      → IsAnswered request number before now written
  answered_refusal status refused line =
      let is = still_refused status line.0 refused line.1 in
      let other = no_text (task_for request) line.0 is in
      record {
        done = λ done. absurd (other.0 (sym line.2 ∙ done));
        no_room = λ full. absurd (other.1 (sym line.2 ∙ full));
        refused = λ not_done not_full. (line.0, is, line.2, line.3);
      }
