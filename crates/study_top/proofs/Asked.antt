-- What words ask for, and what comes of it.
use Rattle.std.proofs.Common.{◌≡◌, ◌⊎◌, ℕ, List, Option, Result, Ok, Err, IsErrAnd, refl, sym, subst, inr}
use Rattle.std.specs.Prelude.{IfSome, IfOk, IfErr}
use Rattle.std.proofs.lemmas.Option.{IfSome_then}
use Rattle.std.proofs.lemmas.Result.{IfOk-weaker, IfErr-weaker}
use Rattle.am_outside.specs.Shelf.{Files}
use Rattle.job_words.specs.declared.asks.Search.{Search}
use Rattle.job_words.specs.declared.draw.Draw.{Draw}
use Rattle.job_words.specs.declared.study.Study.{Study}
use Rattle.job_words.specs.declared.study.StudyAsk.TheVariants.{OfFiles, OfDrawn}
use Rattle.job_words.specs.declared.study.StudyAsk.TheVariants as ask
use Rattle.job_words.specs.Asks.{AskValue, LayoutsJobValue}
use Rattle.job_words.specs.StudyAsks.{StudyAskValue}
use Rattle.job_words.specs.StudyWords.{study_read}
use Rattle.am_answer.specs.declared.status.FileWord.TheVariants.{Deal}
use Rattle.am_answer.specs.declared.status.Status.{Status}
use Rattle.am_answer.specs.Files.{InputsValue, file_read, named_read}
use Rattle.job_draw.specs.DrawJob.{IsDrawRefusal}
use Rattle.job_draw.specs.declared.refusal.DrawRefusal.{DrawRefusal}
use Rattle.study_top.specs.declared.refusal.Refusal.{Refusal}
use Rattle.study_top.specs.Refusals.{refusal_of_draw, refusal_of_status}
use Rattle.study_top.specs.Study.{IsAnswerFrom, IsNoAnswerFrom, IsRefusalOf, IsRefusalOfDrawn, IsStudyText, IsStudyRefusal, drawn_job}

-- what holds of the refusal that is passed on
pub refused_with : {T : Type 0} (P : Refusal → Type 0) (result : Result T Refusal) (refusal : Refusal) → IsErrAnd result (λ e. e ≡ refusal) → P refusal → IfErr result P
refused_with P (Ok x) refusal is holds = tt
refused_with P (Err e) refusal is holds = subst P (sym is) holds

module _ (words : List (List ℕ)) (asked : StudyAskValue) (understood : study_read words ≡ Ok asked) (told : Option Files) (result : Result (List ℕ) Refusal) where
  pub text_asked : IfSome told (λ files. IfOk result (IsAnswerFrom files asked)) → IfSome told (λ files. IfOk result (IsStudyText words files))
  text_asked is =
      IfSome_then told is (λ files from. IfOk-weaker result (IsAnswerFrom files asked) (IsStudyText words files) (λ text answer. record { asked = asked; understood = understood; told = answer }) from)

  pub refusal_asked : IfSome told (λ files. IfErr result (IsNoAnswerFrom files asked)) → IfSome told (λ files. IfErr result (IsStudyRefusal words files))
  refusal_asked is =
      IfSome_then told is (λ files from. IfErr-weaker result (IsNoAnswerFrom files asked) (IsStudyRefusal words files) (λ refusal none. inr (asked, understood, none)) from)

-- ---- what was read, and why nothing is told of it

module _ (told : Option Files) (result : Result (List ℕ) Refusal) where
  pub files_refused : (study : Study) (reads : AskValue) (inputs : InputsValue) (status : Status)
      → IfSome told (λ files. named_read files reads ≡ Ok inputs) → IsRefusalOf study inputs status → IsErrAnd result (λ e. e ≡ refusal_of_status status)
      → IfSome told (λ files. IfErr result (IsNoAnswerFrom files (OfFiles study reads)))
  files_refused study reads inputs status read refused is =
      IfSome_then told read (λ files there. refused_with (IsNoAnswerFrom files (OfFiles study reads)) result (refusal_of_status status) is (inr (inputs, there, (status, refused, refl))))

  module _ (words : List (List ℕ)) (name : List ℕ) (draw : Draw) where
    pub draw_refused : (deal : List ℕ) (why : DrawRefusal) → study_read words ≡ Ok (ask.Draw name draw)
        → IfSome told (λ files. file_read files Deal name ≡ Ok deal) → IsDrawRefusal deal draw why → IsErrAnd result (λ e. e ≡ refusal_of_draw why)
        → IfSome told (λ files. IfErr result (IsStudyRefusal words files))
    draw_refused deal why understood read refused is =
        refusal_asked words (ask.Draw name draw) understood told result
        (IfSome_then told read (λ files there. refused_with (IsNoAnswerFrom files (ask.Draw name draw)) result (refusal_of_draw why) is (inr (deal, there, (why, refused, refl)))))

    pub drawn_refused : (study : Study) (moves : ℕ) (search : Search) (deal : List ℕ) (job : LayoutsJobValue) → study_read words ≡ Ok (OfDrawn study name draw moves search)
        → job ≡ drawn_job study moves search → IfSome told (λ files. file_read files Deal name ≡ Ok deal) → IfErr result (IsRefusalOfDrawn study deal draw job)
        → IfSome told (λ files. IfErr result (IsStudyRefusal words files))
    drawn_refused study moves search deal job understood planned read refused =
        let asked = OfDrawn study name draw moves search in
        let there_refused = subst (λ (j : LayoutsJobValue). IfErr result (IsRefusalOfDrawn study deal draw j)) planned refused in
        refusal_asked words asked understood told result
        (IfSome_then told read (λ files there. IfErr-weaker result (IsRefusalOfDrawn study deal draw (drawn_job study moves search)) (IsNoAnswerFrom files asked) (λ refusal none. inr (deal, there, none)) there_refused))
