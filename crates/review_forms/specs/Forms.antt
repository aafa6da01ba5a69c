-- The forms of a review.
use Rattle.std.specs.Prelude.{ℕ, List}
use Rattle.text_forms.specs.declared.form.Form.{Form}
use Rattle.text_forms.specs.declared.form.Form.TheVariants.{Text, Csv, Json}
use Rattle.review_text.specs.declared.reviewed.Reviewed.{Reviewed}
use Rattle.review_text.specs.declared.game.GameReview.{GameReview}
use Rattle.review_text.specs.Texts.{review_text}
use Rattle.review_text.specs.Games.{reviews_text}
use Rattle.review_forms.specs.Records.{review_csv, reviews_csv}
use Rattle.review_forms.specs.Objects.{review_json, reviews_json}

-- the decisions of a board in a form
abbrev pub review_in : Form → ℕ → List Reviewed → List ℕ
review_in Text = review_text
review_in Csv = review_csv
review_in Json = review_json

-- the reviews of many games in a form
abbrev pub reviews_in : Form → ℕ → List GameReview → List ℕ
reviews_in Text = reviews_text
reviews_in Csv = reviews_csv
reviews_in Json = reviews_json
