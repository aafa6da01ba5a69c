-- The form that a study is asked for.
use Rattle.job_words.specs.declared.study.FormName.{FormName}
use Rattle.job_words.specs.declared.study.FormName.TheVariants as name
use Rattle.text_forms.specs.declared.form.Form.{Form}
use Rattle.text_forms.specs.declared.form.Form.TheVariants.{Text, Csv, Json}

-- the form of this name
abbrev pub form_of : FormName → Form
form_of name.Text = Text
form_of name.Csv = Csv
form_of name.Json = Json
