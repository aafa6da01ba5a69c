-- A log that grows line by line, up to its whole text.
use Rattle.std.proofs.Common.{◌≡◌, ◌+◌, ◌∙◌, ℕ, List, [], ◌∷◌, ◌++◌, sym, ap, append_assoc, append-nil, arith}
use Rattle.std.specs.Prelude.{codes, flat_map}
use Rattle.std.proofs.lemmas.List.{length-append}
use Rattle.std.proofs.lemmas.List.Concat.{flat_map-append}
use Rattle.byte_text.specs.Lines.{line_of}
use Rattle.log_check.specs.declared.lines.LogLine.{LogLine}
use Rattle.log_texts.specs.LogText.{log_line, log_text}
use Rattle.log_texts.specs.Written.{WrittenLog, begun, finished, IsLongerBy}

pub longer-none : (log : WrittenLog) → IsLongerBy [] log log
longer-none log = record { text_is = sym (append-nil log.text); count_is = omega arith }

pub longer-more : (xs ys : List LogLine) (a b c : WrittenLog) → IsLongerBy xs a b → IsLongerBy ys b c → IsLongerBy (xs ++ ys) a c
longer-more xs ys a b c first then = record {
  text_is = then.text_is ∙ ap (λ (t : List ℕ). t ++ flat_map log_line ys) first.text_is ∙ append_assoc a.text (flat_map log_line xs) (flat_map log_line ys)
      ∙ ap (λ (t : List ℕ). a.text ++ t) (sym (flat_map-append log_line xs ys));
  count_is =
      let f = first.count_is in
      let t = then.count_is in
      omega (arith, length-append xs ys);
}

pub longer-one : (line : LogLine) (before after : WrittenLog) → after.text ≡ before.text ++ log_line line → after.count ≡ before.count + 1
    → IsLongerBy (line ∷ []) before after
longer-one line before after text_is count_is = record {
  text_is = text_is ∙ ap (λ (t : List ℕ). before.text ++ t) (sym (append-nil (log_line line)));
  count_is = count_is;
}

pub whole_text : (lines : List LogLine) (log : WrittenLog) (text : List ℕ) → IsLongerBy lines begun log → text ≡ finished log
    → text ≡ log_text lines
unfolding log_text
whole_text lines log text longer end = end ∙ ap (λ (t : List ℕ). t ++ line_of (codes "end")) longer.text_is
    ∙ append_assoc (line_of (codes "alphamu log 1")) (flat_map log_line lines) (line_of (codes "end"))
