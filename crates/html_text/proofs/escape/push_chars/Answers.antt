use Rattle.std.proofs.Common.{◌∙◌, ◌++◌, map, flat_map, encode_utf8_all, sym, ap, append_assoc, map-id}
use Rattle.std.proofs.lemmas.Iterator.{YieldsList-from_chars}
use Rattle.std.proofs.lemmas.Iterator.Consumers.{YieldsList-end}
use Rattle.html_text.specs.Escapes.{shown_char, escape_sign}
use Rattle.html_text.proofs.Escaped.{written_more}
use Rattle.html_text.proofs.escape.push_chars.Goals as goal

pub loop-c-preserved : goal.loop-c-preserved
loop-c-preserved c =
    c.in_ok-push_char.ensures
    ∙ ap (λ out. out ++ encode_utf8_all (escape_sign c.shown_char.result)) c.loop-c.invariant
    ∙ ap (λ shown. (c.args.out.now ++ encode_utf8_all (flat_map escape_sign (map shown_char c.loop-c.yielded))) ++ encode_utf8_all (escape_sign shown)) c.shown_char.ensures
    ∙ append_assoc c.args.out.now _ _
    ∙ ap (λ more. c.args.out.now ++ more) (sym (written_more c.loop-c.yielded c.in-Some.c))

pub returns : goal.returns
returns c =
    let end = YieldsList-end (YieldsList-from_chars c.args.text.now c.utf8.text cc) c.loop-c.yielded _ c.loop-c.yielded_by _ _ c.in-None.is c.next.ensures.steps in
    c.loop-c.invariant ∙ ap (λ cs. c.args.out.now ++ encode_utf8_all (flat_map escape_sign (map shown_char cs))) (sym (map-id c.loop-c.yielded) ∙ end.0)
