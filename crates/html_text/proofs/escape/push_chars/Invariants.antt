use Rattle.std.proofs.Common.{◌≡◌, ◌++◌, map, flat_map, encode_utf8_all}
use Rattle.html_text.specs.Escapes.{shown_char, escape_sign}
use Rattle.html_text.proofs.escape.push_chars.Given as goal

abbrev pub invariant-loop-c : goal.invariant-loop-c
invariant-loop-c l = l.out ≡ l.initial.out ++ encode_utf8_all (flat_map escape_sign (map shown_char l.yielded))
