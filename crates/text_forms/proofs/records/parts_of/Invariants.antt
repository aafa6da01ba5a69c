use Rattle.std.proofs.Common.{◌≡◌, map, take}
use Rattle.text_forms.proofs.records.parts_of.Given as goal

abbrev pub invariant-loop-field : goal.invariant-loop-field
invariant-loop-field l = map (λ part. part.now) l.parts.items ≡ take l.field-index l.fields.items
