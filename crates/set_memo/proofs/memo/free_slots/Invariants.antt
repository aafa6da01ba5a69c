use Rattle.std.proofs.Common.{◌≡◌, None, All}
use Rattle.set_memo.proofs.memo.free_slots.Given as goal

abbrev pub invariant-loop : goal.invariant-loop
invariant-loop l = All (λ slot. slot ≡ None) l.slots.items
