-- Passes that see more and more.
use Rattle.std.proofs.Common.{ℕ, sym, subst, arith}
use Rattle.shared_table.specs.declared.Pass.{Pass}
use Rattle.shared_table.specs.Passes.{view_of, HasParted, HasJoined}
use Rattle.shared_table.specs.Stores.{HasGrownAt, HasGrownAt-none, HasGrownAt-more}

-- a pass has seen no less, and counted no less
abbrev pub HasSeenMore : Pass → Pass → Type 0
HasSeenMore early late = (i : ℕ) → HasGrownAt i (view_of early) (view_of late)

pub seen_none : (p : Pass) → HasSeenMore p p
seen_none p i = HasGrownAt-none i (view_of p)

pub seen_more : (p q r : Pass) → HasSeenMore p q → HasSeenMore q r → HasSeenMore p r
seen_more p q r h k i = HasGrownAt-more i (view_of p) (view_of q) (view_of r) (h i) (k i)

-- a pass from which another parts stays
pub seen_parted : (p q new : Pass) → HasParted (view_of p) (view_of q) (view_of new) → HasSeenMore p q
seen_parted p q new parted i = subst (λ v. HasGrownAt i (view_of p) v) (sym parted.same) (HasGrownAt-none i (view_of p))

-- two passes that join
pub seen_joined : (p other q : Pass) → HasJoined (view_of p) (view_of other) (view_of q) → HasSeenMore p q
seen_joined p other q joined i =
    let got = joined.got i in
    let busy = joined.busy i in record {
      list = joined.first i;
      got = omega arith;
      busy = omega arith;
    }
