-- Each value that a contract speaks of as a tree of numbers, from which it can be told.
use Rattle.std.specs.Prelude.{◌≡◌, ℕ, Bool, List, refl}
use Rattle.std.specs.Coded.{Coded, code_by, coded×, coded_ℕ, coded_bool, coded_list}
use base.Stored.{Gv, gnil, gnum, gcons, num}
use mathlib.Core.Path.{sym, ap, subst}
use Rattle.strategy_games.specs.Plans.{Plan, Replies, Stop, Play, Hear, NoReply, Reply}
use Rattle.am_report.specs.Answers.{EntryValue, ReadEntryValue, SolveAnswerValue}

-- ---- the parts of a tree

abbrev first_part : Gv → Gv
first_part gnil = gnil
first_part (gnum n) = gnil
first_part (gcons first second) = first

abbrev second_part : Gv → Gv
second_part gnil = gnil
second_part (gnum n) = gnil
second_part (gcons first second) = second

abbrev IsPair : Gv → Type 0
IsPair gnil = ⊥
IsPair (gnum n) = ⊥
IsPair (gcons first second) = Unit {0}

abbrev IsNumber : Gv → Type 0
IsNumber gnil = ⊥
IsNumber (gnum n) = Unit {0}
IsNumber (gcons first second) = ⊥

-- ---- plans

abbrev mutual
  plan_tree : Plan ℕ → Gv
  plan_tree Stop = gnil
  plan_tree (Play card rest) = gcons (gnum card) (plan_tree rest)
  plan_tree (Hear replies) = gcons gnil (replies_tree replies)

  replies_tree : Replies ℕ → Gv
  replies_tree NoReply = gnil
  replies_tree (Reply card plan later) = gcons (gnum card) (gcons (plan_tree plan) (replies_tree later))

mutual
  pub plan_told : (p q : Plan ℕ) → plan_tree p ≡ plan_tree q → p ≡ q
  plan_told Stop Stop same = refl
  plan_told Stop (Play d q) same = absurd (subst IsPair (sym same) tt)
  plan_told Stop (Hear ss) same = absurd (subst IsPair (sym same) tt)
  plan_told (Play c p) Stop same = absurd (subst IsPair same tt)
  plan_told (Play c p) (Play d q) same = λ i. Play (num (first_part (same i))) (plan_told p q (ap second_part same) i)
  plan_told (Play c p) (Hear ss) same = absurd (subst IsNumber (ap first_part same) tt)
  plan_told (Hear rs) Stop same = absurd (subst IsPair same tt)
  plan_told (Hear rs) (Play d q) same = absurd (subst IsNumber (sym (ap first_part same)) tt)
  plan_told (Hear rs) (Hear ss) same = ap Hear (replies_told rs ss (ap second_part same))

  pub replies_told : (p q : Replies ℕ) → replies_tree p ≡ replies_tree q → p ≡ q
  replies_told NoReply NoReply same = refl
  replies_told NoReply (Reply d q ss) same = absurd (subst IsPair (sym same) tt)
  replies_told (Reply c p rs) NoReply same = absurd (subst IsPair same tt)
  replies_told (Reply c p rs) (Reply d q ss) same = λ i.
      Reply (num (first_part (same i))) (plan_told p q (ap (λ t. first_part (second_part t)) same) i)
      (replies_told rs ss (ap (λ t. second_part (second_part t)) same) i)

abbrev pub plan_code : Coded (Plan ℕ)
plan_code = record { code = plan_tree; inj = plan_told }

-- ---- answers

abbrev pub entry_code : Coded EntryValue
entry_code =
    code_by (List Bool × Plan ℕ) (coded× (coded_list coded_bool) plan_code) (λ e. (e.vector, e.plan))
    (λ p. record { vector = p.0; plan = p.1 })
    (λ _. refl)

abbrev pub read_entry_code : Coded ReadEntryValue
read_entry_code =
    code_by (EntryValue × ℕ) (coded× entry_code coded_ℕ) (λ e. (e.entry, e.weight)) (λ p. record { entry = p.0; weight = p.1 }) (λ _. refl)

abbrev pub answer_code : Coded SolveAnswerValue
answer_code =
    code_by (List EntryValue × (ℕ × ℕ)) (coded× (coded_list entry_code) (coded× coded_ℕ coded_ℕ)) (λ a. (a.entries, (a.card, a.weight)))
    (λ p. record { entries = p.0; card = p.1.0; weight = p.1.1 })
    (λ _. refl)
