-- Conditions that are read one after another.
use Rattle.std.proofs.Common.{◌≡◌, ◌∙◌, ℕ, List, [], ◌∷◌, ◌++◌, map, Result, Ok, Err, IsErrAnd, refl, sym, ap, subst}
use Rattle.std.specs.Prelude.{MatchResult}
use Rattle.std.specs.Borrow.{Bor}
use Rattle.std.proofs.lemmas.List.{append_assoc}
use Rattle.hand_conditions.specs.declared.term.Term.{Term}
use Rattle.hand_conditions.specs.Reading.{condition_read}
use Rattle.job_words.specs.declared.bad_word.BadWord.{BadWord}
use Rattle.job_words.specs.declared.bad_word.OptionName.{OptionName}
use Rattle.job_words.specs.declared.bad_word.OptionName.TheVariants as name
use Rattle.job_words.specs.declared.conditions.Unread.{Unread}
use Rattle.job_words.specs.declared.conditions.Unread.TheVariants.{Bad, Memory}
use Rattle.job_words.specs.Draws.{condition_and, conditions_in, conditions_read, or_bad_term, IsUnreadOf}
use Rattle.job_words.specs.Options.{OptionValues}

-- conditions in front of others
abbrev pub before_conditions : List (List Term) → Result (List (List Term)) BadWord → Result (List (List Term)) BadWord
before_conditions list (Ok others) = Ok (list ++ others)
before_conditions list (Err fault) = Err fault

with_one : (list : List (List Term)) (condition : List Term) (others : Result (List (List Term)) BadWord)
    → before_conditions list (condition_and (Ok condition) others) ≡ before_conditions (list ++ condition ∷ []) others
with_one list condition (Ok others) = ap (λ items. Ok items) (sym (append_assoc list (condition ∷ []) others))
with_one list condition (Err fault) = refl

-- a condition was read
pub one_more : (option : OptionName) (text : List ℕ) (texts : List (List ℕ)) (list : List (List Term)) (condition : List Term)
    → or_bad_term option (condition_read text) ≡ Ok condition
    → before_conditions list (conditions_read option (text ∷ texts)) ≡ before_conditions (list ++ condition ∷ []) (conditions_read option texts)
one_more option text texts list condition is =
    ap (λ first. before_conditions list (condition_and first (conditions_read option texts))) is ∙ with_one list condition (conditions_read option texts)

unread_of : (list : List (List Term)) (first : Result (List Term) BadWord) (others : Result (List (List Term)) BadWord) (unread : Unread)
    → IsUnreadOf first unread → IsUnreadOf (before_conditions list (condition_and first others)) unread
unread_of list first others (Bad fault) is = ap (λ f. before_conditions list (condition_and f others)) is
unread_of list first others Memory is = tt

-- a text isn't understood
pub none_more : (option : OptionName) (text : List ℕ) (texts : List (List ℕ)) (list : List (List Term)) (unread : Unread)
    → IsUnreadOf (or_bad_term option (condition_read text)) unread
    → IsUnreadOf (before_conditions list (conditions_read option (text ∷ texts))) unread
none_more option text texts list unread is = unread_of list (or_bad_term option (condition_read text)) (conditions_read option texts) unread is

-- nothing stands before the first
pub before_none : (others : Result (List (List Term)) BadWord) → before_conditions [] others ≡ others
before_none (Ok others) = refl
before_none (Err fault) = refl

-- ---- the four hands

module _ (o : OptionValues) (north : List (List Term)) (norths : conditions_read name.North o.north ≡ Ok north) where
  pub unread_east : (unread : Unread) → IsUnreadOf (conditions_read name.East o.east) unread → IsUnreadOf (conditions_in o) unread
  unfolding conditions_in
  unread_east (Bad fault) is = rw (norths, is) refl
  unread_east Memory is = tt

  module _ (east : List (List Term)) (easts : conditions_read name.East o.east ≡ Ok east) where
    pub unread_south : (unread : Unread) → IsUnreadOf (conditions_read name.South o.south) unread → IsUnreadOf (conditions_in o) unread
    unfolding conditions_in
    unread_south (Bad fault) is = rw (norths, easts, is) refl
    unread_south Memory is = tt

    pub unread_west : (south : List (List Term)) → conditions_read name.South o.south ≡ Ok south
        → (unread : Unread) → IsUnreadOf (conditions_read name.West o.west) unread → IsUnreadOf (conditions_in o) unread
    unfolding conditions_in
    unread_west south souths (Bad fault) is = rw (norths, easts, souths, is) refl
    unread_west south souths Memory is = tt

-- ---- what `?` passes on

pub passed : {T : Type 0} (P : T → Type 0) (Q : Unread → Type 0) (result : Result T Unread) (unread : Unread)
    → IsErrAnd result (λ e. e ≡ unread) → Q unread → MatchResult result P Q
passed P Q (Ok x) unread is holds = absurd is
passed P Q (Err e) unread is holds = subst Q (sym is) holds

-- what is read of the values of an option, wherever they lie
pub read_there : (option : OptionName) (lying values : List (Bor (List ℕ))) (read : Result (List (List Term)) BadWord) → lying ≡ values
    → conditions_read option (map (λ s. s.now) lying) ≡ read → conditions_read option (map (λ s. s.now) values) ≡ read
read_there option lying values read same is = subst (λ (v : List (Bor (List ℕ))). conditions_read option (map (λ s. s.now) v) ≡ read) same is

pub unread_there : (option : OptionName) (lying values : List (Bor (List ℕ))) (unread : Unread) → lying ≡ values
    → IsUnreadOf (conditions_read option (map (λ s. s.now) lying)) unread → IsUnreadOf (conditions_read option (map (λ s. s.now) values)) unread
unread_there option lying values unread same is = subst (λ (v : List (Bor (List ℕ))). IsUnreadOf (conditions_read option (map (λ s. s.now) v)) unread) same is
