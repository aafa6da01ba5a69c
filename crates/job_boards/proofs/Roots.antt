-- The games that have a root among all games.
use Rattle.std.proofs.Common.{◌≡◌, ◌≤◌, ◌<◌, ◌+◌, ℕ, zero, suc, Bool, true, false, not, ◌&&◌, List, [], ◌∷◌, ◌++◌, Some, Result, Ok, Err, All, length, take, get_or, slice_get, refl, sym, ap, subst, ◌∙◌, rules, arith, take-suc, append-nil}
use Rattle.std.specs.Prelude.{IfOk}
use Rattle.std.specs.List.{AllZip}
use Rattle.std.proofs.lemmas.List.{length-take-le}
use Rattle.std.proofs.lemmas.List.Elements.{All-head, All-tail, All-cons, All-nil}
use Rattle.std.proofs.lemmas.Slice.Zip.{AllZip-long}
use Rattle.trick_rules.specs.Nodes.{NodeValue}
use Rattle.trick_rules.specs.Positions.{to_play}
use Rattle.trick_rules.specs.Play.{is_over, is_declarers}
use Rattle.strategy_tree.specs.Bridge.{bridge}
use Rattle.board_batch.specs.declared.batch.Problem.{Problem}
use Rattle.board_batch.specs.Problems.{IsProblem}
use Rattle.am_answer.specs.Answers.{IsRoot, has_choice}
use Rattle.am_answer.specs.declared.root.Root.{Root}
use Rattle.am_answer.specs.declared.status.Status.{Status}
use Rattle.job_boards.specs.Accepted.{numbered_from, AreProblems, IsProblemOf}
use Rattle.job_boards.proofs.Zips.{zip-push}

-- ---- the game of a problem

-- where it is among these games, the first of which has this number, and the problems of the games before it
pub record HasGame (number : ℕ) (games : List (Result Root Status)) (problems : List Problem) (place : ℕ) (p : Problem) : Type 0 where
  pub game : ℕ
  pub root : Root
  pub numbered : p.number ≡ number + game
  pub there : slice_get games game ≡ Some (Ok root)
  pub node : p.node.now ≡ root.kept.node
  pub earlier : AllZip IsProblemOf (numbered_from number (take game games)) (take place problems)

-- the same with a game before them
with-refused : (number : ℕ) (status : Status) (games : List (Result Root Status)) (problems : List Problem) (place : ℕ) (p : Problem) → HasGame (number + 1) games problems place p → HasGame number (Err status ∷ games) problems place p
with-refused number status games problems place p is = record {
  game = suc is.game;
  root = is.root;
  numbered = omega (arith, is.numbered);
  there = is.there;
  node = is.node;
  earlier = is.earlier;
}

with-solved : (number : ℕ) (root : Root) (first : Problem) (games : List (Result Root Status)) (problems : List Problem) (place : ℕ) (p : Problem) → IsProblemOf (number, root) first → HasGame (number + 1) games problems place p
    → HasGame number (Ok root ∷ games) (first ∷ problems) (suc place) p
with-solved number root first games problems place p of is = record {
  game = suc is.game;
  root = is.root;
  numbered = omega (arith, is.numbered);
  there = is.there;
  node = is.node;
  earlier = (of, is.earlier);
}

pub game-of : (number : ℕ) (games : List (Result Root Status)) (problems : List Problem) (place : ℕ) (p : Problem) → AllZip IsProblemOf (numbered_from number games) problems → slice_get problems place ≡ Some p → HasGame number games problems place p
game-of number [] [] place p of here = absurd (search (rules, here))
game-of number [] (q ∷ problems) place p of here = absurd of
game-of number (Err status ∷ games) problems place p of here = with-refused number status games problems place p (game-of (number + 1) games problems place p of here)
game-of number (Ok root ∷ games) [] place p of here = absurd of
game-of number (Ok root ∷ games) (q ∷ problems) zero p of here =
    let same : q ≡ p = search (rules, here) in
    let its : IsProblemOf (number, root) p = subst (IsProblemOf (number, root)) same of.0 in
    record { game = 0; root = root; numbered = omega (arith, its.number); there = refl; node = its.node; earlier = tt }
game-of number (Ok root ∷ games) (q ∷ problems) (suc place) p of here = with-solved number root q games problems place p of.0 (game-of (number + 1) games problems place p of.1 here)

-- ---- problems

both : (a b : Bool) → (not a && b) ≡ true → (a ≡ false) × (b ≡ true)
both true b is = absurd cc
both false b is = (refl, is)

ours : (n : NodeValue) → has_choice n ≡ true → (bridge.is_ours n ≡ true) × (bridge.is_over n ≡ false)
ours n is = let split = both (is_over n.position) (is_declarers (to_play n.position)) is in (split.1, split.0)

problem-is : (number : ℕ) (root : Root) (p : Problem) → IsRoot root → IsProblemOf (number, root) p → IsProblem p
problem-is number root p is of =
    let turn = ours root.kept.node is.turn in
    record {
      ours = ap (λ n. bridge.is_ours n) of.node ∙ turn.0;
      goes_on = ap (λ n. bridge.is_over n) of.node ∙ turn.1;
      weights = ap (λ ws. length ws) of.weights ∙ is.weighed ∙ sym (ap (λ (n : NodeValue). length n.lefts) of.node);
    }

abbrev IsRootOf : Result Root Status → Type 0
IsRootOf found = IfOk found IsRoot

all-are : (number : ℕ) (games : List (Result Root Status)) (problems : List Problem) → AllZip IsProblemOf (numbered_from number games) problems → All (λ found. IfOk found IsRoot) games → All IsProblem problems
all-are number [] [] of roots = All-nil IsProblem
all-are number [] (p ∷ problems) of roots = absurd of
all-are number (Err status ∷ games) problems of roots = all-are (number + 1) games problems of (All-tail IsRootOf (Err status) games roots)
all-are number (Ok root ∷ games) [] of roots = absurd of
all-are number (Ok root ∷ games) (p ∷ problems) of roots =
    All-cons IsProblem p problems (problem-is number root p (All-head IsRootOf (Ok root) games roots) of.0) (all-are (number + 1) games problems of.1 (All-tail IsRootOf (Ok root) games roots))

pub problems-are : (games : List (Result Root Status)) (problems : List Problem) → AreProblems games problems → All (λ found. IfOk found IsRoot) games → All IsProblem problems
problems-are games problems of roots = all-are 1 games problems of roots

numbered-few : (number : ℕ) (games : List (Result Root Status)) → length (numbered_from number games) ≤ length games
numbered-few number [] = omega arith
numbered-few number (Ok root ∷ games) = omega (arith, numbered-few (number + 1) games)
numbered-few number (Err status ∷ games) = omega (arith, numbered-few (number + 1) games)

pub problems-few : (games : List (Result Root Status)) (problems : List Problem) → AreProblems games problems → length problems ≤ length games
problems-few games problems of = omega (arith, AllZip-long IsProblemOf (numbered_from 1 games) problems of, numbered-few 1 games)

-- ---- one game more

numbered-append : (number : ℕ) (games later : List (Result Root Status)) → numbered_from number (games ++ later) ≡ numbered_from number games ++ numbered_from (number + length games) later
numbered-append number [] later =
    let same : number ≡ number + 0 = omega arith in
    ap (λ n. numbered_from n later) same
numbered-append number (Ok root ∷ games) later =
    let counted : number + 1 + length games ≡ number + suc (length games) = omega arith in
    ap (λ (roots : List (ℕ × Root)). (number, root) ∷ roots) (numbered-append (number + 1) games later ∙ ap (λ n. numbered_from (number + 1) games ++ numbered_from n later) counted)
numbered-append number (Err status ∷ games) later =
    let counted : number + 1 + length games ≡ number + suc (length games) = omega arith in
    numbered-append (number + 1) games later ∙ ap (λ n. numbered_from (number + 1) games ++ numbered_from n later) counted

longer : (games : List (Result Root Status)) (i : ℕ) (game : Result Root Status) → i < length games → game ≡ get_or games i game → numbered_from 1 (take (i + 1) games) ≡ numbered_from 1 (take i games) ++ numbered_from (i + 1) (game ∷ [])
longer games i game within is =
    let next : i + 1 ≡ suc i = omega arith in
    let counted : 1 + length (take i games) ≡ i + 1 = omega (arith, length-take-le i games (omega (arith, within))) in
    ap (λ n. numbered_from 1 (take n games)) next ∙ ap (numbered_from 1) (take-suc games i game within ∙ ap (λ (g : Result Root Status). take i games ++ g ∷ []) (sym is))
    ∙ numbered-append 1 (take i games) (game ∷ []) ∙ ap (λ n. numbered_from 1 (take i games) ++ numbered_from n (game ∷ [])) counted

pub problems-solved : (games : List (Result Root Status)) (i : ℕ) (game : Result Root Status) (root : Root) (before now : List Problem) (p : Problem) → i < length games → game ≡ get_or games i game → AreProblems (take i games) before
    → game ≡ Ok root → IsProblemOf (i + 1, root) p → now ≡ before ++ p ∷ [] → AreProblems (take (i + 1) games) now
problems-solved games i game root before now p within is of solved own more =
    let earlier = numbered_from 1 (take i games) in
    let all : numbered_from 1 (take (i + 1) games) ≡ earlier ++ (i + 1, root) ∷ [] = longer games i game within is ∙ ap (λ (g : Result Root Status). earlier ++ numbered_from (i + 1) (g ∷ [])) solved in
    subst (λ roots. AllZip IsProblemOf roots now) (sym all) (subst (AllZip IsProblemOf (earlier ++ (i + 1, root) ∷ [])) (sym more) (zip-push IsProblemOf earlier before (i + 1, root) p of own))

pub problems-refused : (games : List (Result Root Status)) (i : ℕ) (game : Result Root Status) (status : Status) (before now : List Problem) → i < length games → game ≡ get_or games i game → AreProblems (take i games) before
    → game ≡ Err status → now ≡ before → AreProblems (take (i + 1) games) now
problems-refused games i game status before now within is of refused same =
    let earlier = numbered_from 1 (take i games) in
    let all : numbered_from 1 (take (i + 1) games) ≡ earlier = longer games i game within is ∙ ap (λ (g : Result Root Status). earlier ++ numbered_from (i + 1) (g ∷ [])) refused ∙ append-nil earlier in
    subst (λ roots. AllZip IsProblemOf roots now) (sym all) (subst (AllZip IsProblemOf earlier) (sym same) of)
