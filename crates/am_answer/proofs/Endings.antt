-- A job that nothing stands against isn't spent, and its log isn't unproved.
use Rattle.std.proofs.Common.{◌≡◌, ℕ, zero, suc, List, [], ◌∷◌, Some, Result, Ok, slice_get, subst, rules, arith}
use Rattle.std.specs.Prelude.{IfOk}
use Rattle.std.proofs.lemmas.List.Elements.{All-head, All-tail}
use Rattle.trick_rules.specs.Nodes.{NodeValue, choices}
use Rattle.strategy_games.proofs.Lists.{first_is_member}
use Rattle.strategy_tree.specs.RootTrees.{IsTooLarge, IsSpentAt, IsFirstSpentAt, AllFit}
use Rattle.log_check.specs.declared.check.LogVerdict.{LogVerdict}
use Rattle.log_check.specs.declared.check.LogVerdict.TheVariants.{Yes, No}
use Rattle.log_check.proofs.OneLogVerdict.{one_log_verdict}
use Rattle.am_answer.specs.declared.root.Root.{Root}
use Rattle.am_answer.specs.Tasks.{TaskValue, Solve, Card, Match, Fusion, Prove, Audit, Check, Made, Boards}
use Rattle.am_answer.specs.Tasks as tasks
use Rattle.am_answer.specs.declared.status.Status.{Status}
use Rattle.am_answer.specs.Endings.{IsSpentOn, IsGameSpentOn, IsUnprovedOn, HasText, AllGamesFit}
use Rattle.am_answer.specs.Reports.{made_moves}

fits-not_spent : (node : NodeValue) (moves nodes card : ℕ) → AllFit node moves nodes → IsSpentAt node moves nodes card → ⊥
fits-not_spent node moves nodes card fits spent = omega (arith, fits card spent.0, spent.1)

fits-not_first_spent : (node : NodeValue) (moves nodes card : ℕ) → AllFit node moves nodes → IsFirstSpentAt node moves nodes card → ⊥
fits-not_first_spent node moves nodes card fits first =
    omega (arith, fits card (first_is_member (IsTooLarge node moves nodes) (choices node) card first), first.4)

pub not_spent : (task : TaskValue) (card : ℕ) → HasText task → IsSpentOn task card → ⊥
not_spent (Solve root moves search) card fits is = fits-not_spent root.kept.node moves search.nodes card fits is.spent
not_spent (Card root moves search) card fits is = fits-not_spent root.kept.node moves search.nodes card fits is.spent
not_spent (Match root moves search playing) card fits is = fits-not_spent root.kept.node moves search.nodes card fits is.spent
not_spent (Fusion root) card fits is = is
not_spent (Prove root moves nodes) card fits is = fits-not_first_spent root.kept.node moves nodes card fits is
not_spent (Audit root audit) card fits is = is
not_spent (Check plans) card fits is = is
not_spent (tasks.List board layouts) card fits is = is
not_spent (Made number root search) card fits is = fits-not_spent root.kept.node made_moves search.nodes card fits is.spent
not_spent (Boards roots moves search) card fits is = is

-- no tree of a game's root is too large
abbrev Fits : ℕ → ℕ → Result Root Status → Type 0
Fits moves nodes found = IfOk found (λ root. AllFit root.kept.node moves nodes)

-- the same of the game at a place
game-fits : (roots : List (Result Root Status)) (moves nodes place : ℕ) (root : Root) → AllGamesFit roots moves nodes → slice_get roots place ≡ Some (Ok root) → AllFit root.kept.node moves nodes
game-fits [] moves nodes place root fit there = absurd (search (rules, there))
game-fits (found ∷ later) moves nodes zero root fit there =
    let same : found ≡ Ok root = search (rules, there) in
    subst (Fits moves nodes) same (All-head (Fits moves nodes) found later fit)
game-fits (found ∷ later) moves nodes (suc place) root fit there = game-fits later moves nodes place root (All-tail (Fits moves nodes) found later fit) there

pub not_game_spent : (task : TaskValue) (game card : ℕ) → HasText task → IsGameSpentOn task game card → ⊥
not_game_spent (Solve root moves search) game card fits is = is
not_game_spent (Card root moves search) game card fits is = is
not_game_spent (Match root moves search playing) game card fits is = is
not_game_spent (Fusion root) game card fits is = is
not_game_spent (Prove root moves nodes) game card fits is = is
not_game_spent (Audit root audit) game card fits is = is
not_game_spent (Check plans) game card fits is = is
not_game_spent (tasks.List board layouts) game card fits is = is
not_game_spent (Made number root search) game card fits is = is
not_game_spent (Boards roots moves search') game card fits is =
    fits-not_spent is.root.kept.node moves search'.nodes card (game-fits roots moves search'.nodes is.place is.root fits is.there) is.spent

yes_or_no : (number : ℕ) → ◌≡◌ {A = LogVerdict} Yes (No number) → ⊥
yes_or_no number same = cc

pub not_unproved : (task : TaskValue) (number : ℕ) → HasText task → IsUnprovedOn task number → ⊥
not_unproved (Solve root moves search) number proves is = is
not_unproved (Card root moves search) number proves is = is
not_unproved (Match root moves search playing) number proves is = is
not_unproved (Fusion root) number proves is = is
not_unproved (Prove root moves nodes) number proves is = is
not_unproved (Audit root audit) number proves is =
    yes_or_no number (one_log_verdict root.kept.node audit.moves audit.vectors audit.lines Yes (No number) proves is)
not_unproved (Check plans) number proves is = is
not_unproved (tasks.List board layouts) number proves is = is
not_unproved (Made problem root search) number proves is = is
not_unproved (Boards roots moves search) number proves is = is
