-- The texts of what was found at a root.
use Rattle.std.proofs.Common.{◌≡◌, ℕ, List, Ok, length, refl, sym, subst}
use Rattle.strategy_games.specs.Plans.{IsFront}
use Rattle.strategy_games.specs.Choosing.{IsBestCount, IsNamedCard, IsBestWeight, IsNamedByWeight}
use Rattle.strategy_tree.specs.Bridge.{bridge}
use Rattle.win_vectors.specs.Fronts.{Vector}
use Rattle.strategy_tree.specs.RootTrees.{AllFit}
use Rattle.job_words.specs.declared.asks.Search.{Search}
use Rattle.am_report.specs.Card.{card_text}
use Rattle.am_report.specs.Made.{made_text}
use Rattle.am_answer.specs.declared.root.Root.{Root}
use Rattle.am_answer.specs.Tasks.{Card, Made}
use Rattle.am_answer.specs.Endings.{IsPlain}
use Rattle.am_answer.specs.Reports.{IsMadeText, made_moves}
use Rattle.am_answer.specs.Stages.{IsTextFor}

-- the same root, once as it is and once as it is opened
pub card-text : (opened root : Root) (moves : ℕ) (search' : Search) (card weight : ℕ) (text : List ℕ) → opened ≡ root → (IsPlain search' → AllFit root.kept.node moves search'.nodes)
    → IsNamedByWeight bridge opened.kept.weights opened.kept.node moves card → IsBestWeight bridge opened.kept.weights opened.kept.node moves weight
    → text ≡ card_text card weight opened.kept.weights → IsTextFor (Ok (Card root moves search')) text
card-text opened root moves search' card weight text same fits named best written =
    subst (λ (r : Root). IsTextFor (Ok (Card r moves search')) text) same
    (record { task = Card opened moves search'; accepted = refl; is_text = (card, weight, named, best, written); fits = subst (λ (r : Root). IsPlain search' → AllFit r.kept.node moves search'.nodes) (sym same) fits })

pub made-text : (number : ℕ) (opened root : Root) (moves : ℕ) (search' : Search) (vectors : List Vector) (card count : ℕ) (text : List ℕ) → opened ≡ root → moves ≡ made_moves → (IsPlain search' → AllFit root.kept.node moves search'.nodes)
    → IsFront bridge opened.kept.node moves vectors → IsNamedCard bridge opened.kept.node moves card → IsBestCount bridge opened.kept.node moves count
    → text ≡ made_text (record { number = number; layouts = length opened.kept.node.lefts; front = length vectors; best = count; card = card }) → IsTextFor (Ok (Made number root search')) text
made-text number opened root moves search' vectors card count text same asked fits front named best written =
    subst (λ (r : Root). IsTextFor (Ok (Made number r search')) text) same
    (record {
      task = Made number opened search';
      accepted = refl;
      is_text = subst (λ m. IsMadeText number opened m text) asked (vectors, card, count, front, named, best, written);
      fits = subst (λ m. IsPlain search' → AllFit opened.kept.node m search'.nodes) asked (subst (λ (r : Root). IsPlain search' → AllFit r.kept.node moves search'.nodes) (sym same) fits);
    })
