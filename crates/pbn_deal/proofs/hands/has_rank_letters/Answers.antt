use Rattle.std.proofs.Common.{rules, tests, sym, ap, ◌∙◌, ◌||◌}
use Rattle.std.specs.Prelude.{is_some}
use Rattle.std.specs.List.{list_all}
use Rattle.std.proofs.lemmas.Iterator.{YieldsList-from_slice}
use Rattle.std.proofs.lemmas.Iterator.Search.{all_from_yields_List}
use Rattle.card_letters.specs.Letters.{rank_read}
use Rattle.pbn_deal.specs.Hands.{is_full_stop}
use Rattle.pbn_deal.proofs.hands.has_rank_letters.Goals as goal

pub returns-else-is_hidden : goal.returns-else-is_hidden
returns-else-is_hidden c =
    let hand = c.args.hand.now in
    let each = all_from_yields_List (λ byte. is_full_stop byte || is_some (rank_read byte)) _ _ c.all.result c.all.ensures.ran (YieldsList-from_slice hand (cc)) (λ x b q k. search (rules, tests)) in
    each ∙ sym (ap (λ b. b || list_all (λ byte. is_full_stop byte || is_some (rank_read byte)) hand) (sym c.is_hidden.ensures ∙ c.if-is_hidden.false))
