use Rattle.std.proofs.Common.{◌≡◌, ◌++◌, ◌∙◌, ap, subst, append_assoc}
use Rattle.std.specs.Prelude.{List, codes, OnOk}
use Rattle.html_text.specs.declared.page.Piece.{Piece}
use Rattle.html_text.specs.Pages.{own}
use Rattle.page_text.specs.declared.markup.TheConstants.{GIVES_UP}
use Rattle.page_text.specs.Refutations.{given_cards, given_list}
use Rattle.page_text.proofs.refutations.push_given_list.Goals as goal

pub returns : goal.returns
unfolding given_list
returns c =
    let cards = given_cards c.args.refuted.now in
    let end = own (codes "</ul></li>\n") in
    let before = c.in_ok-push_each_given.ensures ∙ ap (λ (t : List Piece). t ++ cards) c.in_ok-own.ensures in
    let all = ap (λ (t : List Piece). t ++ end) before ∙ append_assoc (c.args.page.now ++ own GIVES_UP.now) cards end ∙ append_assoc c.args.page.now (own GIVES_UP.now) (cards ++ end) in
    subst (λ pieces. OnOk c.own-2.result (c.own-2.new.self ≡ pieces)) all c.own-2.ensures
