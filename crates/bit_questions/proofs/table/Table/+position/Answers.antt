use Rattle.std.proofs.Common.{◌≡◌, ◌++◌, ◌∷◌, [], true, false, refl, sym, ap, ◌∙◌, subst}
use Rattle.std.proofs.lemmas.Bool.{false≢true}
use Rattle.trick_rules.specs.Positions.{IsSound}
use Rattle.bit_questions.specs.Tables.{position_of}
use Rattle.bit_questions.proofs.TakenBack.{sound_of-later, can_play_back, after_back_is}
use Rattle.bit_questions.proofs.table.Table.+position.Goals as goal

pub play-requires : goal.play-requires
play-requires t c =
    let before = c.in-Some.before.now in
    let card = c.from_number-card.result in
    let is : c.args.trick.now ≡ before ++ card ∷ [] = c.in-Some.ensures.cases.0 ∙ ap (λ x. before ++ x ∷ []) (sym c.from_number-card.ensures) in
    can_play_back c.args.self.now c.with_back.result c.args.trick.now before card c.seat_after-seat.result is c.seat_after-seat.ensures c.with_back.ensures
    c.requires.short c.requires.cards c.has.ensures.declarer c.has.ensures.dummy c.has.ensures.unseen (sym c.if-has.ensures.value)
    c.in_ok-earlier.earlier c.in_ok-earlier.ensures.value

pub returns-in_err-earlier-clause-sound : goal.returns-in_err-earlier-clause-sound
returns-in_err-earlier-clause-sound t c =
    let before = c.in-Some.before.now in
    let card = c.from_number-card.result in
    let is : c.args.trick.now ≡ before ++ card ∷ [] = c.in-Some.ensures.cases.0 ∙ ap (λ x. before ++ x ∷ []) (sym c.from_number-card.ensures) in
    let never : IsSound (position_of c.args.self.now c.args.trick.now) → false ≡ true =
    λ sound. c.in_err-earlier.ensures.sound.1 (sound_of-later c.args.self.now c.with_back.result c.args.trick.now before card c.seat_after-seat.result is c.seat_after-seat.ensures c.with_back.ensures sound) in
    rw c.from_residual.ensures (λ some. absurd (false≢true some), λ sound. never sound)

pub returns-clause-value : goal.returns-clause-value
returns-clause-value t c =
    let before = c.in-Some.before.now in
    let card = c.from_number-card.result in
    let is : c.args.trick.now ≡ before ++ card ∷ [] = c.in-Some.ensures.cases.0 ∙ ap (λ x. before ++ x ∷ []) (sym c.from_number-card.ensures) in
    after_back_is c.args.self.now c.with_back.result c.args.trick.now before card c.seat_after-seat.result is c.seat_after-seat.ensures c.with_back.ensures
    c.requires.short c.requires.cards c.has.ensures.declarer c.has.ensures.dummy c.has.ensures.unseen (sym c.if-has.ensures.value)
    c.in_ok-earlier.earlier c.play.result c.in_ok-earlier.ensures.value c.play.ensures.value

pub returns-clause-sound : goal.returns-clause-sound
returns-clause-sound t c = (λ some. subst IsSound (returns-clause-value t c) c.play.ensures.sound, λ sound. refl)
