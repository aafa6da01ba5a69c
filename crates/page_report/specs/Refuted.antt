-- Why plain sampling believes in more than the lines of a report make.
use Rattle.std.specs.Prelude.{◌≡◌, ◌↔◌, ◌<◌, ℕ, ◌+◌, true, false, Option, None, Some, List, slice_get}
use Rattle.std.specs.List.{AllZip}
use Rattle.card_sets.specs.SetWords.{has_card}
use Rattle.trick_rules.specs.Positions.{State, to_play}
use Rattle.trick_rules.specs.Play.{legal_in, after, makes, is_declarers}
use Rattle.trick_rules.specs.Nodes.{NodeValue}
use Rattle.strategy_games.specs.Plans.{wins}
use Rattle.strategy_tree.specs.Bridge.{bridge}
use Rattle.strategy_check.specs.Following.{CanFollow}
use Rattle.am_report.specs.Answers.{ReadEntryValue}
use Rattle.page_text.specs.declared.beliefs.Belief.{Belief}
use Rattle.page_text.specs.declared.lines.Line.{Line}
use Rattle.page_text.specs.declared.plays.PlayedOut.{PlayedOut}
use Rattle.page_text.specs.declared.refutations.Refutation.{Refutation}
use Rattle.page_text.specs.Refutations.{refuting_place, fails_with}
use Rattle.page_report.specs.Played.{IsPlayedOut, IsPlayedLine}

-- a belief, and the strategy at a place of the report, played out in each layout
pub record IsRefutation (n : NodeValue) (place : ℕ) (read : ReadEntryValue) (belief : Belief) (refuted : Refutation) : Type 0 where
  pub card : refuted.card ≡ belief.card
  pub believed : refuted.believed ≡ belief.vector
  pub number : refuted.line.number ≡ place + 1
  pub played : IsPlayedLine n read refuted.line

-- the same with the strategy at a place, if there is such a place
abbrev pub IsRefutedAt : NodeValue → List ReadEntryValue → Belief → Option ℕ → Option Refutation → Type 0
IsRefutedAt n entries belief None refuted = refuted ≡ None
IsRefutedAt n entries belief (Some place) refuted =
    (read : ReadEntryValue) × (told : Refutation) × (slice_get entries place ≡ Some read) × (refuted ≡ Some told) × IsRefutation n place read belief told

-- for each belief the best strategy that begins with its card, if it makes less than is believed
abbrev pub AreRefuted : NodeValue → List ReadEntryValue → List Line → List Belief → List (Option Refutation) → Type 0
AreRefuted n entries lines beliefs refuted = AllZip (λ belief it. IsRefutedAt n entries belief (refuting_place lines belief) it) beliefs refuted

-- of the layouts in which sampling believes after a card, a strategy that is played out fails with one of the 52 cards in exactly those that it loses
abbrev pub NamesWhatIsLost : Type 0
NamesWhatIsLost =
    (read : ReadEntryValue) (s : State) (believed : ℕ) (play : PlayedOut) → CanFollow read.entry.plan s → is_declarers (to_play s.position) ≡ true
    → has_card (legal_in s) believed ≡ true → makes (after s believed) ≡ true → IsPlayedOut read s play
    → ((card : ℕ) × (card < 52) × (fails_with card play ≡ true)) ↔ (wins bridge read.entry.plan s ≡ false)
