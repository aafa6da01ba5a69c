-- What clap makes of the plain words, word by word.
use Rattle.std.proofs.Common.{◌≡◌, ◌==◌, ◌-◌, ◌^◌, ℕ, Bool, true, false, not, List, [], ◌∷◌, Option, Some, None, refl, sym, ap, subst, codes, arith, ◌∙◌}
use Rattle.std.specs.Prelude.{fold, is_some}
use Rattle.std.specs.Result.{result_ok}
use Rattle.std.specs.Str.{all_ascii_digits, bytes_eq}
use Rattle.std.proofs.lemmas.Bool.{false≢true, ne_eqb}
use Rattle.std.proofs.lemmas.Str.Parse.{tells_all_ascii_digits}
use Rattle.clap.specs.Lexer.{long_of, short_of}
use Rattle.clap.specs.Walk.{Names, Row, Rule, Text, Waiting, Walk, arg_by_id, finished, idle, most_values, nothing_held, option, rows_after, settled, walked}
use Rattle.clap.specs.Simple.{App, Shape, argument_words, built, entered, matches_of, names_of}
use Rattle.clap.specs.Faults.{built_fault, check_fault, defaults_fault, entered_fault, fault_of, settle_fault, turn_fault, walk_fault}
use Rattle.clap.specs.Kinds.{Kinds, or_else}
use Rattle.clap.specs.declared.parser.matches.ValueSource.TheVariants.{CommandLine}
use Rattle.clap.specs.declared.builder.value_parser.Reading.TheVariants.{AsWritten}
use Rattle.clap.proofs.OnLiterals.{clap_on_literals}
use Rattle.trick_rules.specs.Nodes.{most_moves}
use Rattle.job_words.specs.Command.{list_command, option_command, value_command}
use Rattle.job_words.specs.Options.{OptionValues, options_at, options_read}
use Rattle.job_words.specs.Values.{file_of, is_value, job_named, number_in, number_of, number_read, number_or}
use Rattle.job_words.specs.Table.{misused}
use Rattle.job_words.specs.declared.asks.Ask.TheVariants as asks
use Rattle.job_words.specs.declared.asks.Ask.TheVariants.{OnLayouts, Boards, Made}
use Rattle.job_words.specs.declared.asks.LayoutsJob.TheVariants.{Solve, Card, Match, Check, Fusion, Prove, Audit}
use Rattle.job_words.specs.Plain.{audit_words, boards_words, card_words, check_words, fusion_words, list_words, made_words, match_words, plain_search, prove_words, solve_words}
use Rattle.job_words.specs.Words.{ask_in, audit_in, boards_in, card_in, check_in, has_two_dashes, job_in, list_in, made_in, match_in, moves_in, on_layouts, options_found, prove_in, search_in, solve_in, switch_in, table_in, words_read}

unfoldable pub shape : Shape
unfolding option_command list_command value_command
shape = (built option_command).top

-- what is found for an option
abbrev row : Text → Text → Row
row name value = record {
  id = name;
  values = value ∷ [];
  count = None;
  source = Some CommandLine;
  reading = AsWritten;
}

-- where the walk stands after these options, and with this one not yet among them
abbrev pub at : List Row → Option (Text × List Text) → Waiting → Walk
at rows pending waiting = record {
  held = record { rows = rows; pending = pending; skip = 0 };
  waiting = waiting;
  position = 1;
  is_trailing = false;
  stopped = None;
}

abbrev start : Walk
start = at [] None idle

-- where the walk stands after an option and before its value, and after its value
abbrev waits : List Row → Text → Walk
waits rows name = at rows (Some (name, [])) (option name)

abbrev has : List Row → Text → Text → Walk
has rows name value = at rows (Some (name, value ∷ [])) idle

-- the words, none of which is two dashes, lead from one place to the other, without a fault
record Leads (from : Walk) (words : List Text) (to : Walk) : Type 0 where
  dashes : has_two_dashes words ≡ false
  fault : walk_fault shape [] from words ≡ []
  walk : fold (walked shape.rules []) from words ≡ to

ends : (w : Walk) → Leads w [] w
unfolding walk_fault
ends w = record { dashes = refl; fault = refl; walk = refl }

steps : (from next to : Walk) (word : Text) (rest : List Text) → bytes_eq word (codes "--") ≡ false → turn_fault shape [] from word ≡ [] → walked shape.rules [] from word ≡ next
    → Leads next rest to → Leads from (word ∷ rest) to
unfolding walk_fault
steps from next to word rest dashes none is leads = record {
  dashes = rw dashes leads.dashes;
  fault = rw (none, is) leads.fault;
  walk = rw is leads.walk;
}

-- a word that is a value: no dashes stand at its front
record IsPlainWord (word : Text) : Type 0 where
  dashes : bytes_eq word (codes "--") ≡ false
  long : long_of word ≡ None
  short : short_of word ≡ None

plain_word : (word : Text) → is_value word ≡ true → IsPlainWord word
plain_word [] is = absurd (false≢true is)
plain_word (d ∷ ds) is = go (d == 45) refl is
  where
    go : (b : Bool) → (d == 45) ≡ b → not b ≡ true → IsPlainWord (d ∷ ds)
    go true e no_dash = absurd (false≢true no_dash)
    go false e no_dash = record { dashes = rw e refl; long = rw e refl; short = rw e refl }

-- an option that takes one value, and its value
option_leads : (from : Walk) (rows : List Row) (name word value : Text) (rule : Rule) → bytes_eq word (codes "--") ≡ false → turn_fault shape [] from word ≡ [] → walked shape.rules [] from word ≡ waits rows name
    → arg_by_id shape.rules name ≡ Some rule → most_values rule ≡ 1 → bytes_eq name rule.id ≡ true → is_value value ≡ true
    → (rest : List Text) (to : Walk) → Leads (has rows name value) rest to → Leads from (word ∷ value ∷ rest) to
unfolding walked
option_leads from rows name word value rule dashes none is found one same value_is rest to leads =
    let plain = plain_word value value_is in
    steps from (waits rows name) to word (value ∷ rest) dashes none is
    (steps (waits rows name) (has rows name value) to value rest plain.dashes (rw (plain.dashes, plain.long, plain.short) refl) (rw (plain.dashes, plain.long, plain.short, found, same, one) refl) leads)

-- ---- words that are read

-- what is wrong after the last word
abbrev fault_after : App → Walk → Kinds
fault_after a end =
    or_else (entered_fault a end.stopped)
    (or_else (settle_fault a.top.rules a.top.args_override_self end.held)
    (or_else (defaults_fault (settled a.top.rules end.held).rows a.top.rules)
    (check_fault a.top (finished a.top.rules end.held) (is_some (entered a end.stopped)))))

no_fault : (a : App) (words : List Text) (end : Walk) → walk_fault a.top (names_of a) start words ≡ [] → fold (walked a.top.rules (names_of a)) start words ≡ end → fault_after a end ≡ []
    → built_fault a nothing_held words ≡ []
no_fault a words end fault is after = rw (fault, is) after

all_words : (words : List Text) → argument_words option_command words ≡ words
unfolding option_command list_command value_command
all_words words = refl

no_names : names_of (built option_command) ≡ []
unfolding option_command list_command value_command
no_names = refl

read_as : (words : List Text) (rows : List Row) → has_two_dashes words ≡ false → fault_of option_command words ≡ [] → matches_of option_command words ≡ rows → options_found words ≡ Some (options_at rows)
unfolding options_found options_read
read_as words rows dashes none found = rw (dashes, none, found) refl

asked : (words : List Text) (end : Walk) → Leads start words end → fault_after (built option_command) end ≡ [] → options_found words ≡ Some (options_at (finished shape.rules end.held))
unfolding shape
asked words end leads none =
    let fault = subst (λ (names : Names). walk_fault shape names start words ≡ []) (sym no_names) leads.fault in
    let walk = subst (λ (names : Names). fold (walked shape.rules names) start words ≡ end) (sym no_names) leads.walk in
    read_as words (finished shape.rules end.held) leads.dashes
    (ap (built_fault (built option_command) nothing_held) (all_words words) ∙ no_fault (built option_command) words end fault walk none)
    (ap (rows_after shape.rules (names_of (built option_command))) (all_words words) ∙ ap (λ (w : Walk). finished shape.rules w.held) walk)

-- ---- the options, each after what stands before it

module _ (job : Text) (job_is : is_value job ≡ true) where
  job_leads : (rest : List Text) (to : Walk) → Leads (has [] (codes "job") job) rest to → Leads start (codes "--job" ∷ job ∷ rest) to
  unfolding shape option_command value_command clap_on_literals
  job_leads = option_leads start [] (codes "job") (codes "--job") job _ refl refl refl refl refl refl job_is

  abbrev one_row : List Row
  one_row = row (codes "job") job ∷ []

  number_asked : (number : Text) → is_value number ≡ true → options_found (codes "--job" ∷ job ∷ codes "--number" ∷ number ∷ []) ≡ Some (options_at (row (codes "job") job ∷ row (codes "number") number ∷ []))
  unfolding shape option_command value_command clap_on_literals
  number_asked number number_is =
      asked _ _ (job_leads _ _ (option_leads (has [] (codes "job") job) one_row (codes "number") (codes "--number") number _ refl refl refl refl refl refl number_is _ _ (ends _))) refl

  module _ (deal : Text) (deal_is : is_value deal ≡ true) where
    deal_leads : (rest : List Text) (to : Walk) → Leads (has one_row (codes "deal") deal) rest to → Leads start (codes "--job" ∷ job ∷ codes "--deal" ∷ deal ∷ rest) to
    unfolding shape option_command value_command clap_on_literals
    deal_leads rest to leads = job_leads _ _ (option_leads (has [] (codes "job") job) one_row (codes "deal") (codes "--deal") deal _ refl refl refl refl refl refl deal_is rest to leads)

    abbrev two_rows : List Row
    two_rows = row (codes "job") job ∷ row (codes "deal") deal ∷ []

    deal_asked : options_found (codes "--job" ∷ job ∷ codes "--deal" ∷ deal ∷ []) ≡ Some (options_at two_rows)
    unfolding shape option_command value_command clap_on_literals
    deal_asked = asked _ _ (deal_leads _ _ (ends _)) refl

    module _ (layouts : Text) (layouts_is : is_value layouts ≡ true) where
      layouts_leads : (rest : List Text) (to : Walk) → Leads (has two_rows (codes "layouts") layouts) rest to
          → Leads start (codes "--job" ∷ job ∷ codes "--deal" ∷ deal ∷ codes "--layouts" ∷ layouts ∷ rest) to
      unfolding shape option_command value_command clap_on_literals
      layouts_leads rest to leads = deal_leads _ _ (option_leads (has one_row (codes "deal") deal) two_rows (codes "layouts") (codes "--layouts") layouts _ refl refl refl refl refl refl layouts_is rest to leads)

      abbrev three_rows : List Row
      three_rows = row (codes "job") job ∷ row (codes "deal") deal ∷ row (codes "layouts") layouts ∷ []

      layouts_asked : options_found (codes "--job" ∷ job ∷ codes "--deal" ∷ deal ∷ codes "--layouts" ∷ layouts ∷ []) ≡ Some (options_at three_rows)
      unfolding shape option_command value_command clap_on_literals
      layouts_asked = asked _ _ (layouts_leads _ _ (ends _)) refl

      abbrev four_rows : Text → Text → List Row
      four_rows name value = row (codes "job") job ∷ row (codes "deal") deal ∷ row (codes "layouts") layouts ∷ row name value ∷ []

      moves_leads : (moves : Text) → is_value moves ≡ true → (rest : List Text) (to : Walk) → Leads (has three_rows (codes "moves") moves) rest to
          → Leads start (codes "--job" ∷ job ∷ codes "--deal" ∷ deal ∷ codes "--layouts" ∷ layouts ∷ codes "--moves" ∷ moves ∷ rest) to
      unfolding shape option_command value_command clap_on_literals
      moves_leads moves moves_is rest to leads = layouts_leads _ _ (option_leads (has two_rows (codes "layouts") layouts) three_rows (codes "moves") (codes "--moves") moves _ refl refl refl refl refl refl moves_is rest to leads)

      report_leads : (report : Text) → is_value report ≡ true → (rest : List Text) (to : Walk) → Leads (has three_rows (codes "report") report) rest to
          → Leads start (codes "--job" ∷ job ∷ codes "--deal" ∷ deal ∷ codes "--layouts" ∷ layouts ∷ codes "--report" ∷ report ∷ rest) to
      unfolding shape option_command value_command clap_on_literals
      report_leads report report_is rest to leads = layouts_leads _ _ (option_leads (has two_rows (codes "layouts") layouts) three_rows (codes "report") (codes "--report") report _ refl refl refl refl refl refl report_is rest to leads)

      moves_asked : (moves : Text) → is_value moves ≡ true → options_found (codes "--job" ∷ job ∷ codes "--deal" ∷ deal ∷ codes "--layouts" ∷ layouts ∷ codes "--moves" ∷ moves ∷ []) ≡ Some (options_at (four_rows (codes "moves") moves))
      unfolding shape option_command value_command clap_on_literals
      moves_asked moves moves_is = asked _ _ (moves_leads moves moves_is _ _ (ends _)) refl

      report_asked : (report : Text) → is_value report ≡ true → options_found (codes "--job" ∷ job ∷ codes "--deal" ∷ deal ∷ codes "--layouts" ∷ layouts ∷ codes "--report" ∷ report ∷ []) ≡ Some (options_at (four_rows (codes "report") report))
      unfolding shape option_command value_command clap_on_literals
      report_asked report report_is = asked _ _ (report_leads report report_is _ _ (ends _)) refl

      abbrev five_rows : Text → Text → Text → Text → List Row
      five_rows name value next other = row (codes "job") job ∷ row (codes "deal") deal ∷ row (codes "layouts") layouts ∷ row name value ∷ row next other ∷ []

      layout_asked : (moves layout : Text) → is_value moves ≡ true → is_value layout ≡ true
          → options_found (codes "--job" ∷ job ∷ codes "--deal" ∷ deal ∷ codes "--layouts" ∷ layouts ∷ codes "--moves" ∷ moves ∷ codes "--layout" ∷ layout ∷ []) ≡ Some (options_at (five_rows (codes "moves") moves (codes "layout") layout))
      unfolding shape option_command value_command clap_on_literals
      layout_asked moves layout moves_is layout_is = asked _ _ (moves_leads moves moves_is _ _ (option_leads (has three_rows (codes "moves") moves) (four_rows (codes "moves") moves) (codes "layout") (codes "--layout") layout _ refl refl refl refl refl refl layout_is _ _ (ends _))) refl

      log_asked : (report log : Text) → is_value report ≡ true → is_value log ≡ true
          → options_found (codes "--job" ∷ job ∷ codes "--deal" ∷ deal ∷ codes "--layouts" ∷ layouts ∷ codes "--report" ∷ report ∷ codes "--log" ∷ log ∷ []) ≡ Some (options_at (five_rows (codes "report") report (codes "log") log))
      unfolding shape option_command value_command clap_on_literals
      log_asked report log report_is log_is = asked _ _ (report_leads report report_is _ _ (option_leads (has three_rows (codes "report") report) (four_rows (codes "report") report) (codes "log") (codes "--log") log _ refl refl refl refl refl refl log_is _ _ (ends _))) refl

-- what writes a number is a value
is_value-number_in : (least most : ℕ) (text : Text) (number : ℕ) → number_in least most text ≡ Some number → is_value text ≡ true
unfolding number_in number_read
is_value-number_in least most [] number is = cc
is_value-number_in least most (d ∷ ds) number is = go (all_ascii_digits (d ∷ ds)) refl
  where
    go : (b : Bool) → all_ascii_digits (d ∷ ds) ≡ b → is_value (d ∷ ds) ≡ true
    go true e =
        let dash : (d == 45) ≡ false = ne_eqb d 45 (λ at. omega (arith, (tells_all_ascii_digits.parts d ds e).0, at)) in
        rw dash refl
    go false e =
        let none : None ≡ Some number = rw e at is in
        cc

-- ---- the plain words of each job
ask_found : (words : List Text) (o : OptionValues) → options_found words ≡ Some o → words_read words ≡ result_ok (ask_in o)
unfolding words_read
ask_found words o found = rw found refl

pub solve_asks : (deal layouts moves : List ℕ) (number : ℕ) → is_value deal ≡ true → is_value layouts ≡ true → number_in 1 most_moves moves ≡ Some number
    → words_read (solve_words deal layouts moves) ≡ Some (OnLayouts deal layouts (Solve number plain_search))
unfolding ask_in job_in on_layouts solve_in moves_in search_in table_in job_named misused file_of number_of number_or
solve_asks deal layouts moves number deal_is layouts_is number_is =
    ask_found _ _ (moves_asked (codes "solve") refl deal deal_is layouts layouts_is moves (is_value-number_in 1 most_moves moves number number_is)) ∙ rw (number_is, deal_is, layouts_is) refl

pub match_asks : (deal layouts moves layout : List ℕ) (number kept : ℕ) → is_value deal ≡ true → is_value layouts ≡ true → number_in 1 most_moves moves ≡ Some number → number_in 1 256 layout ≡ Some kept
    → words_read (match_words deal layouts moves layout) ≡ Some (OnLayouts deal layouts (Match number plain_search kept None))
unfolding ask_in job_in on_layouts match_in switch_in moves_in search_in table_in job_named misused file_of number_of number_or
match_asks deal layouts moves layout number kept deal_is layouts_is number_is kept_is =
    ask_found _ _ (layout_asked (codes "match") refl deal deal_is layouts layouts_is moves layout (is_value-number_in 1 most_moves moves number number_is) (is_value-number_in 1 256 layout kept kept_is))
    ∙ rw (number_is, kept_is, deal_is, layouts_is) refl

pub card_asks : (deal layouts moves : List ℕ) (number : ℕ) → is_value deal ≡ true → is_value layouts ≡ true → number_in 1 most_moves moves ≡ Some number
    → words_read (card_words deal layouts moves) ≡ Some (OnLayouts deal layouts (Card number plain_search))
unfolding ask_in job_in on_layouts card_in moves_in search_in table_in job_named misused file_of number_of number_or
card_asks deal layouts moves number deal_is layouts_is number_is =
    ask_found _ _ (moves_asked (codes "card") refl deal deal_is layouts layouts_is moves (is_value-number_in 1 most_moves moves number number_is)) ∙ rw (number_is, deal_is, layouts_is) refl

pub fusion_asks : (deal layouts : List ℕ) → is_value deal ≡ true → is_value layouts ≡ true → words_read (fusion_words deal layouts) ≡ Some (OnLayouts deal layouts Fusion)
unfolding ask_in job_in on_layouts job_named misused file_of number_of number_or
fusion_asks deal layouts deal_is layouts_is = ask_found _ _ (layouts_asked (codes "fusion") refl deal deal_is layouts layouts_is) ∙ rw (deal_is, layouts_is) refl

pub list_asks : (deal : List ℕ) → is_value deal ≡ true → words_read (list_words deal) ≡ Some (asks.List deal)
unfolding ask_in job_in list_in job_named misused file_of number_of number_or
list_asks deal deal_is = ask_found _ _ (deal_asked (codes "list") refl deal deal_is) ∙ rw deal_is refl

pub check_asks : (deal layouts report : List ℕ) → is_value deal ≡ true → is_value layouts ≡ true → is_value report ≡ true
    → words_read (check_words deal layouts report) ≡ Some (OnLayouts deal layouts (Check report))
unfolding ask_in job_in on_layouts check_in job_named misused file_of number_of number_or
check_asks deal layouts report deal_is layouts_is report_is = ask_found _ _ (report_asked (codes "check") refl deal deal_is layouts layouts_is report report_is) ∙ rw (report_is, deal_is, layouts_is) refl

pub made_asks : (number : List ℕ) (value : ℕ) → number_in 0 (2 ^ 64 - 1) number ≡ Some value → words_read (made_words number) ≡ Some (Made value plain_search)
unfolding ask_in job_in made_in search_in table_in job_named misused file_of number_of number_or
made_asks number value number_is = ask_found _ _ (number_asked (codes "made") refl number (is_value-number_in 0 (2 ^ 64 - 1) number value number_is)) ∙ rw number_is refl

pub prove_asks : (deal layouts moves : List ℕ) (number : ℕ) → is_value deal ≡ true → is_value layouts ≡ true → number_in 1 most_moves moves ≡ Some number
    → words_read (prove_words deal layouts moves) ≡ Some (OnLayouts deal layouts (Prove number 10000000))
unfolding ask_in job_in on_layouts prove_in moves_in job_named misused file_of number_of number_or
prove_asks deal layouts moves number deal_is layouts_is number_is =
    ask_found _ _ (moves_asked (codes "prove") refl deal deal_is layouts layouts_is moves (is_value-number_in 1 most_moves moves number number_is)) ∙ rw (number_is, deal_is, layouts_is) refl

pub audit_asks : (deal layouts report log : List ℕ) → is_value deal ≡ true → is_value layouts ≡ true → is_value report ≡ true → is_value log ≡ true
    → words_read (audit_words deal layouts report log) ≡ Some (OnLayouts deal layouts (Audit report log))
unfolding ask_in job_in on_layouts audit_in job_named misused file_of number_of number_or
audit_asks deal layouts report log deal_is layouts_is report_is log_is =
    ask_found _ _ (log_asked (codes "audit") refl deal deal_is layouts layouts_is report log report_is log_is) ∙ rw (report_is, log_is, deal_is, layouts_is) refl

pub boards_asks : (deal layouts moves : List ℕ) (number : ℕ) → is_value deal ≡ true → is_value layouts ≡ true → number_in 1 most_moves moves ≡ Some number
    → words_read (boards_words deal layouts moves) ≡ Some (Boards (record { deal = deal; layouts = layouts }) number plain_search)
unfolding ask_in job_in boards_in moves_in search_in table_in job_named misused file_of number_of number_or
boards_asks deal layouts moves number deal_is layouts_is number_is =
    ask_found _ _ (moves_asked (codes "boards") refl deal deal_is layouts layouts_is moves (is_value-number_in 1 most_moves moves number number_is)) ∙ rw (number_is, deal_is, layouts_is) refl
