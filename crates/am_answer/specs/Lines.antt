-- The line to standard error that says why a run was refused.
use Rattle.std.specs.Prelude.{ℕ, ◌-◌, if◌then◌else◌, List, [], ◌∷◌, length, take, drop, codes}
use Rattle.std.specs.List.{concat}
use Rattle.std.specs.Fmt.{decimal}
use Rattle.card_letters.specs.Letters.{letters_of}
use Rattle.layout_list.specs.declared.fault.LayoutFault as layouts
use Rattle.layout_maker.specs.declared.fault.MakeFault as make
use Rattle.am_answer.specs.declared.status.Place as place
use Rattle.am_answer.specs.declared.status.Status.{Status}
use Rattle.am_answer.specs.declared.status.Status.TheVariants.{Done, Refuted, BadWords, Unread, BadPbn, BadLayouts, NoTurn, Spent, Unwritten, Memory, TooLong, BadReport, BadMake, NoLayout, BadLog, Unproved, GameSpent, TooManyGames}
use Rattle.am_answer.specs.Names.{file_name, deal_name, kind_name, report_name}

-- pieces of a line, one after another
abbrev pub joined_pieces : List (List ℕ) → List ℕ
joined_pieces pieces = concat pieces

-- the layout file and why it is refused
abbrev pub layouts_line : layouts.LayoutFault → List (List ℕ)
layouts_line (layouts.TheVariants.BadLine line fault) = codes "alphamu: layouts line " ∷ decimal line ∷ codes ": BadLine " ∷ deal_name fault ∷ codes "\n" ∷ []
layouts_line (layouts.TheVariants.OtherHands line) = codes "alphamu: layouts line " ∷ decimal line ∷ codes ": OtherHands\n" ∷ []
layouts_line (layouts.TheVariants.TooMany line) = codes "alphamu: layouts line " ∷ decimal line ∷ codes ": TooMany\n" ∷ []
layouts_line (layouts.TheVariants.BadWeight line) = codes "alphamu: layouts line " ∷ decimal line ∷ codes ": BadWeight\n" ∷ []
layouts_line layouts.TheVariants.NoneLeft = codes "alphamu: layouts: NoneLeft\n" ∷ []
layouts_line layouts.TheVariants.Memory = codes "alphamu: out of memory\n" ∷ []

-- the root card whose tree is too large
abbrev pub spent_line : ℕ → List (List ℕ)
spent_line card = codes "alphamu: nodes spent at " ∷ letters_of card ∷ codes "\n" ∷ []

-- the same in the game of a number
abbrev pub game_spent_line : ℕ → ℕ → List (List ℕ)
game_spent_line game card = codes "alphamu: game " ∷ decimal game ∷ codes ": nodes spent at " ∷ letters_of card ∷ codes "\n" ∷ []

-- the plan of a report that is at fault, by its number, and where
abbrev pub refuted_line : ℕ → place.Place → List (List ℕ)
refuted_line plan place.TheVariants.Head = codes "alphamu: plan " ∷ decimal plan ∷ codes ": head differs\n" ∷ []
refuted_line plan place.TheVariants.Width = codes "alphamu: plan " ∷ decimal plan ∷ codes ": width differs\n" ∷ []
refuted_line plan place.TheVariants.Weight = codes "alphamu: plan " ∷ decimal plan ∷ codes ": weight differs\n" ∷ []
refuted_line plan (place.TheVariants.Node node) = codes "alphamu: plan " ∷ decimal plan ∷ codes ": not a strategy at node " ∷ decimal node ∷ codes "\n" ∷ []
refuted_line plan (place.TheVariants.Layout layout bit) = codes "alphamu: plan " ∷ decimal plan ∷ codes ": layout " ∷ decimal layout ∷ (if bit then codes " is 1\n" else codes " is 0\n") ∷ []

-- how many layouts fit, where they aren't listed
abbrev pub make_line : make.MakeFault → List (List ℕ)
make_line (make.TheVariants.TooManyFit count) = codes "alphamu: " ∷ decimal count ∷ codes " layouts fit\n" ∷ []
make_line make.TheVariants.NoneFit = codes "alphamu: 0 layouts fit\n" ∷ []
make_line make.TheVariants.NotShown = codes "alphamu: defenders not shown\n" ∷ []
make_line make.TheVariants.Memory = codes "alphamu: out of memory\n" ∷ []

-- what is written to standard error, piece by piece; nothing where the run is done
abbrev pub pieces_of : Status → List (List ℕ)
pieces_of Done = []
pieces_of (Refuted plan place) = refuted_line plan place
pieces_of BadWords = codes "alphamu: usage: --job JOB [OPTIONS]\n" ∷ []
pieces_of (Unread file) = codes "alphamu: cannot read " ∷ file_name file ∷ codes "\n" ∷ []
pieces_of (BadPbn line kind) = codes "alphamu: deal line " ∷ decimal line ∷ codes ": " ∷ kind_name kind ∷ codes "\n" ∷ []
pieces_of (BadLayouts fault) = layouts_line fault
pieces_of NoTurn = codes "alphamu: no card to choose\n" ∷ []
pieces_of (Spent card) = spent_line card
pieces_of Unwritten = codes "alphamu: cannot write\n" ∷ []
pieces_of Memory = codes "alphamu: out of memory\n" ∷ []
pieces_of (TooLong file) = codes "alphamu: " ∷ file_name file ∷ codes " too long\n" ∷ []
pieces_of (BadReport line kind) = codes "alphamu: report line " ∷ decimal line ∷ codes ": " ∷ report_name kind ∷ codes "\n" ∷ []
pieces_of (BadMake fault) = make_line fault
pieces_of (NoLayout layout) = codes "alphamu: no layout " ∷ decimal layout ∷ codes "\n" ∷ []
pieces_of (BadLog line) = codes "alphamu: log file line " ∷ decimal line ∷ codes "\n" ∷ []
pieces_of (Unproved line) = codes "alphamu: log line " ∷ decimal line ∷ codes " not proved\n" ∷ []
pieces_of (GameSpent game card) = game_spent_line game card
pieces_of (TooManyGames games) = codes "alphamu: " ∷ decimal games ∷ codes " games\n" ∷ []

-- the line of a status
unfoldable pub status_line : Status → List ℕ
status_line status = joined_pieces (pieces_of status)

-- how each line begins
abbrev pub line_start : List ℕ
line_start = codes "alphamu: "

-- what the line of a status says: without how it begins, and without its end
unfoldable pub said_of : Status → List ℕ
said_of status = drop (length line_start) (take (length (status_line status) - 1) (status_line status))
