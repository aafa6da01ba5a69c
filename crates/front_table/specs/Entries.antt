-- What a store keeps, and what it answers.
use Rattle.std.specs.Prelude.{◌≡◌, ◌≤◌, ◌<◌, ℕ, List, [], ◌∷◌, ◌++◌, length, slice_index_or, Contains, AllPairs}
use Rattle.win_vectors.specs.Fronts.{Vector, HaveWidth}
use Rattle.trick_rules.specs.Nodes.{NodeValue}
use Rattle.strategy_games.specs.Plans.{IsFront}
use Rattle.strategy_tree.specs.Bridge.{bridge}
use Rattle.front_table.specs.Proven.{ProvenFrontValue}
use Rattle.front_table.specs.declared.store.Put.{Put}
use Rattle.front_table.specs.declared.store.Put.TheVariants.{Kept, Present, Full, TooWide, Busy, Memory}

-- the most vectors of an entry
abbrev pub most_entry_vectors : ℕ
most_entry_vectors = 64

-- a node, a number of moves, and the vectors of their front
pub record StoredFrontValue : Type 0 where
  pub node : NodeValue
  pub moves : ℕ
  pub vectors : List Vector

-- the vectors are the front of the node with these moves, with a bit for each of the node's layouts, and they aren't too many
pub record IsStoredFront (e : StoredFrontValue) : Type 0 where
  pub front : IsFront bridge e.node e.moves e.vectors
  pub width : HaveWidth (length e.node.lefts) e.vectors
  pub few : length e.vectors ≤ most_entry_vectors

-- the entry that is made of a proven front
abbrev pub stored_front_of : ProvenFrontValue → StoredFrontValue
stored_front_of p = record { node = p.node; moves = p.moves; vectors = p.front.vectors }

-- a front has too many vectors for an entry
abbrev pub IsTooWide : ProvenFrontValue → Type 0
IsTooWide p = most_entry_vectors < length p.front.vectors

-- the key of an entry is its node and its moves, whole
pub record IsOfKey (n : NodeValue) (m : ℕ) (e : StoredFrontValue) : Type 0 where
  pub node : e.node ≡ n
  pub moves : e.moves ≡ m

-- the list has an entry of this node and these moves
abbrev pub HasKey : List StoredFrontValue → NodeValue → ℕ → Type 0
HasKey list node moves = (e : StoredFrontValue) × Contains list e × IsOfKey node moves e

-- the entry at this place is of this node and these moves
abbrev pub IsKeyAt : List StoredFrontValue → NodeValue → ℕ → ℕ → Type 0
IsKeyAt list node moves place = (e : StoredFrontValue) × (place < length list) × (slice_index_or list place e ≡ e) × IsOfKey node moves e

-- no key is in the list twice
abbrev pub HasKeysOnce : List StoredFrontValue → Type 0
HasKeysOnce list = AllPairs (λ e f. ¬ IsOfKey e.node e.moves f) list

-- what becomes of a list with room for this many entries if a proven front is put in: its entry is added at the end if it
-- isn't too wide, its key isn't there, and there is room and memory; otherwise the list stays
abbrev pub PutLeaves : ℕ → List StoredFrontValue → ProvenFrontValue → Put → List StoredFrontValue → Type 0
PutLeaves room list p Kept later = (¬ IsTooWide p) × (¬ HasKey list p.node p.moves) × (length list < room) × (later ≡ list ++ stored_front_of p ∷ [])
PutLeaves room list p (Present back) later = (¬ IsTooWide p) × HasKey list p.node p.moves × (later ≡ list)
PutLeaves room list p (Full back) later = (¬ IsTooWide p) × (¬ HasKey list p.node p.moves) × (room ≤ length list) × (later ≡ list)
PutLeaves room list p (TooWide back) later = IsTooWide p × (later ≡ list)
PutLeaves room list p (Busy back) later = ⊥
PutLeaves room list p (Memory back) later = (¬ IsTooWide p) × (¬ HasKey list p.node p.moves) × (length list < room) × (later ≡ list)
