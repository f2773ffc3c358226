-- What reading and hearing cells and packets did.
use Rattle.std.specs.Prelude.{◌≡◌, ◌≢◌, ℕ, ◌-◌, ◌<◌, ◌≤◌, Bool, true, false, List, [], ◌++◌}
use Rattle.std.specs.Prelude.{length, slice_index_or, Option, Some, None, ◌⊎◌, Result, Ok, Err}
use Rattle.std.specs.Io.KnownBytes.{Consumes, IsAtEnd}
use Rattle.construction.specs.Steps.{state_of}
use Rattle.state_codec.specs.Reading.{read}
use Rattle.edge_io.specs.Feeds.{ReadsSoMany}
use Rattle.node_stepper.specs.declared.faults.Amount.{Amount}
use Rattle.node_stepper.specs.declared.faults.Amount.TheVariants as amount
use Rattle.node_stepper.specs.Packets.{cell_at, cells_of}
use Rattle.machines.specs.Machines.{Machine}
use Rattle.node_stepper.specs.Nodes.{Standing, own, hearing}

-- the node is the same, in the same state
pub record IsSame {M : Type 0} (before after : Standing M) : Type 0 where
  pub counter : after.counter ≡ before.counter
  pub id : after.id ≡ before.id
  pub own : own after ≡ own before

-- whether the end was met with so much of a packet
abbrev pub meets_end : Amount → Bool
meets_end amount.Whole = false
meets_end (amount.Cut sender) = true
meets_end amount.Nothing = true

-- the packet's cells after others
abbrev pub onto_cells : List (List ℕ) → Result (List (List ℕ) × List ℕ) ℕ
    → Result (List (List ℕ) × List ℕ) ℕ
onto_cells cells (Ok (more, behind)) = Ok (cells ++ more, behind)
onto_cells cells (Err sender) = Err sender

-- the input ended, or a call failed, inside a packet
pub record PacketCut (nodes sender : ℕ) (old new : Option (List ℕ)) : Type 0 where
  pub bytes : List ℕ
  pub read : Consumes old new bytes
  pub some : 0 < length bytes
  pub cut : cells_of nodes 0 bytes ≡ Err sender

-- which machine each counter is
module _ {M : Type 0} (machine : M → Machine) where
  -- a cell was heard, if it was whole
  abbrev pub HeardIf : {E : Type 0} → (before after : Standing M) → (sender : ℕ) → List ℕ
      → Result Bool E → Type 0
  HeardIf before after sender cell (Ok true) = after ≡ hearing machine before sender cell
  HeardIf before after sender cell (Ok false) = after ≡ before
  HeardIf before after sender cell (Err e) = after ≡ before

  -- what hearing the bytes of a cell after its length did
  abbrev pub BodyFed : {E : Type 0} → (n sender : ℕ) → (before after : Standing M)
      → (old new : Option (List ℕ)) → Result Bool E → Type 0
  BodyFed n sender before after old new result =
      (bytes : List ℕ) × ReadsSoMany n old new bytes result
      × HeardIf before after sender bytes result

  -- one cell was heard, of which these bytes were read before
  abbrev pub WholeCell : (front : List ℕ) (sender : ℕ) → (before after : Standing M)
      → (old new : Option (List ℕ)) → Type 0
  WholeCell front sender before after old new =
      (bytes : List ℕ) × (cell : List ℕ) × Consumes old new bytes
      × ((rest : List ℕ) → cell_at (front ++ (bytes ++ rest)) ≡ Some (cell, rest))
      × (after ≡ hearing machine before sender cell)

  -- what hearing one cell did, of which these bytes were read before
  abbrev pub CellFed : {E : Type 0} → (front : List ℕ) (sender : ℕ) → (before after : Standing M)
      → (old new : Option (List ℕ)) → Result Bool E → Type 0
  CellFed front sender before after old new (Ok true) = WholeCell front sender before after old new
  CellFed front sender before after old new (Ok false) =
      (bytes : List ℕ) × Consumes old new bytes × (cell_at (front ++ bytes) ≡ None) × IsAtEnd new
      × (after ≡ before)
  CellFed front sender before after old new (Err e) =
      (bytes : List ℕ) × Consumes old new bytes × (cell_at (front ++ bytes) ≡ None)
      × (after ≡ before)

  -- cells were heard of the first nodes
  pub record HeardCells (before after : Standing M) (cells : List (List ℕ)) : Type 0 where
    pub same : IsSame before after
    pub states : length after.states ≡ (machine before.counter).nodes
    pub marks : length after.since ≡ (machine before.counter).nodes
    pub heard : (u : ℕ) → u < length cells → u ≢ before.id
        → state_of after.states u ≡ read ((machine before.counter).fields u)
        (slice_index_or cells u [])
    pub since : (u : ℕ) → u < length cells → u ≢ before.id
        → slice_index_or after.since u false ≡ true

  -- So many cells of a packet were heard, the first ones. These bytes were read, some if there was
  -- a cell, and nothing was touched if there was none.
  pub record CellsFed (before now : Standing M) (s t : Option (List ℕ)) (count : ℕ) : Type 0 where
    pub bytes : List ℕ
    pub cells : List (List ℕ)
    pub read : Consumes s t bytes
    pub some : 0 < count → 0 < length bytes
    pub none : count ≡ 0 → (now ≡ before) × (t ≡ s)
    pub short : count ≤ (machine before.counter).nodes
    pub long : length cells ≡ count
    pub cells_are : (rest : List ℕ) → cells_of ((machine before.counter).nodes) 0 (bytes ++ rest)
        ≡ onto_cells cells (cells_of ((machine before.counter).nodes - count) count rest)
    pub heard : HeardCells before now cells

  -- a packet was read, and heard
  pub record PacketFed (before after : Standing M) (old new : Option (List ℕ)) : Type 0 where
    pub bytes : List ℕ
    pub packet : List (List ℕ)
    pub read : Consumes old new bytes
    pub whole : (rest : List ℕ)
        → cells_of ((machine before.counter).nodes) 0 (bytes ++ rest) ≡ Ok (packet, rest)
    pub some : 0 < length bytes
    pub size : length packet ≡ (machine before.counter).nodes
    pub heard : HeardCells before after packet

  -- what hearing a packet, or the beginning of one, did; `Whole` says that all of that was heard
  abbrev pub HeardTo : {E : Type 0} → (Whole : Type 0) → (before after : Standing M)
      → (old new : Option (List ℕ)) → Result Amount E → Type 0
  HeardTo Whole before after old new (Ok amount.Whole) = Whole
  HeardTo Whole before after old new (Ok (amount.Cut sender)) =
      PacketCut ((machine before.counter).nodes) sender old new × IsAtEnd new × IsSame before after
  HeardTo Whole before after old new (Ok amount.Nothing) =
      Consumes old new [] × IsAtEnd new × (after ≡ before)
  HeardTo Whole before after old new (Err e) =
      (Consumes old new [] ⊎ ((sender : ℕ)
      × PacketCut ((machine before.counter).nodes) sender old new))
      × IsSame before after

  abbrev pub PacketHeard : {E : Type 0} → (before after : Standing M) → (old new : Option (List ℕ))
      → Result Amount E → Type 0
  PacketHeard before after old new = HeardTo (PacketFed before after old new) before after old new

  -- what hearing the first cell of a packet did
  abbrev pub FirstHeard : {E : Type 0} → (before after : Standing M) → (old new : Option (List ℕ))
      → Result Amount E → Type 0
  FirstHeard before after old new =
      HeardTo (WholeCell [] 0 before after old new) before after old new

  -- what hearing the cells of a packet from this one on did, if those before it were heard
  abbrev pub HearsFrom : {E : Type 0} → (now after : Standing M) → (old new : Option (List ℕ))
      → (first : ℕ) → Result Amount E → Type 0
  HearsFrom now after old new first result =
      (before : Standing M) → (start : Option (List ℕ)) → CellsFed before now start old first
      → PacketHeard before after start new result
