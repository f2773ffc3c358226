-- Where the lines, the kings' phases and the levels of a trace belong.
use Rattle.std.specs.Prelude.{◌≡◌, ◌≢◌, ℕ, ◌+◌, ◌-◌, ◌*◌, ◌/◌, ◌%◌, ◌<◌, ◌≤◌, ◌==◌, ◌&&◌, List}
use Rattle.std.specs.Prelude.{[], ◌∷◌}
use Rattle.std.specs.Prelude.{length, take, Bool, true, false, Option, Some, None, slice_index_or}
use Rattle.std.specs.Prelude.{All, AllPairs}
use Rattle.std.specs.List.{count_by}
use Rattle.std.specs.List.Sorted.{IsStrictlyIncreasing}
use Rattle.trace_pictures.specs.declared.traces.Heard.{Heard}
use Rattle.trace_pictures.specs.declared.traces.Register.{Register}
use Rattle.trace_pictures.specs.declared.traces.Seen.{Seen}
use Rattle.trace_pictures.specs.declared.traces.Seen.TheVariants.{Shows, Holds}
use Rattle.trace_pictures.specs.declared.traces.Note.{Note}
use Rattle.trace_pictures.specs.declared.traces.KingPhase.{KingPhase}
use Rattle.trace_pictures.specs.declared.traces.Title.{Title}
use Rattle.trace_pictures.specs.declared.traces.Level.{Level}
use Rattle.trace_pictures.specs.declared.traces.StripName.{StripName}
use Rattle.trace_pictures.specs.declared.traces.StripName.TheVariants as name
use Rattle.trace_pictures.specs.declared.traces.Trace.{Trace}
use Rattle.picture_parts.specs.Frames.{line_top}
use Rattle.trace_pictures.specs.TraceSaid.{IsTraceSaid}

-- ---- lines

-- whether a line says what its node shows: that is a node's first line in a configuration
abbrev pub is_output : Seen → Bool
is_output (Shows output) = true
is_output (Holds register) = false

abbrev pub shows : Note → Bool
shows note = is_output note.seen

-- how high a line of a strip is: below a cell of a group stands a bar
abbrev pub line_height : StripName → ℕ
line_height (name.Level level) = 18
line_height (name.Group group) = 28

-- the strip of that number and name
pub record IsStripOf (levels : List Level) (level : ℕ) (name : StripName) (strip : Level) : Type 0
  where
    pub place : ℕ
    pub inside : place < length levels
    pub is : (d : Level) → slice_index_or levels place d ≡ strip
    pub of_level : strip.level ≡ level
    pub of_name : strip.name ≡ name

-- a cell of the node of that place stands in its line of a strip
pub record IsInStrip (strip : Level) (place top : ℕ) : Type 0 where
  pub from : strip.before ≤ place
  pub within : place < strip.before + strip.members
  pub height : top ≡ strip.cells + line_height strip.name * (place - strip.before)

-- a register of the node of that place stands in its strip
pub record StandsInStrip (levels : List Level) (place top : ℕ) (register : Register) : Type 0 where
  pub strip : Level
  pub is : IsStripOf levels register.level register.name strip
  pub inside : IsInStrip strip place top

-- an output stands in the line of its node above all strips
abbrev pub IsAtHeight : List Level → (place top : ℕ) → Seen → Type 0
IsAtHeight levels place top (Shows output) = top ≡ line_top place
IsAtHeight levels place top (Holds register) = StandsInStrip levels place top register

-- a strip may have a line for a node: one of a group, for the nodes of the group
abbrev pub IsMemberOf : (node : ℕ) → StripName → Type 0
IsMemberOf node (name.Level level) = Unit {0}
IsMemberOf node (name.Group group) = (group.first ≤ node) × (node ≤ group.last)

abbrev pub IsOfMember : (node : ℕ) → Seen → Type 0
IsOfMember node (Shows output) = Unit {0}
IsOfMember node (Holds register) = IsMemberOf node register.name

-- A line of a node, if so many outputs, `before`, were shown before that of its node: it is on the
-- node that is due, and stands in the column of its configuration, and in the line of its node.
pub record IsNoteLaid (levels : List Level) (nodes : ℕ) (ids : List ℕ) (before : ℕ) (note : Note)
    : Type 0 where
  pub node : (d : ℕ) → slice_index_or ids (before % nodes) d ≡ note.node
  pub column : note.column ≡ before / nodes
  pub first : note.is_first ≡ (shows note && before % nodes == 0)
  pub member : IsOfMember note.node note.seen
  pub height : IsAtHeight levels (before % nodes) note.top note.seen

-- line k of a trace: the outputs in the lines up to it tell its node and its configuration
pub record IsLaidAt (levels : List Level) (nodes : ℕ) (ids : List ℕ) (notes : List Note) (k : ℕ)
    (d : Note) : Type 0 where
  pub some : 1 ≤ count_by shows (take (k + 1) notes)
  pub laid : IsNoteLaid levels nodes ids (count_by shows (take (k + 1) notes) - 1)
      (slice_index_or notes k d)

abbrev pub AreLinesLaid : List Level → (nodes : ℕ) → (ids : List ℕ) → List Note → Type 0
AreLinesLaid levels nodes ids notes =
    (k : ℕ) (d : Note) → k < length notes → IsLaidAt levels nodes ids notes k d

-- ---- kings' phases

-- the phase that is heard at a level, in the column of its configuration
pub record IsTurnOf (column level : ℕ) (heard : Heard) (reign : KingPhase) : Type 0 where
  pub at_column : reign.column ≡ column
  pub at_level : reign.level ≡ level
  pub same_king : reign.king ≡ heard.king
  pub same_turn : reign.turn ≡ heard.turn

-- one of the phases is the one that is heard
pub record HasTurnOf (reigns : List KingPhase) (column level : ℕ) (heard : Heard) : Type 0 where
  pub place : ℕ
  pub inside : place < length reigns
  pub is : (d : KingPhase) → IsTurnOf column level heard (slice_index_or reigns place d)

abbrev pub HasTurnHeard : List KingPhase → (column level : ℕ) → Option Heard → Type 0
HasTurnHeard reigns column level (Some heard) = HasTurnOf reigns column level heard
HasTurnHeard reigns column level None = Unit {0}

-- if a correct node hears a phase, it is drawn
abbrev pub HasTurnIf : List KingPhase → (faulty : Bool) → (column : ℕ) → Seen → Type 0
HasTurnIf reigns true column seen = Unit {0}
HasTurnIf reigns false column (Shows output) = Unit {0}
HasTurnIf reigns false column (Holds register) =
    HasTurnHeard reigns column register.level register.heard

abbrev pub HasTurn : List KingPhase → Note → Type 0
HasTurn reigns note = HasTurnIf reigns note.is_faulty note.column note.seen

-- a phase stands above the cells of its level's strip
pub record IsTurnLaid (levels : List Level) (reign : KingPhase) : Type 0 where
  pub strip : Level
  pub is : IsStripOf levels reign.level reign.name strip
  pub below : strip.top ≤ reign.top
  pub above : reign.top + 16 ≤ strip.cells

-- phases of one level in one column stand one below the other
abbrev pub AreApart : (turn later : KingPhase) → Type 0
AreApart turn later =
    turn.column ≡ later.column → turn.level ≡ later.level → turn.top + 16 ≤ later.top

-- ---- levels

-- Strips stand one below the other, from one height to another, in each a row of phases and a line
-- for each of its nodes; their numbers rise.
abbrev pub AreStacked : (below from : ℕ) → List Level → (end : ℕ) → Type 0
AreStacked below from [] end = from ≤ end
AreStacked below from (strip ∷ strips) end =
    (below < strip.level) × (from ≤ strip.top) × (strip.top + 16 ≤ strip.cells)
    × AreStacked strip.level (strip.cells + line_height strip.name * strip.members) strips end

-- no two strips have one name
abbrev pub AreDistinct : List Level → Type 0
AreDistinct [] = Unit {0}
AreDistinct (strip ∷ strips) =
    All (λ other. other.name ≢ strip.name) strips × AreDistinct strips

-- a word before a strip stands beside its phases, at the beginning of a band
pub record IsTitleLaid (levels : List Level) (title : Title) : Type 0 where
  pub strip : Level
  pub is : IsStripOf levels title.level title.name strip
  pub top : title.top ≡ strip.top
  pub front : title.column % 120 ≡ 0

-- ---- all of it

-- Each configuration has a column, and in it each node its lines: its output, and its registers in
-- the strips of their levels. The nodes are the same ones in each, and their ids rise. Each phase
-- that a correct node hears is drawn, and none covers another. Nothing else covers the outputs and
-- the strips. The lines say what is drawn. There is a configuration, and a node in it.
pub record IsTraceLaid (trace : Trace) : Type 0 where
  pub some : (1 ≤ trace.frame.columns) × (1 ≤ trace.nodes)
  pub whole : count_by shows trace.notes.items ≡ trace.frame.columns * trace.nodes
  pub ids : length trace.ids.items ≡ trace.nodes
  pub rise : IsStrictlyIncreasing trace.ids.items
  pub lines : AreLinesLaid trace.levels.items trace.nodes trace.ids.items trace.notes.items
  pub heard : All (HasTurn trace.reigns.items) trace.notes.items
  pub turns : All (IsTurnLaid trace.levels.items) trace.reigns.items
  pub apart : AllPairs AreApart trace.reigns.items
  pub titles : All (IsTitleLaid trace.levels.items) trace.titles.items
  pub distinct : AreDistinct trace.levels.items
  pub strips : AreStacked 0 (line_top trace.nodes) trace.levels.items trace.cells
  pub high : trace.cells ≤ trace.frame.height
  pub said : IsTraceSaid trace
