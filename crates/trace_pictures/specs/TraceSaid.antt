-- What the lines of a trace say of what is drawn of it: which outputs stand for no value, which
-- phases are heard, by all or by some, and what is known of a level.
use Rattle.std.specs.Prelude.{◌≡◌, ℕ, ◌+◌, ◌<◌, ◌≤◌, ◌==◌, ◌&&◌, not, List, [], ◌∷◌, length, map}
use Rattle.std.specs.Prelude.{drop, Bool, true, false, Option, Some, None, slice_index_or, All}
use Rattle.std.specs.Prelude.{if◌then◌else◌}
use Rattle.std.specs.List.{range_with_len}
use Rattle.trace_pictures.specs.declared.traces.Basis.{Basis}
use Rattle.trace_pictures.specs.declared.traces.Basis.TheVariants.{Votes, Follows}
use Rattle.trace_pictures.specs.declared.traces.Heard.{Heard}
use Rattle.trace_pictures.specs.declared.traces.StripName.{StripName}
use Rattle.trace_pictures.specs.declared.traces.StripName.TheVariants as name
use Rattle.trace_pictures.specs.declared.traces.Turn.{Turn}
use Rattle.trace_pictures.specs.declared.traces.Turn.TheVariants.{Keep, Mark, King}
use Rattle.trace_pictures.specs.declared.traces.Seen.{Seen}
use Rattle.trace_pictures.specs.declared.traces.Seen.TheVariants.{Shows, Holds}
use Rattle.trace_pictures.specs.declared.traces.Note.{Note}
use Rattle.trace_pictures.specs.declared.traces.KingPhase.{KingPhase}
use Rattle.trace_pictures.specs.declared.traces.Level.{Level}
use Rattle.trace_pictures.specs.declared.traces.Trace.{Trace}
use Rattle.picture_parts.specs.Moduli.{IsModulusOf}

-- ---- outputs

-- what a line shows
abbrev pub output_in : Seen → Option ℕ
output_in (Shows shown) = Some shown.output
output_in (Holds register) = None

abbrev pub output_said : Note → Option ℕ
output_said note = output_in note.seen

-- a register comes, and after it others, if there are any: levels come before those above them, and
-- groups after those in which they are
abbrev pub value_above : StripName → (value : Option ℕ) → (later : Option (Option ℕ))
    → Option (Option ℕ)
value_above (name.Level level) value (Some later) = Some later
value_above (name.Level level) value None = Some value
value_above (name.Group group) value later = Some value

-- a register comes, and after it these lines
abbrev pub value_before : Seen → (later : Option (Option ℕ)) → Option (Option ℕ)
value_before (Shows shown) later = None
value_before (Holds register) later = value_above register.name register.value later

-- What that register of these lines holds by which the node shows its output, up to the next
-- output, if there is one: the last one of levels, and the first one of groups.
abbrev pub top_value : List Note → Option (Option ℕ)
top_value [] = None
top_value (note ∷ notes) = value_before note.seen (top_value notes)

-- whether there is a register without a value
abbrev pub lacks_value : Option (Option ℕ) → Bool
lacks_value (Some None) = true
lacks_value (Some (Some value)) = false
lacks_value None = false

-- whether an output stands for no value
abbrev pub is_lost_before : Seen → (later : Option (Option ℕ)) → Bool
is_lost_before (Shows shown) later = lacks_value later
is_lost_before (Holds register) later = false

-- an output knows whether the lines after it say that its node has no value
abbrev pub KnowsValue : List Note → (k : ℕ) → Note → Type 0
KnowsValue notes k note = note.is_lost ≡ is_lost_before note.seen (top_value (drop (k + 1) notes))

abbrev pub KnowValues : List Note → Type 0
KnowValues notes =
    (k : ℕ) (d : Note) → k < length notes → KnowsValue notes k (slice_index_or notes k d)

-- ---- kings' phases

abbrev pub is_same_turn : Turn → Turn → Bool
is_same_turn Keep Keep = true
is_same_turn Mark Mark = true
is_same_turn King King = true
is_same_turn turn other = false

-- whether what is heard is this phase, if anything is
abbrev pub heard_as : KingPhase → Option Heard → Option Bool
heard_as reign None = None
heard_as reign (Some heard) =
    Some ((heard.king == reign.king) && is_same_turn heard.turn reign.turn)

abbrev pub seen_as : KingPhase → Seen → Option Bool
seen_as reign (Shows shown) = None
seen_as reign (Holds register) =
    if register.level == reign.level then heard_as reign register.heard else None

-- If a line is on what a correct node hears in a phase's column at its level: whether that is the
-- phase. Else nothing.
abbrev pub hears : KingPhase → Note → Option Bool
hears reign note =
    if (note.column == reign.column) && not note.is_faulty then seen_as reign note.seen else None

-- lines stand column by column
abbrev pub ColumnsRise : List Note → Type 0
ColumnsRise notes =
    (i j : ℕ) (d : Note) → i ≤ j → j < length notes
    → (slice_index_or notes i d).column ≤ (slice_index_or notes j d).column

-- the lines before a place stand in columns before this one
abbrev pub IsBefore : (column from : ℕ) → List Note → Type 0
IsBefore column from notes =
    (k : ℕ) (d : Note) → k < length notes → k < from → (slice_index_or notes k d).column < column

-- some line says so of a phase
pub record HasHearer (reign : KingPhase) (notes : List Note) (same : Bool) : Type 0 where
  pub place : ℕ
  pub inside : place < length notes
  pub is : (d : Note) → hears reign (slice_index_or notes place d) ≡ Some same

-- whether another phase is heard
abbrev pub is_other : Option Bool → Bool
is_other (Some true) = false
is_other (Some false) = true
is_other None = false

-- no line says that another phase is heard
abbrev pub IsHeardByAll : KingPhase → List Note → Type 0
IsHeardByAll reign notes =
    (k : ℕ) (d : Note) → k < length notes
    → is_other (hears reign (slice_index_or notes k d)) ≡ false

-- a phase has a whole frame if all hear it, and else a broken one
abbrev pub IsFramed : KingPhase → List Note → (common : Bool) → Type 0
IsFramed reign notes true = IsHeardByAll reign notes
IsFramed reign notes false = HasHearer reign notes false

-- a phase is one that some correct node hears, in a frame that says whether all do
pub record IsTurnSaid (notes : List Note) (reign : KingPhase) : Type 0 where
  pub heard : HasHearer reign notes true
  pub framed : IsFramed reign notes reign.is_common

-- ---- levels

-- of how many blocks a node hears votes, if it has its instruction by these
abbrev pub votes_by : Basis → Option ℕ
votes_by (Votes beat) = Some (length beat.votes.items)
votes_by (Follows following) = None

-- of how many blocks a line hears votes at a level, if it does
abbrev pub votes_heard : Option Heard → Option ℕ
votes_heard None = None
votes_heard (Some heard) = votes_by heard.basis

abbrev pub votes_in : (level : ℕ) → Seen → Option ℕ
votes_in level (Shows shown) = None
votes_in level (Holds register) =
    if register.level == level then votes_heard register.heard else None

abbrev pub votes_at : (level : ℕ) → Note → Option ℕ
votes_at level note = votes_in level note.seen

-- whether a line is on a register of a level
abbrev pub is_of : (level : ℕ) → Seen → Bool
is_of level (Shows shown) = false
is_of level (Holds register) = register.level == level

pub record HasLine (notes : List Note) (level : ℕ) : Type 0 where
  pub place : ℕ
  pub inside : place < length notes
  pub is : (d : Note) → is_of level (slice_index_or notes place d).seen ≡ true

-- some line has votes of so many blocks
pub record HasVotes (notes : List Note) (level blocks : ℕ) : Type 0 where
  pub place : ℕ
  pub inside : place < length notes
  pub is : (d : Note) → votes_at level (slice_index_or notes place d) ≡ Some blocks

-- the blocks of a caption are those of a line, and there are none if no line has votes
abbrev pub HasBlocks : List Note → (level : ℕ) → Option ℕ → Type 0
HasBlocks notes level (Some blocks) = HasVotes notes level blocks
HasBlocks notes level None = All (λ note. votes_at level note ≡ None) notes

-- a caption is that of a level that the trace has
pub record IsLevelSaid (notes : List Note) (level : Level) : Type 0 where
  pub there : HasLine notes level.level
  pub blocks : HasBlocks notes level.level level.blocks

-- ---- all of it

pub record IsTraceSaid (trace : Trace) : Type 0 where
  pub modulus : IsModulusOf output_said trace.notes.items trace.frame.modulus
  pub values : KnowValues trace.notes.items
  pub turns : All (IsTurnSaid trace.notes.items) trace.reigns.items
  pub levels : All (IsLevelSaid trace.notes.items) trace.levels.items
  pub places : map (λ level. level.place) trace.levels.items
      ≡ range_with_len 0 (length trace.levels.items)
