-- The strips of a trace's levels or groups, in SVG.
use Rattle.std.specs.Prelude.{ℕ, ◌+◌, ◌-◌, ◌*◌, ◌/◌, List, [], ◌∷◌, ◌++◌, Bool, true, false, Option}
use Rattle.std.specs.Prelude.{Some, None, if◌then◌else◌, codes, decimal}
use Rattle.std.specs.List.{concat}
use Rattle.picture_parts.specs.declared.faces.Face.{Face}
use Rattle.picture_parts.specs.declared.faces.Face.TheVariants as face
use Rattle.picture_parts.specs.declared.frames.Frame.{Frame}
use Rattle.trace_pictures.specs.declared.traces.Held.{Held}
use Rattle.trace_pictures.specs.declared.traces.Held.TheVariants.{Unmarked, Marked, Locked}
use Rattle.trace_pictures.specs.declared.traces.Turn.{Turn}
use Rattle.trace_pictures.specs.declared.traces.Turn.TheVariants.{Keep, Mark, King}
use Rattle.trace_pictures.specs.declared.traces.LeftSeen.{LeftSeen}
use Rattle.trace_pictures.specs.declared.traces.StripName.{StripName}
use Rattle.trace_pictures.specs.declared.traces.StripName.TheVariants as name
use Rattle.trace_pictures.specs.declared.traces.Register.{Register}
use Rattle.trace_pictures.specs.declared.traces.Seen.{Seen}
use Rattle.trace_pictures.specs.declared.traces.Seen.TheVariants.{Shows, Holds}
use Rattle.trace_pictures.specs.declared.traces.Note.{Note}
use Rattle.trace_pictures.specs.declared.traces.KingPhase.{KingPhase}
use Rattle.trace_pictures.specs.declared.traces.Title.{Title}
use Rattle.picture_parts.specs.declared.frames.CellPosition.{CellPosition}
use Rattle.picture_parts.specs.Frames.{band_top, configuration, left, middle, spot_top, width}
use Rattle.picture_parts.specs.Squares.{column_head, cross, hover_front, node_label, number_text}
use Rattle.picture_parts.specs.Squares.{rectangle_front, shown_at}
use Rattle.trace_pictures.specs.Shares.{share_bar, arrow_if}
use Rattle.trace_pictures.specs.Traces.{register_words, side_word, strip_words, turn_word}

-- ---- registers

-- the ground of a register: grey if it has no value
abbrev pub ground : Option ℕ → Held → List ℕ
ground None held = codes "whitesmoke'/>\n"
ground (Some value) Unmarked = codes "#fde9b0'/>\n"
ground (Some value) Marked = codes "#b5d3f2'/>\n"
ground (Some value) Locked = codes "#a6dba0'/>\n"

-- what is said of a register when the pointer rests on it
abbrev pub register_hover : CellPosition → (node : ℕ) → Register → List ℕ
register_hover spot node register =
    hover_front spot node ++ (codes ":" ++ (register_words register ++ codes "</title>\n"))

-- what lies on it: nothing, dots, or a frame
abbrev pub cover : CellPosition → Held → List ℕ
cover spot Unmarked = []
cover spot Marked = concat (
    codes "<path d='M" ∷ decimal (left spot)
    ∷ codes " " ∷ decimal (spot_top spot)
    ∷ codes "h" ∷ decimal (width spot)
    ∷ codes "v18H" ∷ decimal (left spot)
    ∷ codes "z' fill='url(#marked)'/>\n" ∷ [])
cover spot Locked = concat (
    codes "<path d='M" ∷ decimal (left spot + 2)
    ∷ codes " " ∷ decimal (spot_top spot + 2)
    ∷ codes "h" ∷ decimal (width spot - 4)
    ∷ codes "v14H" ∷ decimal (left spot + 2)
    ∷ codes "z' fill='none' stroke='darkgreen' stroke-width='2'/>\n" ∷ [])

-- the value, or a cross, in the middle
abbrev pub value_text : CellPosition → Option ℕ → List ℕ
value_text spot (Some value) = number_text (middle spot) (spot_top spot + 13) value
value_text spot None = cross spot

-- a register within its cell
abbrev pub register_in : CellPosition → Option ℕ → Held → List ℕ
register_in spot value held =
    rectangle_front spot ++ (ground value held ++ (cover spot held ++ value_text spot value))

-- one of a group that is not sound: how it holds its value says nothing there
abbrev pub unsound_in : CellPosition → Option ℕ → List ℕ
unsound_in spot value =
    rectangle_front spot ++ (codes "gainsboro'/>\n" ++ value_text spot value)

abbrev pub sound_in : CellPosition → Register → (is_sound : Bool) → List ℕ
sound_in spot register true = register_in spot register.value register.held
sound_in spot register false = unsound_in spot register.value

-- one of a group, and below it what its node saw of the left half, and whom it follows
abbrev pub member_in : CellPosition → Register → LeftSeen → List ℕ
member_in spot register own =
    sound_in spot register own.is_sound ++ (share_bar spot own ++ arrow_if spot register.heard)

-- one of a level, or of a group
abbrev pub cell_in : CellPosition → Register → Option LeftSeen → List ℕ
cell_in spot register None = register_in spot register.value register.held
cell_in spot register (Some own) = member_in spot register own

abbrev pub register_at : CellPosition → (node : ℕ) → Register → List ℕ
register_at spot node register =
    register_hover spot node register ++ (cell_in spot register register.own ++ codes "</g>\n")

-- ---- lines of a trace

-- what is drawn of an output: that of a faulty node counts for nothing, and if a node has no value
-- it shows none
abbrev pub face_in : (faulty lost : Bool) → ℕ → Face
face_in true lost output = face.Faulty
face_in false true output = face.Nothing
face_in false false output = face.Value output

-- a faulty node is hatched, whatever it holds
abbrev pub held_cell : CellPosition → (node : ℕ) (faulty : Bool) → Register → List ℕ
held_cell spot node true register = shown_at spot node face.Faulty false
held_cell spot node false register = register_at spot node register

abbrev pub seen_cell : CellPosition → Note → Seen → List ℕ
seen_cell spot note (Shows shown) =
    shown_at spot note.node (face_in note.is_faulty note.is_lost shown.output) note.is_hit
seen_cell spot note (Holds register) = held_cell spot note.node note.is_faulty register

abbrev pub note_head : Frame → Note → List ℕ
note_head frame note = if note.is_first then column_head frame note.column else []

-- where a line is drawn
abbrev pub note_spot : Frame → Note → CellPosition
note_spot frame note = record {
  frame = frame;
  column = note.column;
  top = note.top;
}

-- a line in its spot
abbrev pub note_at : CellPosition → Note → List ℕ
note_at spot note =
    note_head spot.frame note ++ (node_label spot note.node ++ seen_cell spot note note.seen)

abbrev pub note_picture : Frame → Note → List ℕ
note_picture frame note = note_at (note_spot frame note) note

-- ---- the kings' phases

-- how far a phase has come, as a part of its cell: one third, two thirds, all
abbrev pub share : (width : ℕ) → Turn → ℕ
share width Keep = width / 3
share width Mark = width * 2 / 3
share width King = width

-- a frame, broken if not all obey it
abbrev pub edge : Bool → List ℕ
edge true = codes "z' fill='none' stroke='black'/>\n"
edge false = codes "z' fill='none' stroke='black' stroke-dasharray='2'/>\n"

-- a part of a cell in gold, and a frame about the cell
abbrev pub gold_part : CellPosition → (part : ℕ) (edge : List ℕ) → List ℕ
gold_part spot part edge = concat (
    codes "<path d='M" ∷ decimal (left spot)
    ∷ codes " " ∷ decimal (spot_top spot)
    ∷ codes "h" ∷ decimal part
    ∷ codes "v14H" ∷ decimal (left spot)
    ∷ codes "z' fill='gold'/>\n<path d='M" ∷ decimal (left spot)
    ∷ codes " " ∷ decimal (spot_top spot)
    ∷ codes "h" ∷ decimal (width spot)
    ∷ codes "v14H" ∷ decimal (left spot)
    ∷ edge ∷ [])

-- the phase: its share in gold, and a frame
abbrev pub reign_box : CellPosition → KingPhase → List ℕ
reign_box spot reign = gold_part spot (share (width spot) reign.turn) (edge reign.is_common)

-- what is said of a phase when the pointer rests on it
abbrev pub reign_front : CellPosition → List ℕ
reign_front spot =
    concat (codes "<g><title>configuration " ∷ decimal (configuration spot) ∷ codes "," ∷ [])

abbrev pub reign_told : KingPhase → List ℕ
reign_told reign = concat (
    codes ":" ∷ turn_word reign.turn ∷ decimal reign.king ∷ codes "</title>\n" ∷ [])

abbrev pub reign_hover : CellPosition → KingPhase → List ℕ
reign_hover spot reign = reign_front spot ++ (strip_words reign.name ++ reign_told reign)

-- the king, and the end of a group
abbrev pub king_text : CellPosition → (king : ℕ) → List ℕ
king_text spot king = concat (
    codes "<text x='" ∷ decimal (middle spot)
    ∷ codes "' y='" ∷ decimal (spot_top spot + 11)
    ∷ codes "'>" ∷ decimal king
    ∷ codes "</text></g>\n" ∷ [])

abbrev pub reign_at : CellPosition → KingPhase → List ℕ
reign_at spot reign =
    reign_hover spot reign ++ (reign_box spot reign ++ king_text spot reign.king)

-- where a phase is drawn
abbrev pub reign_spot : Frame → KingPhase → CellPosition
reign_spot frame reign = record {
  frame = frame;
  column = reign.column;
  top = reign.top;
}

abbrev pub reign_picture : Frame → KingPhase → List ℕ
reign_picture frame reign = reign_at (reign_spot frame reign) reign

-- ---- the word before a strip

-- the name of a strip, of a group without its nodes, which stand beside its lines
abbrev pub title_word : StripName → List ℕ
title_word (name.Level level) = strip_words (name.Level level)
title_word (name.Group group) = side_word group.side

abbrev pub title_front : (y : ℕ) → List ℕ
title_front y = concat (codes "<text x='26' y='" ∷ decimal y ∷ codes "'>" ∷ [])

abbrev pub title_picture : Frame → Title → List ℕ
title_picture frame title =
    title_front (band_top frame.height title.column + title.top + 11)
    ++ (title_word title.name ++ codes "</text>\n")
