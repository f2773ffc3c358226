-- The part `node` of an input: `node 1`, `id V`, `state H`, `end`.
use Rattle.std.specs.Prelude.{◌≡◌, ℕ, nat_le, List, [], ◌∷◌, Option, Some, None, Result, Ok}
use Rattle.std.specs.Prelude.{Err, if◌then◌else◌, codes}
use Rattle.std.specs.Str.{bytes_eq}
use Rattle.texts.specs.Lines.{words_of}
use Rattle.texts.specs.Shapes.{numbers_after}
use Rattle.texts.specs.Parts.{Next, goes, ends, refuses}
use Rattle.edge_io.specs.declared.taking.TakeError.{TakeError}
use Rattle.edge_io.specs.declared.taking.TakeError.TheVariants as take
use Rattle.sync_types.specs.declared.answers.Rule.{Rule}
use Rattle.sync_types.specs.declared.answers.Rule.TheVariants.{Form, Node, Hex}
use Rattle.sync_types.specs.States.{State}
use Rattle.state_codec.specs.Shapes.{Fields, Shape, fields_at, shape_nodes}
use Rattle.state_codec.specs.Texts.{is_state_text, read_text}
use Rattle.node_words.specs.declared.header_lines.NodeHeader.{NodeHeader}
use Rattle.node_words.specs.declared.header_lines.HeaderStage.{HeaderStage}
use Rattle.node_words.specs.declared.header_lines.HeaderStage.TheVariants.{Unread, Begun, Named}
use Rattle.node_words.specs.declared.header_lines.HeaderStage.TheVariants.{Stated}

-- so much of the part was read, for nodes of that shape
pub record HeaderSoFar : Type 0 where
  pub shape : Shape
  pub stage : HeaderStage

abbrev pub nothing_read : Shape → HeaderSoFar
nothing_read shape = record { shape = shape; stage = Unread }

-- the header that was read
abbrev pub stated : HeaderStage → Option NodeHeader
stated (Stated header) = Some header
stated other = None

-- an id that is below the number of nodes, or the first rule that it fails
abbrev pub id_by : (nodes : ℕ) → Option (List ℕ) → Result ℕ Rule
id_by nodes (Some (v ∷ [])) = if nat_le nodes v then Err Node else Ok v
id_by nodes other = Err Form

-- `id V`
abbrev pub id_in : (nodes : ℕ) → List ℕ → Result ℕ Rule
id_in nodes line = id_by nodes (numbers_after (codes "id") 1 (words_of line))

-- the word of `state H`
abbrev pub state_word : List (List ℕ) → Option (List ℕ)
state_word (key ∷ word ∷ []) = if bytes_eq key (codes "state") then Some word else None
state_word other = None

-- the state of hex digits, if they are exactly those of a state with these fields
abbrev pub state_of_digits : Fields → List ℕ → Option State
state_of_digits fields word =
    if is_state_text fields word then Some (read_text fields word) else None

abbrev pub header_by : ℕ → Option State → Result NodeHeader Rule
header_by id None = Err Hex
header_by id (Some state) = Ok (record { id = id; state = state })

abbrev pub header_of : Shape → ℕ → Option (List ℕ) → Result NodeHeader Rule
header_of shape id None = Err Form
header_of shape id (Some word) = header_by id (state_of_digits (fields_at shape id) word)

-- `state H`
abbrev pub state_in : Shape → ℕ → List ℕ → Result NodeHeader Rule
state_in shape id line = header_of shape id (state_word (words_of line))

-- what a line `state H` gave; want of memory says nothing
abbrev pub HasState : Shape → ℕ → List ℕ → Result NodeHeader (TakeError Rule) → Type 0
HasState shape id line (Ok header) = state_in shape id line ≡ Ok header
HasState shape id line (Err (take.Refused rule)) = state_in shape id line ≡ Err rule
HasState shape id line (Err take.NoMemory) = Unit {0}

-- the part goes on, or the line is refused
abbrev pub goes_named : HeaderSoFar → Result ℕ Rule → Next HeaderSoFar NodeHeader Rule
goes_named h (Ok id) = goes (record h { stage = Named id })
goes_named h (Err rule) = refuses rule

abbrev pub goes_stated : HeaderSoFar → Result NodeHeader Rule → Next HeaderSoFar NodeHeader Rule
goes_stated h (Ok header) = goes (record h { stage = Stated header })
goes_stated h (Err rule) = refuses rule

abbrev pub stage_step : HeaderSoFar → HeaderStage → List ℕ → Next HeaderSoFar NodeHeader Rule
stage_step h Unread line =
    if bytes_eq line (codes "node 1") then goes (record h { stage = Begun }) else refuses Form
stage_step h Begun line = goes_named h (id_in (shape_nodes h.shape) line)
stage_step h (Named id) line = goes_stated h (state_in h.shape id line)
stage_step h (Stated header) line =
    if bytes_eq line (codes "end") then ends header else refuses Form

-- a line after those that were read
abbrev pub header_step : HeaderSoFar → List ℕ → Next HeaderSoFar NodeHeader Rule
header_step h line = stage_step h h.stage line
