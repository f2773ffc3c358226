-- What lines of states are turned into.
use Rattle.std.specs.Prelude.{ℕ, ◌*◌, nat_lt, not, ◌||◌, if◌then◌else◌, List, [], ◌∷◌, ◌++◌, codes}
use Rattle.std.specs.Prelude.{Bool, drop, Option, Some, None, Result, Ok, Err}
use Rattle.std.specs.List.{filter}
use Rattle.std.specs.Str.{bytes_eq}
use Rattle.sync_types.specs.States.{State}
use Rattle.state_codec.specs.Shapes.{Fields, Shape, shape_nodes, fields_at, bytes_in}
use Rattle.state_codec.specs.Texts.{is_state_text, read_text}
use Rattle.texts.specs.Lines.{words_of}
use Rattle.texts.specs.Numbers.{number_of}
use Rattle.texts.specs.Parts.{is_skipped}
use Rattle.texts.specs.Words.{ended}
use Rattle.states.specs.StateTexts.{worded, in_digits}
use Rattle.states.specs.StateWords.{state_said}
use Rattle.states.specs.declared.faults.Fault.{Fault}
use Rattle.states.specs.declared.faults.Fault.TheVariants as fault
use Rattle.states.specs.declared.reasons.StateReason.{StateReason}
use Rattle.states.specs.declared.reasons.StateReason.TheVariants as reason

-- digits, as the line in words of the state that they are
abbrev pub digits_turned : Fields → (v : ℕ) → List ℕ → Result (List ℕ) Fault
digits_turned fields v digits =
    if is_state_text fields digits then Ok (worded fields v (read_text fields digits))
    else Err (fault.Hex (2 * bytes_in fields))

-- a state that was said in words, as the line in digits of it
abbrev pub said_turned : Fields → (v : ℕ) → Option State → Result (List ℕ) Fault
said_turned fields v None = Err fault.Fields
said_turned fields v (Some state) = Ok (in_digits fields v state)

-- whether a word begins a state in words
abbrev pub is_key : List ℕ → Bool
is_key word = bytes_eq word (codes "number") || bytes_eq word (codes "registers")

-- digits, with no word after them
abbrev pub alone_turned : Fields → (v : ℕ) → (digits : List ℕ) → (words : List (List ℕ))
    → Result (List ℕ) Fault
alone_turned fields v digits [] = digits_turned fields v digits
alone_turned fields v digits (word ∷ words) = Err fault.Form

-- the words after the id: a state in words, or one word of digits
abbrev pub rest_turned : Fields → (v : ℕ) → List (List ℕ) → Result (List ℕ) Fault
rest_turned fields v [] = Err fault.Form
rest_turned fields v (key ∷ words) =
    if is_key key then said_turned fields v (state_said fields (key ∷ words))
    else alone_turned fields v key words

-- the words after the id of a node, if it is one
abbrev pub named_turned : Shape → (id : Option ℕ) → List (List ℕ) → Result (List ℕ) Fault
named_turned shape None words = Err fault.Form
named_turned shape (Some v) words =
    if nat_lt v (shape_nodes shape) then rest_turned (fields_at shape v) v words
    else Err fault.Node

-- the words after `node`, of which the first is the node's id
abbrev pub node_turned : Shape → List (List ℕ) → Result (List ℕ) Fault
node_turned shape [] = Err fault.Form
node_turned shape (id ∷ words) = named_turned shape (number_of id) words

abbrev pub words_turned : Shape → List (List ℕ) → Result (List ℕ) Fault
words_turned shape [] = Err fault.Form
words_turned shape (word ∷ words) =
    if bytes_eq word (codes "node") then node_turned shape words else Err fault.Form

-- A line of a state as the other line of it, or why it is refused.
abbrev pub line_turned : Shape → List ℕ → Result (List ℕ) Fault
line_turned shape line = words_turned shape (words_of line)

-- a line before other lines of a text
abbrev pub onto_text : (line : ℕ) → Result (List ℕ) Fault → Result (List ℕ) StateReason
    → Result (List ℕ) StateReason
onto_text line (Err why) text = Err (reason.Line line why)
onto_text line (Ok turned) (Err why) = Err why
onto_text line (Ok turned) (Ok text) = Ok (ended turned ++ text)

-- numbered lines of states, each turned, or the first of them that is refused
abbrev pub lines_turned : Shape → List (ℕ × List ℕ) → Result (List ℕ) StateReason
lines_turned shape [] = Ok []
lines_turned shape (item ∷ items) =
    onto_text item.0 (line_turned shape item.1) (lines_turned shape items)

-- the lines that count
abbrev pub counting_lines : List (ℕ × List ℕ) → List (ℕ × List ℕ)
counting_lines items = filter (λ item. not (is_skipped item.1)) items

-- The lines that count after so many of them, which say the registers of a layer.
abbrev pub states_turned : Shape → (registers : ℕ) → List (ℕ × List ℕ)
    → Result (List ℕ) StateReason
states_turned shape registers items =
    lines_turned shape (drop registers (counting_lines items))
