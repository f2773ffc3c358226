-- Calls of a node: what each reads and writes.
use Rattle.std.specs.Prelude.{◌≡◌, ⊤, ℕ, List, [], slice_index_or, Option, None, Result}
use Rattle.std.specs.Prelude.{Ok, Err}
use Rattle.std.specs.Io.KnownBytes.{Consumes}
use Rattle.texts.specs.Growth.{SinkState, Wrote}
use Rattle.texts.specs.Lines.{lines_of, whole_lines}
use Rattle.texts.specs.Limits.{room_in, behind_lines, longest_input}
use Rattle.machines.specs.Machines.{Machine}
use Rattle.node_words.specs.declared.headers.HeaderRefusal.{HeaderRefusal}
use Rattle.node_words.specs.HeaderParts.{HeaderOf, header_in}
use Rattle.node_words.specs.declared.errors.NodeError.{NodeError}
use Rattle.node_words.specs.declared.errors.NodeError.TheVariants as error
use Rattle.node_words.specs.Constructions.{Words}
use Rattle.node_words.specs.NodeAnswers.{packets_for, node_outcome, node_so_far}
use Rattle.node_words.specs.Conduct.{ReadsPart, comes_to_end, NodeDoes}

-- A call of a node, by the bytes that it read: they are its input, or a read failed after them.
pub data Call : Type 0 where
  whole : List ℕ → Call
  failed : List ℕ → Call

abbrev pub bytes_of : Call → List ℕ
bytes_of (whole input) = input
bytes_of (failed seen) = seen

module _ {Reader Plan Premise : Type 0} (words : Words Reader Plan Premise) where
  -- its header
  abbrev pub header_of : Call → Result (HeaderOf Plan) (Option (HeaderRefusal Premise))
  header_of (whole input) = header_in words.part (room_in longest_input input) (lines_of input)
  header_of (failed seen) = header_in words.part None (whole_lines seen)

  -- the whole packets after it
  abbrev pub packets_behind : List ℕ
      → Result (HeaderOf Plan) (Option (HeaderRefusal Premise)) → List (List (List ℕ))
  packets_behind bytes (Err refused) = []
  packets_behind bytes (Ok h) = (packets_for words h (behind_lines h.lines bytes)).cells

  abbrev pub packets_in : Call → List (List (List ℕ))
  packets_in call = packets_behind (bytes_of call) (header_of call)

  -- the cell of node u in packet t
  abbrev pub cell_heard : Call → (t u : ℕ) → List ℕ
  cell_heard call t u = slice_index_or (slice_index_or (packets_in call) t []) u []

  -- what it writes
  abbrev pub text_of : Call → List ℕ
  text_of (whole input) = (node_outcome words input).text
  text_of (failed seen) = node_so_far words seen

  -- its header names node v of a plan that is this machine, in any state that is read
  pub record IsOfNode (m : Machine) (v : ℕ) (call : Call) : Type 0 where
    pub header : HeaderOf Plan
    pub is : header_of call ≡ Ok header
    pub names : words.machine header.plan ≡ m
    pub id : header.node.id ≡ v

-- ---- what a call did

-- with these ends all is written that is said of the bytes that were read
abbrev pub HasWrittenAll : {Premise : Type 0} → Result ℕ (NodeError Premise) → Type 0
HasWrittenAll (Ok count) = ⊤
HasWrittenAll (Err (error.Cut packet sender)) = ⊤
HasWrittenAll (Err error.TooLong) = ⊤
HasWrittenAll (Err error.ReadFault) = ⊤
HasWrittenAll (Err other) = ⊥

-- what such a call read of its source
abbrev pub HasRead : {Premise : Type 0} → Result ℕ (NodeError Premise)
    → (left left' : Option (List ℕ)) → Call → Type 0
HasRead ended left left' (whole input) = ReadsPart (comes_to_end ended) left left' input
HasRead ended left left' (failed seen) =
    (ended ≡ Err error.ReadFault) × Consumes left left' seen

module _ {Reader Plan Premise : Type 0} (words : Words Reader Plan Premise) where
  -- one of these calls was made, and its text was written
  pub record IsCall (ended : Result ℕ (NodeError Premise)) (left left' : Option (List ℕ))
      (old new : SinkState) : Type 0 where
    pub call : Call
    pub read : HasRead ended left left' call
    pub wrote : Wrote (text_of words call) old new

  -- what a node does that ends so is such a call
  abbrev pub CallsWriteTexts : Type 0
  CallsWriteTexts = (ended : Result ℕ (NodeError Premise)) → HasWrittenAll ended
      → (left left' : Option (List ℕ)) (before now : ℕ) (old new : SinkState)
      → NodeDoes words ended left left' before now old new → IsCall ended left left' old new
