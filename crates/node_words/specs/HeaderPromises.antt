-- What holds of every header that is read.
use Rattle.std.specs.Prelude.{◌<◌, List, ℕ, Option, None, IfOk}
use Rattle.texts.specs.Lines.{lines_of, whole_lines}
use Rattle.machines.specs.Machines.{IsState}
use Rattle.machines.specs.Laws.{IsSound}
use Rattle.node_words.specs.HeaderParts.{HeaderOf, header_in}
use Rattle.node_words.specs.Constructions.{Words}

-- of a construction that accepts some plans
module _ {Reader Plan Premise : Type 0} (words : Words Reader Plan Premise)
    (Accepted : Plan → Type 0) where
  -- its plan is accepted, and a sound machine; its id is that of a node of it, and its state one of
  -- that node
  pub record IsOfMachine (h : HeaderOf Plan) : Type 0 where
    pub accepted : Accepted h.plan
    pub sound : IsSound (words.machine h.plan)
    pub node : h.node.id < (words.machine h.plan).nodes
    pub state : IsState (words.machine h.plan) h.node.id h.node.state

  -- so it is of all lines of a text, within any limit, and of those that are ended by a newline
  pub record HeadersAreOfMachines : Type 0 where
    pub all : (room : Option ℕ) (text : List ℕ)
        → IfOk (header_in words.part room (lines_of text)) IsOfMachine
    pub whole : (text : List ℕ) → IfOk (header_in words.part None (whole_lines text)) IsOfMachine
