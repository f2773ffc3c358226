-- What a call of a node did to its source and its sink, by how it ended.
use Rattle.std.specs.Prelude.{◌≡◌, ℕ, List, ◌++◌, Option, Some, None, Bool, true, false, Result, Ok}
use Rattle.std.specs.Prelude.{Err}
use Rattle.std.specs.Io.KnownBytes.{Consumes, IsAtEnd}
use Rattle.texts.specs.Causes.{Counted}
use Rattle.texts.specs.Growth.{SinkState, Wrote, Cut}
use Rattle.node_words.specs.declared.errors.NodeError.{NodeError}
use Rattle.node_words.specs.declared.errors.NodeError.TheVariants as error
use Rattle.node_words.specs.Constructions.{Words}
use Rattle.node_words.specs.NodeAnswers.{node_outcome, IsNodePending, node_so_far}

-- ---- what was read

-- these bytes are left of the source, if it tells them
abbrev pub Holds : Option (List ℕ) → List ℕ → Type 0
Holds None bytes = Unit {0}
Holds (Some left) bytes = left ≡ bytes

-- a prefix of the input was read
pub record ReadsFront (left left' : Option (List ℕ)) (input : List ℕ) : Type 0 where
  pub front : List ℕ
  pub behind : List ℕ
  pub parts : input ≡ front ++ behind
  pub read : Consumes left left' front
  pub rest : Holds left' behind

-- the whole input was read
pub record ReadsAll (left left' : Option (List ℕ)) (input : List ℕ) : Type 0 where
  pub read : Consumes left left' input
  pub end : IsAtEnd left'

-- all of it, or a prefix
abbrev pub ReadsPart : (whole : Bool) → (left left' : Option (List ℕ)) → List ℕ → Type 0
ReadsPart true left left' input = ReadsAll left left' input
ReadsPart false left left' input = ReadsFront left left' input

-- whether a call that ends so has read all of its input
abbrev pub comes_to_end : {Premise : Type 0} → Result ℕ (NodeError Premise) → Bool
comes_to_end (Ok count) = true
comes_to_end (Err (error.Cut packet sender)) = true
comes_to_end (Err other) = false

-- ---- what was done

-- memory was refused, and nothing was written
pub record OutOfMemory (before now : ℕ) (old new : SinkState) : Type 0 where
  pub still : now ≡ before
  pub none : new ≡ old

module _ {Reader Plan Premise : Type 0} (words : Words Reader Plan Premise) where
  -- it ended as is defined for the input, whose text was written
  pub record Answered (ended : Result ℕ (NodeError Premise)) (left left' : Option (List ℕ))
      (before now : ℕ) (old new : SinkState) : Type 0 where
    pub input : List ℕ
    pub read : ReadsPart (comes_to_end ended) left left' input
    pub still : now ≡ before
    pub is : ended ≡ (node_outcome words input).ended
    pub wrote : Wrote (node_outcome words input).text old new

  -- a write failed, and a prefix of the input's text was taken
  pub record AnswerCut (left left' : Option (List ℕ)) (before now : ℕ)
      (old new : SinkState) : Type 0
    where
      pub input : List ℕ
      pub read : ReadsFront left left' input
      pub still : now ≡ before
      pub cut : Cut (node_outcome words input).text old new

  -- One read failed, after bytes that do not show what decides, and the cells of the whole packets
  -- among them were written.
  pub record ReadFailed (left left' : Option (List ℕ)) (before now : ℕ)
      (old new : SinkState) : Type 0
    where
      pub seen : List ℕ
      pub read : Consumes left left' seen
      pub pending : IsNodePending words seen
      pub cause : Counted before now
      pub wrote : Wrote (node_so_far words seen) old new

  -- what a call did that ended so: the bytes that its source has left, the source's count of
  -- faults, and what its sink tells, each before and after
  abbrev pub NodeDoes : Result ℕ (NodeError Premise) → (left left' : Option (List ℕ))
      (before now : ℕ) (old new : SinkState) → Type 0
  NodeDoes (Ok count) left left' before now old new =
      Answered (Ok count) left left' before now old new
  NodeDoes (Err error.ReadFault) left left' before now old new =
      ReadFailed left left' before now old new
  NodeDoes (Err error.WriteFault) left left' before now old new =
      AnswerCut left left' before now old new
  NodeDoes (Err error.NoMemory) left left' before now old new = OutOfMemory before now old new
  NodeDoes (Err other) left left' before now old new =
      Answered (Err other) left left' before now old new

-- ---- what was not touched, even if a source or a sink tells nothing

-- A read failed before the end was met: no source is asked again after its end.
abbrev pub LeavesUnmet : {Premise : Type 0} → Result ℕ (NodeError Premise) → (before now : Bool)
    → Type 0
LeavesUnmet (Ok count) before now = Unit {0}
LeavesUnmet (Err error.ReadFault) before now = now ≡ before
LeavesUnmet (Err other) before now = Unit {0}

-- if memory was refused, the sink is as it was
abbrev pub LeavesUntouched : {K Premise : Type 0} → Result ℕ (NodeError Premise) → (old new : K)
    → Type 0
LeavesUntouched (Ok count) old new = Unit {0}
LeavesUntouched (Err error.NoMemory) old new = new ≡ old
LeavesUntouched (Err other) old new = Unit {0}
