-- The layer that a part says above a counter, and what is written of it.
use Rattle.std.specs.Prelude.{◌≡◌, ℕ, ◌*◌, ◌<◌, List, Option, Some, replicate}
use Rattle.counter_core.specs.Meanings.{Meaning}
use Rattle.counter_core.specs.Overlays.{Layer, LayerFits, KeepsRange}
use Rattle.adversary_script.specs.Scripts.{Script}
use Rattle.machine_runner.specs.FirstLocked.{LockTest}
use Rattle.layer_laws.specs.Numbers.{Numbers, numbers_in}
use Rattle.layer_runner.specs.Counting.{ErasCount}
use Rattle.layer_runner.specs.PlayedTexts.{Wording, played_text}
use Rattle.layer_parts.specs.declared.registers.Registers.{Registers}

-- The layer above a counter of these numbers, what each node keeps at first, how lines are written
-- while a script is played, and all that is written.
pub record LayerWords (Content Kept : Type 0) : Type 0 where
  pub layer : Numbers → Content → Layer Kept
  pub first : Kept
  pub wording : Numbers → Wording Kept
  pub text : Meaning → LockTest → Script → Content → List ℕ

-- the registers of a layer
abbrev pub registers_of : {Kept : Type 0} → Layer Kept → Registers
registers_of layer = record { values = layer.values; count = layer.extra }

module _ {Content Kept : Type 0} (words : LayerWords Content Kept) where
  -- a layer as it is said, with what each node keeps at first
  pub record IsFresh (numbers : Numbers) (said : Content) (layer : Layer Kept) (kept : List Kept)
      : Type 0 where
    pub layer_is : layer ≡ words.layer numbers said
    pub kept_is : kept ≡ replicate numbers.nodes words.first

  module _ (counter : Meaning) where
    -- the layer above this counter, and what its nodes keep at first
    abbrev pub layer_on : Content → Layer Kept
    layer_on said = words.layer (numbers_in counter) said

    abbrev pub began_on : List Kept
    began_on = replicate counter.nodes words.first

    -- what is written while a script is played with it
    abbrev pub text_on : LockTest → Script → Content → List ℕ
    text_on locked script said =
        played_text counter locked script (layer_on said) began_on
        (words.wording (numbers_in counter))

  -- The layer is for the counter, states have its registers, and its step keeps their values in
  -- range. What is written while a script is played is the text, if each era counts.
  pub record IsSoundLayer (registers : Content → Option Registers)
      (Fits : Numbers → Content → Type 0)
      : Type 0 where
    pub fits : (counter : Meaning) (said : Content) → LayerFits (layer_on counter said) counter
    pub registers_are : (numbers : Numbers) (said : Content)
        → registers said ≡ Some (registers_of (words.layer numbers said))
    pub keeps : (numbers : Numbers) (said : Content) → 3 * numbers.faults < numbers.nodes
        → Fits numbers said → KeepsRange (words.layer numbers said)
    pub as_defined : (counter : Meaning) (locked : LockTest) (script : Script) (said : Content)
        → Fits (numbers_in counter) said
        → ErasCount counter script (layer_on counter said) (began_on counter)
        → text_on counter locked script said ≡ words.text counter locked script said
