-- What a word writes of consensus: the decisions of each slot that counts and begins in a
-- configuration that is shown.
use Rattle.std.specs.Prelude.{ℕ, ◌+◌, ◌-◌, List, [], ◌∷◌, ◌++◌, codes, decimal, replicate}
use Rattle.std.specs.List.{concat}
use Rattle.counter_core.specs.Meanings.{Meaning}
use Rattle.adversary_script.specs.Scripts.{Script}
use Rattle.adversary_script.specs.Eras.{faulty_at}
use Rattle.machine_runner.specs.FirstLocked.{LockTest}
use Rattle.machine_runner.specs.RunTexts.{bound_line, number_word, words_of}
use Rattle.layer_laws.specs.Numbers.{numbers_in}
use Rattle.layer_laws.specs.Scenes.{Scene}
use Rattle.layer_laws.specs.Slots.{slot_length}
use Rattle.consensus_layer.specs.AgreeContent.{AgreeContent}
use Rattle.consensus_layer.specs.Agreements.{agree_layer_over, decision}
use Rattle.layer_runner.specs.LockTexts.{lock_lines}
use Rattle.layer_runner.specs.PlayedTexts.{Wording, scene_in}
use Rattle.layer_runner.specs.SlotTexts.{ends_at, slot_lines}

-- a node's word: its decision
abbrev pub decision_word : Scene ℕ → (v : ℕ) → List ℕ
decision_word scene v = number_word (decision scene v)

-- the front of the line of a slot that begins in configuration t
abbrev pub slot_front : (t : ℕ) → List ℕ
slot_front t = codes "slot " ++ decimal t

module _ (counter : Meaning) (script : Script) (said : AgreeContent) where
  abbrev pub slot_of : ℕ
  slot_of = slot_length counter.faults

  -- scene c of what is played, if each decision is 0 at first
  abbrev pub agree_scene : (c : ℕ) → Scene ℕ
  agree_scene c =
      scene_in counter script (agree_layer_over (numbers_in counter) said.values said.inputs)
      (replicate counter.nodes 0) c

  -- the line of a slot that begins in configuration t: the decisions where it ends
  abbrev pub decision_line : (t : ℕ) → List ℕ
  decision_line t =
      concat (slot_front t
      ∷ words_of counter.nodes (decision_word (agree_scene (t + slot_of)))
      (faulty_at script (t + slot_of)) ∷ codes "\n" ∷ [])

-- all that is written
abbrev pub decision_text : Meaning → LockTest → Script → AgreeContent → List ℕ
decision_text counter locked script said =
    concat (bound_line counter.bound
    ∷ slot_lines counter script (slot_length counter.faults)
    (λ c. (agree_scene counter script said c).states) (decision_line counter script said)
    ∷ lock_lines locked script (λ c. (agree_scene counter script said c).states) ∷ [])

-- how it is written while the script is played, if a slot has so many rounds
abbrev pub decision_wording : (length : ℕ) → Wording ℕ
decision_wording length = record {
  label = [];
  shows = λ counter script c scene. ends_at counter script length c scene.states;
  front = λ counter script c scene. slot_front (c - length);
  word = λ counter scene v. decision_word scene v;
}
