-- What a word writes of firing: which nodes fire at the end of each slot that counts and begins in
-- a configuration that is shown.
use Rattle.std.specs.Prelude.{ℕ, ◌+◌, ◌-◌, List, [], ◌∷◌, ◌++◌, Bool, if◌then◌else◌, codes, decimal}
use Rattle.std.specs.Prelude.{replicate}
use Rattle.std.specs.List.{concat}
use Rattle.counter_core.specs.Meanings.{Meaning}
use Rattle.adversary_script.specs.Scripts.{Script}
use Rattle.adversary_script.specs.Eras.{faulty_at}
use Rattle.machine_runner.specs.FirstLocked.{LockTest}
use Rattle.machine_runner.specs.RunTexts.{bound_line, words_of}
use Rattle.layer_laws.specs.Numbers.{numbers_in}
use Rattle.layer_laws.specs.Scenes.{Scene}
use Rattle.layer_laws.specs.Slots.{slot_length}
use Rattle.firing.specs.declared.requests.Request.{Request}
use Rattle.firing.specs.declared.fires.Fire.{Fire}
use Rattle.firing.specs.Firings.{fire_layer_over, fires_of, unfired}
use Rattle.layer_runner.specs.LockTexts.{lock_lines}
use Rattle.layer_runner.specs.PlayedTexts.{Wording, scene_in}
use Rattle.layer_runner.specs.SlotTexts.{ends_at, slot_lines}

-- the word of a node that fires, or does not
abbrev pub fired_word : Bool → List ℕ
fired_word fired = if fired then codes " 1" else codes " ."

-- a node's word: whether it fires
abbrev pub fire_word : Scene Fire → (v : ℕ) → List ℕ
fire_word scene v = fired_word (fires_of scene.kept v)

-- the front of the line of a slot that begins in configuration t
abbrev pub fire_front : (t : ℕ) → List ℕ
fire_front t = codes "fire " ++ decimal t

module _ (counter : Meaning) (script : Script) (requests : List Request) where
  -- scene c of what is played, if none fires at first
  abbrev pub fire_scene : (c : ℕ) → Scene Fire
  fire_scene c =
      scene_in counter script (fire_layer_over (numbers_in counter) requests)
      (replicate counter.nodes unfired) c

  -- the line of a slot that begins in configuration t: who fires where it ends
  abbrev pub fire_line : (t : ℕ) → List ℕ
  fire_line t =
      concat (fire_front t
      ∷ words_of counter.nodes (fire_word (fire_scene (t + slot_length counter.faults)))
      (faulty_at script (t + slot_length counter.faults)) ∷ codes "\n" ∷ [])

-- all that is written
abbrev pub fire_text : Meaning → LockTest → Script → List Request → List ℕ
fire_text counter locked script requests =
    concat (bound_line counter.bound
    ∷ slot_lines counter script (slot_length counter.faults)
    (λ c. (fire_scene counter script requests c).states) (fire_line counter script requests)
    ∷ lock_lines locked script (λ c. (fire_scene counter script requests c).states) ∷ [])

-- how it is written while the script is played, if a slot has so many rounds
abbrev pub fire_wording : (length : ℕ) → Wording Fire
fire_wording length = record {
  label = [];
  shows = λ counter script c scene. ends_at counter script length c scene.states;
  front = λ counter script c scene. fire_front (c - length);
  word = λ counter scene v. fire_word scene v;
}
