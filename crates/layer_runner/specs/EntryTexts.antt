-- What a word writes of a log: of each slot that counts and begins in a configuration that is
-- shown, its owner, and the newest values in the logs where it ends.
use Rattle.std.specs.Prelude.{ℕ, ◌+◌, ◌-◌, nat_lt, if◌then◌else◌, List, [], ◌∷◌, ◌++◌, codes}
use Rattle.std.specs.Prelude.{decimal, replicate}
use Rattle.std.specs.List.{concat}
use Rattle.counter_core.specs.Meanings.{Meaning}
use Rattle.adversary_script.specs.Scripts.{Script}
use Rattle.adversary_script.specs.Eras.{faulty_at}
use Rattle.machine_runner.specs.FirstLocked.{LockTest}
use Rattle.machine_runner.specs.RunTexts.{bound_line, number_word, words_of}
use Rattle.layer_laws.specs.Numbers.{numbers_in}
use Rattle.layer_laws.specs.Scenes.{Scene}
use Rattle.replicated_log.specs.declared.entries.Entry.{Entry}
use Rattle.replicated_log.specs.EntryLength.{entry_length, owner_at}
use Rattle.replicated_log.specs.LogContent.{LogContent}
use Rattle.replicated_log.specs.Logs.{log_layer_over, log_in}
use Rattle.layer_runner.specs.LockTexts.{lock_lines}
use Rattle.layer_runner.specs.PlayedTexts.{Wording, scene_in}
use Rattle.layer_runner.specs.SlotTexts.{ends_at, lead_output, slot_lines}

-- the value of the newest entry, 0 if there is none
abbrev pub newest_value : List Entry → ℕ
newest_value [] = 0
newest_value (entry ∷ log) = entry.value

-- a node's word: the newest value in its log
abbrev pub entry_word : Scene (List Entry) → (v : ℕ) → List ℕ
entry_word scene v = number_word (newest_value (log_in scene.kept v))

-- the front of the line of a slot that begins in configuration t and is of this owner
abbrev pub entry_front : (t owner : ℕ) → List ℕ
entry_front t owner = (codes "entry " ++ decimal t) ++ (codes " owner " ++ decimal owner)

module _ (counter : Meaning) (script : Script) (said : LogContent) where
  -- scene c of what is played, if all logs are empty at first
  abbrev pub log_scene : (c : ℕ) → Scene (List Entry)
  log_scene c = scene_in counter script (log_layer_over (numbers_in counter) said)
      (replicate counter.nodes []) c

  -- the output in configuration t, by the correct node of the lowest id
  abbrev pub output_at : (t : ℕ) → ℕ
  output_at t = lead_output counter script t (log_scene t).states

  -- the owner of a slot that begins in configuration t
  abbrev pub slot_owner : (t : ℕ) → ℕ
  slot_owner t = owner_at counter.nodes counter.faults (output_at t)

  -- the line of that slot: its owner, and the newest values where it ends
  abbrev pub entry_line : (t : ℕ) → List ℕ
  entry_line t =
      concat (entry_front t (slot_owner t)
      ∷ words_of counter.nodes (entry_word (log_scene (t + entry_length counter.faults)))
      (faulty_at script (t + entry_length counter.faults)) ∷ codes "\n" ∷ [])

-- all that is written
abbrev pub log_text : Meaning → LockTest → Script → LogContent → List ℕ
log_text counter locked script said =
    concat (bound_line counter.bound
    ∷ slot_lines counter script (entry_length counter.faults)
    (λ c. (log_scene counter script said c).states) (entry_line counter script said)
    ∷ lock_lines locked script (λ c. (log_scene counter script said c).states) ∷ [])

-- the output that came so many rounds before this one
abbrev pub output_before : (modulus rounds output : ℕ) → ℕ
output_before modulus rounds output =
    if nat_lt output rounds then output + modulus - rounds else output - rounds

-- how it is written while the script is played: the owner of a slot is found from the output at its
-- end
abbrev pub entry_wording : (nodes faults modulus : ℕ) → Wording (List Entry)
entry_wording nodes faults modulus = record {
  label = [];
  shows = λ counter script c scene. ends_at counter script (entry_length faults) c scene.states;
  front = λ counter script c scene.
      entry_front (c - entry_length faults)
      (owner_at nodes faults (output_before modulus (entry_length faults)
      (lead_output counter script c scene.states)));
  word = λ counter scene v. entry_word scene v;
}
