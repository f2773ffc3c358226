-- What a word writes of what is played with a layer: the bound, a line of some configurations, and
-- the first locked configurations.
use Rattle.std.specs.Prelude.{ℕ, ◌+◌, ◌-◌, List, [], ◌∷◌, Bool, if◌then◌else◌, codes}
use Rattle.std.specs.List.{concat, flat_map, range_with_len}
use Rattle.sync_types.specs.States.{State}
use Rattle.edge_io.specs.Rising.{Labelled}
use Rattle.counter_core.specs.Meanings.{Meaning}
use Rattle.counter_core.specs.Overlays.{Layer}
use Rattle.adversary_script.specs.Scripts.{Script}
use Rattle.adversary_script.specs.Eras.{faulty_at}
use Rattle.machine_runner.specs.FirstLocked.{LockTest}
use Rattle.machine_runner.specs.RunTexts.{bound_line, words_of}
use Rattle.layer_laws.specs.Scenes.{Scene}
use Rattle.layer_laws.specs.PlayedScenes.{scene_at}
use Rattle.layer_laws.specs.Positions.{Position}
use Rattle.layer_runner.specs.LockTexts.{lock_lines}

-- a number after a label
abbrev pub numbered : (label : List ℕ) → (value : ℕ) → Labelled
numbered label value = record { label = label; value = value }

-- The lines of a word: what stands before the number of a configuration, if a front is that number;
-- of which configurations a line is written, each by the counter, the script, its number and its
-- scene; the front of a line; and in it the word of a node that is correct there.
pub record Wording (Kept : Type 0) : Type 0 where
  pub label : List ℕ
  pub shows : Meaning → Script → (c : ℕ) → Scene Kept → Bool
  pub front : Meaning → Script → (c : ℕ) → Scene Kept → List ℕ
  pub word : Meaning → Scene Kept → (v : ℕ) → List ℕ

-- the line of a configuration
abbrev pub line_of : {Kept : Type 0} → Wording Kept → Meaning → Script → (c : ℕ) → Scene Kept
    → List ℕ
line_of wording counter script c scene =
    concat (wording.front counter script c scene
    ∷ words_of counter.nodes (wording.word counter scene) (faulty_at script c)
    ∷ codes "\n" ∷ [])

-- that line, if there is one
abbrev pub line_if_shown : {Kept : Type 0} → Wording Kept → Meaning → Script → (c : ℕ)
    → Scene Kept → List ℕ
line_if_shown wording counter script c scene =
    if wording.shows counter script c scene then line_of wording counter script c scene else []

module _ {Kept : Type 0} (counter : Meaning) (script : Script) (layer : Layer Kept)
    (began : List Kept) where
  -- scene c of what is played, if the nodes began with these things kept
  abbrev pub scene_in : (c : ℕ) → Scene Kept
  scene_in c = scene_at counter script layer began c

  abbrev pub configuration_in : (c : ℕ) → List State
  configuration_in c = (scene_in c).states

  -- the line of configuration c, if there is one
  abbrev pub line_in : Wording Kept → (c : ℕ) → List ℕ
  line_in wording c = line_if_shown wording counter script c (scene_in c)

  -- the lines of configurations 0 to the last
  abbrev pub lines_text : Wording Kept → List ℕ
  lines_text wording = flat_map (line_in wording) (range_with_len 0 (script.rounds + 1))

  -- those of configuration c and of the ones after it before that end
  abbrev pub lines_between : Wording Kept → (c end : ℕ) → List ℕ
  lines_between wording c end = flat_map (line_in wording) (range_with_len c (end - c))

-- all that is written
abbrev pub played_text : {Kept : Type 0} → Meaning → LockTest → Script → Layer Kept
    → (began : List Kept) → Wording Kept → List ℕ
played_text counter locked script layer began wording =
    concat (bound_line counter.bound ∷ lines_text counter script layer began wording
    ∷ lock_lines locked script (configuration_in counter script layer began) ∷ [])

-- ---- of a play, where it stands

-- its line, if there is one
abbrev pub line_at : {Kept : Type 0} → Wording Kept → Position Kept → List ℕ
line_at wording p = line_if_shown wording p.counter p.script p.at p.scene

-- all that is written of a play that has begun
abbrev pub text_of : {Kept : Type 0} → Wording Kept → Position Kept → List ℕ
text_of wording p = played_text p.counter p.locked p.script p.layer p.scene.kept wording
