-- Lines of each configuration that a script shows, of what is played without a layer.
use Rattle.std.specs.Prelude.{ℕ, ◌+◌, ◌-◌, ◌&&◌, nat_le, List, [], ◌∷◌, ◌++◌, codes, decimal}
use Rattle.std.specs.List.{concat, flat_map, range_with_len}
use Rattle.sync_types.specs.States.{State}
use Rattle.construction.specs.Plans.{Plan, plan_bound}
use Rattle.counter_core.specs.Meanings.{Meaning}
use Rattle.adversary_script.specs.Scripts.{Script}
use Rattle.adversary_script.specs.Eras.{faulty_at}
use Rattle.round_runner.specs.Played.{played_at}
use Rattle.run_lines.specs.RunTexts.{bound_line, words_of_nodes, lock_lines}
use Rattle.run_lines.specs.PlayedTexts.{Wording}

-- each line has a label, its number, and a word of each node
module _ (label : List ℕ) (word : Plan → List State → (v : ℕ) → List ℕ) where
  -- the line of configuration t
  abbrev pub shown_line : Plan → Script → (t : ℕ) → List ℕ
  shown_line plan script t =
      concat ((label ++ decimal t)
      ∷ words_of_nodes plan (word plan (played_at plan script t)) (faulty_at script t)
      ∷ codes "\n" ∷ [])

  -- the lines that are shown
  abbrev pub shown_lines : Plan → Script → List ℕ
  shown_lines plan script = flat_map (shown_line plan script)
      (range_with_len script.first (script.last + 1 - script.first))

  -- all that is written
  abbrev pub shown_text : Plan → Script → List ℕ
  shown_text plan script =
      concat (bound_line (plan_bound plan) ∷ shown_lines plan script
      ∷ lock_lines plan script (played_at plan script) ∷ [])

-- how it is written while the script is played, by words on any counter
abbrev pub shown_wording : (label : List ℕ) → (word : Meaning → List State → (v : ℕ) → List ℕ)
    → Wording (Unit {0})
shown_wording label word = record {
  label = label;
  shows = λ counter script c scene. nat_le script.first c && nat_le c script.last;
  front = λ counter script c scene. label ++ decimal c;
  word = λ counter scene v. word counter scene.states v;
}
