-- What the word `run` writes: for each configuration that is shown, what its nodes show.
use Rattle.std.specs.Prelude.{ℕ, List, Option, codes}
use Rattle.sync_types.specs.States.{State}
use Rattle.construction.specs.Plans.{Plan, plan_depth}
use Rattle.construction.specs.Shown.{shown}
use Rattle.construction.specs.Steps.{state_of}
use Rattle.adversary_script.specs.Scripts.{Script}
use Rattle.round_runner.specs.Played.{played_at}
use Rattle.run_lines.specs.RunTexts.{number_word, word_or_star, lock_of_era}
use Rattle.run_lines.specs.PlayedTexts.{Wording}
use Rattle.run_lines.specs.ShownTexts.{shown_text}
use Rattle.run_lines.specs.OutputTexts.{output_wording}

-- what a node shows
abbrev pub shown_word : Plan → List State → (v : ℕ) → List ℕ
shown_word plan config v = number_word (shown (plan_depth plan) (state_of config v))

-- a node's word in a row: what it shows, or a star if it is faulty
abbrev pub node_word : Plan → (faulty : List ℕ) → List State → (v : ℕ) → List ℕ
node_word plan faulty config v = word_or_star (shown_word plan config) faulty v

-- the first locked configuration of era j of what is played
abbrev pub lock_played : Plan → Script → (j : ℕ) → Option ℕ
lock_played plan script j = lock_of_era plan script (played_at plan script) j

-- all that is written
abbrev pub run_text : Plan → Script → List ℕ
run_text plan script = shown_text (codes "row ") shown_word plan script

-- how it is written while the script is played
abbrev pub row_wording : Wording (Unit {0})
row_wording = output_wording (codes "row ") (λ output v. number_word output)
