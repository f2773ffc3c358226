-- The text of a run of a plan is that of its machine.
use Rattle.std.proofs.Common.{◌≡◌, ℕ, ◌+◌, ◌-◌, List, [], ◌∷◌, ◌++◌, Option, ap, ap₂}
use Rattle.std.specs.Prelude.{codes, decimal}
use Rattle.std.specs.List.{concat, flat_map, range_with_len}
use Rattle.std.proofs.Math.Path.{fun_ext}
use Rattle.sync_types.specs.States.{State}
use Rattle.construction.specs.Plans.{Plan, plan_nodes, plan_bound, plan_depth}
use Rattle.construction.specs.Shown.{shown}
use Rattle.construction.specs.Steps.{state_of}
use Rattle.adversary_script.specs.Scripts.{Script}
use Rattle.adversary_script.specs.Eras.{faulty_at}
use Rattle.plan_machine.specs.PlanMachines.{machine_of_plan}
use Rattle.slot_table.specs.HoldWords.{hold_word_at}
use Rattle.machine_runner.specs.RunTexts.{bound_line, number_word, words_of, lock_lines}
use Rattle.run_lines.specs.OutputTexts.{word_of_shown}
use Rattle.run_lines.specs.ShownTexts as plans
use Rattle.machine_runner.specs.ShownTexts as machines
use Rattle.promises.specs.MachineTexts.{RunTextsAgree, HoldTextsAgree}
use Rattle.promises.proofs.MachineLocks.{same_played, same_lock}

module _ (label : List ℕ) (word : (output v : ℕ) → List ℕ) (plan : Plan) (script : Script) where
  -- the line of configuration t, whatever that is
  abbrev line_of : (t : ℕ) → List State → List ℕ
  line_of t config =
      concat ((label ++ decimal t)
      ∷ words_of (plan_nodes plan) (λ v. word (shown (plan_depth plan) (state_of config v)) v)
      (faulty_at script t) ∷ codes "\n" ∷ [])

  same_lines : plans.shown_lines label (word_of_shown word) plan script
      ≡ machines.shown_lines label word (machine_of_plan plan) script
  same_lines =
      ap (λ (line : ℕ → List ℕ).
      flat_map line (range_with_len script.first (script.last + 1 - script.first)))
      (fun_ext (λ t. ap (line_of t) (same_played plan script t)))

  pub same_texts : plans.shown_text label (word_of_shown word) plan script
      ≡ machines.shown_text label word (machine_of_plan plan) script
  same_texts =
      ap₂ (λ (lines : List ℕ) (lock : ℕ → Option ℕ).
      concat (bound_line (plan_bound plan) ∷ lines ∷ lock_lines script lock ∷ [])) same_lines
      (fun_ext (same_lock plan script))

pub run_texts_agree : RunTextsAgree
run_texts_agree plan script = same_texts (codes "row ") (λ output v. number_word output) plan script

pub hold_texts_agree : HoldTextsAgree
hold_texts_agree plan script lines = same_texts (codes "hold ") (hold_word_at lines) plan script
