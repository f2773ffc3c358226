-- The lines of configurations that are shown are those that are defined.
use Rattle.std.proofs.Common.{◌≡◌, ℕ, ◌+◌, ◌&&◌, cond, List, [], ◌∷◌, ◌++◌, decimal, ap, ap₂, ◌∙◌}
use Rattle.std.specs.Prelude.{nat_le, codes}
use Rattle.std.specs.List.{concat, flat_map, range_with_len}
use Rattle.std.proofs.Math.Path.{fun_ext}
use Rattle.sync_types.specs.States.{State}
use Rattle.construction.specs.Plans.{Plan, plan_bound}
use Rattle.plan_laws.specs.PlanMeaning.{plan_meaning}
use Rattle.counter_core.specs.NoLayers.{no_layer}
use Rattle.adversary_script.specs.Eras.{faulty_at}
use Rattle.round_runner.proofs.Playing.{scene_played}
use Rattle.run_lines.specs.RunTexts.{bound_line, number_word, words_of_nodes, lock_lines}
use Rattle.run_lines.specs.PlayedTexts.{lines_text}
use Rattle.run_lines.specs.ShownTexts.{shown_line, shown_lines, shown_wording}
use Rattle.run_lines.specs.OutputTexts.{word_of_output}
use Rattle.run_lines.specs.HoldTexts.{hold_word_at}
use Rattle.run_lines.specs.LayerLaws.{ShownAsDefined, RowsAsDefined, HoldsAsDefined}
use Rattle.layer_runner.proofs.SlotShift.{rows_in_place}

pub shown_as_defined : ShownAsDefined
shown_as_defined label word plan script within =
    let of_plan : Plan → List State → ℕ → List ℕ = λ plan. word (plan_meaning plan) in
    let line : ℕ → List State → List ℕ = λ c config.
    cond (nat_le script.first c && nat_le c script.last)
    (concat ((label ++ decimal c)
    ∷ words_of_nodes plan (word (plan_meaning plan) config) (faulty_at script c)
    ∷ codes "\n" ∷ [])) [] in
    let same : lines_text plan script no_layer [] (shown_wording label word)
    ≡ shown_lines label of_plan plan script =
    ap (λ (g : ℕ → List ℕ). flat_map g (range_with_len 0 (script.rounds + 1)))
    (fun_ext (λ c. ap (line c) (scene_played plan script [] c)))
    ∙ rows_in_place (shown_line label of_plan plan script) script.first script.last script.rounds
    within in
    ap₂ (λ (text : List ℕ) (config_at : ℕ → List State).
    concat (bound_line (plan_bound plan) ∷ text ∷ lock_lines plan script config_at ∷ []))
    same (fun_ext (λ c. scene_played plan script [] c))

pub rows_as_defined : RowsAsDefined
rows_as_defined plan script within =
    shown_as_defined (codes "row ") (word_of_output (λ output v. number_word output)) plan script
    within

pub holds_as_defined : HoldsAsDefined
holds_as_defined plan script lines within =
    shown_as_defined (codes "hold ") (word_of_output (hold_word_at lines)) plan script within
