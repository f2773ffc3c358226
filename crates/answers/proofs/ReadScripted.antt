-- What an input of a plan and a script is read as, by what was read of it, and what plays it.
use Rattle.std.proofs.Common.{◌≡◌, ℕ, ◌+◌, ◌-◌, List, [], length, take, drop, Result, Ok, sym, ap}
use Rattle.std.proofs.Common.{◌∙◌, subst}
use Rattle.std.specs.Prelude.{IfOk}
use Rattle.texts.specs.Lines.{lines_of}
use Rattle.construction.specs.Plans.{Plan, plan_nodes}
use Rattle.plan_reader.specs.PlanPart.{plan_of, found_in}
use Rattle.state_codec.specs.Shapes.{Shape, shape_of}
use Rattle.counter_core.specs.declared.overlays.NoOverlay.{NoOverlay}
use Rattle.counter_core.specs.NoLayers.{no_layer}
use Rattle.adversary_script.specs.Scripts.{Script, IsScript}
use Rattle.adversary_script.specs.ScriptPart.{script_of}
use Rattle.round_runner.specs.Runners.{Running}
use Rattle.run_lines.specs.Playing.{text_of}
use Rattle.run_lines.specs.RowTexts.{run_text, row_wording}
use Rattle.run_lines.proofs.ShownLaws.{rows_as_defined}
use Rattle.outcomes.specs.declared.refusals.Refusal.{Refusal}
use Rattle.outcomes.specs.declared.commands.Batch.TheVariants as batch
use Rattle.outcomes.specs.Inputs.{Scripted, with_script, behind_plan, scripted_of}
use Rattle.outcomes.specs.Answers.{text_by, answer_of}
use Rattle.outcomes.proofs.ScriptedRead.{IsRead, scripted_read}
use Rattle.answers.specs.LayeredRuns.{IsBegun}
use Rattle.answers.specs.ScriptedRuns.{IsScriptedRun}
use Rattle.answers.proofs.ReadLayers.{all_left}

module _ (input : List ℕ) (plan : Plan) (bytes lines : ℕ) (shape : Shape) (script : Script)
    (read : plan_of input ≡ Ok (found_in input (plan, bytes, lines)))
    (same : shape ≡ shape_of plan)
    (said : script_of plan shape (1 + lines)
    (lines_of (take (length input - bytes) (drop bytes input))) ≡ Ok script) where
  script_is : script_of plan (shape_of plan) (1 + lines) (lines_of (drop bytes input)) ≡ Ok script
  script_is =
      subst (λ (s : Shape). script_of plan s (1 + lines) (lines_of (drop bytes input)) ≡ Ok script)
      same
      (subst (λ (text : List ℕ). script_of plan shape (1 + lines) (lines_of text) ≡ Ok script)
      (all_left input bytes) said)

  scripted_is : scripted_of input ≡ Ok (record { plan = plan; script = script })
  scripted_is = ap behind_plan read ∙ ap (with_script plan) script_is

  read_for : IsRead (record { plan = plan; script = script })
  read_for =
      subst (λ (r : Result Scripted Refusal). IfOk r IsRead) scripted_is (scripted_read input)

  -- the runner that was begun with them
  pub scripted_run : (overlay : NoOverlay) (r : Running NoOverlay)
      → IsBegun (λ o. no_layer) (λ o. []) plan script overlay r → IsScriptedRun input (plan, r)
  scripted_run overlay r begun =
      let for = read_for.for in
      record {
        read =
            scripted_is
            ∙ ap (λ (s : Script). Ok (record { plan = plan; script = s })) (sym begun.script_is);
        plan_is = begun.plan_is;
        plays = begun.plays;
        records = record {
          plays = begun.plays.plays;
          script = subst IsScript (sym begun.script_is) for.whole;
          nodes = ap (λ (s : Script). s.nodes) begun.script_is
              ∙ (for.right.nodes ∙ sym (ap plan_nodes begun.plan_is));
          shape = ap (λ (s : Script). s.shape) begun.script_is
              ∙ (for.right.states ∙ sym (ap shape_of begun.plan_is));
        };
      }

-- the answer of `run` is what is written while the runner plays
pub run_is : (input : List ℕ) (plan : Plan) (r : Running NoOverlay) → IsScriptedRun input (plan, r)
    → answer_of batch.Run input ≡ Ok (text_of (λ o. no_layer) (λ o. []) row_wording r)
run_is input plan r is =
    let whole = is.records.script in
    ap (text_by (λ (s : Scripted). run_text s.plan s.script)) is.read
    ∙ ap (λ (p : Plan). Ok (run_text p r.script)) (sym is.plan_is)
    ∙ ap Ok (sym (rows_as_defined r.plan r.script whole.formed.shown))
