-- What is written is read as the plan, and as the script after it.
use Rattle.std.proofs.Common.{◌≡◌, ℕ, ◌+◌, List, ◌++◌, Ok, refl, sym, ap, ◌∙◌, arith}
use Rattle.std.proofs.lemmas.List.FromFn.{length-map-range_with_len}
use Rattle.texts.specs.Lines.{lines_of}
use Rattle.construction.specs.Plans.{Plan, plan_nodes, plan_faults, plan_depth}
use Rattle.state_codec.specs.Shapes as boosting
use Rattle.state_codec.specs.Shapes.{shape_nodes}
use Rattle.plan_numbers.specs.Premises.{IsAccepted}
use Rattle.plan_reader.specs.PlanTexts.{in_version, PlanTextIsRead}
use Rattle.plan_machine.specs.PlanMachines.{machine_of_plan}
use Rattle.adversary_script.specs.Scripts.{Script}
use Rattle.adversary_script.specs.ScriptPart.{script_for}
use Rattle.halving_plan.specs.Trees.{tree_faults}
use Rattle.halving_plan.proofs.Numbers.{faults_of_tree}
use Rattle.halving_plan.specs.Plans.{HalvingNumbers, tree_of, IsAccepted as IsAcceptedHalving}
use Rattle.halving_plan.specs.Laws.{machine_in}
use Rattle.halving_texts.specs.HalvingShapes as halving
use Rattle.halving_texts.proofs.Shaped as shaped
use Rattle.halving_texts.specs.HalvingTexts.{HalvingTextIsRead}
use Rattle.attack.specs.Tried.{script_in}
use Rattle.attack.specs.declared.plans.AnyPlan.TheVariants as plan
use Rattle.attack.specs.PlanTexts.{text_of}
use Rattle.attack.specs.ReadBack.{ReadsAs, WrittenIsRead}

boosting_reads : PlanTextIsRead → (own : Plan) → IsAccepted own → (text : List ℕ)
    (script : Script)
    → script_in (machine_of_plan own) (boosting.shape_of own) (1 + (plan_depth own + 3)) text
    ≡ Ok script
    → ReadsAs (text_of (plan.Boosting own) ++ text) (plan.Boosting own) script
boosting_reads law own accepted text script read =
    let nodes : shape_nodes (boosting.shape_of own) ≡ plan_nodes own =
    length-map-range_with_len _ 0 (plan_nodes own) in
    let newest = accepted.newest in
    record {
      found = record {
        value = in_version own.version own;
        taken = plan_depth own + 3;
        behind = lines_of text;
      };
      is = law own own.version text accepted (omega arith) newest;
      same = refl;
      behind =
          ap (λ (n : ℕ). script_for n (plan_faults own) (boosting.shape_of own)
          (1 + (plan_depth own + 3)) (lines_of text)) (sym nodes)
          ∙ read;
    }

faults_are : (own : HalvingNumbers) → tree_faults (tree_of own) ≡ own.faults
faults_are own = faults_of_tree own.faults _

halving_read : HalvingTextIsRead → (own : HalvingNumbers) → IsAcceptedHalving own → (text : List ℕ)
    (script : Script)
    → script_in (machine_in own) (halving.shape_of own) (1 + 3) text ≡ Ok script
    → ReadsAs (text_of (plan.Halving own) ++ text) (plan.Halving own) script
halving_read law own accepted text script read =
    record {
      found = record { value = own; taken = 3; behind = lines_of text };
      is = law own text accepted;
      same = refl;
      behind =
          ap (λ (n : ℕ). script_for n own.faults (halving.shape_of own) (1 + 3) (lines_of text))
          (sym (shaped.nodes_are own accepted))
          ∙ (ap (λ (f : ℕ). script_for (shape_nodes (halving.shape_of own)) f
          (halving.shape_of own) (1 + 3) (lines_of text)) (sym (faults_are own))
          ∙ read);
    }

pub written_is_read : PlanTextIsRead → HalvingTextIsRead → WrittenIsRead
written_is_read levels halves (plan.Boosting own) accepted text script read =
    boosting_reads levels own accepted text script read
written_is_read levels halves (plan.Halving own) accepted text script read =
    halving_read halves own accepted text script read
