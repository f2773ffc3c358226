-- Inputs of calls of `node`: those of any construction, whose headers name the plan.
use Rattle.std.proofs.Common.{◌≡◌, ℕ, ◌<◌, Bool, true, false, cond, List, [], ◌∷◌, ◌++◌, Ok}
use Rattle.std.proofs.Common.{ap, refl, sym, subst, reverse, arith}
use Rattle.std.specs.Prelude.{◌==◌, codes, decimal}
use Rattle.std.specs.List.{concat}
use Rattle.std.proofs.lemmas.Bool.{eqb-true}
use Rattle.std.proofs.lemmas.List.Elements.{All-append}
use Rattle.sync_types.specs.States.{State}
use Rattle.construction.specs.Plans.{Level, Plan}
use Rattle.construction.specs.Runs.{IsState}
use Rattle.machines.specs.Machines as machines
use Rattle.plan_numbers.specs.Premises.{IsAccepted}
use Rattle.plan_numbers.proofs.Accepted.{accepted_depth}
use Rattle.plan_reader.specs.TextLines.{version_line, base_line, spares_end}
use Rattle.plan_reader.specs.PlanTexts.{level_words, level_text, level_texts, plan_text}
use Rattle.plan_laws.specs.VersionLaws.{in_version}
use Rattle.state_codec.specs.Shapes.{shape_of}
use Rattle.state_codec.proofs.FullNumbers.{fields_short}
use Rattle.plan_machine.specs.PlanMachines.{machine_of_plan}
use Rattle.plan_machine.proofs.PlanMachines.{are_alike}
use Rattle.plan_machine.proofs.Sound.{accepted_are_sound}
use Rattle.node_words.specs.HeaderTexts.{header_text}
use Rattle.node_words.specs.WrittenHeaders.{node_part_in}
use Rattle.node_words.proofs.HeadersRead.{text_is_read_back}
use Rattle.node_stepper.specs.Bytes.{AreBytes, StatesFit}
use Rattle.node_stepper.proofs.Restarts.{correct_too}
use Rattle.plan_machine.specs.NodeRuns.{IsCorrect}
use Rattle.node_words.specs.Inputs.{header_stated, AreOneMachine}
use Rattle.node_words.specs.RestartInputs.{calls_of, restart_of, restart_with}
use Rattle.node_words.proofs.TextBytes.{word, count, bytes, pieces_bytes, one_each, either}
use Rattle.node_words.proofs.TextBytes.{node_part}
use Rattle.node_words.proofs.InputTexts.{AreWritten}
use Rattle.node_words.proofs.Inputs as joined
use Rattle.node_words.proofs.LossyInputs as lossy
use Rattle.node_words.proofs.RestartInputs as restarted
use Rattle.node_words.proofs.ResumedInputs as resumed
use Rattle.outcomes.specs.NodeAnswers.{node_status}
use Rattle.outcomes.specs.PlanWords.{plan_words}
use Rattle.promises.specs.NodeCalls.{whole, header_of, IsOfNode}
use Rattle.promises.specs.Restarts.{calls_after}
use Rattle.promises.specs.CallInputs.{header_lines, AreVersions, plans_in}
use Rattle.promises.specs.CallInputs.{AnyInputsConnect, AnyInputsLose}
use Rattle.promises.specs.CallInputs.{AnyInputsRestart, AnyInputsResume, AnyCallInputs}
use Rattle.promises.proofs.PlanCalls.{headers_of_machines}

-- ---- header texts

version_bytes : (version : ℕ) → AreBytes (version_line (codes "plan ") version)
version_bytes version =
    pieces_bytes (word (codes "plan ") ∷ count version ∷ word (codes "\n") ∷ []) refl

base_bytes : (base : ℕ) → AreBytes (base_line base)
base_bytes base =
    pieces_bytes (word (codes "base ") ∷ count base ∷ word (codes "\n") ∷ []) refl

end_bytes : (version spares : ℕ) → AreBytes (spares_end version spares)
end_bytes version spares =
    either (version == 1) (codes "\n") (concat (codes " spare " ∷ decimal spares ∷ codes "\n" ∷ []))
    (pieces_bytes (word (codes "\n") ∷ []) refl)
    (pieces_bytes (word (codes " spare ") ∷ count spares ∷ word (codes "\n") ∷ []) refl)

level_bytes : (version : ℕ) (level : Level) → AreBytes (level_text version level)
level_bytes version level =
    All-append (λ byte. byte < 256) (level_words level) (spares_end version level.spares)
    (pieces_bytes (
    word (codes "level ") ∷ count level.blocks
    ∷ word (codes " ") ∷ count level.faults
    ∷ word (codes " ") ∷ count level.modulus ∷ []) refl)
    (end_bytes version level.spares)

plan_bytes : (version : ℕ) (plan : Plan) → AreBytes (plan_text version plan)
plan_bytes version plan =
    pieces_bytes (
    bytes (version_line (codes "plan ") version) (version_bytes version)
    ∷ bytes (base_line plan.base) (base_bytes plan.base)
    ∷ bytes (level_texts version plan)
    (one_each (level_text version) (level_bytes version) (reverse plan.levels))
    ∷ word (codes "end\n") ∷ []) refl

header_bytes : (plan : Plan) (v : ℕ) (s : State) → AreBytes (header_text plan v s)
header_bytes plan v s =
    All-append (λ byte. byte < 256) (plan_text plan.version plan) (node_part_in (shape_of plan) v s)
    (plan_bytes plan.version plan) (node_part (shape_of plan) v s)

-- a state has few bytes
states_fit : (plan : Plan) → IsAccepted plan → StatesFit (machine_of_plan plan)
states_fit plan accepted v lt =
    let sound = accepted_are_sound plan accepted in
    let fields = (machine_of_plan plan).fields v in
    omega (
      arith,
      fields_short fields.base fields.moduli (sound.fields v lt)
          (omega (
            arith,
            sound.depth v lt,
            accepted_depth plan.base plan.levels accepted.levels,
          )),
    )

is_written : AreWritten plan_words IsAccepted header_lines header_text
is_written = record {
  sound = accepted_are_sound;
  short = states_fit;
  bytes = header_bytes;
  read = λ plan accepted v lt s is longer rest.
      text_is_read_back plan accepted v lt s (((are_alike plan accepted).states v s lt).1 is) longer
      rest;
}

-- a plan in any of its versions is accepted, and one machine
in_versions : (plan : Plan) → IsAccepted plan → (versions : ℕ → ℕ) → AreVersions plan versions
    → AreOneMachine plan_words IsAccepted (machine_of_plan plan) (plans_in plan versions)
in_versions plan accepted versions are = record {
  accepted = λ v. record {
    oldest = omega (arith, accepted.oldest, (are v).0);
    newest = (are v).1;
    fits = λ k d lt one. accepted.fits k d lt (omega (arith, one, accepted.oldest, (are v).0));
    levels = accepted.levels;
  };
  machine = λ v. refl;
}

-- states of a plan's nodes are states of its machine's
states : (plan : Plan) → IsAccepted plan → (faulty : List ℕ) (starts : ℕ → State)
    → ((v : ℕ) → IsCorrect plan faulty v → IsState plan v (starts v))
    → (v : ℕ) → IsCorrect plan faulty v → machines.IsState (machine_of_plan plan) v (starts v)
states plan accepted faulty starts begun v correct =
    ((are_alike plan accepted).states v (starts v) correct.0).0 (begun v correct)

-- ---- headers

named : (plan : Plan) (version : ℕ) (v : ℕ) (s : State) (input : List ℕ)
    → header_of (whole input)
    ≡ Ok (header_stated (header_lines plan) (in_version version plan) v s)
    → IsOfNode plan v (whole input)
named plan version v s input is = record {
  header = header_stated (header_lines plan) (in_version version plan) v s;
  is = is;
  names = refl;
  id = refl;
}

-- also where one is started anew with its own input
named_anew : (plan : Plan) (inputs : ℕ → List ℕ) (node after v : ℕ)
    → IsOfNode plan v (whole (inputs v))
    → IsOfNode plan v (calls_after (restart_of inputs node after) (calls_of inputs) v)
named_anew plan inputs node after v is = by (v == node) refl where
  by : (b : Bool) → (v == node) ≡ b
      → IsOfNode plan v (cond b (whole (inputs node)) (whole (inputs v)))
  by true same = subst (λ (u : ℕ). IsOfNode plan v (whole (inputs u))) (eqb-true v node same) is
  by false other = is

-- or with another one
named_after : (plan : Plan) (inputs : ℕ → List ℕ) (node after : ℕ) (input : List ℕ) (v : ℕ)
    → IsOfNode plan node (whole input) → IsOfNode plan v (whole (inputs v))
    → IsOfNode plan v (calls_after (restart_with node after input) (calls_of inputs) v)
named_after plan inputs node after input v anew is = by (v == node) refl where
  by : (b : Bool) → (v == node) ≡ b → IsOfNode plan v (cond b (whole input) (whole (inputs v)))
  by true same = subst (λ (u : ℕ). IsOfNode plan u (whole input)) (sym (eqb-true v node same)) anew
  by false other = is

-- ---- inputs

any_connect : AnyInputsConnect
any_connect plan accepted versions are faulty starts sent begins rounds few begun =
    let made = joined.any_connect plan_words IsAccepted header_lines header_text is_written
    (machine_of_plan plan) (plans_in plan versions) (in_versions plan accepted versions are) faulty
    starts sent begins rounds few (states plan accepted faulty starts begun) in
    record {
      made = made;
      connect = record {
        headers = λ v correct.
            named plan (versions v) v (starts v) (made.inputs v) (made.begin v correct);
        connect = made.connect;
      };
      ok = λ v correct. ap node_status (made.ends v correct);
    }

any_lose : AnyInputsLose
any_lose plan accepted versions are faulty starts sent missed begins rounds few begun are_missed =
    let made = lossy.any_lose plan_words IsAccepted header_lines header_text is_written
    (machine_of_plan plan) (plans_in plan versions) (in_versions plan accepted versions are) faulty
    starts sent missed begins rounds few (states plan accepted faulty starts begun) are_missed in
    record {
      made = made;
      names = λ v correct.
          named plan (versions v) v (starts v) (made.inputs v) (made.begin v correct);
      ok = λ v correct. ap node_status (made.ends v correct);
    }

any_restart : AnyInputsRestart
any_restart plan accepted versions are faulty meanwhile node after too starts sent begins rounds few
    begun =
    let made = restarted.any_restart plan_words IsAccepted header_lines header_text is_written
    (machine_of_plan plan) (plans_in plan versions) (in_versions plan accepted versions are) faulty
    meanwhile node after too starts sent begins rounds few
    (states plan accepted faulty starts begun) in
    let name = λ (v : ℕ) (correct : IsCorrect plan faulty v).
    named plan (versions v) v (starts v) (made.inputs v) (made.begin v correct) in
    record {
      made = made;
      all = record {
        headers = λ v correct.
            name v (correct_too (machine_of_plan plan) faulty meanwhile node too v correct);
        connect = made.all;
      };
      rest = record {
        headers = λ v correct. named_anew plan made.inputs node after v (name v correct);
        connect = made.rest;
      };
      ok = λ v correct. ap node_status (made.ends v correct);
    }

any_resume : AnyInputsResume
any_resume plan accepted versions are faulty meanwhile node after too right starts sent begins
    rounds few begun =
    let made = resumed.any_resume plan_words IsAccepted headers_of_machines header_lines header_text
    is_written (machine_of_plan plan) (plans_in plan versions)
    (in_versions plan accepted versions are) faulty meanwhile node after too right starts sent
    begins rounds few (states plan accepted faulty starts begun) in
    let name = λ (v : ℕ) (correct : IsCorrect plan faulty v).
    named plan (versions v) v (starts v) (made.inputs v) (made.begin v correct) in
    record {
      made = made;
      all = record {
        headers = λ v correct.
            name v (correct_too (machine_of_plan plan) faulty meanwhile node too v correct);
        connect = made.all;
      };
      rest = record {
        headers = λ v correct.
            named_after plan made.inputs node after made.resumed v
            (named plan (versions node) node _ made.resumed made.goes_on) (name v correct);
        connect = made.rest;
      };
      ok = λ v correct. ap node_status (made.ends v correct);
      ok_before = ap node_status made.ends_before;
      ok_resumed = ap node_status made.ends_resumed;
    }

pub any_call_inputs : AnyCallInputs
any_call_inputs = record {
  connect = any_connect;
  lose = any_lose;
  restart = any_restart;
  resume = any_resume;
}
