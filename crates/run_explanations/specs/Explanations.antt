-- What explains that the last era of a script locks, of the configurations that are played of it.
use Rattle.std.specs.Prelude.{◌≡◌, ℕ, ◌+◌, ◌-◌, ◌≤◌, List, [], ◌∷◌, length, Bool, Option, Some}
use Rattle.std.specs.Prelude.{None}
use Rattle.sync_types.specs.States.{State}
use Rattle.construction.specs.Plans.{Level, Plan, plan_depth, nodes_of, faults_of}
use Rattle.construction.specs.Shown.{shown}
use Rattle.construction.specs.Steps.{state_of}
use Rattle.construction.specs.Runs.{is_in}
use Rattle.plan_laws.specs.Explained.{Explains}
use Rattle.adversary_script.specs.Scripts.{Script}
use Rattle.adversary_script.specs.Eras.{first_of_era, faulty_of_era}
use Rattle.round_runner.specs.Played.{played_at}
use Rattle.run_explanations.specs.declared.explanations.Explanation.{Explanation}
use Rattle.run_explanations.specs.declared.seeing.Observation.{Observation}
use Rattle.run_explanations.specs.Tops.{top_of}
use Rattle.run_explanations.specs.Seeing.{seen_in}
use Rattle.run_explanations.specs.Searching.{found_before}

-- the first configuration of the last era
abbrev pub era_begin : Script → ℕ
era_begin script = first_of_era script (length script.eras)

-- whether a node is faulty in the last era
abbrev pub is_faulty : Script → (v : ℕ) → Bool
is_faulty script = is_in (faulty_of_era script (length script.eras))

-- what the nodes of a configuration show over so many levels
abbrev pub outputs_in : (depth : ℕ) → List State → (v : ℕ) → ℕ
outputs_in depth config v = shown depth (state_of config v)

-- With these levels, the top one first: from configuration t on, for a beat, all correct nodes of
-- sound blocks point to block b, whose parts are one number that grows by one, and in configuration
-- s of this window the phase of king k begins, which ends in the window and with the last
-- configuration or before.
abbrev pub ExplainsIn : List Level → Script → (config_at : ℕ → List State) → (t b s k : ℕ) → Type 0
ExplainsIn [] script config_at t b s k = ⊥
ExplainsIn (level ∷ below) script config_at t b s k =
    Explains level (nodes_of below) (faults_of below) (is_faulty script) script.rounds
    (λ r. outputs_in (length below) (config_at r)) t b s k

-- What explains that the last era locks: the window is in that era.
pub record ExplainsEra (plan : Plan) (script : Script) (t b s k : ℕ) : Type 0 where
  pub from : era_begin script ≤ t
  pub explains : ExplainsIn plan.levels script (played_at plan script) t b s k

-- an explanation of the last era
abbrev pub IsExplanation : Plan → Script → Explanation → Type 0
IsExplanation plan script e = ExplainsEra plan script e.window e.leader e.phase e.king

-- An explanation, of the first window that has one, and of the first phase in it.
pub record IsFirst (plan : Plan) (script : Script) (e : Explanation) : Type 0 where
  pub explains : IsExplanation plan script e
  pub first : (t b s k : ℕ) → ExplainsEra plan script t b s k
      → (e.window ≤ t) × (t ≡ e.window → e.phase ≤ s)

-- the first explanation, or none exactly if there is none
abbrev pub IsFirstOrNone : Plan → Script → Option Explanation → Type 0
IsFirstOrNone plan script (Some e) = IsFirst plan script e
IsFirstOrNone plan script None = (t b s k : ℕ) → ExplainsEra plan script t b s k → ⊥

-- ---- as it is found

-- what is seen in a configuration of the last era
abbrev pub seen_of : Plan → Script → List State → Option Observation
seen_of plan script config =
    seen_in (top_of plan) (is_faulty script) (outputs_in (plan_depth plan - 1) config)

abbrev pub seen_at : Plan → Script → (c : ℕ) → Option Observation
seen_at plan script c = seen_of plan script (played_at plan script c)

-- the explanation of what is played
abbrev pub explanation_of : Plan → Script → Option Explanation
explanation_of plan script =
    found_before (top_of plan).beat (is_faulty script) script.rounds (era_begin script)
    (seen_at plan script) (script.rounds + 1)
