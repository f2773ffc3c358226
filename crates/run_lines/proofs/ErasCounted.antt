-- What is played of a script that was read for an accepted plan, with a layer, counts in each era.
use Rattle.std.proofs.Common.{◌≡◌, ℕ, ◌+◌, ◌-◌, ◌<◌, ◌≤◌, List, [], length, sym, ap, ◌∙◌}
use Rattle.std.proofs.Common.{arith}
use Rattle.std.proofs.lemmas.List.{length-map}
use Rattle.std.proofs.lemmas.List.Elements.{All-get_or}
use Rattle.sync_types.specs.States.{State}
use Rattle.construction.specs.Plans.{Plan, plan_depth}
use Rattle.construction.specs.Shown.{shown}
use Rattle.construction.specs.Steps.{state_of}
use Rattle.construction.specs.Runs.{configuration, IsToleratedBy, Counts}
use Rattle.plan_numbers.specs.Premises.{IsAccepted}
use Rattle.plan_numbers.proofs.Accepted.{accepted_sized}
use Rattle.plan_laws.specs.PlanMeaning.{plan_meaning}
use Rattle.plan_laws.proofs.RunLaws.{every_plan_settles}
use Rattle.plan_laws.proofs.Ranges.{state_of-cut, shown_of_cut}
use Rattle.counter_core.specs.Overlays.{Layer}
use Rattle.state_codec.specs.Shapes.{IsShape}
use Rattle.adversary_script.specs.Scripts.{Script, Era, IsScript, faulty_sets}
use Rattle.adversary_script.specs.Eras.{first_of_era, end_of_era, faulty_of_era}
use Rattle.round_runner.specs.Runners.{IsPlayableOn}
use Rattle.machine_runner.proofs.Firsts.{era_some}
use Rattle.round_runner.proofs.ScenesRun.{states_at, cut_run, cut_length, cut_configuration}
use Rattle.round_runner.proofs.ScenesRun.{scenes_run}
use Rattle.layer_runner.specs.Counting.{EraCounts, ErasCount}

module _ {Kept : Type 0} (plan : Plan) (script : Script) (layer : Layer Kept) (began : List Kept)
    (accepted : IsAccepted plan) (right : IsPlayableOn plan layer script)
    (sound : IsShape script.shape)
    (whole : IsScript script) where
  module _ (j : ℕ) (among : j ≤ length script.eras) where
    abbrev count : ℕ
    count = end_of_era script j - first_of_era script j

    -- the configurations of the era, without the layer's registers
    abbrev run : List (List State)
    run = cut_run plan script layer began (first_of_era script j)
        (end_of_era script j - first_of_era script j)

    borne : IsToleratedBy plan (faulty_of_era script j)
    borne = All-get_or (IsToleratedBy plan) (faulty_sets script) j []
        (omega (arith, among, length-map script.eras (λ (era : Era). era.faulty))) right.borne

    some : first_of_era script j < end_of_era script j
    some = era_some script whole j among

    counts : Counts plan (faulty_of_era script j) run
    counts = every_plan_settles plan accepted (faulty_of_era script j) run borne
        (scenes_run plan script layer began accepted right sound whole j among count
        (omega (arith, some)) (omega (arith, some)))

    long : length run ≡ count
    long = cut_length plan script layer began (first_of_era script j)
        (end_of_era script j - first_of_era script j)

    -- what a node shows in configuration i of the era is what it shows there in the run
    shown_in_run : (i v : ℕ) → i < end_of_era script j - first_of_era script j
        → shown (plan_depth plan)
        (state_of (states_at plan script layer began (first_of_era script j + i)) v)
        ≡ shown (plan_depth plan) (state_of (configuration run i) v)
    shown_in_run i v lt =
        let config : List State = states_at plan script layer began (first_of_era script j + i) in
        sym (shown_of_cut (plan_depth plan) (plan_depth plan) (omega arith) (state_of config v))
        ∙ (ap (shown (plan_depth plan)) (sym (state_of-cut (plan_depth plan) config v))
        ∙ ap (λ (config : List State). shown (plan_depth plan) (state_of config v))
        (sym (cut_configuration plan script layer began (first_of_era script j)
        (end_of_era script j - first_of_era script j) i lt)))

    era_counts : EraCounts (plan_meaning plan) script layer began j
    era_counts = record {
      output = λ t. counts.output (t - first_of_era script j);
      shows = λ t lo hi v lt correct.
          let i : ℕ = t - first_of_era script j in
          let here : t ≡ first_of_era script j + i = omega (arith, lo) in
          ap (λ (u : ℕ). shown (plan_depth plan)
          (state_of (states_at plan script layer began u) v)) here
          ∙ (shown_in_run i v (omega (arith, lo, hi))
          ∙ counts.shows i (omega (arith, lo)) (omega (arith, lo, hi, long)) v lt correct);
      grows = λ t lo hi.
          let next : t + 1 - first_of_era script j ≡ t - first_of_era script j + 1 =
          omega (arith, lo) in
          ap counts.output next
          ∙ counts.grows (t - first_of_era script j) (omega (arith, lo))
          (omega (arith, lo, hi, long));
    }

  pub eras_counted : ErasCount (plan_meaning plan) script layer began
  eras_counted =
      let sized = accepted_sized plan.base plan.levels accepted.levels in
      record {
        quorum = sized.quorum;
        least = sized.least_modulus;
        whole = whole;
        borne = λ k d lt.
            let borne : IsToleratedBy plan _ = right.borne k d lt in
            record { rising = borne.rising; ids = borne.ids; few = borne.few };
        eras = era_counts;
      }
