-- What holds of each run with a layer, by the laws of what is played of a script with one.
use Rattle.std.proofs.Common.{◌≡◌, ℕ, ◌+◌, ◌≤◌, List, length}
use Rattle.std.proofs.Common.{subst, arith}
use Rattle.sync_types.specs.declared.answers.Part.TheVariants as part
use Rattle.counter_core.specs.Overlays.{Layer}
use Rattle.machines.specs.Machines.{Machine, IsState, IsToleratedBy}
use Rattle.adversary_script.specs.Scripts.{Script}
use Rattle.adversary_script.specs.Eras.{first_of_era, faulty_of_era}
use Rattle.machine_runner.proofs.Firsts.{end_within}
use Rattle.machine_runner.specs.Laws.{IsUpTo, FirstsAreLocked}
use Rattle.machine_runner.specs.Locks.{is_locked, first_locked, era_locked, IsFirstLocked}
use Rattle.layer_runner.specs.LockTexts.{lock_of_era}
use Rattle.layer_runner.specs.PlayedEras.{PlaysEras}
use Rattle.layer_runner.proofs.CountedSlots.{slots_count_over}
use Rattle.layer_runner.proofs.FirstListed.{first_listed}
use Rattle.layer_runner.proofs.LinePromises.{lines_decide_over, lines_fire_together_over}
use Rattle.layer_runner.proofs.LinePromises.{lines_put_one_over}
use Rattle.layer_runner.proofs.PlayedScripts.{scripts_are_played_over}
use Rattle.layer_laws.specs.CounterSlots.{slot_length}
use Rattle.replicated_log.specs.EntryLength.{entry_length}
use Rattle.sync_types.specs.States.{State}
use Rattle.layer_laws.specs.Counters.{Bears}
use Rattle.player.specs.Counters.{machine_counter}
use Rattle.layer_runner.specs.Laws.{played_states, era_scenes, IsPlayable}
use Rattle.layer_runner.proofs.MachinesSettle.{machines_settle}
use Rattle.layer_runner.proofs.EraScenes.{borne_in, eras_are_layer_runs, eras_count}
use Rattle.layer_runner.proofs.SceneLocks.{eras_lock, eras_stay_locked}
use Rattle.consensus_layer.specs.AgreeContent.{AgreeContent}
use Rattle.consensus_layer.proofs.FitInputs.{inputs_fit_over}
use Rattle.consensus_layer.proofs.Decisions.{every_run_decides_over}
use Rattle.firing.specs.declared.requests.Request.{Request}
use Rattle.firing.specs.declared.fires.Fire.{Fire}
use Rattle.firing.proofs.FitRequests.{requests_fit_over}
use Rattle.firing.proofs.FiredTogether.{fires_together_over}
use Rattle.replicated_log.specs.LogContent.{LogContent}
use Rattle.replicated_log.proofs.FitLogs.{log_fits_over}
use Rattle.replicated_log.proofs.SlotEntries.{every_slot_puts_one_over}
use Rattle.replicated_log.proofs.SameLogs.{logs_are_one_over}
use Rattle.halving_plan.specs.Plans.{HalvingNumbers, IsAccepted}
use Rattle.halving_plan.specs.Laws.{machine_in}
use Rattle.halving_runs.specs.RunInputs.{Layered}
use Rattle.halving_runs.specs.LayerInputs.{numbers_of, agree_part, agree_shape}
use Rattle.halving_runs.specs.LayerInputs.{fire_part, fire_shape}
use Rattle.halving_runs.specs.LayerInputs.{log_part, log_shape}
use Rattle.halving_runs.specs.LayerReadings.{FitsAgreed, FitsRequests, FitsLog}
use Rattle.halving_runs.specs.LayerPromises.{LayerKeepsPromise, agreeing, undecided, firing_on}
use Rattle.halving_runs.specs.LayerPromises.{none_fired, logging, nothing_logged}
use Rattle.halving_runs.proofs.Playable.{agreement_plays, firing_plays, log_plays, all_count}
use Rattle.halving_runs.specs.LayerPromises.{DecisionsKeepPromise, FiresKeepPromise}
use Rattle.halving_runs.specs.LayerPromises.{EntriesKeepPromise, LayersKeepPromise}
use Rattle.halving_runs.proofs.LayerShaped as shaped
use Rattle.halving_runs.proofs.Scripts.{IsLayered, layered_read}

module _ (firsts : FirstsAreLocked) where
  module _ {Kept : Type 0} (plan : HalvingNumbers) (accepted : IsAccepted plan) (layer : Layer Kept)
      (began : List Kept) (script : Script)
      (plays : IsPlayable (machine_in plan) script layer began) where
    abbrev machine : Machine
    machine = machine_in plan

    borne : (j : ℕ) → j ≤ length script.eras → IsToleratedBy machine (faulty_of_era script j)
    borne j among = borne_in machine script layer began plays j among

    pub borne_by : (j : ℕ) → j ≤ length script.eras
        → Bears (machine_counter machine) (faulty_of_era script j)
    borne_by j among =
        let is = borne j among in record { rising = is.rising; ids = is.ids; few = is.few }

    abbrev config_at : ℕ → List State
    config_at = played_states machine script layer began

    -- the first locked configuration is the one that is written
    listed : (j : ℕ) → first_locked (era_locked machine script config_at j) script.rounds
        ≡ lock_of_era (is_locked machine) script config_at j
    listed j = first_listed (era_locked machine script config_at j) script.rounds

    -- what is played of each era is a run of a settling counter with the layer
    pub plays_eras : PlaysEras (machine_counter machine) (IsState machine) script layer began
    plays_eras = record {
      settling = machines_settle machine plays.sound;
      whole = plays.read.whole;
      borne = (all_count machine script layer began plays).borne;
      eras = λ j among. (eras_are_layer_runs layer machine script began plays j among).run;
    }

    pub layer_keeps : LayerKeepsPromise plan layer began script
    layer_keeps = record {
      accepted = accepted;
      read = plays.read;
      plays = scripts_are_played_over layer (machine_counter machine) script began
          plays.read.right.nodes plays.enough;
      eras = λ j among. record {
        borne = borne j among;
        run = eras_are_layer_runs layer machine script began plays j among;
        counts = eras_count layer machine script began plays j among;
        first = subst (IsFirstLocked machine script config_at j script.rounds) (listed j)
            (firsts machine script config_at plays.read.whole j script.rounds among (omega arith));
        by_bound = λ before.
            subst (IsUpTo (first_of_era script j + machine.bound)) (listed j)
            (eras_lock layer machine script began plays j among before script.rounds
            (end_within script plays.read.whole j (first_of_era script j + machine.bound) among
            before) (omega arith));
        stays = eras_stay_locked layer machine script began plays j among;
      };
    }

  -- ---- of what was read

  decisions_kept : (l : Layered AgreeContent) → IsLayered agree_shape FitsAgreed l
      → DecisionsKeepPromise l.plan l.said l.script
  decisions_kept l is =
      let plan : HalvingNumbers = l.plan in
      let machine : Machine = machine_in plan in
      let fits : FitsAgreed plan l.said = is.fits in
      let plays = agreement_plays plan is.accepted l.script l.said is.fits is.script in
      let run = layer_keeps plan is.accepted (agreeing plan l.said) (undecided plan) l.script
      plays in
      let eras = plays_eras plan is.accepted (agreeing plan l.said) (undecided plan) l.script
      plays in
      record {
        run = run;
        fits = fits;
        decides = λ j among.
            every_run_decides_over (machine_counter machine) (IsState machine)
            (machines_settle machine plays.sound) fits.whole l.said.values l.said.inputs
            (faulty_of_era l.script j)
            (borne_by plan is.accepted (agreeing plan l.said) (undecided plan) l.script plays j
            among) (first_of_era l.script j)
            (era_scenes machine l.script (agreeing plan l.said) (undecided plan) j)
            (run.eras j among).run.run;
        slots = slots_count_over (agreeing plan l.said) (machine_counter machine) (IsState machine)
            l.script (undecided plan) eras (slot_length machine.faults);
        lines = lines_decide_over (machine_counter machine) (IsState machine) l.script
            l.said fits eras;
      }

  fires_kept : (l : Layered (List Request)) → IsLayered fire_shape FitsRequests l
      → FiresKeepPromise l.plan l.said l.script
  fires_kept l is =
      let plan : HalvingNumbers = l.plan in
      let machine : Machine = machine_in plan in
      let fits : FitsRequests plan l.said = is.fits in
      let plays = firing_plays plan is.accepted l.script l.said is.fits is.script in
      let run = layer_keeps plan is.accepted (firing_on plan l.said) (none_fired plan) l.script
      plays in
      let eras = plays_eras plan is.accepted (firing_on plan l.said) (none_fired plan) l.script
      plays in
      record {
        run = run;
        fits = fits;
        together = λ j among.
            fires_together_over (machine_counter machine) (IsState machine)
            (machines_settle machine plays.sound) fits.whole l.said (faulty_of_era l.script j)
            (borne_by plan is.accepted (firing_on plan l.said) (none_fired plan) l.script plays j
            among) (first_of_era l.script j)
            (era_scenes machine l.script (firing_on plan l.said) (none_fired plan) j)
            (run.eras j among).run.run;
        slots = slots_count_over (firing_on plan l.said) (machine_counter machine) (IsState machine)
            l.script (none_fired plan) eras (slot_length machine.faults);
        lines = lines_fire_together_over (machine_counter machine) (IsState machine) l.script
            l.said fits eras;
      }

  entries_kept : (l : Layered LogContent) → IsLayered log_shape FitsLog l
      → EntriesKeepPromise l.plan l.said l.script
  entries_kept l is =
      let plan : HalvingNumbers = l.plan in
      let machine : Machine = machine_in plan in
      let fits : FitsLog plan l.said = is.fits in
      let plays = log_plays plan is.accepted l.script l.said is.fits is.script in
      let run = layer_keeps plan is.accepted (logging plan l.said) (nothing_logged plan) l.script
      plays in
      let eras = plays_eras plan is.accepted (logging plan l.said) (nothing_logged plan) l.script
      plays in
      let settles = machines_settle machine plays.sound in
      record {
        run = run;
        fits = fits;
        puts = λ j among.
            every_slot_puts_one_over (machine_counter machine) (IsState machine) settles
            fits.whole l.said (faulty_of_era l.script j)
            (borne_by plan is.accepted (logging plan l.said) (nothing_logged plan) l.script plays j
            among) (first_of_era l.script j)
            (era_scenes machine l.script (logging plan l.said) (nothing_logged plan) j)
            (run.eras j among).run.run;
        same = λ j among.
            logs_are_one_over (machine_counter machine) (IsState machine) settles fits.whole
            l.said (faulty_of_era l.script j)
            (borne_by plan is.accepted (logging plan l.said) (nothing_logged plan) l.script plays j
            among) (first_of_era l.script j)
            (era_scenes machine l.script (logging plan l.said) (nothing_logged plan) j)
            (run.eras j among).run.run;
        slots = slots_count_over (logging plan l.said) (machine_counter machine) (IsState machine)
            l.script (nothing_logged plan) eras (entry_length machine.faults);
        lines = lines_put_one_over (machine_counter machine) (IsState machine) l.script
            l.said fits eras;
      }

  -- ---- of each input

  pub layers_keep : LayersKeepPromise
  layers_keep = record {
    consensus = λ input l is.
        decisions_kept l
        (layered_read part.Agree agree_part agree_shape FitsAgreed
        (λ plan accepted. inputs_fit_over (numbers_of plan))
        (λ plan accepted said fits.
        shaped.is_shape plan accepted said.values 1 fits.two fits.few) input l is);
    fire = λ input l is.
        fires_kept l
        (layered_read part.Fire fire_part fire_shape FitsRequests
        (λ plan accepted. requests_fit_over (numbers_of plan))
        (λ plan accepted requests fits.
        shaped.is_shape plan accepted 2 1 (omega arith) (omega arith)) input l is);
    log = λ input l is.
        entries_kept l
        (layered_read part.Log log_part log_shape FitsLog
        (λ plan accepted. log_fits_over (numbers_of plan))
        (λ plan accepted said fits.
        shaped.is_shape plan accepted said.values 2 fits.two fits.few) input l is);
  }
