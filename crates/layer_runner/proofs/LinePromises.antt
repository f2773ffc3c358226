-- What the lines of slots promise.
use Rattle.std.proofs.Common.{◌≡◌, ℕ, zero, suc, false, ◌+◌, ◌-◌, ◌<◌, ◌≤◌, List, [], ◌∷◌, take}
use Rattle.std.proofs.Common.{replicate, refl, sym, ap, ◌∙◌, subst, arith}
use Rattle.sync_types.specs.FaultSets.{is_in}
use Rattle.sync_types.specs.States.{State}
use Rattle.construction.specs.Steps.{state_of}
use Rattle.counter_core.specs.Meanings.{Meaning}
use Rattle.adversary_script.specs.Eras.{first_of_era, era_of, faulty_of_era, faulty_at}
use Rattle.machine_runner.specs.RunTexts.{number_word}
use Rattle.layer_laws.specs.CounterSlots.{slot_length}
use Rattle.layer_laws.specs.Numbers.{numbers_in}
use Rattle.layer_laws.specs.Scenes.{Scene}
use Rattle.layer_laws.specs.Lowest.{lowest_correct}
use Rattle.consensus_layer.specs.Agreements.{agree_layer_over, decision}
use Rattle.consensus_layer.proofs.Decisions.{every_run_decides_over}
use Rattle.firing.specs.Firings.{fire_layer_over, fires, unfired, requests_in}
use Rattle.firing.proofs.FiredTogether.{fires_together_over}
use Rattle.replicated_log.specs.declared.entries.Entry.{Entry}
use Rattle.replicated_log.specs.EntryLength.{entry_length, owner_at, command_at}
use Rattle.replicated_log.specs.Logs.{log_layer_over, log_of}
use Rattle.replicated_log.proofs.SlotEntries.{every_slot_puts_one_over}
use Rattle.layer_runner.specs.EntryTexts.{newest_value, output_at, log_scene}
use Rattle.layer_runner.specs.FireTexts.{fired_word}
use Rattle.layer_runner.specs.LinePromises.{HasNewest, LinesDecideOver, LinesFireTogetherOver}
use Rattle.layer_runner.specs.LinePromises.{LinesPutOneOver}
use Rattle.layer_runner.proofs.CountedSlots.{lead_is}
use Rattle.layer_runner.proofs.SlotRuns.{counts, borne, is_run, past_bound, past, ends, scene_is}
use Rattle.layer_runner.proofs.SlotRuns.{scene_here, all_are, correct_there}

at_most : (q : ℕ) → q ≤ q
at_most q = omega arith

pub lines_decide_over : (counter : Meaning) (is_state : (v : ℕ) → State → Type 0)
    → LinesDecideOver counter is_state
lines_decide_over counter is_state script said for plays t begins =
    let q : ℕ = slot_length counter.faults in
    let layer = agree_layer_over (numbers_in counter) said.values said.inputs in
    let began = replicate counter.nodes 0 in
    let first = first_of_era script (era_of script t) in
    let decides = every_run_decides_over counter is_state plays.settling for.whole said.values
    said.inputs (faulty_of_era script (era_of script t))
    (borne counter is_state script layer began plays q t begins) first _
    (is_run counter is_state script layer began plays q t begins) (t - first)
    (past counter is_state script layer began plays q t begins)
    (ends counter is_state script layer began plays q t begins)
    (all_are counter is_state script layer began plays q t begins) in
    record {
      value = decides.value;
      words = λ v lt correct.
          ap (λ (s : Scene ℕ). number_word (decision s v))
          (sym (scene_is counter is_state script layer began plays q t begins q (at_most q)))
          ∙ ap number_word (decides.each v lt
          (correct_there counter is_state script layer began plays q t begins v correct));
      valid = decides.valid;
    }

pub lines_fire_together_over : (counter : Meaning) (is_state : (v : ℕ) → State → Type 0)
    → LinesFireTogetherOver counter is_state
lines_fire_together_over counter is_state script requests for plays t begins =
    let q : ℕ = slot_length counter.faults in
    let layer = fire_layer_over (numbers_in counter) requests in
    let began = replicate counter.nodes unfired in
    let first = first_of_era script (era_of script t) in
    let together = fires_together_over counter is_state plays.settling for.whole requests
    (faulty_of_era script (era_of script t))
    (borne counter is_state script layer began plays q t begins) first _
    (is_run counter is_state script layer began plays q t begins) (t - first)
    (past counter is_state script layer began plays q t begins)
    (ends counter is_state script layer began plays q t begins)
    (all_are counter is_state script layer began plays q t begins) in
    let before : t - 1 ≡ first + (t - first - 1) =
    omega (arith, past_bound counter is_state script layer began plays q t begins) in
    record {
      fired = together.fired;
      words = λ v lt correct.
          ap (λ s. fired_word (fires s v))
          (sym (scene_is counter is_state script layer began plays q t begins q (at_most q)))
          ∙ ap fired_word (together.each v lt
          (correct_there counter is_state script layer began plays q t begins v correct));
      valid = λ common all. together.valid common (λ v lt correct.
          subst (λ u. requests_in requests v u ≡ common) before (all v lt correct));
    }

-- what is put into a log that keeps some is its newest entry
newest_kept : (keep : ℕ) (entry : Entry) (log : List Entry) → 1 ≤ keep
    → HasNewest (take keep (entry ∷ log)) entry
newest_kept zero entry log some = absurd (omega arith)
newest_kept (suc keep) entry log some = record { older = take keep log; is = refl }

-- and its value is the newest one
newest_value_is : (log : List Entry) (entry : Entry) → HasNewest log entry
    → newest_value log ≡ entry.value
newest_value_is log entry newest = ap newest_value newest.is

pub lines_put_one_over : (counter : Meaning) (is_state : (v : ℕ) → State → Type 0)
    → LinesPutOneOver counter is_state
lines_put_one_over counter is_state script said for plays t begins =
    let f : ℕ = counter.faults in
    let n : ℕ = counter.nodes in
    let q : ℕ = entry_length counter.faults in
    let layer = log_layer_over (numbers_in counter) said in
    let began : List (List Entry) = replicate counter.nodes [] in
    let first = first_of_era script (era_of script t) in
    let late = past counter is_state script layer began plays q t begins in
    let puts = every_slot_puts_one_over counter is_state plays.settling for.whole said
    (faulty_of_era script (era_of script t))
    (borne counter is_state script layer began plays q t begins) first _
    (is_run counter is_state script layer began plays q t begins) (t - first)
    (omega (arith, late))
    (ends counter is_state script layer began plays q t begins)
    (all_are counter is_state script layer began plays q t begins) in
    let count = counts counter is_state script layer began plays q t begins in
    let lead = lead_is counter script layer began count q t in
    let here = ap (λ (s : Scene (List Entry)). counter.shows
    (lowest_correct n (faulty_at script t)) (state_of s.states
    (lowest_correct n (faulty_at script t))))
    (scene_here counter is_state script layer began plays q t begins) in
    let slot : output_at counter script said t ≡ puts.entry.slot =
    sym here ∙ puts.is.slot _ lead.0 lead.1 in
    let scene_there : Scene (List Entry) = log_scene counter script said (t + q) in
    let newest : (v : ℕ) → v < n → is_in (faulty_at script (t + q)) v ≡ false
    → HasNewest (log_of scene_there v) puts.entry =
    λ v lt correct. subst (λ log. HasNewest log puts.entry)
    (sym (ap (λ (s : Scene (List Entry)). log_of s v)
    (sym (scene_is counter is_state script layer began plays q t begins q (at_most q)))
    ∙ puts.is.puts v lt
    (correct_there counter is_state script layer began plays q t begins v correct)))
    (newest_kept said.keep puts.entry _ for.some) in
    record {
      entry = puts.entry;
      slot = sym slot;
      logs = newest;
      words = λ v lt correct.
          ap number_word
          (newest_value_is (log_of scene_there v) puts.entry (newest v lt correct));
      owner = ap (owner_at n f) slot;
      commanded = subst (λ o. is_in (faulty_at script t) (owner_at n f o) ≡ false
          → puts.entry.value
          ≡ command_at n f said.commands (owner_at n f o) puts.entry.slot) (sym slot)
          (puts.is.commanded late);
    }
