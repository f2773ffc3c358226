-- The slots that begin are those that count.
use Rattle.std.proofs.Common.{◌≡◌, ℕ, ◌+◌, ◌%◌, ◌<◌, ◌≤◌, Bool, true, false, List, sym, ap, ◌∙◌}
use Rattle.std.proofs.Common.{arith}
use Rattle.std.specs.Prelude.{◌==◌}
use Rattle.std.proofs.lemmas.Bool.{and_parts, and_from, lt-ltb, le-leb, eq-eqb, eqb-true}
use Rattle.sync_types.specs.FaultSets.{is_in}
use Rattle.sync_types.specs.States.{State}
use Rattle.counter_core.specs.Meanings.{Meaning}
use Rattle.counter_core.specs.Overlays.{Layer}
use Rattle.adversary_script.specs.Scripts.{Script}
use Rattle.adversary_script.specs.Eras.{era_of, first_of_era, end_of_era, faulty_at}
use Rattle.machine_runner.proofs.Firsts.{era_within}
use Rattle.layer_laws.specs.Lowest.{lowest_correct}
use Rattle.layer_runner.specs.CountedSlots.{SlotCounts, SlotsCountOver}
use Rattle.layer_runner.specs.Counting.{ErasCount}
use Rattle.layer_runner.specs.PlayedTexts.{configuration_in}
use Rattle.layer_runner.specs.SlotTexts.{output_of, lead_output, counts_at, begins_at}
use Rattle.layer_runner.proofs.EraCounting.{played_eras_count}
use Rattle.layer_runner.proofs.Leads.{leads}
use Rattle.layer_runner.proofs.SlotParts.{past_bound, same_era, within_rounds, before_end}

module _ {Kept : Type 0} (counter : Meaning) (script : Script) (layer : Layer Kept)
    (began : List Kept) (is : ErasCount counter script layer began) (q t : ℕ) where
  abbrev config : List State
  config = configuration_in counter script layer began t

  abbrev lead_rests : Bool
  lead_rests = lead_output counter script t config % q == 0

  pub lead_is : (lowest_correct counter.nodes (faulty_at script t) < counter.nodes)
      × (is_in (faulty_at script t) (lowest_correct counter.nodes (faulty_at script t)) ≡ false)
  lead_is = leads counter script layer began is (era_of script t) (era_within script t)

  -- from the bound on each correct node shows what the lowest one does
  shows_one : first_of_era script (era_of script t) + counter.bound ≤ t
      → t < end_of_era script (era_of script t)
      → (v : ℕ) → v < counter.nodes → is_in (faulty_at script t) v ≡ false
      → output_of counter config v ≡ lead_output counter script t config
  shows_one lo hi v lt correct =
      let counts = is.eras (era_of script t) (era_within script t) in
      counts.shows t lo hi v lt correct
      ∙ sym (counts.shows t lo hi (lowest_correct counter.nodes (faulty_at script t)) lead_is.0
      lead_is.1)

  module _ (begins : begins_at counter script q t (configuration_in counter script layer began t)
      ≡ true) where
    pub counting : counts_at counter.bound script q t ≡ true
    counting = (and_parts (counts_at counter.bound script q t) lead_rests begins).0

    rests : lead_output counter script t config % q ≡ 0
    rests = eqb-true (lead_output counter script t config % q) 0
        (and_parts (counts_at counter.bound script q t) lead_rests begins).1

    shows_lead : (v : ℕ) → v < counter.nodes → is_in (faulty_at script t) v ≡ false
        → output_of counter (configuration_in counter script layer began t) v
        ≡ lead_output counter script t (configuration_in counter script layer began t)
    shows_lead =
        let past = past_bound counter.bound script q t counting in
        let before = before_end counter.bound script q t counting is.whole in
        shows_one (omega (arith, past)) (omega (arith, before))

    pub counts : SlotCounts counter script (configuration_in counter script layer began) q t
    counts = record {
      late = past_bound counter.bound script q t counting;
      inside = same_era counter.bound script q t counting;
      within = within_rounds counter.bound script q t counting;
      rest = λ v lt correct. ap (λ o. o % q) (shows_lead v lt correct) ∙ rests;
    }

  begins : SlotCounts counter script (configuration_in counter script layer began) q t
      → begins_at counter script q t config ≡ true
  begins c =
      and_from _ _
      (and_from _ _
      (and_from _ _
      (lt-ltb (first_of_era script (era_of script t) + counter.bound) t c.late)
      (eq-eqb (era_of script (t + q)) (era_of script t) c.inside))
      (le-leb (t + q) script.rounds c.within))
      (eq-eqb (lead_output counter script t config % q) 0
      (c.rest (lowest_correct counter.nodes (faulty_at script t)) lead_is.0 lead_is.1))

pub slots_count_over : {Kept : Type 0} (layer : Layer Kept) (counter : Meaning)
    (is_state : (v : ℕ) → State → Type 0) → SlotsCountOver layer counter is_state
slots_count_over layer counter is_state script began plays q t =
    let is = played_eras_count layer counter is_state script began plays in
    (counts counter script layer began is q t, begins counter script layer began is q t)
