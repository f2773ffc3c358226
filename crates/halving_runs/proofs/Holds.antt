-- What holds of the lines of a slot table.
use Rattle.std.proofs.Common.{◌≡◌, ℕ, List, Some, subst}
use Rattle.std.specs.Prelude.{◌↔◌, codes}
use Rattle.adversary_script.specs.Scripts.{Script}
use Rattle.machines.specs.Machines.{Machine}
use Rattle.machines.specs.Laws.{IsSound}
use Rattle.machine_runner.specs.LineLaws.{AtMostOneInALine}
use Rattle.machine_runner.specs.Laws.{IsReadFor}
use Rattle.slot_table.specs.declared.lines.SlotLine.{SlotLine}
use Rattle.slot_table.specs.HoldWords.{hold_word_at, WordsAreExact}
use Rattle.slot_table.specs.Tables.{AreApart, holder_of, HolderHolds, HolderIsOne}
use Rattle.halving_plan.specs.Plans.{HalvingNumbers}
use Rattle.halving_plan.specs.Laws.{machine_in}
use Rattle.halving_plan.proofs.Sound.{accepted_are_sound}
use Rattle.halving_runs.specs.RunPromises.{RunKeepsPromise}
use Rattle.halving_runs.specs.HoldPromises.{output_shown, LinesHold}
use Rattle.halving_runs.specs.HoldPromises.{SlotsKeepPromise}
use Rattle.halving_runs.specs.LayerInputs.{slots_shape}
use Rattle.halving_runs.specs.ScriptInputs.{FitsTable}
use Rattle.halving_runs.proofs.Scripts.{IsRead, IsLayered, has_table, read_for}

module _ (exact : WordsAreExact) (holds : HolderHolds) (is_one : HolderIsOne)
    (law : AtMostOneInALine) where
  module _ (machine : Machine) (script : Script) (table : List SlotLine)
      (apart : AreApart table) where
    -- a word at an output is 1 exactly if the node is its holder
    word_is : (output v : ℕ)
        → (hold_word_at table output v ≡ codes " 1") ↔ (holder_of table output ≡ Some v)
    word_is output v =
        let word = exact table apart output v in (
          λ one. holds table apart v output (word.one.0 one),
          λ holder. word.one.1 (is_one table v output holder),
        )

    by_shown : (output shown v : ℕ) → shown ≡ output
        → (hold_word_at table shown v ≡ codes " 1") ↔ (holder_of table output ≡ Some v)
    by_shown output shown v same =
        subst (λ (o : ℕ). (hold_word_at table shown v ≡ codes " 1")
        ↔ (holder_of table o ≡ Some v)) same (word_is shown v)

    pub lines_hold : IsSound machine → IsReadFor machine script → LinesHold machine script table
    lines_hold sound read = record {
      words = λ t v. exact table apart (output_shown machine script table t v) v;
      holder = λ t output show v lt correct.
          by_shown output (output_shown machine script table t v) v (show v lt correct);
      one = law machine script sound read table;
    }

  pub slots_keep : ((plan : HalvingNumbers) (script : Script) → IsRead plan script
      → RunKeepsPromise plan script) → SlotsKeepPromise
  slots_keep runs input s is =
      let has : IsLayered slots_shape FitsTable s = has_table input s is in
      let for : IsReadFor (machine_in s.plan) s.script =
      read_for s.plan has.accepted s.script has.script in
      record {
        run = runs s.plan s.script (record { accepted = has.accepted; for = for });
        fits = has.fits;
        lines = lines_hold (machine_in s.plan) s.script s.said has.fits.apart
            (accepted_are_sound s.plan has.accepted) for;
      }
