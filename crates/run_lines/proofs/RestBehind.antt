-- The lines of a script of which no more rounds are played than must be.
use Rattle.std.proofs.Common.{◌≡◌, ◌↔◌, ℕ, ◌+◌, ◌-◌, ◌%◌, ◌<◌, ◌≤◌, inl, inr, Bool, true, false}
use Rattle.std.proofs.Common.{cond, List, [], ◌++◌, length, None, Result, append-nil, refl, sym, ap}
use Rattle.std.proofs.Common.{ap₂, ◌∙◌, subst, arith}
use Rattle.std.specs.Prelude.{is_some, max, min, slice_index_or}
use Rattle.std.specs.List.{flat_map, range_with_len}
use Rattle.std.proofs.Math.Nat.{mod-add-mod}
use Rattle.std.proofs.lemmas.Bool.{true≢false, cases_eq, le-ltb}
use Rattle.std.proofs.lemmas.List.Concat.{flat_map-cons}
use Rattle.sync_types.specs.FaultSets.{FaultIds}
use Rattle.edge_io.specs.Rising.{Labelled}
use Rattle.texts.specs.Growth.{SinkState}
use Rattle.edge_io.specs.Writing.{Writes}
use Rattle.edge_io.specs.declared.writer.Writer.{Writer}
use Rattle.edge_io.proofs.Writing.{writes_then, writes_more, writes_is}
use Rattle.construction.specs.Plans.{Plan, plan_nodes, plan_modulus}
use Rattle.counter_core.specs.declared.overlays.NoOverlay.{NoOverlay}
use Rattle.counter_core.specs.NoLayers.{no_layer}
use Rattle.adversary_script.specs.Scripts.{Script, IsScript}
use Rattle.adversary_script.specs.Eras.{era_of, first_of_era, end_of_era, faulty_at}
use Rattle.round_runner.specs.Known.{CountsOn, KnowsLocks}
use Rattle.round_runner.specs.Runners.{Running, IsPlaying, scene_of, configuration_of}
use Rattle.round_runner.specs.Skipping.{IsSkipped}
use Rattle.machine_runner.proofs.Firsts.{era_before}
use Rattle.run_lines.specs.PlayedTexts.{Wording, line_if_shown, line_in, lines_text, lines_between}
use Rattle.run_lines.specs.OutputTexts.{output_wording, counted_line}
use Rattle.run_lines.proofs.CountedLines.{left_of_era, counted_rest}
use Rattle.run_lines.proofs.Played.{LinesSoFar}
use Rattle.run_lines.proofs.Ranges.{texts_on}

abbrev Plays : (began : List (Unit {0})) → Running NoOverlay → Type 0
Plays began r = IsPlaying (λ o. no_layer) (λ o. []) began r

module _ {K : Type 0} (told : K → SinkState) (wording : Wording (Unit {0}))
    (start r : Running NoOverlay) (old mid : Writer K)
    (so_far : LinesSoFar (λ o. no_layer) (λ o. []) wording start told r.at r old mid)
    (within : r.at ≤ start.script.rounds) where
  -- if locks are not known, a round is left
  pub round_left : (knows : Bool) → ((knows ≡ true) ↔ KnowsLocks r) → knows ≡ false
      → r.at < r.script.rounds
  round_left knows exact not =
      let last = ap (λ (s : Script). s.rounds) so_far.played.script in
      elim (cases_eq r.at r.script.rounds) [
        | inl end ↦ absurd (true≢false (sym (exact.1 (inl end)) ∙ not))
        | inr other ↦ omega (arith, within, last, other)
      ]

  -- the lines of the runner's run are those of the run
  same_lines : (end : ℕ) → lines_between r.plan r.script no_layer [] wording r.at end
      ≡ lines_between start.plan start.script no_layer [] wording r.at end
  same_lines end = ap₂ (λ (plan : Plan) (script : Script).
      lines_between plan script no_layer [] wording r.at end) so_far.played.plan
      so_far.played.script

  abbrev line : ℕ → List ℕ
  line = line_in start.plan start.script no_layer [] wording

  -- the lines before that configuration, from those before this one
  lines_to : (to : ℕ) → r.at ≤ to
      → flat_map line (range_with_len 0 r.at)
      ++ lines_between r.plan r.script no_layer [] wording r.at to
      ≡ flat_map line (range_with_len 0 to)
  lines_to to from =
      ap (λ (x : List ℕ). flat_map line (range_with_len 0 r.at) ++ x) (same_lines to)
      ∙ texts_on line r.at to from

  -- what stands after the lines that are written
  pub rest_behind : (now : Writer K) (end : ℕ) → end ≡ start.script.rounds + 1
      → Writes told (lines_between r.plan r.script no_layer [] wording r.at end) mid now
      → Writes told (lines_text start.plan start.script no_layer [] wording) old now
  rest_behind now end is rest =
      writes_is (lines_to end (omega (arith, is, within))
      ∙ ap (λ (n : ℕ). flat_map line (range_with_len 0 n)) is) (writes_then so_far.wrote rest)

  -- if a write failed, it is as if all were written
  pub lines_stop : mid.failed ≡ true
      → Writes told (lines_text start.plan start.script no_layer [] wording) old mid
  lines_stop failed =
      writes_is (texts_on line r.at (start.script.rounds + 1) (omega (arith, within)))
      (writes_more _ failed so_far.wrote)

  -- they are written to before that configuration, and the runner goes on to it
  pub lines_on : (to : ℕ) → r.at < to → (now : Writer K) (new : Running NoOverlay)
      → Writes told (lines_between r.plan r.script no_layer [] wording r.at to) mid now
      → IsSkipped r to new → (Plays [] r → Plays [] new)
      → LinesSoFar (λ o. no_layer) (λ o. []) wording start told to new old now
  lines_on to from now new wrote skipped plays =
      let p = so_far.played in
      record {
        played = record {
          plan = skipped.plan ∙ p.plan;
          script = skipped.script ∙ p.script;
          layer = refl;
          at = skipped.at;
          plays = plays p.plays;
        };
        wrote = writes_is (lines_to to (omega (arith, from))) (writes_then so_far.wrote wrote);
      }

module _ (wording : Wording (Unit {0})) (r : Running NoOverlay) (began : List (Unit {0}))
    (plays : Plays began r) where
  -- the line of the configuration alone
  pub own_line : (end : ℕ) → end ≡ r.at + 1
      → line_if_shown wording r.plan r.script r.at (scene_of (λ o. []) r)
      ≡ lines_between r.plan r.script no_layer began wording r.at end
  own_line end next =
      let line : ℕ → List ℕ = line_in r.plan r.script no_layer began wording in
      let one : 1 ≡ end - r.at = omega (arith, next) in
      ap (line_if_shown wording r.plan r.script r.at) plays.scene
      ∙ (sym (append-nil (line r.at)) ∙ (sym (flat_map-cons line r.at [])
      ∙ ap (λ (n : ℕ). flat_map line (range_with_len r.at n)) one))

  -- what is counted from there on is what stands before the end
  pub counted_is : (word : ℕ → ℕ → List ℕ) → wording ≡ output_wording wording.label word
      → IsScript r.script → (end value : ℕ)
      → end ≤ end_of_era r.script (era_of r.script r.at)
      → CountsOn r.plan r.script (configuration_of (λ o. no_layer) began r) r.at value
      → (number : Labelled) (faulty : FaultIds) (output modulus count : ℕ)
      → number ≡ record { label = wording.label; value = max r.script.first r.at }
      → faulty ≡ record { nodes = plan_nodes r.plan; ids = faulty_at r.script r.at }
      → output ≡ (value % plan_modulus r.plan + (max r.script.first r.at - r.at))
      % plan_modulus r.plan
      → modulus ≡ plan_modulus r.plan
      → count ≡ min (r.script.last + 1) end - max r.script.first r.at
      → flat_map (λ t. counted_line number.label word faulty t
      ((output + (t - number.value)) % modulus)) (range_with_len number.value count)
      ≡ lines_between r.plan r.script no_layer began wording r.at end
  counted_is word law whole end value within counts number faulty output modulus count
      number_is faulty_is output_is modulus_is count_is =
      let text : Labelled → FaultIds → ℕ → List ℕ = λ number faulty modulus.
      flat_map (λ t. counted_line number.label word faulty t
      ((output + (t - number.value)) % modulus)) (range_with_len number.value count) in
      let from : ℕ = max r.script.first r.at in
      ap₂ (λ (n : Labelled) (f : FaultIds). text n f modulus) number_is faulty_is
      ∙ (ap (text (record { label = wording.label; value = from })
      (record { nodes = plan_nodes r.plan; ids = faulty_at r.script r.at })) modulus_is
      ∙ (counted_rest r.plan r.script began wording.label word r.at end value
      (left_of_era r.script whole r.at end within) counts from count output refl count_is
      (output_is ∙ mod-add-mod value (plan_modulus r.plan) (from - r.at))
      ∙ ap (λ (w : Wording (Unit {0})). lines_between r.plan r.script no_layer began w r.at end)
      (sym law)))

-- if the locks are known, the era goes on to the end, and its own line is the last one if it has no
-- lock
module _ {O : Type 0} (r : Running O) (whole : IsScript r.script) (knows : KnowsLocks r) where
  pub era_to_end : r.script.rounds + 1 ≤ end_of_era r.script (era_of r.script r.at)
  era_to_end = elim knows [
    | inl end ↦ (let before = era_before r.script whole.formed.rising r.at
        (omega (arith, end)) in omega (arith, before, end))
    | inr later ↦ (let last = ap (λ j. end_of_era r.script j) later.0 in
        let whole_run = ap (λ b. cond b (first_of_era r.script (length r.script.eras + 1))
        (r.script.rounds + 1))
        (le-ltb (length r.script.eras) (length r.script.eras) (omega arith)) in
        omega (arith, last, whole_run))
  ]

  pub own_is_last : is_some (slice_index_or r.locks (era_of r.script r.at) None) ≡ false
      → r.script.rounds + 1 ≡ r.at + 1
  own_is_last none = elim knows [
    | inl end ↦ omega (arith, end)
    | inr later ↦ absurd (true≢false (sym later.1 ∙ none))
  ]

-- the faulty nodes among so many
pub counted_set : (nodes n : ℕ) (ids faulty : List ℕ) → nodes ≡ n → ids ≡ faulty
    → let old : FaultIds = record { nodes = nodes; ids = ids } in
    let new : FaultIds = record { nodes = n; ids = faulty } in old ≡ new
counted_set nodes n ids faulty same is =
    ap₂ (λ (n : ℕ) (ids : List ℕ). let set : FaultIds = record { nodes = n; ids = ids } in set)
    same is
