-- A runner that plays a script without a layer, and what was found before its configuration.
use Rattle.std.specs.Prelude.{◌≡◌, ◌⊎◌, ℕ, ◌+◌, ◌-◌, ◌≤◌, [], true, is_some}
use Rattle.counter_core.specs.declared.overlays.NoOverlay.{NoOverlay}
use Rattle.counter_core.specs.NoLayers.{no_layer}
use Rattle.construction.specs.Plans.{Plan}
use Rattle.adversary_script.specs.Scripts.{Script}
use Rattle.round_runner.specs.Known.{KnowsLocks}
use Rattle.round_runner.specs.Runners.{Running, IsPlaying}
use Rattle.run_explanations.specs.declared.explaining.Search.{Search}
use Rattle.run_explanations.specs.declared.explanations.Explanation.{Explanation}
use Rattle.run_explanations.specs.declared.searching.LeaderStreak.{LeaderStreak}
use Rattle.run_explanations.specs.declared.tops.Top.{Top}
use Rattle.run_explanations.specs.Checking.{IsWithinWindow}
use Rattle.run_explanations.specs.Explanations.{era_begin, is_faulty, seen_at}
use Rattle.run_explanations.specs.Reading.{Reads}
use Rattle.run_explanations.specs.Searching.{first_or, stretched, stretch_before, explained_from}
use Rattle.run_explanations.specs.Searching.{found_before}
use Rattle.run_explanations.specs.Tops.{top_of}

-- it plays its script
abbrev pub Plays : Running NoOverlay → Type 0
Plays r = IsPlaying (λ o. no_layer) (λ o. []) [] r

-- it is at configuration 0, of a run of this plan
pub record IsToPlay (plan : Plan) (r : Running NoOverlay) : Type 0 where
  pub plan_is : r.plan ≡ plan
  pub at : r.at ≡ 0
  pub plays : Plays r

-- it is the same runner, at configuration c
pub record HasPlayed (begun : Running NoOverlay) (c : ℕ) (r : Running NoOverlay) : Type 0 where
  pub plan : r.plan ≡ begun.plan
  pub script : r.script ≡ begun.script
  pub at : r.at ≡ c
  pub plays : Plays r

-- this is what was found before configuration c, from configuration `from` on
pub record IsFound (top : Top) (from : ℕ) (plan : Plan) (script : Script) (c : ℕ)
    (search : Search) : Type 0 where
  pub stretch : search.stretch ≡ stretch_before top.beat from (seen_at plan script) c
  pub found : search.found ≡ found_before top.beat (is_faulty script) script.rounds from
      (seen_at plan script) c

-- a search with configuration c too
abbrev pub taken : Top → Plan → Script → (c : ℕ) → Search → Search
taken top plan script c search =
    let stretch : LeaderStreak = stretched top.beat search.stretch (seen_at plan script c) in
    record {
      stretch = stretch;
      found = first_or search.found (explained_from top.beat (is_faulty script) script.rounds c
          stretch.count stretch.seen);
    }

-- What is left to play would change nothing: an explanation was found, and the first locked
-- configurations are known; or no round is left.
abbrev pub IsEnough : Search → Running NoOverlay → Type 0
IsEnough search r =
    (r.at ≡ r.script.rounds) ⊎ ((is_some search.found ≡ true) × KnowsLocks r)

-- that a runner that plays its script is read by the numbers of its plan's top level
pub record IsRead (top : Top) (r : Running NoOverlay) : Type 0 where
  pub reads : Reads top r
  pub top_is : top ≡ top_of r.plan
  pub plays : Plays r
  pub within : r.at ≤ r.script.rounds

-- it is read so, and at configuration 0
pub record IsToRead (top : Top) (r : Running NoOverlay) : Type 0 where
  pub read : IsRead top r
  pub at : r.at ≡ 0

-- whether the window and the phase of an explanation fit into the last era of a script
abbrev pub FitsEra : Plan → Script → Explanation → Type 0
FitsEra plan script e = IsWithinWindow (top_of plan).beat (era_begin script) script.rounds e

-- it has played to the end of the window of an explanation that fits, and else nothing
pub record HasTested (plan : Plan) (e : Explanation) (old new : Running NoOverlay) : Type 0 where
  pub fits : FitsEra plan old.script e → HasPlayed old (e.window + (top_of plan).beat - 1) new
  pub strays : (FitsEra plan old.script e → ⊥) → new ≡ old
