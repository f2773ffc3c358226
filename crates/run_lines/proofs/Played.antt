-- The lines that are written while a runner plays, and does not play more than it must.
use Rattle.std.proofs.Common.{◌≡◌, ℕ, ◌+◌, List, refl, ap, ◌∙◌}
use Rattle.std.specs.List.{flat_map, range_with_len}
use Rattle.construction.specs.Plans.{Plan}
use Rattle.plan_laws.specs.PlanMeaning.{plan_meaning}
use Rattle.texts.specs.Growth.{SinkState}
use Rattle.edge_io.specs.Writing.{Writes}
use Rattle.edge_io.specs.declared.writer.Writer.{Writer}
use Rattle.edge_io.proofs.Writing.{writes_none}
use Rattle.counter_core.specs.Overlays.{Layer}
use Rattle.adversary_script.specs.Scripts.{Script}
use Rattle.layer_laws.specs.PlayedScenes.{scene_at}
use Rattle.round_runner.specs.Runners.{Running, IsPlaying, configuration_of}
use Rattle.run_lines.specs.RunTexts.{lock_lines}
use Rattle.run_lines.specs.PlayedTexts.{Wording, line_if_shown, scene_in, configuration_in}
use Rattle.run_lines.specs.Playing.{HasPlayed}

module _ {O Kept : Type 0} (layer : O → Layer Kept) (kept : O → List Kept) (wording : Wording Kept)
    (start : Running O) where
  -- the line of configuration c
  abbrev line : ℕ → List ℕ
  line c =
      line_if_shown wording start.plan start.script c
      (scene_in start.plan start.script (layer start.overlay) (kept start.overlay) c)

  -- The lines before configuration c are written, by the runner that is at it.
  pub record LinesSoFar {K : Type 0} (told : K → SinkState) (c : ℕ) (r : Running O)
      (old now : Writer K)
      : Type 0 where
    pub played : HasPlayed layer kept start c r
    pub wrote : Writes told (flat_map line (range_with_len 0 c)) old now

  pub lines_begin : {K : Type 0} {told : K → SinkState} (writer : Writer K) → start.at ≡ 0
      → IsPlaying layer kept (kept start.overlay) start
      → LinesSoFar told 0 start writer writer
  lines_begin writer at plays = record {
    played = record { plan = refl; script = refl; layer = refl; at = at; plays = plays };
    wrote = writes_none;
  }

  -- what is written after the lines is of the same run
  pub locks_after : (c : ℕ) (r : Running O) → HasPlayed layer kept start c r
      → lock_lines r.plan r.script (configuration_of layer (kept start.overlay) r)
      ≡ lock_lines start.plan start.script
      (configuration_in start.plan start.script (layer start.overlay) (kept start.overlay))
  locks_after c r p =
      let began : List Kept = kept start.overlay in
      let text : Plan → Script → Layer Kept
      → List ℕ = λ plan script l. lock_lines plan script
      (λ u. (scene_at (plan_meaning plan) script l began u).states) in
      ap (λ (plan : Plan). text plan r.script (layer r.overlay)) p.plan
      ∙ (ap (λ (script : Script). text start.plan script (layer r.overlay)) p.script
      ∙ ap (λ (l : Layer Kept). text start.plan start.script l) p.layer)
