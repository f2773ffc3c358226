-- The lines of firing are those that are defined.
use Rattle.std.proofs.Common.{ℕ, ◌+◌, ◌-◌, ◌*◌, List, [], ◌∷◌, refl, ap, arith}
use Rattle.std.specs.Prelude.{codes, replicate}
use Rattle.std.specs.List.{concat}
use Rattle.counter_core.specs.Overlays.{Layer}
use Rattle.adversary_script.specs.Eras.{faulty_at}
use Rattle.machine_runner.specs.RunTexts.{bound_line, words_of}
use Rattle.layer_laws.specs.Numbers.{numbers_in}
use Rattle.layer_laws.specs.Scenes.{Scene}
use Rattle.layer_laws.specs.Slots.{slot_length}
use Rattle.firing.specs.declared.fires.Fire.{Fire}
use Rattle.firing.specs.Firings.{fire_layer_over, unfired}
use Rattle.layer_runner.specs.LockTexts.{lock_lines}
use Rattle.layer_runner.specs.FireTexts.{fire_word, fire_front, fire_scene}
use Rattle.layer_runner.specs.FireTexts.{fire_line, fire_wording}
use Rattle.layer_runner.specs.LineLaws.{FiresAsDefined}
use Rattle.layer_runner.proofs.SlotLaws.{ends_behind, as_defined}

pub fires_as_defined : FiresAsDefined
fires_as_defined counter locked script requests whole counts =
    let q : ℕ = slot_length counter.faults in
    let layer : Layer Fire = fire_layer_over (numbers_in counter) requests in
    let scene : ℕ → Scene Fire = fire_scene counter script requests in
    ap (λ (text : List ℕ). concat (bound_line counter.bound ∷ text
    ∷ lock_lines locked script (λ c. (scene c).states) ∷ []))
    (as_defined counter script layer (replicate counter.nodes unfired) q (fire_wording q)
    (fire_line counter script requests) (3 * counter.faults + 2) (omega arith) whole counts
    (λ c. refl)
    (λ c is. ap (λ d. concat (fire_front (c - q)
    ∷ words_of counter.nodes (fire_word (scene d)) (faulty_at script d) ∷ codes "\n" ∷ []))
    (ends_behind counter script q c (scene c).states is)))
