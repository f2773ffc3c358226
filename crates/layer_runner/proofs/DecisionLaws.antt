-- The lines of consensus are those that are defined.
use Rattle.std.proofs.Common.{ℕ, ◌+◌, ◌-◌, ◌*◌, List, [], ◌∷◌, refl, ap, arith}
use Rattle.std.specs.Prelude.{codes, replicate}
use Rattle.std.specs.List.{concat}
use Rattle.counter_core.specs.Overlays.{Layer}
use Rattle.adversary_script.specs.Eras.{faulty_at}
use Rattle.machine_runner.specs.RunTexts.{bound_line, words_of}
use Rattle.layer_laws.specs.Numbers.{numbers_in}
use Rattle.layer_laws.specs.Scenes.{Scene}
use Rattle.layer_laws.specs.Slots.{slot_length}
use Rattle.consensus_layer.specs.Agreements.{agree_layer_over}
use Rattle.layer_runner.specs.LockTexts.{lock_lines}
use Rattle.layer_runner.specs.DecisionTexts.{decision_word, slot_front, agree_scene}
use Rattle.layer_runner.specs.DecisionTexts.{decision_line, decision_wording}
use Rattle.layer_runner.specs.LineLaws.{DecisionsAsDefined}
use Rattle.layer_runner.proofs.SlotLaws.{ends_behind, as_defined}

pub decisions_as_defined : DecisionsAsDefined
decisions_as_defined counter locked script said whole counts =
    let q : ℕ = slot_length counter.faults in
    let layer : Layer ℕ = agree_layer_over (numbers_in counter) said.values said.inputs in
    let scene : ℕ → Scene ℕ = agree_scene counter script said in
    ap (λ (text : List ℕ). concat (bound_line counter.bound ∷ text
    ∷ lock_lines locked script (λ c. (scene c).states) ∷ []))
    (as_defined counter script layer (replicate counter.nodes 0) q (decision_wording q)
    (decision_line counter script said) (3 * counter.faults + 2) (omega arith) whole counts
    (λ c. refl)
    (λ c is. ap (λ d. concat (slot_front (c - q)
    ∷ words_of counter.nodes (decision_word (scene d)) (faulty_at script d) ∷ codes "\n" ∷ []))
    (ends_behind counter script q c (scene c).states is)))
