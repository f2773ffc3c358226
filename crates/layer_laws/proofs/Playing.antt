-- A play that begins goes on to be one of its script.
use Rattle.std.proofs.Common.{◌≡◌, ℕ, suc, ◌+◌, List, map, Option, add-one, sym, ap, ap₂, ◌∙◌}
use Rattle.sync_types.specs.States.{State}
use Rattle.counter_core.specs.Meanings.{Meaning}
use Rattle.counter_core.specs.Overlays.{Layer}
use Rattle.adversary_script.specs.Scripts.{Script, IsScript}
use Rattle.machine_runner.specs.FirstLocked.{LockTest, next_locks, known_locks}
use Rattle.machine_runner.proofs.KnownLocks.{first_known, next_known}
use Rattle.layer_laws.specs.Scenes.{Scene}
use Rattle.layer_laws.specs.PlayedScenes.{stepped_scene, next_scene, scene_at}
use Rattle.layer_laws.specs.Positions.{Position, begun, advanced, configuration_in, played_to}
use Rattle.layer_laws.specs.Positions.{IsBegun, IsPlayed}

-- the steps of a round that has begun are those of the round
pub stepped_is : {Kept : Type 0} (m : Meaning) (script : Script) (layer begun : Layer Kept) (t : ℕ)
    (states : List State) (kept kept_begun : List Kept) → begun ≡ layer
    → kept_begun ≡ map (layer.begun t) kept
    → stepped_scene m script begun t states kept_begun
    ≡ next_scene m script layer t (record { states = states; kept = kept })
stepped_is m script layer begun t states kept kept_begun same is =
    ap₂ (λ (l : Layer _) (k : List _). stepped_scene m script l t states k) same is

-- a scene, part by part
pub scene_is : {Kept : Type 0} {states : List State} {kept : List Kept} {scene : Scene Kept}
    → states ≡ scene.states → kept ≡ scene.kept → record { states = states; kept = kept } ≡ scene
scene_is {scene = scene} states kept = ap₂ (λ (s : List State) (k : List _). let both : Scene _ =
    record { states = s; kept = k } in both) states kept

-- a play begins with configuration 0
pub begins : {Kept : Type 0} (counter : Meaning) (locked : LockTest) (script : Script)
    (layer : Layer Kept) (kept : List Kept) → IsScript script
    → begun counter locked script layer kept
    ≡ played_to kept (begun counter locked script layer kept) 0
begins counter locked script layer kept whole =
    ap (λ (locks : List (Option ℕ)). let p : Position _ =
    record (begun counter locked script layer kept) { locks = locks } in p)
    (first_known locked script
    (configuration_in kept (begun counter locked script layer kept)) whole)

-- and goes on to the next one
pub plays_on : {Kept : Type 0} (began : List Kept) (p : Position Kept) (t : ℕ)
    → advanced (played_to began p t) ≡ played_to began p (t + 1)
plays_on began p t =
    let next : t + 1 ≡ suc t = add-one t in
    let config_at : ℕ → List State = configuration_in began p in
    let step : ℕ → Position _ = λ u. record p {
      at = u;
      scene = scene_at p.counter p.script p.layer began (suc t);
      locks = next_locks p.locked p.script (known_locks p.locked p.script config_at t) u
          (config_at (suc t));
    } in
    ap step next
    ∙ (ap (λ (locks : List (Option ℕ)). let q : Position _ =
    record (played_to began p (suc t)) { locks = locks } in q)
    (next_known p.locked p.script config_at t)
    ∙ ap (played_to began p) (sym next))

-- so where a play stands stays one of the play
pub is_played_on : {Kept : Type 0} (began : List Kept) (p : Position Kept) → IsPlayed began p
    → IsPlayed began (advanced p)
is_played_on began p is =
    let next : Scene _ → Scene _ = next_scene p.counter p.script p.layer p.at in
    let step : suc p.at ≡ p.at + 1 = sym (add-one p.at) in
    let config_at : ℕ → List State = configuration_in began p in
    record {
      scene = ap next is.scene ∙ ap (scene_at p.counter p.script p.layer began) step;
      locks =
          ap₂ (λ (locks : List (Option ℕ)) (scene : Scene _).
          next_locks p.locked p.script locks (p.at + 1) scene.states) is.locks (ap next is.scene)
          ∙ (ap (λ t. next_locks p.locked p.script (known_locks p.locked p.script config_at p.at) t
          (config_at (suc p.at))) (sym step)
          ∙ (next_known p.locked p.script config_at p.at
          ∙ ap (known_locks p.locked p.script config_at) step));
    }

-- a play at configuration 0 has just begun
pub begun_of : {Kept : Type 0} (p : Position Kept) → IsScript p.script → p.at ≡ 0
    → IsPlayed p.scene.kept p → IsBegun p
begun_of p whole at is =
    ap₂ (λ (scene : Scene _) (locks : List (Option ℕ)). let q : Position _ =
    record p { scene = scene; locks = locks } in q) is.scene is.locks
    ∙ (ap (played_to p.scene.kept p) at
    ∙ sym (begins p.counter p.locked p.script p.layer p.scene.kept whole))
