-- Worked values of firing, by computation: four nodes, one fault, and slots of six rounds.
use Rattle.std.proofs.Common.{◌≡◌, ℕ, List, [], ◌∷◌, map, None, true, false, refl}
use Rattle.std.specs.List.{range_with_len}
use Rattle.sync_types.specs.declared.states.Reg.{Reg}
use Rattle.construction.specs.Plans.{Plan}
use Rattle.construction.specs.PhaseKing.{locked_at}
use Rattle.layer_laws.specs.Scenes.{Scene}
use Rattle.layer_laws.specs.Played.{Telling, scene_after}
use Rattle.consensus_layer.specs.Agreeing.{loaded}
use Rattle.firing.specs.declared.requests.Request.{Request}
use Rattle.firing.specs.declared.fires.Fire.{Fire}
use Rattle.firing.specs.Firings.{fire_layer, fires}

abbrev plan : Plan
plan =
    record {
      version = 1;
      base = 2304;
      levels = record { blocks = 4; spares = 0; faults = 1; modulus = 12 } ∷ [];
    }

abbrev infinite : Reg
infinite = record { a = None; d = false }

abbrev request : ℕ → Request
request v = record { node = v; first = 5; last = 5 }

abbrev tell : Telling
tell t u v config = record { x = 7; registers = locked_at 3 ∷ loaded 0 ∷ [] }

abbrev rest : Scene Fire
rest =
    record {
      states = map (λ v. record { x = 5; registers = locked_at 5 ∷ infinite ∷ [] })
          (range_with_len 0 4);
      kept = map (λ v. record { round = 0; fired = false }) (range_with_len 0 4);
    }

abbrev fire_scene : List Request → ℕ → Scene Fire
fire_scene requests x = scene_after plan (fire_layer plan requests) (3 ∷ []) tell 5 rest x

all_fire : map (fires (fire_scene (request 0 ∷ request 1 ∷ request 2 ∷ []) 7)) (0 ∷ 1 ∷ 2 ∷ [])
    ≡ true ∷ true ∷ true ∷ []
all_fire = refl

not_before : map (fires (fire_scene (request 0 ∷ request 1 ∷ request 2 ∷ []) 6)) (0 ∷ 1 ∷ 2 ∷ [])
    ≡ false ∷ false ∷ false ∷ []
not_before = refl

none_fires : map (fires (fire_scene [] 7)) (0 ∷ 1 ∷ 2 ∷ []) ≡ false ∷ false ∷ false ∷ []
none_fires = refl
