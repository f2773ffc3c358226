-- With another key a script is a script for its machine, and what was made for it serves.
use Rattle.std.proofs.Common.{◌≡◌, ℕ, List, length}
use Rattle.sync_types.specs.States.{State}
use Rattle.counter_core.specs.Overlays.{Layer}
use Rattle.machines.specs.Machines.{Machine}
use Rattle.adversary_script.specs.Scripts.{Script}
use Rattle.machine_runner.proofs.Rekeyed.{rekeyed, whole_still}
use Rattle.player.specs.ReadOver.{IsReadWithLayer}
use Rattle.player.specs.Rooms.{IsReady}
use Rattle.player.specs.declared.stepping.Room.{Room}

module _ (script : Script) (key : List ℕ) where
  pub read_still : {Kept : Type 0} (machine : Machine) (layer : Layer Kept)
      → IsReadWithLayer machine layer script → IsReadWithLayer machine layer (rekeyed script key)
  read_still machine layer read = record {
    shape = read.shape;
    right = record {
      nodes = read.right.nodes;
      states = read.right.states;
      borne = read.right.borne;
    };
    whole = whole_still script key read.whole;
    over = read.over;
  }

  pub ready_still : (room : Room) (noise : List ℕ) (out : State) → IsReady script room
      → noise ≡ key → length out.registers ≡ script.shape.depth
      → IsReady (rekeyed script key) (record room { noise = noise; out = out })
  ready_still room noise out ready is deep = record {
    noise = is;
    heard = record { size = ready.heard.size; deep = ready.heard.deep };
    lies = record { size = ready.lies.size; deep = ready.lies.deep };
    work = ready.work;
    out = deep;
  }
