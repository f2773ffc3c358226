-- The state of a node after a round, put into its place.
use Rattle.std.proofs.Common.{◌≡◌, ℕ, length, ap, ◌∙◌}
use Rattle.std.specs.Prelude.{slice_set}
use Rattle.sync_types.specs.States.{State}
use Rattle.construction.specs.Plans.{Plan}
use Rattle.state_codec.specs.Packs.{Pack}
use Rattle.counter_core.specs.Overlays.{Layer}
use Rattle.adversary_script.specs.Scripts.{Script}
use Rattle.round_runner.specs.declared.stepping.RoundBuffers.{RoundBuffers}
use Rattle.round_runner.specs.declared.turns.Round.{Round}
use Rattle.round_runner.specs.Rooms.{IsReady}
use Rattle.round_runner.specs.Turns.{IsGathered}

-- what is put is the state that it is
pub put_behind : (old new : Pack) (v : ℕ) (out state : State)
    → new ≡ record old { next = slice_set old.next v out } → out ≡ state
    → new ≡ record old { next = slice_set old.next v state }
put_behind old new v out state put is =
    put ∙ ap (λ (s : State). let p : Pack = record old { next = slice_set old.next v s } in p) is

-- the room is still that of the round, after a state was written into it
pub ready_behind : (plan : Plan) (script : Script) (room : RoundBuffers) (out : State)
    → IsReady plan script room → length out.registers ≡ script.shape.depth
    → IsReady plan script (record room { step = record room.step { out = out } })
ready_behind plan script room out ready deep = record {
  noise = ready.noise;
  heard = ready.heard;
  work = ready.work;
  step = record { lies = ready.step.lies; shared = ready.step.shared; out = deep };
}

pub gathered_behind : {Kept : Type 0} (round : Round) (layer : Layer Kept) (states : Pack)
    (room : RoundBuffers) (out : State) → IsGathered round layer states room
    → length out.registers ≡ round.script.now.shape.depth
    → IsGathered round layer states (record room { step = record room.step { out = out } })
gathered_behind round layer states room out gathered deep =
    let set = gathered.set in
    record {
      set = record {
        fits = set.fits;
        over = set.over;
        shape = set.shape;
        size = set.size;
        ready = ready_behind round.tower.now round.script.now room out set.ready deep;
      };
      stands = gathered.stands;
      laid = gathered.laid;
    }
