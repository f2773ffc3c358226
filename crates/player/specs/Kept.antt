-- What a player keeps.
use Rattle.std.specs.Prelude.{◌≡◌, ℕ, ◌+◌, ◌<◌, ◌≤◌, List, length, Option}
use Rattle.state_codec.specs.Packs.{Pack}
use Rattle.counter_core.specs.Overlays.{Layer}
use Rattle.machines.specs.Machines.{Machine}
use Rattle.machines.specs.Laws.{IsSound}
use Rattle.adversary_script.specs.Scripts.{Script}
use Rattle.adversary_script.specs.Eras.{era_of, faulty_of_era}
use Rattle.player.specs.ReadOver.{IsReadWithLayer}
use Rattle.player.specs.Rooms.{IsReady, AreOwn}
use Rattle.player.specs.declared.stepping.Room.{Room}

-- Its room was made for the machine and the script, and so was what receivers share.
pub record IsValidPlayer {Kept : Type 0} (machine : Machine) (layer : Layer Kept) (script : Script)
    (Made : Type 0) (room : Room) (states : Pack) (locks : List (Option ℕ)) (at era : ℕ) : Type 0
  where
    pub sound : IsSound machine
    pub read : IsReadWithLayer machine layer script
    pub ready : IsReady script room
    pub own : AreOwn script (faulty_of_era script era) room.lies.items
    pub made : Made
    pub shape : states.shape ≡ script.shape
    pub size : length states.current ≡ script.nodes
    pub within : at ≤ script.rounds
    pub here : era ≡ era_of script at
    pub eras : length locks ≡ length script.eras + 1

-- a blank of this name and so many parts is that of the ledger, and has some
pub record IsBlankOf (ledger all named of : ℕ) : Type 0 where
  pub name : named ≡ ledger
  pub parts : of ≡ all
  pub some : 0 < of
