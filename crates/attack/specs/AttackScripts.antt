-- The script that the text of an attack says.
use Rattle.std.specs.Prelude.{ℕ, List, [], ◌++◌, map, replicate}
use Rattle.std.specs.Int.{w64, to_be_bytes}
use Rattle.sync_types.specs.States.{State}
use Rattle.state_codec.specs.Shapes.{Fields, Shape, shape_nodes, fields_at, bytes_in}
use Rattle.state_codec.specs.Reading.{read}
use Rattle.adversary_script.specs.declared.lies.CommonStart.TheVariants as common
use Rattle.adversary_script.specs.declared.lies.Who.TheVariants as who
use Rattle.adversary_script.specs.declared.lies.What.{What}
use Rattle.adversary_script.specs.declared.lies.What.TheVariants as what
use Rattle.adversary_script.specs.declared.lies.Lie.{Lie}
use Rattle.adversary_script.specs.declared.lies.Start.{Start}
use Rattle.adversary_script.specs.Scripts.{Script}
use Rattle.attack.specs.declared.candidates.Say.{Say}
use Rattle.attack.specs.declared.candidates.Say.TheVariants as say
use Rattle.attack.specs.declared.candidates.StartLine.{StartLine}
use Rattle.attack.specs.declared.candidates.LieLine.{LieLine}
use Rattle.attack.specs.Attacks.{Attack}
use Rattle.attack.specs.AttackTexts.{drawn_bytes}

-- the state with these fields that is read from bytes of a lot
abbrev pub drawn_state : Fields → (seed : ℕ) → State
drawn_state fields seed = read fields (drawn_bytes seed (bytes_in fields))

-- the 32 bytes of a key: 8 of its number, the highest first, and zeros
abbrev pub key_bytes : (key : ℕ) → List ℕ
key_bytes key = to_be_bytes w64 key ++ replicate 24 0

-- what a sender with these fields says
abbrev pub what_said : Fields → Say → What
what_said fields say.Noise = what.Noise
what_said fields (say.Copy node) = what.Copy node
what_said fields (say.Drawn seed) = what.State (drawn_state fields seed)
what_said fields (say.Shift by) = what.Shift by

-- for states of a shape
module _ (shape : Shape) where
  abbrev pub start_said : StartLine → Start
  start_said start = record {
    node = start.node;
    state = drawn_state (fields_at shape start.node) start.seed;
  }

  abbrev pub lie_said : LieLine → Lie
  lie_said lie = record {
    first = lie.first;
    last = lie.last;
    sender = lie.sender;
    who = who.Ids lie.from lie.to;
    what = what_said (fields_at shape lie.sender) lie.says;
  }

  -- one era, and each start and each lie of the attack, in their order
  abbrev pub attack_script : Attack → Script
  attack_script attack = record {
    version = 1;
    nodes = shape_nodes shape;
    shape = shape;
    faulty = attack.faulty;
    key = key_bytes attack.key;
    common = common.Noise;
    starts = map start_said attack.starts;
    eras = [];
    groups = [];
    lies = map lie_said attack.lies;
    rounds = attack.rounds;
    first = attack.first;
    last = attack.last;
  }
