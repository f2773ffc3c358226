-- The columns of an era: what each node is given in its rounds, by packets, and its states.
use Rattle.std.specs.Prelude.{◌≡◌, ℕ, ◌-◌, ◌<◌, ◌≤◌, List, length, map}
use Rattle.std.specs.List.{flat_map, range_with_len}
use Rattle.sync_types.specs.States.{State}
use Rattle.construction.specs.Plans.{Plan, plan_nodes}
use Rattle.construction.specs.Steps.{state_of}
use Rattle.state_codec.specs.Writing.{written}
use Rattle.adversary_script.specs.Scripts.{Script}
use Rattle.adversary_script.specs.Eras.{first_of_era, end_of_era}
use Rattle.round_runner.specs.Laws.{IsReadFor}
use Rattle.round_runner.specs.Played.{played_at, heard_at}
use Rattle.node_stepper.specs.Packets.{packets_of, whole, most_packets}
use Rattle.plan_machine.specs.PlanNodes.{fields_of, state_cell, node_text}
use Rattle.node_stepper.specs.Laws.{packet_text}

module _ (plan : Plan) (script : Script) (v : ℕ) where
  -- the packet of node v in round t: a cell of each node, with what v hears of it
  abbrev pub round_packet : (t : ℕ) → List (List ℕ)
  round_packet t =
      map (λ u. written (fields_of plan u)
      (state_of (heard_at script t (played_at plan script t) v) u))
      (range_with_len 0 (plan_nodes plan))

  -- the packets of era j, one for each of its rounds
  abbrev pub era_packets : (j : ℕ) → List (List (List ℕ))
  era_packets j =
      map round_packet
      (range_with_len (first_of_era script j) (end_of_era script j - 1 - first_of_era script j))

  -- the column of node v in era j: its state in each configuration
  abbrev pub column : (j : ℕ) → List State
  column j =
      map (λ t. state_of (played_at plan script t) v)
      (range_with_len (first_of_era script j) (end_of_era script j - first_of_era script j))

-- A node that begins as the era does, and is given the era's packets, writes its column.
abbrev pub NodesMakeColumns : Type 0
NodesMakeColumns = (plan : Plan) (script : Script) → IsReadFor plan script
    → (j : ℕ) → j ≤ length script.eras → (v : ℕ) → v < plan_nodes plan
    → node_text plan v (state_of (played_at plan script (first_of_era script j)) v)
    (era_packets plan script v j)
    ≡ flat_map (state_cell plan v) (column plan script v j)

-- The bytes of the era's packets are read as these packets, each whole.
abbrev pub EraPacketsAreRead : Type 0
EraPacketsAreRead = (plan : Plan) (script : Script) → IsReadFor plan script
    → (j : ℕ) → j ≤ length script.eras → (v : ℕ) → v < plan_nodes plan
    → packets_of (plan_nodes plan) most_packets 0
    (flat_map packet_text (era_packets plan script v j))
    ≡ record {
      cells = era_packets plan script v j;
      ending = whole (end_of_era script j - 1 - first_of_era script j);
    }
