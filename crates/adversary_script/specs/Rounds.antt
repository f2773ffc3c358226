-- A round of a script: in which states all nodes start, and what each hears.
use Rattle.std.specs.Prelude.{ℕ, List, map}
use Rattle.std.specs.List.{range_with_len}
use Rattle.sync_types.specs.States.{State}
use Rattle.construction.specs.Runs.{heard_by}
use Rattle.adversary_script.specs.Scripts.{Script}
use Rattle.adversary_script.specs.Eras.{faulty_at}
use Rattle.adversary_script.specs.Lies.{start_of, lie_of}

-- the start of every node
abbrev pub starts : Script → List State
starts script = map (start_of script) (range_with_len 0 script.nodes)

-- what each node tells each other in round t; what correct nodes would tell is not heard
abbrev pub lies_at : Script → (t : ℕ) → List State → List (List State)
lies_at script t config =
    map (λ u. map (λ v. lie_of script t u v config) (range_with_len 0 script.nodes))
    (range_with_len 0 script.nodes)

-- what node v hears in round t
abbrev pub heard_at : Script → (t : ℕ) → List State → (v : ℕ) → List State
heard_at script t config v =
    heard_by script.nodes (faulty_at script t) config (lies_at script t config) v
