-- Worked values: the texts of small sweeps, letter by letter.
use Rattle.std.specs.Prelude.{◌≡◌, ℕ, zero, suc, List, [], ◌∷◌, ◌++◌, map, replicate, true, ◌==◌}
use Rattle.std.specs.Prelude.{slice_index, if◌then◌else◌, Some, None, Ok, Err, codes}
use Rattle.sync_types.specs.States.{zero_register}
use Rattle.construction.specs.Plans.{Plan}
use Rattle.machines.specs.Machines.{Machine}
use Rattle.adversary_script.specs.Scripts.{Script, empty_script}
use Rattle.halving_plan.specs.Laws.{machine_in}
use Rattle.sweep.specs.Keys.{key_of}
use Rattle.sweep.specs.Sweeps.{Locks, on_plan, on_machine}
use Rattle.sweep.specs.SweepTexts.{sweep_text}
use Rattle.sweep.specs.Inputs.{sweep_of}
use Rattle.sweep.specs.declared.reasons.SweepReason.TheVariants as reason

-- a script of two eras, of configurations 0 to 2 and 3 to 4
abbrev pub two_eras : Script
two_eras = record (empty_script 1 (record { depth = 0; fields = [] })) {
  eras = record { first = 3; faulty = []; starts = [] } ∷ [];
  rounds = 4;
}

-- Runs that are made up: that of number 6 first locks with configuration 3, and all others with the
-- last one of each era.
abbrev pub made_up : Locks
made_up script zero = if slice_index script.key 7 == 6 then None else Some 2
made_up script (suc j) = if slice_index script.key 7 == 6 then Some 3 else Some 4

-- Four nodes, of which node 3 is faulty. They start with zeros, and the last configuration is an
-- era of its own, which puts the others into states whose first register is marked.
abbrev pub put_at_last : Script
put_at_last = record (empty_script 4 (record { depth = 2; fields = [] })) {
  faulty = 3 ∷ [];
  eras = record {
    first = 1;
    faulty = 3 ∷ [];
    starts = map (λ v. record {
      node = v;
      state = record {
        x = 0;
        registers = record { a = Some 4; d = true } ∷ replicate 1 zero_register;
      };
    }) (0 ∷ 1 ∷ 2 ∷ []);
  } ∷ [];
  rounds = 1;
}

-- four nodes that count modulo 10, of a plan with one level of three blocks, and of a halving plan
abbrev pub four : Plan
four = record {
  version = 2;
  base = 576;
  levels = record { blocks = 3; faults = 1; modulus = 10; spares = 1 } ∷ [];
}

abbrev pub four_halving : Machine
four_halving = machine_in (record { nodes = 4; faults = 1; modulus = 10 })

-- what an input of one node that starts in noise, in two eras, has behind its plan
abbrev pub one_node : List ℕ
one_node = codes "script 2\nfaulty\nstart noise\nera 2 faulty\nrounds 3\nshow 0 3\nend\n"

-- and its sweep, of numbers 5 to 7
abbrev pub at_once : List ℕ
at_once = codes "bound 0\nera 0 locked 0 runs 3 seed 5\nera 2 locked 2 runs 3 seed 5\n"

-- The key of a number. Texts of sweeps of two eras: of runs that are made up, each kind of line; of
-- four nodes of either construction, an era that does not lock, and one that does with the last
-- configuration; of inputs with one node, which is always locked. And a script that says no noise
-- has none.
pub record SweepsAreSpelled : Type 0 where
  pub key : key_of 258 ≡ replicate 6 0 ++ 1 ∷ 2 ∷ replicate 24 0
  pub lines : sweep_text (record { bound = 16; locks = made_up; script = two_eras })
      (5 ∷ 6 ∷ 7 ∷ [])
      ≡ codes "bound 16\nera 0 locked 2 runs 2 seed 5\nera 0 locked none runs 1 seed 6\n"
      ++ codes "era 3 locked 3 runs 1 seed 6\nera 3 locked 4 runs 2 seed 5\n"
  pub plan : sweep_text (on_plan four put_at_last) (8 ∷ 9 ∷ [])
      ≡ codes "bound 576\nera 0 locked none runs 2 seed 8\nera 1 locked 1 runs 2 seed 8\n"
  pub halving : sweep_text (on_machine four_halving put_at_last) (8 ∷ 9 ∷ [])
      ≡ codes "bound 16\nera 0 locked none runs 2 seed 8\nera 1 locked 1 runs 2 seed 8\n"
  pub single : sweep_of (record { first = 5; count = 3 })
      (codes "plan 1\nbase 3\nend\n" ++ one_node) ≡ Ok at_once
  pub single_halving : sweep_of (record { first = 5; count = 3 })
      (codes "halving 1\ngroup 1 0 3\nend\n" ++ one_node) ≡ Ok at_once
  pub silent : sweep_of (record { first = 5; count = 3 })
      (codes "plan 1\nbase 3\nend\nscript 1\nfaulty\nstart zero\nrounds 3\nshow 0 3\nend\n")
      ≡ Err reason.NoNoise
