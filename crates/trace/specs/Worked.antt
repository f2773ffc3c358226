-- Worked values: traces on a plan of either construction, letter by letter.
use Rattle.std.specs.Prelude.{◌≡◌, ℕ, List, [], ◌∷◌, Ok, codes}
use Rattle.std.specs.List.{concat}
use Rattle.state_codec.specs.Shapes.{Shape}
use Rattle.trace.specs.Answers.{boosting_trace, halving_trace, trace_of}
use Rattle.trace.specs.WorkedScripts.{boosting_plan, boosting_script, halving_plan, halving_script}
use Rattle.trace.specs.WorkedScripts.{twelve_plan, twelve_script, seven_plan, seven_script}

abbrev pub boosting_text : List ℕ
boosting_text = concat (
    codes "at 0 node 0 number 10 output 3\n"
    ∷ codes "at 0 node 0 level 1 value 3 locked votes 1 0 1 lead 1 position 3 keep king 1"
    ∷ codes " same 3 least 3\n"
    ∷ codes "at 0 node 1 faulty number 13 output 0\n"
    ∷ codes "at 0 node 1 faulty level 1 value none unmarked votes 1 0 1 lead 1 position 4 mark"
    ∷ codes " king 1 same 1 least 3\n"
    ∷ codes "at 0 node 2 number 146 output 3\n"
    ∷ codes "at 0 node 2 level 1 value 3 locked votes 1 0 1 lead 1 position 4 mark king 1"
    ∷ codes " same 3 least 3\n"
    ∷ codes "at 0 node 3 number none output 3\n"
    ∷ codes "at 0 node 3 level 1 value 3 locked votes 1 0 1 lead 1 position 4 mark king 1"
    ∷ codes " same 3 least 3\n"
    ∷ codes "at 1 node 0 number 11 output 4\n"
    ∷ codes "at 1 node 0 level 1 value 4 marked votes 1 0 1 lead 1 position 5 king king 1"
    ∷ codes " same 3 least 4\n"
    ∷ codes "at 1 node 1 number 14 output 4\n"
    ∷ codes "at 1 node 1 level 1 value 4 unmarked votes 1 0 1 lead 1 position 5 king king 1"
    ∷ codes " same 3 least 4\n"
    ∷ codes "at 1 node 2 faulty number 0 output 4\n"
    ∷ codes "at 1 node 2 faulty level 1 value 4 marked votes 1 0 0 lead 0 position 2 king king 0"
    ∷ codes " same 4 least 4\n"
    ∷ codes "at 1 node 3 number none output 4\n"
    ∷ codes "at 1 node 3 level 1 value 4 marked votes 1 0 0 lead 0 position 2 king king 0"
    ∷ codes " same 4 least 4\n"
    ∷ codes "at 2 node 0 number 12 output 5\nat 2 node 0 level 1 value 5 locked\n"
    ∷ codes "at 2 node 1 number 15 output 5\nat 2 node 1 level 1 value 5 locked\n"
    ∷ codes "at 2 node 2 faulty number 1 output 5\nat 2 node 2 faulty level 1 value 5 locked\n"
    ∷ codes "at 2 node 3 number none output 5\nat 2 node 3 level 1 value 5 locked\n" ∷ [])

abbrev pub halving_trace_text : List ℕ
halving_trace_text = concat (
    codes "at 0 node 0 faulty number 5 output 7\n"
    ∷ codes "at 0 node 0 faulty whole 0 3 value 7 unmarked sound seen 2 untrusted share right"
    ∷ codes " saw 1 unbacked follows right instruction 2 king king 1 same 1 least 4\n"
    ∷ codes "at 0 node 1 number 2 output 4\n"
    ∷ codes "at 0 node 1 whole 0 3 value 4 locked sound seen 6 trusted share left saw 3 backed"
    ∷ codes " follows left instruction 1 mark king 0 same 3 least 4\n"
    ∷ codes "at 0 node 2 number none output 4\n"
    ∷ codes "at 0 node 2 whole 0 3 value 4 locked sound seen 6 trusted share left saw 2"
    ∷ codes " unbacked follows right instruction 2 king king 1 same 3 least 4\n"
    ∷ codes "at 0 node 3 number none output 4\n"
    ∷ codes "at 0 node 3 whole 0 3 value 4 locked sound seen 4 trusted share right saw 1"
    ∷ codes " unbacked follows right instruction 2 king king 1 same 3 least 4\n"
    ∷ codes "at 1 node 0 number 0 output 0\n"
    ∷ codes "at 1 node 0 whole 0 3 value none unmarked sound seen 7 trusted share left saw 2"
    ∷ codes " unbacked follows right instruction 0 keep king 1 same 2 least 5\n"
    ∷ codes "at 1 node 1 number 0 output 5\n"
    ∷ codes "at 1 node 1 whole 0 3 value 5 marked sound seen 0 untrusted share right saw 1"
    ∷ codes " unbacked follows right instruction 0 keep king 1 same 3 least 5\n"
    ∷ codes "at 1 node 2 number none output 5\n"
    ∷ codes "at 1 node 2 whole 0 3 value 5 marked sound seen 5 untrusted share left saw 2"
    ∷ codes " unbacked follows right instruction 0 keep king 1 same 3 least 5\n"
    ∷ codes "at 1 node 3 faulty number none output 5\n"
    ∷ codes "at 1 node 3 faulty whole 0 3 value 5 marked sound seen 5 untrusted share left saw"
    ∷ codes " 2 unbacked follows right instruction 0 keep king 1 same 3 least 5\n"
    ∷ codes "at 2 node 0 number 1 output 0\n"
    ∷ codes "at 2 node 0 whole 0 3 value none unmarked sound seen 0 untrusted share right\n"
    ∷ codes "at 2 node 1 number 1 output 6\n"
    ∷ codes "at 2 node 1 whole 0 3 value 6 marked sound seen 0 untrusted share right\n"
    ∷ codes "at 2 node 2 number none output 6\n"
    ∷ codes "at 2 node 2 whole 0 3 value 6 marked sound seen 0 untrusted share right\n"
    ∷ codes "at 2 node 3 faulty number none output 6\n"
    ∷ codes "at 2 node 3 faulty whole 0 3 value 6 marked sound seen 0 untrusted share right\n" ∷ [])

-- of a node of twelve, in a block and in the whole
abbrev pub twelve_text : List ℕ
twelve_text = concat (
    codes "at 0 node 5 number 40 output 3\n"
    ∷ codes "at 0 node 5 level 1 value 65 locked votes 1 1 1 0 lead 1 position 4 mark king 5"
    ∷ codes " same 3 least 65\n"
    ∷ codes "at 0 node 5 level 2 value 3 marked votes 1 1 0 lead 1 position 5 king king 1"
    ∷ codes " same 6 least 0\n" ∷ [])

-- of a node of seven, in the whole and in a half
abbrev pub seven_text : List ℕ
seven_text = concat (
    codes "at 0 node 3 number none output 5\n"
    ∷ codes "at 0 node 3 whole 0 6 value 5 marked sound seen 9 trusted share left saw 5 backed"
    ∷ codes " follows left instruction 1 mark king 0 same 5 least 5\n"
    ∷ codes "at 0 node 3 right 1 4 value 2 locked unsound seen 3 trusted share right saw 4"
    ∷ codes " backed follows right instruction 0 keep king 2 same 4 least 2\n" ∷ [])

-- the trace of configuration 1 and of the nodes that are named
abbrev pub IsTracedAt1 : (nodes : List (List ℕ)) → (input text : List ℕ) → Type 0
IsTracedAt1 nodes input text = trace_of (record { first = 1; last = 1 }) nodes input ≡ Ok text

-- With two eras, the traces of configurations 0 to 2 and of all nodes. In groups within groups, of
-- configuration 0 and of one node. And of inputs, those of configuration 1: of two nodes that start
-- in zeros and are named, and of one node alone.
pub record TracesAreSpelled : Type 0 where
  pub boosting : (shape : Shape) → boosting_trace (record { first = 0; last = 2 }) []
      (record { plan = boosting_plan; script = boosting_script shape }) ≡ Ok boosting_text
  pub halving : (shape : Shape) → halving_trace (record { first = 0; last = 2 }) []
      (record { plan = halving_plan; script = halving_script shape }) ≡ Ok halving_trace_text
  pub twelve : boosting_trace (record { first = 0; last = 0 }) (codes "5" ∷ [])
      (record { plan = twelve_plan; script = twelve_script }) ≡ Ok twelve_text
  pub seven : halving_trace (record { first = 0; last = 0 }) (codes "3" ∷ [])
      (record { plan = seven_plan; script = seven_script }) ≡ Ok seven_text
  pub named : IsTracedAt1 (codes "3" ∷ codes "0" ∷ [])
      (concat (codes "plan 2\nbase 576\nlevel 3 1 10 spare 1\nend\n"
      ∷ codes "script 1\nfaulty\nstart zero\nrounds 1\nshow 0 1\nend\n" ∷ []))
      (concat (codes "at 1 node 0 number 1 output 1\nat 1 node 0 level 1 value 1 unmarked\n"
      ∷ codes "at 1 node 3 number none output 1\nat 1 node 3 level 1 value 1 unmarked\n" ∷ []))
  pub alone : IsTracedAt1 []
      (codes "halving 1\ngroup 1 0 3\nend\nscript 1\nfaulty\nstart zero\nrounds 1\nshow 0 1\nend\n")
      (codes "at 1 node 0 number 1 output 1\n")
