-- Worked values: plans with their texts and tables, runs, lines of who holds and of slots, texts
-- with their refusals, cells of nodes, and the words of the command line, letter by letter.
use Rattle.std.specs.Prelude.{◌≡◌, ℕ, List, [], ◌∷◌, ◌++◌, map, Result, Ok, Err, codes}
use Rattle.sync_types.specs.declared.answers.Rule.TheVariants as rule
use Rattle.program_words.specs.declared.asked.Asked.TheVariants as asked
use Rattle.node_words.specs.declared.headers.HeaderRefusal.TheVariants as header
use Rattle.node_words.specs.declared.errors.NodeError.{NodeError}
use Rattle.node_words.specs.declared.errors.NodeError.TheVariants as node
use Rattle.node_words.specs.NodeAnswers.{node_outcome}
use Rattle.node_words.specs.Rules.{header_line}
use Rattle.halving_plan.specs.declared.premises.HalvingPremise.TheVariants as premise
use Rattle.halving_plan.specs.Plans.{HalvingNumbers}
use Rattle.halving_texts.specs.declared.premises.LinePremise.{LinePremise}
use Rattle.halving_texts.specs.declared.premises.LinePremise.TheVariants as line
use Rattle.halving_texts.specs.HalvingPart.{whole_halving_of}
use Rattle.halving_texts.specs.HalvingTexts.{halving_text}
use Rattle.halving_texts.specs.Tables.{table_text}
use Rattle.halving_texts.specs.HalvingWords.{halving_words}
use Rattle.halving_runs.specs.declared.shown.Shown.TheVariants as shown
use Rattle.halving_runs.specs.RunTexts as run
use Rattle.halvinglab.specs.declared.requests.Request.TheVariants as request
use Rattle.halvinglab.specs.declared.requests.Whole.TheVariants as whole
use Rattle.halvinglab.specs.Answers.{answer_of}
use Rattle.halvinglab.specs.Conduct.{asked_of}

-- thirteen nodes, four of which may be faulty, that count modulo 10
abbrev pub thirteen : HalvingNumbers
thirteen = record { nodes = 13; faults = 4; modulus = 10 }

abbrev pub thirteen_text : List ℕ
thirteen_text = codes "halving 1\ngroup 13 4 10\nend\n"

-- what the word `plan` writes of a text
abbrev pub IsAnsweredBy : (text answer : List ℕ) → Type 0
IsAnsweredBy text answer = run.text_of (answer_of whole.Plan text) ≡ answer

-- A plan has this text, which is read as it; comments and empty lines may stand in it. And plans
-- have these tables: of no level of halves, of one and of three.
pub record PlansAreSpelled : Type 0 where
  pub text : halving_text thirteen ≡ thirteen_text
  pub read : whole_halving_of thirteen_text ≡ Ok thirteen
  pub skipped : whole_halving_of (codes "# a plan\nhalving 1\n\ngroup 13 4 10\nend\n") ≡ Ok thirteen
  pub alone : table_text (record { nodes = 1; faults = 0; modulus = 8 })
      ≡ codes "table halving 1\nplan nodes 1 faults 0 modulus 8\n"
      ++ codes "bound 0 levels 0 bits 3 bytes 1\ngroup 0 nodes 1 faults 0 modulus 8\n"
      ++ codes "node 0 bytes 1 output 0 3\nend\n"
  pub table : table_text (record { nodes = 4; faults = 1; modulus = 10 })
      ≡ codes "table halving 1\nplan nodes 4 faults 1 modulus 10\n"
      ++ codes "bound 16 levels 1 bits 13 bytes 2\n"
      ++ codes "group 0 nodes 4 faults 1 modulus 10 share 5 left 3 right 3 kings 1 1 spares 2\n"
      ++ codes "group 0 nodes 1 faults 0 modulus 8\ngroup 1 nodes 1 faults 0 modulus 3\n"
      ++ codes "node 0 bytes 2 output 3 4\nnode 1 bytes 2 output 2 4\n"
      ++ codes "node 2 bytes 2 output 0 4\nnode 3 bytes 2 output 0 4\nend\n"
  pub deep : table_text thirteen
      ≡ codes "table halving 1\nplan nodes 13 faults 4 modulus 10\n"
      ++ codes "bound 50 levels 3 bits 33 bytes 5\n"
      ++ codes "group 0 nodes 13 faults 4 modulus 10 share 11 left 6 right 9 kings 2 3 spares 2\n"
      ++ codes "group 0 nodes 4 faults 1 modulus 17 share 5 left 3 right 3 kings 1 1 spares 2\n"
      ++ codes "group 0 nodes 1 faults 0 modulus 8\ngroup 1 nodes 1 faults 0 modulus 3\n"
      ++ codes "group 4 nodes 7 faults 2 modulus 9 share 8 left 3 right 6 kings 1 2 spares 2\n"
      ++ codes "group 4 nodes 1 faults 0 modulus 11\n"
      ++ codes "group 5 nodes 4 faults 1 modulus 6 share 5 left 3 right 3 kings 1 1 spares 2\n"
      ++ codes "group 5 nodes 1 faults 0 modulus 8\ngroup 6 nodes 1 faults 0 modulus 3\n"
      ++ codes "node 0 bytes 4 output 3 4\nnode 1 bytes 3 output 2 4\n"
      ++ codes "node 2 bytes 3 output 0 4\nnode 3 bytes 3 output 0 4\n"
      ++ codes "node 4 bytes 4 output 4 4\nnode 5 bytes 5 output 3 4\n"
      ++ codes "node 6 bytes 4 output 2 4\nnode 7 bytes 4 output 0 4\n"
      ++ codes "node 8 bytes 4 output 0 4\nnode 9 bytes 3 output 0 4\n"
      ++ codes "node 10 bytes 3 output 0 4\nnode 11 bytes 2 output 0 4\n"
      ++ codes "node 12 bytes 2 output 0 4\nend\n"

-- what the words `run` and `slots` write of a text
abbrev pub IsRunAs : (text answer : List ℕ) → Type 0
IsRunAs text answer = run.text_of (run.run_of shown.Rows text) ≡ answer

abbrev pub IsHeldAs : (text answer : List ℕ) → Type 0
IsHeldAs text answer = run.text_of (run.run_of shown.Holds text) ≡ answer

-- The runs of a node alone: also with eras, a comment, an empty line and starts; the first
-- configurations of four nodes, one of them faulty, that are not locked, and that are; and a script
-- and a plan that are refused, with skipped lines counted, no script, and a line after one.
pub record RunsAreSpelled : Type 0 where
  pub single : IsRunAs
      (codes "halving 1\ngroup 1 0 3\nend\nscript 1\nfaulty\nstart zero\nrounds 4\nshow 1 4\nend\n")
      (codes "bound 0\nrow 1 1\nrow 2 2\nrow 3 0\nrow 4 1\nlocked 0\n")
  pub script : IsRunAs (codes "halving 1\ngroup 1 0 3\nend\nscript 1\nfaulty 0\n")
      (codes "refused script line 5 rule faults\n")
  pub plan : IsRunAs (codes "halving 1\ngroup 3 1 10\nend\nscript 1\nfaulty 0\n")
      (codes "refused halving line 2 premise quorum\n")
  pub eras : IsRunAs
      (codes "halving 1\n# one\ngroup 1 0 3\nend\nscript 2\nfaulty\nstart zero\nstart node 0 80\n"
      ++ codes "era 2 faulty\nstart node 0 40\nera 4 faulty\n\nrounds 5\nshow 0 5\nend\n")
      (codes "bound 0\nrow 0 2\nrow 1 0\nrow 2 1\nrow 3 2\nrow 4 0\nrow 5 1\n"
      ++ codes "era 0 locked 0\nera 2 locked 2\nera 4 locked 4\n")
  pub unlocked : IsRunAs
      (codes "halving 1\ngroup 4 1 10\nend\nscript 1\nfaulty 3\nstart zero\n"
      ++ codes "rounds 0\nshow 0 0\nend\n")
      (codes "bound 16\nrow 0 0 0 0 *\nlocked none\n")
  pub locked : IsRunAs
      (codes "halving 1\ngroup 4 1 10\nend\nscript 1\nfaulty 3\nstart zero\n"
      ++ codes "start node 0 0900\nstart node 1 1200\nstart node 2 4800\n"
      ++ codes "rounds 0\nshow 0 0\nend\n")
      (codes "bound 16\nrow 0 4 4 4 *\nlocked 0\n")
  pub counted : IsRunAs
      (codes "# a\nhalving 1\ngroup 1 0 3\n\nend\n# b\nscript 1\n\nfaulty 0\n")
      (codes "refused script line 9 rule faults\n")
  pub lacking : IsRunAs (codes "halving 1\ngroup 1 0 3\nend\n")
      (codes "refused script line 4 rule form\n")
  pub more : IsRunAs
      (codes "halving 1\ngroup 1 0 3\nend\nscript 1\nfaulty\nstart zero\n"
      ++ codes "rounds 0\nshow 0 0\nend\nmore\n")
      (codes "refused script line 10 rule form\n")

-- The lines of who holds: of a node alone, whose table gives it two of its three outputs, with
-- skipped lines; of four nodes, one of them faulty, of which two hold when they are not locked, and
-- one when they are; of a table without a line; and a table that is refused by each of its rules, a
-- script after one, and no table.
pub record SlotsAreSpelled : Type 0 where
  pub single : IsHeldAs
      (codes "halving 1\ngroup 1 0 3\nend\n# who\nslots 1\nslot 0 1 2\n\nend\nscript 1\nfaulty\n"
      ++ codes "start zero\nrounds 4\nshow 1 4\nend\n")
      (codes "bound 0\nhold 1 1\nhold 2 1\nhold 3 .\nhold 4 1\nlocked 0\n")
  pub unlocked : IsHeldAs
      (codes "halving 1\ngroup 4 1 10\nend\nslots 1\nslot 0 0 0\nslot 1 4 4\nend\nscript 1\n"
      ++ codes "faulty 3\nstart zero\nstart node 1 1200\nrounds 0\nshow 0 0\nend\n")
      (codes "bound 16\nhold 0 1 1 . *\nlocked none\n")
  pub locked : IsHeldAs
      (codes "halving 1\ngroup 4 1 10\nend\nslots 1\nslot 3 0 3\nslot 1 4 9\nend\nscript 1\n"
      ++ codes "faulty 3\nstart zero\nstart node 0 0900\nstart node 1 1200\n"
      ++ codes "start node 2 4800\nrounds 0\nshow 0 0\nend\n")
      (codes "bound 16\nhold 0 . 1 . *\nlocked 0\n")
  pub empty : IsHeldAs
      (codes "halving 1\ngroup 1 0 3\nend\nslots 1\nend\nscript 1\nfaulty\nstart zero\n"
      ++ codes "rounds 0\nshow 0 0\nend\n")
      (codes "bound 0\nhold 0 .\nlocked 0\n")
  pub form : IsHeldAs (codes "halving 1\ngroup 4 1 10\nend\nslots 1\nslot 0 01 2\n")
      (codes "refused slots line 5 rule form\n")
  pub node : IsHeldAs (codes "halving 1\ngroup 4 1 10\nend\nslots 1\nslot 4 1 2\n")
      (codes "refused slots line 5 rule node\n")
  pub range : IsHeldAs (codes "halving 1\ngroup 4 1 10\nend\nslots 1\nslot 3 9 10\n")
      (codes "refused slots line 5 rule range\n")
  pub overlap : IsHeldAs
      (codes "halving 1\ngroup 4 1 10\nend\nslots 1\n#\nslot 3 5 9\nslot 1 2 5\nend\n")
      (codes "refused slots line 7 rule overlap\n")
  pub script : IsHeldAs
      (codes "halving 1\ngroup 1 0 3\nend\nslots 1\nslot 0 0 0\nend\nscript 1\nfaulty 0\n")
      (codes "refused script line 8 rule faults\n")
  pub plan : IsHeldAs (codes "halving 1\ngroup 3 1 10\nend\nslots 1\n")
      (codes "refused halving line 2 premise quorum\n")
  pub lacking : IsHeldAs (codes "halving 1\ngroup 1 0 3\nend\nscript 1\n")
      (codes "refused slots line 4 rule form\n")

-- what the words `consensus`, `fire` and `log` write of a text
abbrev pub IsDecidedAs : (text answer : List ℕ) → Type 0
IsDecidedAs text answer = run.text_of (run.run_of shown.Decisions text) ≡ answer

abbrev pub IsFiredAs : (text answer : List ℕ) → Type 0
IsFiredAs text answer = run.text_of (run.run_of shown.Fires text) ≡ answer

abbrev pub IsLoggedAs : (text answer : List ℕ) → Type 0
IsLoggedAs text answer = run.text_of (run.run_of shown.Entries text) ≡ answer

-- The lines of slots of a node alone, with skipped lines: it decides its own input, fires if it
-- requested in the round before the slot, and puts its commands into its log in turn. Four nodes
-- that are not at the bound have no line. And parts that are refused: by each rule, a script after
-- one, and no part.
pub record LayersAreSpelled : Type 0 where
  pub decided : IsDecidedAs
      (codes "halving 1\ngroup 1 0 3\nend\n# on what\nagree 1\nvalues 4\ninputs 2\n\nend\n"
      ++ codes "script 1\nfaulty\nstart zero\nrounds 9\nshow 0 9\nend\n")
      (codes "bound 0\nslot 3 2\nslot 6 2\nlocked 0\n")
  pub fired : IsFiredAs
      (codes "halving 1\ngroup 1 0 3\nend\nfire 1\nrequest 0 2 2\nend\nscript 1\nfaulty\n"
      ++ codes "start zero\nrounds 9\nshow 0 9\nend\n")
      (codes "bound 0\nfire 3 1\nfire 6 .\nlocked 0\n")
  pub logged : IsLoggedAs
      (codes "halving 1\ngroup 1 0 8\nend\nlog 1\nvalues 3\nkeep 1\ncommands 0 1 2\nend\n"
      ++ codes "script 1\nfaulty\nstart zero\nrounds 12\nshow 0 12\nend\n")
      (codes "bound 0\nentry 4 owner 0 2\nentry 8 owner 0 1\nlocked 0\n")
  pub early : IsDecidedAs
      (codes "halving 1\ngroup 4 1 6\nend\nagree 1\nvalues 2\ninputs 1 0 1 0\nend\nscript 1\n"
      ++ codes "faulty 3\nstart zero\nrounds 0\nshow 0 0\nend\n")
      (codes "bound 16\nlocked none\n")
  pub form : IsDecidedAs (codes "halving 1\ngroup 1 0 3\nend\nagree 1\nvalues 02\n")
      (codes "refused agree line 5 rule form\n")
  pub limit : IsDecidedAs (codes "halving 1\ngroup 1 0 3\nend\nagree 1\nvalues 65537\n")
      (codes "refused agree line 5 rule limit\n")
  pub range : IsDecidedAs (codes "halving 1\ngroup 1 0 3\nend\nagree 1\nvalues 2\ninputs 2\n")
      (codes "refused agree line 6 rule range\n")
  pub slot : IsDecidedAs (codes "halving 1\ngroup 1 0 4\nend\nagree 1\n")
      (codes "refused agree line 4 rule slot\n")
  pub node : IsFiredAs (codes "halving 1\ngroup 1 0 3\nend\nfire 1\nrequest 1 0 0\n")
      (codes "refused fire line 5 rule node\n")
  pub turn : IsLoggedAs (codes "halving 1\ngroup 1 0 6\nend\nlog 1\n")
      (codes "refused log line 4 rule slot\n")
  pub script : IsDecidedAs
      (codes "halving 1\ngroup 1 0 3\nend\nagree 1\nvalues 2\ninputs 0\nend\nscript 1\n"
      ++ codes "faulty 0\n")
      (codes "refused script line 9 rule faults\n")
  pub plan : IsDecidedAs (codes "halving 1\ngroup 3 1 10\nend\nagree 1\n")
      (codes "refused halving line 2 premise quorum\n")
  pub lacking : IsDecidedAs (codes "halving 1\ngroup 1 0 3\nend\nscript 1\n")
      (codes "refused agree line 4 rule form\n")

-- The lines of slots of four nodes, with skipped lines. Node 3 is faulty, and lies; the others are
-- locked at first. They decide their common input; they fire, as they requested in the round before
-- the slot, and then they do not; and they put what node 2 commands, and then one value of node 3.
pub record FourNodesAreSpelled : Type 0 where
  pub decided : IsDecidedAs
      (codes "halving 1\ngroup 4 1 6\nend\n# on what\nagree 1\nvalues 3\n\ninputs 2 2 2 0\nend\n"
      ++ codes "script 1\nfaulty 3\nstart zero\nstart node 0 0200\nstart node 1 0400\n"
      ++ codes "start node 2 1000\nlie 0 23 3 to 0 1 copy 0\nlie 0 23 3 to all shift 2\n"
      ++ codes "rounds 24\nshow 18 18\nend\n")
      (codes "bound 16\nslot 18 2 2 2 *\nlocked 0\n")
  pub fired : IsFiredAs
      (codes "halving 1\ngroup 4 1 6\nend\n# when\nfire 1\nrequest 0 17 17\nrequest 1 16 17\n\n"
      ++ codes "request 2 17 19\nend\nscript 1\nfaulty 3\nstart zero\nstart node 0 0200\n"
      ++ codes "start node 1 0400\nstart node 2 1000\nlie 0 29 3 to 0 1 copy 0\n"
      ++ codes "lie 0 29 3 to all shift 2\nrounds 30\nshow 18 24\nend\n")
      (codes "bound 16\nfire 18 1 1 1 *\nfire 24 . . . *\nlocked 0\n")
  pub logged : IsLoggedAs
      (codes "halving 1\ngroup 4 1 28\nend\n# what\nlog 1\nvalues 3\nkeep 2\ncommands 0 1\n"
      ++ codes "commands 1 1\n\ncommands 2 2\ncommands 3 1 0\nend\nscript 1\nfaulty 3\n"
      ++ codes "start zero\nstart node 0 158000\nstart node 1 2b0000\n"
      ++ codes "start node 2 ac0000\nlie 0 34 3 to 0 1 copy 0\nlie 0 34 3 to all shift 2\n"
      ++ codes "rounds 35\nshow 21 28\nend\n")
      (codes "bound 16\nentry 21 owner 2 2 2 2 *\nentry 28 owner 3 1 1 1 *\nlocked 0\n")

-- The first line of a plan that fails, by its number and its premise, each premise; the first line
-- of a plan of version 1.0; and a line of the node part of a header.
pub record LinesAreRefused : Type 0 where
  pub form : IsAnsweredBy (codes "halving 1\n#\n\ngroup 04 1 10\nend\n")
      (codes "refused halving line 4 premise form\n")
  pub older : IsAnsweredBy (codes "pulses 1\ngroup 4 1 10\nend\n")
      (codes "refused halving line 1 premise form\n")
  pub limit : IsAnsweredBy (codes "halving 1\ngroup 257 0 10\nend\n")
      (codes "refused halving line 2 premise limit\n")
  pub modulus : IsAnsweredBy (codes "halving 1\ngroup 4 1 1\nend\n")
      (codes "refused halving line 2 premise modulus\n")
  pub quorum : IsAnsweredBy (codes "halving 1\ngroup 3 1 10\nend\n")
      (codes "refused halving line 2 premise quorum\n")
  pub single : IsAnsweredBy (codes "halving 1\ngroup 2 0 10\nend\n")
      (codes "refused halving line 2 premise single\n")
  pub node : header_line halving_words (header.Node 6 rule.Limit)
      ≡ codes "refused node line 6 rule limit\n"

-- The header of a node alone, in state 5 of 8, and that of node 1 of four, in the state of zeros.
abbrev pub fifth : List ℕ
fifth = codes "halving 1\ngroup 1 0 8\nend\nnode 1\nid 0\nstate a0\nend\n"

abbrev pub second : List ℕ
second = codes "halving 1\ngroup 4 1 10\nend\nnode 1\nid 1\nstate 0000\nend\n"

-- a cell of two bytes of zeros
abbrev pub zeros : List ℕ
zeros = 0 ∷ 2 ∷ 0 ∷ 0 ∷ []

-- how a node ends on an input, and what it writes
abbrev pub IsServedAs : (input : List ℕ) → Result ℕ (NodeError LinePremise) → (text : List ℕ)
    → Type 0
IsServedAs input ended text =
    node_outcome halving_words input ≡ record { ended = ended; text = text }

-- The cells of a node: at its start and after each packet, whatever it hears of itself; that after
-- one in which all nodes have the state of zeros; also if the input ends inside a packet; and lines
-- of a header that fail.
pub record NodesAreServed : Type 0 where
  pub alone : IsServedAs (fifth ++ 0 ∷ 1 ∷ 255 ∷ 0 ∷ 0 ∷ []) (Ok 2)
      (0 ∷ 1 ∷ 160 ∷ 0 ∷ 1 ∷ 192 ∷ 0 ∷ 1 ∷ 224 ∷ [])
  pub packet : IsServedAs (second ++ (zeros ++ (zeros ++ (zeros ++ zeros)))) (Ok 1)
      (zeros ++ 0 ∷ 2 ∷ 68 ∷ 0 ∷ [])
  pub cut : IsServedAs (second ++ (zeros ++ 0 ∷ 2 ∷ [])) (Err (node.Cut 0 1)) zeros
  pub state : IsServedAs
      (codes "halving 1\ngroup 4 1 10\nend\nnode 1\nid 1\nstate 000\nend\n")
      (Err (node.Refused (header.Node 6 rule.Hex))) (codes "refused node line 6 rule hex\n")
  pub plan : IsServedAs (codes "halving 1\ngroup 3 1 10\n")
      (Err (node.Refused (header.Plan 2 (line.Plan premise.Quorum))))
      (codes "refused halving line 2 premise quorum\n")

-- Each word asks for what it says, and nothing else asks for anything.
pub record WordsAskFor : Type 0 where
  pub single : map (λ w. asked_of (w ∷ []))
      (codes "plan" ∷ codes "run" ∷ codes "slots" ∷ codes "consensus" ∷ codes "fire" ∷ codes "log"
      ∷ codes "node" ∷ codes "--help" ∷ codes "--version" ∷ codes "plan " ∷ [])
      ≡ asked.Request (request.Whole whole.Plan)
      ∷ asked.Request (request.Whole (whole.Play shown.Rows))
      ∷ asked.Request (request.Whole (whole.Play shown.Holds))
      ∷ asked.Request (request.Whole (whole.Play shown.Decisions))
      ∷ asked.Request (request.Whole (whole.Play shown.Fires))
      ∷ asked.Request (request.Whole (whole.Play shown.Entries)) ∷ asked.Request request.Node
      ∷ asked.Help ∷ asked.Version ∷ asked.Nothing ∷ []
  pub two : asked_of (codes "plan" ∷ codes "node" ∷ []) ≡ asked.Nothing
  pub none : asked_of [] ≡ asked.Nothing

-- Each of these is so by computation.
pub record WorkedValues : Type 0 where
  pub plans : PlansAreSpelled
  pub runs : RunsAreSpelled
  pub slots : SlotsAreSpelled
  pub layers : LayersAreSpelled
  pub fours : FourNodesAreSpelled
  pub nodes : NodesAreServed
  pub refused : LinesAreRefused
  pub words : WordsAskFor
