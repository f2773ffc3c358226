-- Worked values: inputs with their answers, and values with their texts, letter by letter.
use Rattle.std.specs.Prelude.{◌≡◌, ℕ, List, [], ◌∷◌, ◌++◌, map, replicate, Some, None, codes}
use Rattle.sync_types.specs.States.{State}
use Rattle.sync_types.specs.declared.status.Status.{Status}
use Rattle.sync_types.specs.declared.status.Status.TheVariants as status
use Rattle.sync_types.specs.declared.answers.Premise.TheVariants as premise
use Rattle.sync_types.specs.declared.answers.Rule.TheVariants as rule
use Rattle.sync_types.specs.declared.answers.Cause.TheVariants as cause
use Rattle.sync_types.specs.declared.answers.Part.TheVariants as part
use Rattle.plan_numbers.specs.Numbers.{line}
use Rattle.plan_certificate.specs.Tables.{table_text}
use Rattle.plan_reader.specs.PlanTexts.{plan_text}
use Rattle.plan_finder.specs.FindText.{find_text}
use Rattle.plan_finder.specs.WantTexts.{want_text}
use Rattle.state_codec.specs.Shapes.{Shape}
use Rattle.node_words.specs.HeaderTexts.{header_text}
use Rattle.node_words.specs.WrittenHeaders.{node_part_in, digits_in}
use Rattle.adversary_script.specs.declared.lies.CommonStart.TheVariants as common
use Rattle.adversary_script.specs.declared.lies.What.TheVariants as what
use Rattle.adversary_script.specs.declared.lies.Who.TheVariants as who
use Rattle.adversary_script.specs.ScriptTexts.{script_text}
use Rattle.slot_table.specs.SlotTexts.{slots_text}
use Rattle.consensus_layer.specs.AgreeTexts.{agree_text}
use Rattle.firing.specs.RequestTexts.{requests_text}
use Rattle.replicated_log.specs.LogTexts.{log_text}
use Rattle.outcomes.specs.declared.commands.Batch.{Batch}
use Rattle.outcomes.specs.declared.commands.Batch.TheVariants as batch
use Rattle.outcomes.specs.declared.commands.Command.TheVariants as command
use Rattle.outcomes.specs.declared.refusals.Refusal.TheVariants as refusal
use Rattle.outcomes.specs.Refusals.{refusal_line}
use Rattle.outcomes.specs.Outcomes.{outcome_of}
use Rattle.outcomes.specs.Answers.{answer_of}
use Rattle.outcomes.specs.CheckAnswers.{true_line, false_line}
use Rattle.outcomes.specs.Commands.{command_of}
use Rattle.outcomes.specs.NodeAnswers.{node_outcome}
use Rattle.promises.specs.WorkedLies.{LiesAreWorked}

-- ---- refusals

-- an input of a word is answered with this status and this text
abbrev pub IsAnswered : Batch → (input : List ℕ) → Status → (text : List ℕ) → Type 0
IsAnswered word input s text =
    outcome_of (answer_of word input) ≡ record { status = s; text = text }

-- The first line of a plan that fails, by its number and its premise. Comments and empty lines are
-- counted.
pub record PlansAreRefused : Type 0 where
  pub form : IsAnswered batch.Plan (codes "plan 1\n#\n\nbase 010\nend\n")
      (status.PlanRefused 4 premise.Form) (codes "refused plan line 4 premise form\n")
  pub no_end : IsAnswered batch.Plan (codes "plan 1\nbase 5\n")
      (status.PlanRefused 3 premise.Form) (codes "refused plan line 3 premise form\n")
  pub limit : IsAnswered batch.Plan (codes "plan 1\nbase 2304\nlevel 17 1 10\nend\n")
      (status.PlanRefused 3 premise.Limit) (codes "refused plan line 3 premise limit\n")
  pub blocks : IsAnswered batch.Plan (codes "plan 1\nbase 2304\nlevel 2 0 10\nend\n")
      (status.PlanRefused 3 premise.Blocks) (codes "refused plan line 3 premise blocks\n")
  pub modulus : IsAnswered batch.Plan (codes "plan 1\nbase 2304\nlevel 4 1 1\nend\n")
      (status.PlanRefused 3 premise.Modulus) (codes "refused plan line 3 premise modulus\n")
  pub quorum : IsAnswered batch.Plan (codes "plan 1\nbase 2304\nlevel 3 1 10\nend\n")
      (status.PlanRefused 3 premise.Quorum) (codes "refused plan line 3 premise quorum\n")
  pub share : IsAnswered batch.Plan
      (codes "plan 1\nbase 2304\nlevel 4 1 4608\nlevel 4 4 10\nend\n")
      (status.PlanRefused 4 premise.Share) (codes "refused plan line 4 premise share\n")
  pub multiple : IsAnswered batch.Plan (codes "plan 1\nbase 2303\nlevel 4 1 10\nend\n")
      (status.PlanRefused 3 premise.Multiple) (codes "refused plan line 3 premise multiple\n")

-- the plan of four nodes, one of which may be faulty, and that of one node
abbrev pub four : List ℕ
four = codes "plan 1\nbase 2304\nlevel 4 1 10\nend\n"

abbrev pub alone : List ℕ
alone = codes "plan 1\nbase 8\nend\n"

-- The first line of a part that fails, by its number in the whole input and its rule: each rule,
-- and each part; that of a header stands below.
pub record PartsAreRefused : Type 0 where
  pub form : IsAnswered batch.Run (alone ++ codes "script 1\nfaulty\n")
      (status.PartRefused part.Script 6 rule.Form) (codes "refused script line 6 rule form\n")
  pub order : IsAnswered batch.Run (four ++ codes "script 1\nfaulty 3 1\n")
      (status.PartRefused part.Script 6 rule.Order) (codes "refused script line 6 rule order\n")
  pub faults : IsAnswered batch.Run (four ++ codes "script 1\nfaulty 1 3\n")
      (status.PartRefused part.Script 6 rule.Faults) (codes "refused script line 6 rule faults\n")
  pub hex : IsAnswered batch.Run (alone ++ codes "script 1\nfaulty\nseed 00\n")
      (status.PartRefused part.Script 6 rule.Hex) (codes "refused script line 6 rule hex\n")
  pub name : IsAnswered batch.Run
      (alone ++ codes "script 1\nfaulty\nstart zero\ngroup all 0\n")
      (status.PartRefused part.Script 7 rule.Name) (codes "refused script line 7 rule name\n")
  pub limit : IsAnswered batch.Find (codes "find 1\nwant 86 10 4\nend\n")
      (status.PartRefused part.Find 2 rule.Limit) (codes "refused find line 2 rule limit\n")
  pub range : IsAnswered batch.Consensus
      (codes "plan 1\nbase 6\nend\nagree 1\nvalues 2\ninputs 2\nend\n")
      (status.PartRefused part.Agree 6 rule.Range) (codes "refused agree line 6 rule range\n")
  pub slot : IsAnswered batch.Fire (alone ++ codes "fire 1\n")
      (status.PartRefused part.Fire 4 rule.Slot) (codes "refused fire line 4 rule slot\n")
  pub node : IsAnswered batch.Log
      (alone ++ codes "log 1\nvalues 2\nkeep 8\ncommands 1 0\n")
      (status.PartRefused part.Log 7 rule.Node) (codes "refused log line 7 rule node\n")
  pub overlap : IsAnswered batch.Slots
      (alone ++ codes "slots 1\nslot 0 1 2\nslot 0 2 3\n")
      (status.PartRefused part.Slots 6 rule.Overlap) (codes "refused slots line 6 rule overlap\n")

-- The first line of a table that fails, by a premise of the plan that it says, or by a value that
-- is not the plan's; and the lines of other refusals.
pub record OthersAreRefused : Type 0 where
  pub table : IsAnswered batch.Table (codes "table 1\nbase 1\n")
      (status.TableRefused 2 (cause.Premise premise.Modulus))
      (codes "refused table line 2 cause modulus\n")
  pub value : IsAnswered batch.Table
      (codes "table 1\nbase 2\nplan nodes 1 faults 0 modulus 2 bound 1 bits 1 bytes 1\nend\n")
      (status.TableRefused 3 cause.Value) (codes "refused table line 3 cause value\n")
  pub node : refusal_line (refusal.Part part.Node 6 rule.Limit)
      ≡ codes "refused node line 6 rule limit\n"
  pub certificate : refusal_line (refusal.Certificate 7) ≡ codes "refused certificate line 7\n"
  pub usage : refusal_line refusal.Usage ≡ codes "usage: counterlab COMMAND\n"

-- ---- nodes

-- the header of the one node of a plan, in state 5 of 8
abbrev pub fifth : List ℕ
fifth = alone ++ codes "node 1\nid 0\nstate a0\nend\n"

-- What a call of `node` answers: the cells that it writes, at its start and after each packet,
-- whatever it hears of itself; also if the input ends inside a packet; and the first line of a
-- header that fails. Skipped lines may stand in a header.
pub record NodesAreAnswered : Type 0 where
  pub cells : node_outcome (fifth ++ 0 ∷ 1 ∷ 255 ∷ 0 ∷ 0 ∷ [])
      ≡ record { status = status.Ok; text = 0 ∷ 1 ∷ 160 ∷ 0 ∷ 1 ∷ 192 ∷ 0 ∷ 1 ∷ 224 ∷ [] }
  pub cut : node_outcome (fifth ++ 0 ∷ 0 ∷ 0 ∷ [])
      ≡ record { status = status.Cut 1 0; text = 0 ∷ 1 ∷ 160 ∷ 0 ∷ 1 ∷ 192 ∷ [] }
  pub skipped : node_outcome (alone ++ codes "# it\nnode 1\nid 0\n\nstate a0\nend\n")
      ≡ record { status = status.Ok; text = 0 ∷ 1 ∷ 160 ∷ [] }
  pub hex : node_outcome (alone ++ codes "node 1\nid 0\nstate A0\nend\n")
      ≡ record {
        status = status.PartRefused part.Node 6 rule.Hex;
        text = codes "refused node line 6 rule hex\n";
      }
  pub plan : node_outcome (codes "plan 1\nbase 1\n")
      ≡ record {
        status = status.PlanRefused 2 premise.Modulus;
        text = codes "refused plan line 2 premise modulus\n";
      }

-- ---- texts

-- The texts of parts, with each kind of line. What is read of a text is what has it, so these say
-- how texts are read, too.
pub record TextsAreSpelled : Type 0 where
  pub plan : plan_text 2 (record { version = 2; base = 576; levels = line 3 1 10 1 ∷ [] })
      ≡ codes "plan 2\nbase 576\nlevel 3 1 10 spare 1\nend\n"
  pub table : table_text (record { version = 2; base = 576; levels = line 3 1 10 1 ∷ [] })
      ≡ codes "table 2\nbase 576\n"
      ++ codes "level 1 blocks 3 leaders 2 nodes 4 faults 1 beat 9 span 576 modulus 10 bound 576"
      ++ codes " bits 15 spare 1\n"
      ++ codes "plan nodes 4 faults 1 modulus 10 bound 576 bits 15 bytes 2\nend\n"
  pub wants : want_text (record { faults = 1; modulus = 10; most = 4 })
      ≡ codes "find 1\nwant 1 10 4\nend\n"
  pub slots : slots_text (record { node = 3; first = 1; last = 2 } ∷ [])
      ≡ codes "slots 1\nslot 3 1 2\nend\n"
  pub inputs : agree_text (record { values = 10; inputs = 7 ∷ 8 ∷ 4 ∷ 0 ∷ [] })
      ≡ codes "agree 1\nvalues 10\ninputs 7 8 4 0\nend\n"
  pub requests : requests_text (record { node = 3; first = 5; last = 6 } ∷ [])
      ≡ codes "fire 1\nrequest 3 5 6\nend\n"
  pub logs : log_text (record { values = 16; keep = 8; commands = (3 ∷ []) ∷ (5 ∷ 6 ∷ []) ∷ [] })
      ≡ codes "log 1\nvalues 16\nkeep 8\ncommands 0 3\ncommands 1 5 6\nend\n"
  pub node : (shape : Shape) (s : State) → node_part_in shape 3 s
      ≡ codes "node 1\nid 3\nstate " ++ digits_in shape 3 s ++ codes "\nend\n"
  pub header : header_text (record { version = 1; base = 8; levels = [] }) 0
      (record { x = 5; registers = [] })
      ≡ codes "plan 1\nbase 8\nend\nnode 1\nid 0\nstate a0\nend\n"
  pub script : (shape : Shape) → script_text (record {
    version = 2;
    nodes = 4;
    shape = shape;
    faulty = 3 ∷ [];
    key = replicate 32 0;
    common = common.Zero;
    starts = [];
    eras = record { first = 2; faulty = 1 ∷ []; starts = [] } ∷ [];
    groups = record { name = codes "two"; ids = 0 ∷ 2 ∷ [] } ∷ [];
    lies =
        record { first = 0; last = 1; sender = 3; who = who.Group 0; what = what.Copy 2 }
        ∷ record { first = 2; last = 4; sender = 1; who = who.Ids 2 3; what = what.Shift 7 }
        ∷ [];
    rounds = 5;
    first = 3;
    last = 4;
  })
      ≡ codes "script 2\nfaulty 3\nstart zero\nera 2 faulty 1\ngroup two 0 2\n"
      ++ codes "lie 0 1 3 to two copy 2\nlie 2 4 1 to 2 3 shift 7\nrounds 5\nshow 3 4\nend\n"

-- What `check` and `find` write.
pub record LinesAreSpelled : Type 0 where
  pub true_of : true_line 3 (Some 0) ≡ codes "true rows 3 locked 0\n"
  pub unlocked : true_line 3 None ≡ codes "true rows 3 locked none\n"
  pub false_of : false_line 2 ≡ codes "false row 2\n"
  pub pots : find_text None (record { nodes = 4; faults = 1; value = 576 } ∷ [])
      ≡ codes "none\npot 4 1 576\n"

-- ---- words

-- Each word of the table commands what it says, `demo` wants a number, and no other is a command.
pub record WordsAreCommands : Type 0 where
  pub single : map (λ w. command_of (w ∷ []))
      (codes "run" ∷ codes "record" ∷ codes "explain" ∷ codes "plan" ∷ codes "upgrade"
      ∷ codes "table" ∷ codes "find" ∷ codes "slots" ∷ codes "consensus" ∷ codes "fire"
      ∷ codes "log" ∷ codes "check" ∷ codes "node" ∷ codes "demo" ∷ codes "run " ∷ [])
      ≡ Some (command.Batch batch.Run) ∷ Some (command.Batch batch.Record)
      ∷ Some (command.Batch batch.Explain) ∷ Some (command.Batch batch.Plan)
      ∷ Some (command.Batch batch.Upgrade) ∷ Some (command.Batch batch.Table)
      ∷ Some (command.Batch batch.Find) ∷ Some (command.Batch batch.Slots)
      ∷ Some (command.Batch batch.Consensus) ∷ Some (command.Batch batch.Fire)
      ∷ Some (command.Batch batch.Log) ∷ Some command.Check ∷ Some command.Node ∷ None ∷ None
      ∷ []
  pub demo : command_of (codes "demo" ∷ codes "7" ∷ []) ≡ Some (command.Demo 7)
  pub no_number : command_of (codes "demo" ∷ codes "07" ∷ []) ≡ None
  pub none : command_of [] ≡ None

-- Each of these is so by computation.
pub record WorkedAnswers : Type 0 where
  pub plans : PlansAreRefused
  pub parts : PartsAreRefused
  pub others : OthersAreRefused
  pub nodes : NodesAreAnswered
  pub lies : LiesAreWorked
  pub texts : TextsAreSpelled
  pub lines : LinesAreSpelled
  pub words : WordsAreCommands
