-- What is read of a log is for the counter: numbers within their limits, commands of each node,
-- and a modulus that is a multiple of an entry of each node.
use Rattle.std.proofs.Common.{◌≡◌, ℕ, ◌*◌, ◌<◌, ◌≤◌, ◌%◌, Bool, true, false, List, [], ◌∷◌}
use Rattle.std.proofs.Common.{◌++◌, length, All, Option, Some, None, Result, Ok, Err, refl, sym}
use Rattle.std.proofs.Common.{subst, arith}
use Rattle.std.specs.Prelude.{⊤, IfOk, nat_lt, not, ◌==◌, if◌then◌else◌, codes}
use Rattle.std.specs.List.{list_all}
use Rattle.std.specs.Str.{bytes_eq}
use Rattle.std.proofs.lemmas.Bool.{eqb-true, ltb-false, ltb-true}
use Rattle.std.proofs.lemmas.List.{length_push}
use Rattle.std.proofs.lemmas.List.Elements.{All-push, All-nil}
use Rattle.texts.specs.Lines.{words_of}
use Rattle.texts.specs.Shapes.{all_numbers_after}
use Rattle.texts.specs.Parts.{Next, ends, refuses, goes_on}
use Rattle.texts.proofs.Parts.{After, goes_on_keeps, skipping_keeps, found_weaker}
use Rattle.sync_types.specs.declared.answers.Rule.{Rule}
use Rattle.sync_types.specs.declared.answers.Rule.TheVariants.{Form, Limit, Node, Range}
use Rattle.construction.specs.Plans.{Plan}
use Rattle.layer_laws.specs.Numbers.{Numbers, numbers_of}
use Rattle.consensus_layer.specs.PartLines.{head_tested, number_within}
use Rattle.consensus_layer.proofs.PartLines.{head_fits, IsWithin, is_within, all_below}
use Rattle.replicated_log.specs.EntryLength.{entry_length}
use Rattle.replicated_log.specs.LogContent.{LogContent}
use Rattle.replicated_log.specs.declared.log_lines.LogStage.{LogStage}
use Rattle.replicated_log.specs.declared.log_lines.LogStage.TheVariants.{Unread, Begun, Valued}
use Rattle.replicated_log.specs.declared.log_lines.LogStage.TheVariants.{Keeping}
use Rattle.replicated_log.specs.LogPart.{LogSoFar, nothing_read_over, commands_tested, commands_in}
use Rattle.replicated_log.specs.LogPart.{at_stage, with_own, end_step, step_at, log_step}
use Rattle.replicated_log.specs.LogPart.{part_over, part_of, AreInRange, IsForNumbers, IsLogForPlan}

abbrev IsWhole : Numbers → Type 0
IsWhole numbers = numbers.modulus % (numbers.nodes * entry_length numbers.faults) ≡ 0

-- the stage is one after the first line, with numbers in range
abbrev IsStage : LogStage → Type 0
IsStage Unread = ⊤
IsStage Begun = ⊤
IsStage (Valued values) = IsWithin 2 65536 values
IsStage (Keeping values keep) = IsWithin 2 65536 values × IsWithin 1 1024 keep

-- ---- the commands of a node

abbrev IsOwn : (values : ℕ) → List ℕ → Type 0
IsOwn values own = (0 < length own) × All (λ a. a < values) own

-- a line has at most 16 commands
abbrev pub IsShort : List ℕ → Type 0
IsShort own = length own ≤ 16

commands_by : (values : ℕ) (c : ℕ) (cs : List ℕ) (many other below : Bool)
    → nat_lt 16 (length (c ∷ cs)) ≡ many → list_all (λ a. nat_lt a values) (c ∷ cs) ≡ below
    → IfOk (if many then Err Limit else if not other then Err Node else if not below then Err Range
    else Ok (c ∷ cs)) (λ own. IsOwn values own × IsShort own)
commands_by values c cs true other below e e' = tt
commands_by values c cs false false below e e' = tt
commands_by values c cs false true false e e' = tt
commands_by values c cs false true true e e' =
    ((omega arith, all_below values (c ∷ cs) e'), ltb-false 16 (length (c ∷ cs)) e)

tested : (values before : ℕ) (numbers : Option (List ℕ))
    → IfOk (commands_tested values before numbers) (λ own. IsOwn values own × IsShort own)
tested values before None = tt
tested values before (Some []) = tt
tested values before (Some (v ∷ [])) = tt
tested values before (Some (v ∷ c ∷ cs)) =
    commands_by values c cs (nat_lt 16 (length (c ∷ cs))) (v == before)
    (list_all (λ a. nat_lt a values) (c ∷ cs)) refl refl

record IsOneMore (values nodes before : ℕ) (own : List ℕ) : Type 0 where
  room : before < nodes
  right : IsOwn values own
  short : IsShort own

if_left : (values nodes before : ℕ) (left : Bool) (read : Result (List ℕ) Rule)
    → nat_lt before nodes ≡ left → IfOk read (λ own. IsOwn values own × IsShort own)
    → IfOk (if left then read else Err Form) (IsOneMore values nodes before)
if_left values nodes before false read e own = tt
if_left values nodes before true (Err rule) e own = tt
if_left values nodes before true (Ok commands) e own =
    record { room = ltb-true before nodes e; right = own.0; short = own.1 }

read_fits : (values nodes before : ℕ) (line : List ℕ)
    → IfOk (commands_in values nodes before line) (IsOneMore values nodes before)
read_fits values nodes before line =
    let numbers = all_numbers_after (codes "commands") (words_of line) in
    if_left values nodes before (nat_lt before nodes) (commands_tested values before numbers) refl
    (tested values before numbers)

-- ---- line by line

-- the commands so far are below the values that were said, and there are none before
abbrev AreCommands : LogStage → List (List ℕ) → Type 0
AreCommands Unread commands = commands ≡ []
AreCommands Begun commands = commands ≡ []
AreCommands (Valued values) commands = commands ≡ []
AreCommands (Keeping values keep) commands = AreInRange values commands

-- after its first line the part is one for the counter
abbrev IsBegun : Numbers → LogStage → Type 0
IsBegun numbers Unread = ⊤
IsBegun numbers Begun = IsWhole numbers
IsBegun numbers (Valued values) = IsWhole numbers
IsBegun numbers (Keeping values keep) = IsWhole numbers

record FitSoFar (numbers : Numbers) (s : LogSoFar) : Type 0 where
  nodes : s.nodes ≡ numbers.nodes
  whole : s.whole ≡ true → IsWhole numbers
  begun : IsBegun numbers s.stage
  stage : IsStage s.stage
  few : length s.commands ≤ s.nodes
  commands : AreCommands s.stage s.commands
  short : All IsShort s.commands

module _ (numbers : Numbers) where
  -- it fits, and can be written
  abbrev IsSaid : LogContent → Type 0
  IsSaid said = IsForNumbers numbers said × All IsShort said.commands

  abbrev Goes : Next LogSoFar LogContent Rule → Type 0
  Goes next = After (FitSoFar numbers) IsSaid next

  headed : (s : LogSoFar) → s.stage ≡ Unread → FitSoFar numbers s → s.whole ≡ true
      → FitSoFar numbers (at_stage s Begun)
  headed s at fit e = record {
    nodes = fit.nodes;
    whole = fit.whole;
    begun = fit.whole e;
    stage = tt;
    few = fit.few;
    commands = subst (λ stage. AreCommands stage s.commands) at fit.commands;
    short = fit.short;
  }

  valued : (s : LogSoFar) → s.stage ≡ Begun → FitSoFar numbers s → (values : ℕ)
      → IsWithin 2 65536 values → FitSoFar numbers (at_stage s (Valued values))
  valued s at fit values within = record {
    nodes = fit.nodes;
    whole = fit.whole;
    begun = subst (IsBegun numbers) at fit.begun;
    stage = within;
    few = fit.few;
    commands = subst (λ stage. AreCommands stage s.commands) at fit.commands;
    short = fit.short;
  }

  kept : (s : LogSoFar) (values : ℕ) → s.stage ≡ Valued values → FitSoFar numbers s → (keep : ℕ)
      → IsWithin 1 1024 keep → FitSoFar numbers (at_stage s (Keeping values keep))
  kept s values at fit keep within =
      let none : s.commands ≡ [] = subst (λ stage. AreCommands stage s.commands) at fit.commands in
      record {
        nodes = fit.nodes;
        whole = fit.whole;
        begun = subst (IsBegun numbers) at fit.begun;
        stage = (subst IsStage at fit.stage, within);
        few = fit.few;
        commands = subst (AreInRange values) (sym none) (All-nil (IsOwn values));
        short = fit.short;
      }

  owned : (s : LogSoFar) (values keep : ℕ) → s.stage ≡ Keeping values keep → FitSoFar numbers s
      → (own : List ℕ) → IsOneMore values s.nodes (length s.commands) own
      → FitSoFar numbers (with_own s own)
  owned s values keep at fit own one = record {
    nodes = fit.nodes;
    whole = fit.whole;
    begun = fit.begun;
    stage = fit.stage;
    few = let room = one.room in omega (arith, length_push s.commands own, room);
    commands = subst (λ stage. AreCommands stage (s.commands ++ own ∷ [])) (sym at)
        (All-push (IsOwn values) s.commands own
        (subst (λ stage. AreCommands stage s.commands) at fit.commands) one.right);
    short = All-push IsShort s.commands own fit.short one.short;
  }

  said : (s : LogSoFar) (values keep : ℕ) (left : Bool) → nat_lt (length s.commands) s.nodes ≡ left
      → s.stage ≡ Keeping values keep → FitSoFar numbers s
      → Goes (if left then refuses Form
      else ends (record { values = values; keep = keep; commands = s.commands }))
  said s values keep true e at fit = tt
  said s values keep false e at fit =
      let held = subst IsStage at fit.stage in
      let most = fit.few in
      let nodes = fit.nodes in (
        record {
          whole = subst (IsBegun numbers) at fit.begun;
          two = held.0.0;
          few = held.0.1;
          some = held.1.0;
          short = held.1.1;
          nodes = omega (arith, ltb-false (length s.commands) s.nodes e, most, nodes);
          range = subst (λ stage. AreCommands stage s.commands) at fit.commands;
        },
        fit.short,
      )

  ended : (s : LogSoFar) (values keep : ℕ) (is : Bool) (line : List ℕ)
      → s.stage ≡ Keeping values keep → FitSoFar numbers s
      → Goes (if is then end_step values keep s
      else goes_on (with_own s) (commands_in values s.nodes (length s.commands) line))
  ended s values keep true line at fit =
      said s values keep (nat_lt (length s.commands) s.nodes) refl at fit
  ended s values keep false line at fit =
      goes_on_keeps (FitSoFar numbers) IsSaid (with_own s)
      (IsOneMore values s.nodes (length s.commands))
      (commands_in values s.nodes (length s.commands) line)
      (read_fits values s.nodes (length s.commands) line) (owned s values keep at fit)

  stepped : (stage : LogStage) (s : LogSoFar) (line : List ℕ) → s.stage ≡ stage → FitSoFar numbers s
      → Goes (step_at stage s line)
  stepped Unread s line at fit =
      goes_on_keeps (FitSoFar numbers) IsSaid (λ _. at_stage s Begun)
      (λ _. s.whole ≡ true) (head_tested (codes "log 1") s.whole line)
      (head_fits (codes "log 1") s.whole line) (λ _ e. headed s at fit e)
  stepped Begun s line at fit =
      goes_on_keeps (FitSoFar numbers) IsSaid
      (λ values. at_stage s (Valued values)) (IsWithin 2 65536)
      (number_within (codes "values") 2 65536 line) (is_within (codes "values") 2 65536 line)
      (valued s at fit)
  stepped (Valued values) s line at fit =
      goes_on_keeps (FitSoFar numbers) IsSaid
      (λ keep. at_stage s (Keeping values keep)) (IsWithin 1 1024)
      (number_within (codes "keep") 1 1024 line) (is_within (codes "keep") 1 1024 line)
      (kept s values at fit)
  stepped (Keeping values keep) s line at fit =
      ended s values keep (bytes_eq line (codes "end")) line at fit

  begins : FitSoFar numbers (nothing_read_over numbers)
  begins = record {
    nodes = refl;
    whole = λ e.
        eqb-true (numbers.modulus % (numbers.nodes * entry_length numbers.faults)) 0 e;
    begun = tt;
    stage = tt;
    few = omega arith;
    commands = refl;
    short = All-nil IsShort;
  }

pub log_is_said : (numbers : Numbers) (number : ℕ) (lines : List (List ℕ))
    → IfOk (part_over numbers number lines) (λ found. IsSaid numbers found.value)
log_is_said numbers number lines =
    skipping_keeps log_step Form (FitSoFar numbers) (IsSaid numbers)
    (λ s line fit. stepped numbers s.stage s line refl fit)
    lines (nothing_read_over numbers) 0 number (begins numbers)

-- what is read is for the counter
pub log_fits_over : (numbers : Numbers) (number : ℕ) (lines : List (List ℕ))
    → IfOk (part_over numbers number lines) (λ found. IsForNumbers numbers found.value)
log_fits_over numbers number lines =
    found_weaker (IsSaid numbers) (IsForNumbers numbers) (λ said is. is.0)
    (part_over numbers number lines) (log_is_said numbers number lines)

-- so it is for that of a plan
pub log_fits : (plan : Plan) (number : ℕ) (lines : List (List ℕ))
    → IfOk (part_of plan number lines) (λ found. IsLogForPlan plan found.value)
log_fits plan = log_fits_over (numbers_of plan)

-- and each node has at most 16 commands
pub logs_are_short : (plan : Plan) (number : ℕ) (lines : List (List ℕ))
    → IfOk (part_of plan number lines) (λ found. All IsShort found.value.commands)
logs_are_short plan number lines =
    found_weaker (IsSaid (numbers_of plan)) (λ said. All IsShort said.commands) (λ said is. is.1)
    (part_of plan number lines) (log_is_said (numbers_of plan) number lines)
