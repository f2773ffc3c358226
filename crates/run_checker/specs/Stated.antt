-- The run that a certificate states, and whether its rows are those of that run.
use Rattle.std.specs.Prelude.{ℕ, ◌+◌, ◌==◌, ◌&&◌, List, [], ◌∷◌, length, map, drop, Bool, true}
use Rattle.std.specs.Prelude.{false, not, Option, Some, None, unwrap_or, find, nat_eq, slice_set}
use Rattle.std.specs.Prelude.{if◌then◌else◌}
use Rattle.std.specs.Option.{option_map, option_eq}
use Rattle.std.specs.List.{range_with_len}
use Rattle.sync_types.specs.States.{State, zero_state}
use Rattle.construction.specs.Plans.{Plan, plan_nodes, plan_depth}
use Rattle.construction.specs.Shown.{shown}
use Rattle.construction.specs.Steps.{state_of, step_of}
use Rattle.construction.specs.Runs.{is_in, heard_by}
use Rattle.run_checker.specs.NodeFields.{fields_of}
use Rattle.state_codec.specs.Texts.{read_text}
use Rattle.round_runner.specs.Locks.{is_locked}
use Rattle.run_checker.specs.declared.Verdict.{Verdict}
use Rattle.run_checker.specs.declared.Verdict.TheVariants as verdict
use Rattle.run_checker.specs.Certificates.{Put, Lie, Era, Turn, Certificate}
use Rattle.run_checker.specs.Grammar.{faulty_behind}

-- a configuration of the run, with its faulty nodes
pub record Snapshot : Type 0 where
  pub faulty : List ℕ
  pub config : List State

-- what a sender tells a receiver
pub record Message : Type 0 where
  pub sender : ℕ
  pub receiver : ℕ
  pub state : State

abbrev pub told_by : Plan → Lie → Message
told_by plan lie = record {
  sender = lie.sender;
  receiver = lie.receiver;
  state = read_text (fields_of plan lie.sender) lie.digits;
}

-- what u tells v; if nothing is said, the zero state
abbrev pub told_of : Plan → List Message → (u v : ℕ) → State
told_of plan told u v =
    unwrap_or (option_map (λ t. t.state) (find (λ t. t.sender == u && t.receiver == v) told))
    (zero_state (plan_depth plan))

-- the table of what is told
abbrev pub lies_table : Plan → List Message → List (List State)
lies_table plan told =
    map (λ u. map (λ v. told_of plan told u v) (range_with_len 0 (plan_nodes plan)))
    (range_with_len 0 (plan_nodes plan))

-- whatever faulty nodes are said to be in, they stand in the zero state
abbrev pub unless_faulty : Plan → List ℕ → (ℕ → State) → List State
unless_faulty plan faulty state =
    map (λ v. if is_in faulty v then zero_state (plan_depth plan) else state v)
    (range_with_len 0 (plan_nodes plan))

-- a configuration in which nodes are put into states
abbrev pub with_starts : Plan → List State → List Put → List State
with_starts plan config [] = config
with_starts plan config (put ∷ puts) = with_starts plan
    (slice_set config put.node (read_text (fields_of plan put.node) put.digits)) puts

-- the starts of an era
abbrev pub starts_of : Option Era → List Put
starts_of None = []
starts_of (Some era) = era.starts

-- the configuration after a round: each correct node steps from what it hears
abbrev pub stepped : Plan → (new_faulty : List ℕ) → Snapshot → List Message → List State
stepped plan new stand told =
    unless_faulty plan new
    (λ v. step_of plan v
    (heard_by (plan_nodes plan) stand.faulty stand.config (lies_table plan told) v))

abbrev pub stand_behind : Plan → Snapshot → Turn → Snapshot
stand_behind plan stand turn = record {
  faulty = faulty_behind stand.faulty turn.era;
  config =
      with_starts plan
      (stepped plan (faulty_behind stand.faulty turn.era) stand (map (told_by plan) turn.lies))
      (starts_of turn.era);
}

abbrev pub first_stand : Certificate → Snapshot
first_stand c =
    record {
      faulty = c.faulty;
      config = with_starts c.plan
          (unless_faulty c.plan c.faulty (λ v. zero_state (plan_depth c.plan))) c.starts;
    }

-- the configurations after one
abbrev pub stands_behind : Plan → Snapshot → List Turn → List Snapshot
stands_behind plan stand [] = []
stands_behind plan stand (turn ∷ turns) =
    stand_behind plan stand turn ∷ stands_behind plan (stand_behind plan stand turn) turns

-- the stated run: its configurations, each with its faulty nodes
abbrev pub stated : Certificate → List Snapshot
stated c = first_stand c ∷ stands_behind c.plan (first_stand c) c.turns

-- the row that a configuration shows
abbrev pub shown_row : Plan → Snapshot → List (Option ℕ)
shown_row plan stand =
    map (λ v. if is_in stand.faulty v then None
    else Some (shown (plan_depth plan) (state_of stand.config v)))
    (range_with_len 0 (plan_nodes plan))

abbrev pub rows_of : Certificate → List (List (Option ℕ))
rows_of c = c.row ∷ map (λ turn. turn.row) c.turns

abbrev pub same_rows : List (Option ℕ) → List (Option ℕ) → Bool
same_rows [] [] = true
same_rows (x ∷ xs) (y ∷ ys) = option_eq nat_eq x y && same_rows xs ys
same_rows xs ys = false

-- for each row, whether it differs from what its configuration shows
abbrev pub differences : Plan → List (List (Option ℕ)) → List Snapshot → List Bool
differences plan (row ∷ rows) (stand ∷ stands) =
    not (same_rows row (shown_row plan stand)) ∷ differences plan rows stands
differences plan rows stands = []

-- the number of the first that passes, if the first of the list has this number
abbrev pub first_from : {X : Type 0} → (X → Bool) → ℕ → List X → Option ℕ
first_from p n [] = None
first_from p n (x ∷ xs) = if p x then Some n else first_from p (n + 1) xs

abbrev pub first_difference : Certificate → Option ℕ
first_difference c = first_from (λ b. b) 0 (differences c.plan (rows_of c) (stated c))

-- the last configuration at which an era begins, if row t is next and the last one so far is known
abbrev pub begins_at : (t last : ℕ) → Option Era → ℕ
begins_at t last None = last
begins_at t last (Some era) = t

abbrev pub last_start_from : (t last : ℕ) → List Turn → ℕ
last_start_from t last [] = last
last_start_from t last (turn ∷ turns) = last_start_from (t + 1) (begins_at t last turn.era) turns

abbrev pub last_start : Certificate → ℕ
last_start c = last_start_from 1 0 c.turns

-- the first locked configuration of the last era
abbrev pub locks_at : Certificate → Option ℕ
locks_at c =
    first_from (λ stand. is_locked c.plan stand.faulty stand.config) (last_start c)
    (drop (last_start c) (stated c))

abbrev pub verdict_by : (differs : Option ℕ) → (rows : ℕ) → (locked : Option ℕ) → Verdict
verdict_by (Some t) rows locked = verdict.False t
verdict_by None rows locked = verdict.True rows locked

-- what a certificate comes to: true if each row is what its configuration shows
abbrev pub verdict_of : Certificate → Verdict
verdict_of c = verdict_by (first_difference c) (length c.turns + 1) (locks_at c)
