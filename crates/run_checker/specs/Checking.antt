-- A certificate is checked line by line. One configuration is kept, and what was told in one round.
use Rattle.std.specs.Prelude.{ℕ, ◌+◌, ◌-◌, ◌&&◌, nat_le, nat_lt, nat_eq, ◌==◌, List, [], ◌∷◌, ◌++◌}
use Rattle.std.specs.Prelude.{length, map, drop, Bool, true, false, not, Option, Some, None}
use Rattle.std.specs.Prelude.{unwrap_or, Result, Ok, Err, slice_set, if◌then◌else◌}
use Rattle.std.specs.Option.{is_some}
use Rattle.std.specs.List.{range_with_len, list_any, zip}
use Rattle.texts.specs.Parts.{Next, goes, ends, refuses, Found, At, part_from}
use Rattle.sync_types.specs.States.{State, zero_state}
use Rattle.construction.specs.Plans.{Plan, plan_nodes, plan_faults, plan_depth}
use Rattle.construction.specs.Runs.{is_in}
use Rattle.plan_numbers.specs.Numbers.{line, with_level, numbers_below}
use Rattle.plan_numbers.specs.Premises.{base_premise, first_premise}
use Rattle.run_checker.specs.NodeFields.{fields_of}
use Rattle.state_codec.specs.Texts.{is_state_text, read_text}
use Rattle.adversary_script.specs.WordTests.{are_below, is_rising}
use Rattle.round_runner.specs.Locks.{is_locked, first_of}
use Rattle.run_checker.specs.declared.Verdict.{Verdict}
use Rattle.texts.specs.Lines.{whole_lines}
use Rattle.texts.specs.Words.{open_rest}
use Rattle.run_checker.specs.Items.{Item, run_item, base_item, level_item, faulty_item}
use Rattle.run_checker.specs.Items.{start_item, row_item, lie_item, era_item, end_item, said}
use Rattle.run_checker.specs.Grammar.{pairs_of, plan_version, most_eras}
use Rattle.run_checker.specs.Stated.{Snapshot, Message, stepped, unless_faulty, shown_row}
use Rattle.run_checker.specs.Stated.{same_rows}
use Rattle.run_checker.specs.Stated.{verdict_by}
use Rattle.adversary_script.specs.Scripts.{most_rounds}

-- Configuration `at` of the stated run, and what its rows came to before it: how many eras have
-- begun after rounds, the first row that differs, and the first locked configuration of the era.
pub record Known : Type 0 where
  pub version : ℕ
  pub plan : Plan
  pub eras : ℕ
  pub at : ℕ
  pub stand : Snapshot
  pub differs : Option ℕ
  pub locked : Option ℕ

-- How far a certificate was read. When nodes are put into states, the next one is at least `from`,
-- and none is known of the unknown nodes from there on. When states are told, these ones were, in
-- the order of the pairs.
pub data Stage : Type 0 where
  unread : Stage
  begun : (version : ℕ) → Stage
  planned : (version : ℕ) → Plan → Stage
  putting : Known → (unknown : List ℕ) → (from : ℕ) → Stage
  telling : Known → (told : List State) → Stage

abbrev pub Onward : Type 0
Onward = Next Stage Verdict (Unit {0})

abbrev pub refused : Onward
refused = refuses tt

-- whether ids are a faulty set that the plan tolerates
abbrev pub is_borne : Plan → List ℕ → Bool
is_borne plan ids =
    are_below (plan_nodes plan) ids && is_rising ids && nat_le (length ids) (plan_faults plan)

-- whether some correct node from one to another, the last left out, needs a state
abbrev pub needs_state : (unknown faulty : List ℕ) → (from to : ℕ) → Bool
needs_state unknown faulty from to =
    list_any (λ v. is_in unknown v && not (is_in faulty v)) (range_with_len from (to - from))

-- ---- the head

abbrev pub base_step : (version base : ℕ) → Onward
base_step version base = if is_some (base_premise base) then refused
    else goes
    (planned version (record { version = plan_version version; base = base; levels = [] }))

-- whether the spares of a level are said exactly if the version says them
abbrev pub spares_fit : (version : ℕ) → Option ℕ → Bool
spares_fit version None = not (version == 3)
spares_fit version (Some s) = version == 3

-- whether a level may stand on a plan
abbrev pub level_fits : (version : ℕ) → Plan → (k f c : ℕ) → (spares : Option ℕ) → Bool
level_fits version plan k f c spares =
    spares_fit version spares
    && not (is_some (first_premise (numbers_below plan) (line k f c (unwrap_or spares 0))))

abbrev pub level_step : (version : ℕ) → Plan → (k f c : ℕ) → (spares : Option ℕ) → Onward
level_step version plan k f c spares =
    if level_fits version plan k f c spares
    then goes (planned version (with_level plan (line k f c (unwrap_or spares 0))))
    else refused

-- before the first row: no state is known
abbrev pub nothing_known : (version : ℕ) → Plan → List ℕ → Known
nothing_known version plan faulty = record {
  version = version;
  plan = plan;
  eras = 0;
  at = 0;
  stand = record {
    faulty = faulty;
    config = unless_faulty plan faulty (λ v. zero_state (plan_depth plan));
  };
  differs = None;
  locked = None;
}

abbrev pub faulty_step : (version : ℕ) → Plan → List ℕ → Onward
faulty_step version plan ids =
    if is_borne plan ids
    then goes (putting (nothing_known version plan ids) (range_with_len 0 (plan_nodes plan)) 0)
    else refused

-- ---- states and rows

abbrev pub put_state : Known → ℕ → List ℕ → Known
put_state k v digits =
    record k {
      stand = record {
        faulty = k.stand.faulty;
        config = slice_set k.stand.config v (read_text (fields_of k.plan v) digits);
      };
    }

-- whether the next state that is put may be that of v with these digits
abbrev pub start_fits : Known → (unknown : List ℕ) → (from v : ℕ) → (digits : List ℕ) → Bool
start_fits k unknown from v digits =
    nat_le from v && nat_lt v (plan_nodes k.plan) && not (is_in k.stand.faulty v)
    && not (needs_state unknown k.stand.faulty from v)
    && is_state_text (fields_of k.plan v) digits

abbrev pub same_marks : List Bool → List Bool → Bool
same_marks [] [] = true
same_marks (true ∷ xs) (true ∷ ys) = same_marks xs ys
same_marks (false ∷ xs) (false ∷ ys) = same_marks xs ys
same_marks xs ys = false

-- exactly the faulty nodes have no number in a row
abbrev pub is_row : Plan → List ℕ → List (Option ℕ) → Bool
is_row plan faulty row =
    same_marks (map is_some row)
    (map (λ v. not (is_in faulty v)) (range_with_len 0 (plan_nodes plan)))

-- what is known once the row of configuration `at` was read
abbrev pub compared : Known → List (Option ℕ) → Known
compared k row = record k {
  differs = first_of k.differs (not (same_rows row (shown_row k.plan k.stand))) k.at;
  locked = first_of k.locked (is_locked k.plan k.stand.faulty k.stand.config) k.at;
}

abbrev pub row_fits : Known → (t : ℕ) → List (Option ℕ) → Bool
row_fits k t row = nat_eq t k.at && is_row k.plan k.stand.faulty row

-- whether a row may stand when states are put
abbrev pub first_row_fits : Known → (unknown : List ℕ) → (from t : ℕ) → List (Option ℕ) → Bool
first_row_fits k unknown from t row =
    not (needs_state unknown k.stand.faulty from (plan_nodes k.plan)) && row_fits k t row

-- ---- rounds

abbrev pub attributed : (n : ℕ) → (faulty : List ℕ) → List State → List Message
attributed n faulty states =
    map (λ (pair, state). record { sender = pair.0; receiver = pair.1; state = state })
    (zip (pairs_of n faulty) states)

-- the configuration after a round in which all was told, with these nodes faulty from there on
abbrev pub moved : Known → (faulty : List ℕ) → List State → Known
moved k faulty states = record k {
  at = k.at + 1;
  stand = record {
    faulty = faulty;
    config = stepped k.plan faulty k.stand
        (attributed (plan_nodes k.plan) k.stand.faulty states);
  };
}

-- whether the first of these pairs is u and v
abbrev pub is_next : (u v : ℕ) → List (ℕ × ℕ) → Bool
is_next u v [] = false
is_next u v (pair ∷ pairs) = nat_eq pair.0 u && nat_eq pair.1 v

abbrev pub has_round : Known → Bool
has_round k = nat_lt k.at most_rounds

abbrev pub all_told : Known → List State → Bool
all_told k told =
    has_round k && nat_eq (length told) (length (pairs_of (plan_nodes k.plan) k.stand.faulty))

abbrev pub lie_fits : Known → List State → (u v : ℕ) → List ℕ → Bool
lie_fits k told u v digits =
    has_round k && is_next u v (drop (length told) (pairs_of (plan_nodes k.plan) k.stand.faulty))
    && is_state_text (fields_of k.plan u) digits

abbrev pub era_fits : Known → List State → (t : ℕ) → List ℕ → Bool
era_fits k told t ids =
    all_told k told && nat_eq t (k.at + 1) && nat_lt k.eras (most_eras k.version)
    && is_borne k.plan ids

-- before the first row of an era
abbrev pub renewed : Known → List ℕ → List State → Known
renewed k ids told = record (moved k ids told) { eras = k.eras + 1; locked = None }

abbrev pub next_row_fits : Known → List State → (t : ℕ) → List (Option ℕ) → Bool
next_row_fits k told t row = all_told k told && row_fits (moved k k.stand.faulty told) t row

abbrev pub verdict_now : Known → Verdict
verdict_now k = verdict_by k.differs (k.at + 1) k.locked

abbrev pub end_step : Known → List State → Onward
end_step k [] = ends (verdict_now k)
end_step k (state ∷ told) = refused

-- ---- what an item does

abbrev pub step : Stage → Item → Onward
step unread (run_item version) =
    if nat_le 1 version && nat_le version 3 then goes (begun version) else refused
step (begun version) (base_item base) = base_step version base
step (planned version plan) (level_item k f c spares) = level_step version plan k f c spares
step (planned version plan) (faulty_item ids) = faulty_step version plan ids
step (putting k unknown from) (start_item v digits) =
    if start_fits k unknown from v digits then goes (putting (put_state k v digits) unknown (v + 1))
    else refused
step (putting k unknown from) (row_item t row) =
    if first_row_fits k unknown from t row then goes (telling (compared k row) []) else refused
step (telling k told) (lie_item u v digits) =
    if lie_fits k told u v digits
    then goes (telling k (told ++ read_text (fields_of k.plan u) digits ∷ [])) else refused
step (telling k told) (era_item t ids) =
    if era_fits k told t ids then goes (putting (renewed k ids told) k.stand.faulty 0) else refused
step (telling k told) (row_item t row) =
    if next_row_fits k told t row
    then goes (telling (compared (moved k k.stand.faulty told) row) []) else refused
step (telling k told) end_item = end_step k told
step stage item = refused

abbrev pub step_by : Stage → Option Item → Onward
step_by stage None = refused
step_by stage (Some item) = step stage item

-- what a line does
abbrev pub line_step : Stage → List ℕ → Onward
line_step stage line = step_by stage (said line)

-- a verdict after which nothing stands
abbrev pub at_end : Verdict → List Item → Option Verdict
at_end v [] = Some v
at_end v (item ∷ items) = None

-- what reading these items from a stage on comes to, if they end a certificate
abbrev pub accepts : Stage → List Item → Option Verdict
accepts stage [] = None
accepts stage (item ∷ items) = elim (step stage item) [
  | goes next ↦ accepts next items
  | ends v ↦ at_end v items
  | refuses r ↦ None
]

-- nothing may stand after the last line
abbrev pub unless_followed : Verdict → (taken : ℕ) → List (List ℕ) → Result Verdict ℕ
unless_followed verdict taken [] = Ok verdict
unless_followed verdict taken (line ∷ lines) = Err (taken + 1)

abbrev pub alone : (rest : List ℕ) → Result (Found Verdict) (At (Unit {0})) → Result Verdict ℕ
alone rest (Err at) = Err at.line
alone [] (Ok found) = unless_followed found.value found.taken found.behind
alone (b ∷ rest) (Ok found) = Err (found.taken + 1)

-- the verdict of a text, or its first line at which it is no certificate
abbrev pub checked : List ℕ → Result Verdict ℕ
checked text = alone (open_rest text) (part_from line_step tt unread 0 1 (whole_lines text))
