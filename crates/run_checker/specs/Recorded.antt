-- The certificate of a script's run.
use Rattle.std.specs.Prelude.{◌≡◌, ℕ, ◌+◌, ◌<◌, ◌≤◌, ◌==◌, ◌&&◌, ◌||◌, List, [], map, filter}
use Rattle.std.specs.Prelude.{length, Bool, true, false, not, Option, Some, None, find, is_some}
use Rattle.std.specs.Prelude.{slice_index_or, if◌then◌else◌}
use Rattle.std.specs.List.{range_with_len}
use Rattle.construction.specs.Plans.{Plan, plan_nodes}
use Rattle.construction.specs.Steps.{state_of}
use Rattle.construction.specs.Runs.{is_in}
use Rattle.state_codec.specs.Texts.{written_text}
use Rattle.adversary_script.specs.Scripts as scripts
use Rattle.adversary_script.specs.Scripts.{Script}
use Rattle.adversary_script.specs.Eras.{faulty_at}
use Rattle.adversary_script.specs.Lies.{lie_of}
use Rattle.adversary_script.specs.Lookup.{hit_at}
use Rattle.round_runner.specs.Locks.{correct_nodes, era_locked, first_locked}
use Rattle.round_runner.specs.Played.{played_at}
use Rattle.round_runner.specs.Laws.{IsReadFor}
use Rattle.run_checker.specs.declared.Verdict.TheVariants as verdict
use Rattle.run_checker.specs.NodeFields.{fields_of}
use Rattle.run_checker.specs.Certificates.{Put, Lie, Era, Turn, Certificate}
use Rattle.run_checker.specs.Grammar.{pairs_of, IsCertificate}
use Rattle.run_checker.specs.Stated.{Snapshot, told_by, told_of, stated, shown_row}
use Rattle.run_checker.specs.Stated.{first_difference, verdict_of}

module _ (plan : Plan) (s : Script) where
  -- configuration t, with its faulty nodes
  abbrev pub stand_at : ℕ → Snapshot
  stand_at t = record { faulty = faulty_at s t; config = played_at plan s t }

  -- node v in its state of configuration t
  abbrev pub put_at : (t v : ℕ) → Put
  put_at t v = record {
    node = v;
    digits = written_text (fields_of plan v) (state_of (played_at plan s t) v);
  }

  -- what u tells v in round t
  abbrev pub lie_at : (t : ℕ) → ℕ × ℕ → Lie
  lie_at t (u, v) = record {
    sender = u;
    receiver = v;
    digits = written_text (fields_of plan u) (lie_of s t u v (played_at plan s t));
  }

  -- whether the state of node v is stated when an era begins at configuration t + 1: it is correct
  -- there, and was faulty before, or the era puts it into a state
  abbrev pub is_put : (t v : ℕ) → Bool
  is_put t v =
      not (is_in (faulty_at s (t + 1)) v)
      && (is_in (faulty_at s t) v || is_some (hit_at s (t + 1) v))

  -- the states that are put when an era begins at configuration t + 1
  abbrev pub puts_at : (t : ℕ) → List Put
  puts_at t = map (put_at (t + 1)) (filter (is_put t) (range_with_len 0 (plan_nodes plan)))

  abbrev pub era_with : (t : ℕ) → Option scripts.Era → Option Era
  era_with t None = None
  era_with t (Some era) = Some (record { faulty = era.faulty; starts = puts_at t })

  -- the era that begins at configuration t, if one does
  abbrev pub era_at : ℕ → Option scripts.Era
  era_at t = find (λ era. era.first == t) s.eras

  -- round t, and what stands after it
  abbrev pub turn_at : ℕ → Turn
  turn_at t = record {
    lies = map (lie_at t) (pairs_of (plan_nodes plan) (faulty_at s t));
    era = era_with t (era_at (t + 1));
    row = shown_row plan (stand_at (t + 1));
  }

  -- version 3 for a plan that may have spares, else the script's
  abbrev pub recorded_version : ℕ
  recorded_version = if plan.version == 2 then 3 else if s.version == 1 then 1 else 2

  abbrev pub certificate_of : Certificate
  certificate_of = record {
    version = recorded_version;
    plan = plan;
    faulty = faulty_at s 0;
    starts = map (put_at 0) (correct_nodes (plan_nodes plan) (faulty_at s 0));
    row = shown_row plan (stand_at 0);
    turns = map turn_at (range_with_len 0 s.rounds);
  }

-- no row of what is recorded differs from the run that is stated
abbrev pub RecordedRowsAreTrue : Type 0
RecordedRowsAreTrue =
    (plan : Plan) (s : Script) → IsReadFor plan s → first_difference (certificate_of plan s) ≡ None

-- a script of version 1 has one era
abbrev pub HasItsEras : Script → Type 0
HasItsEras s = s.version ≡ 1 → s.eras ≡ []

-- What is recorded of a script is a certificate, and it is true: its rows are those of the run that
-- it states, and its verdict has the first locked configuration of the last era.
pub record IsTrueRecord (plan : Plan) (s : Script) : Type 0 where
  pub is : IsCertificate (certificate_of plan s)
  pub verdict : verdict_of (certificate_of plan s)
      ≡ verdict.True (s.rounds + 1)
      (first_locked (era_locked plan s (played_at plan s) (length s.eras)) s.rounds)

abbrev pub RecordsAreTrue : Type 0
RecordsAreTrue = (plan : Plan) (s : Script) → IsReadFor plan s → HasItsEras s → IsTrueRecord plan s

-- What is recorded is of the plan, and its stated run is what is played of the script: it has as
-- many rounds, in each configuration the same nodes are faulty and each correct one is in its
-- played state, and in each round a faulty node tells a correct one what the script lets it tell.
pub record IsOfRun (plan : Plan) (s : Script) : Type 0 where
  pub of_plan : (certificate_of plan s).plan ≡ plan
  pub rounds : length (certificate_of plan s).turns ≡ s.rounds
  pub faulty : (t : ℕ) (d : Snapshot) → t ≤ s.rounds
      → (slice_index_or (stated (certificate_of plan s)) t d).faulty ≡ faulty_at s t
  pub states : (t v : ℕ) (d : Snapshot) → t ≤ s.rounds → v < plan_nodes plan
      → is_in (faulty_at s t) v ≡ false
      → state_of (slice_index_or (stated (certificate_of plan s)) t d).config v
      ≡ state_of (played_at plan s t) v
  pub told : (t u v : ℕ) (d : Turn) → t < s.rounds → is_in (faulty_at s t) u ≡ true
      → v < plan_nodes plan → is_in (faulty_at s t) v ≡ false
      → told_of plan
      (map (told_by plan) (slice_index_or (certificate_of plan s).turns t d).lies) u v
      ≡ lie_of s t u v (played_at plan s t)

-- Each record is of its plan and script.
abbrev pub RecordsAreOfRuns : Type 0
RecordsAreOfRuns = (plan : Plan) (s : Script) → IsReadFor plan s → IsOfRun plan s
