-- The lines of the certificate of a script's run, as they are written while the script is played.
use Rattle.std.specs.Prelude.{ℕ, ◌+◌, List, [], ◌∷◌, reverse, ◌==◌, Option, Some, None}
use Rattle.std.specs.Prelude.{if◌then◌else◌, codes, decimal}
use Rattle.std.specs.List.{concat, flat_map, range_with_len}
use Rattle.sync_types.specs.States.{State}
use Rattle.construction.specs.Plans.{Level, Plan, plan_nodes, plan_depth}
use Rattle.construction.specs.Shown.{shown}
use Rattle.construction.specs.Steps.{state_of}
use Rattle.construction.specs.Runs.{is_in}
use Rattle.state_codec.specs.Shapes.{fields_at}
use Rattle.state_codec.specs.Texts.{written_text}
use Rattle.adversary_script.specs.Scripts as scripts
use Rattle.adversary_script.specs.Scripts.{Script}
use Rattle.adversary_script.specs.Eras.{faulty_at}
use Rattle.adversary_script.specs.Lies.{lie_of}
use Rattle.round_runner.specs.Played.{played_at}
use Rattle.run_checker.specs.Recorded.{is_put, era_at, recorded_version}

-- a word that is a number
abbrev pub number_word : ℕ → List ℕ
number_word n = concat (codes " " ∷ decimal n ∷ [])

-- ---- the plan

abbrev pub version_line : ℕ → List ℕ
version_line version = concat (codes "run " ∷ decimal version ∷ codes "\n" ∷ [])

abbrev pub base_line : ℕ → List ℕ
base_line base = concat (codes "base " ∷ decimal base ∷ codes "\n" ∷ [])

-- the spares of a level, which version 3 says
abbrev pub spares_text : (version spares : ℕ) → List ℕ
spares_text version spares =
    if version == 3 then concat (codes " spare " ∷ decimal spares ∷ codes "\n" ∷ []) else codes "\n"

abbrev pub level_front : Level → List ℕ
level_front level = concat (
    codes "level " ∷ decimal level.blocks
    ∷ codes " " ∷ decimal level.faults
    ∷ codes " " ∷ decimal level.modulus ∷ [])

abbrev pub level_line : (version : ℕ) → Level → List ℕ
level_line version level = concat (level_front level ∷ spares_text version level.spares ∷ [])

abbrev pub level_lines : (version : ℕ) → List Level → List ℕ
level_lines version levels = flat_map (level_line version) (reverse levels)

-- ---- rows

abbrev pub node_word : Plan → (faulty : List ℕ) → List State → ℕ → List ℕ
node_word plan faulty config v =
    if is_in faulty v then codes " *" else number_word (shown (plan_depth plan) (state_of config v))

abbrev pub node_words : Plan → (faulty : List ℕ) → List State → List ℕ
node_words plan faulty config =
    flat_map (node_word plan faulty config) (range_with_len 0 (plan_nodes plan))

abbrev pub row_front : ℕ → List ℕ
row_front t = concat (codes "row " ∷ decimal t ∷ [])

abbrev pub row_text : Plan → (faulty : List ℕ) → ℕ → List State → List ℕ
row_text plan faulty t config =
    concat (row_front t ∷ node_words plan faulty config ∷ codes "\n" ∷ [])

-- ---- faulty nodes

abbrev pub ids_text : List ℕ → List ℕ
ids_text ids = flat_map number_word ids

abbrev pub faulty_text : List ℕ → List ℕ
faulty_text ids = concat (codes "faulty" ∷ ids_text ids ∷ codes "\n" ∷ [])

abbrev pub era_front : ℕ → List ℕ
era_front t = concat (codes "era " ∷ decimal t ∷ [])

abbrev pub era_text : ℕ → List ℕ → List ℕ
era_text t ids = concat (era_front t ∷ ids_text ids ∷ codes "\n" ∷ [])

-- ---- states

module _ (s : Script) where
  abbrev pub start_text : List State → ℕ → List ℕ
  start_text config v = concat (
      codes "start " ∷ decimal v
      ∷ codes " " ∷ written_text (fields_at s.shape v) (state_of config v)
      ∷ codes "\n" ∷ [])

  abbrev pub first_start : List State → ℕ → List ℕ
  first_start config v = if is_in (faulty_at s 0) v then [] else start_text config v

  abbrev pub first_starts : (n : ℕ) → List State → List ℕ
  first_starts n config = flat_map (first_start config) (range_with_len 0 n)

  -- ---- what is told

  abbrev pub lie_text : (t : ℕ) → List State → (u v : ℕ) → List ℕ
  lie_text t config u v = concat (
      codes "lie " ∷ decimal u
      ∷ codes " " ∷ decimal v
      ∷ codes " " ∷ written_text (fields_at s.shape u) (lie_of s t u v config)
      ∷ codes "\n" ∷ [])

  abbrev pub lie_if : (t : ℕ) → List State → (u v : ℕ) → List ℕ
  lie_if t config u v = if is_in (faulty_at s t) v then [] else lie_text t config u v

  abbrev pub lies_from : (n t : ℕ) → List State → (u : ℕ) → List ℕ
  lies_from n t config u = flat_map (lie_if t config u) (range_with_len 0 n)

  abbrev pub lies_text : (n t : ℕ) → List State → List ℕ
  lies_text n t config = flat_map (lies_from n t config) (faulty_at s t)

-- ---- eras

module _ (plan : Plan) (s : Script) where
  -- the state of node v, if an era begins at configuration t + 1 and its state is stated there
  abbrev pub start_if : (t : ℕ) → List State → ℕ → List ℕ
  start_if t config v = if is_put plan s t v then start_text s config v else []

  abbrev pub starts_text : (t : ℕ) → List State → List ℕ
  starts_text t config = flat_map (start_if t config) (range_with_len 0 (plan_nodes plan))

  -- the lines of the era that begins at configuration t + 1, if one does
  abbrev pub era_lines : (t : ℕ) → List State → Option scripts.Era → List ℕ
  era_lines t config None = []
  era_lines t config (Some era) =
      concat (era_text (t + 1) (faulty_at s (t + 1)) ∷ starts_text t config ∷ [])

  -- ---- rounds

  -- what is written of round t: what is told in it, the era that begins after it, and the row
  abbrev pub turn_text : ℕ → List ℕ
  turn_text t = concat (
      lies_text s (plan_nodes plan) t (played_at plan s t)
      ∷ era_lines t (played_at plan s (t + 1)) (era_at plan s (t + 1))
      ∷ row_text plan (faulty_at s (t + 1)) (t + 1) (played_at plan s (t + 1)) ∷ [])

  abbrev pub turns_text : List ℕ
  turns_text = flat_map turn_text (range_with_len 0 s.rounds)

  -- ---- all lines

  abbrev pub head_text : List ℕ
  head_text = concat (
      version_line (recorded_version plan s)
      ∷ base_line plan.base
      ∷ level_lines (recorded_version plan s) plan.levels
      ∷ faulty_text (faulty_at s 0) ∷ [])

  abbrev pub record_text : List ℕ
  record_text = concat (
      head_text
      ∷ first_starts s (plan_nodes plan) (played_at plan s 0)
      ∷ row_text plan (faulty_at s 0) 0 (played_at plan s 0)
      ∷ turns_text
      ∷ codes "end\n" ∷ [])
