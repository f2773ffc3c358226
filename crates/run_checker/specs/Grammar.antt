-- Which values are run certificates, and which lines begin one.
use Rattle.std.specs.Prelude.{◌≡◌, ℕ, ◌<◌, ◌≤◌, ◌==◌, List, [], ◌∷◌, ◌++◌, length, map, true, false}
use Rattle.std.specs.Prelude.{not, All, IfSome, ⊤, Option, Some, None, if◌then◌else◌}
use Rattle.std.specs.Option.{is_some}
use Rattle.std.specs.List.{flat_map, range_with_len, count_by}
use Rattle.std.specs.List.Sorted.{IsStrictlyIncreasing}
use Rattle.construction.specs.Plans.{Plan, plan_nodes}
use Rattle.construction.specs.Runs.{is_in, IsToleratedBy}
use Rattle.plan_numbers.specs.Premises.{IsAccepted}
use Rattle.run_checker.specs.NodeFields.{fields_of}
use Rattle.state_codec.specs.Texts.{is_state_text}
use Rattle.round_runner.specs.Locks.{correct_nodes}
use Rattle.run_checker.specs.Items.{HasLine, item_line}
use Rattle.run_checker.specs.Certificates.{Put, Era, Turn, Certificate, items_of}
use Rattle.adversary_script.specs.Scripts.{most_rounds}

-- each faulty node with each correct one, by sender and then by receiver
abbrev pub pairs_of : (n : ℕ) → (faulty : List ℕ) → List (ℕ × ℕ)
pairs_of n faulty = flat_map (λ u. map (λ v. (u, v)) (correct_nodes n faulty)) faulty

-- States of correct nodes in rising order. Each correct node of which none is known has one.
pub record AreStarts (plan : Plan) (unknown faulty : List ℕ) (starts : List Put) : Type 0 where
  pub rising : IsStrictlyIncreasing (map (λ put. put.node) starts)
  pub nodes : All (λ put. put.node < plan_nodes plan) starts
  pub correct : All (λ put. is_in faulty put.node ≡ false) starts
  pub needed : (v : ℕ) → v < plan_nodes plan → is_in unknown v ≡ true → is_in faulty v ≡ false
      → is_in (map (λ put. put.node) starts) v ≡ true
  pub states : All (λ put. is_state_text (fields_of plan put.node) put.digits ≡ true) starts

-- exactly the faulty nodes have no number in a row
pub record IsRow (plan : Plan) (faulty : List ℕ) (row : List (Option ℕ)) : Type 0 where
  pub size : map is_some row ≡ map (λ v. not (is_in faulty v)) (range_with_len 0 (plan_nodes plan))

-- the faulty nodes after a round
abbrev pub faulty_behind : List ℕ → Option Era → List ℕ
faulty_behind faulty None = faulty
faulty_behind faulty (Some era) = era.faulty

-- an era after a round with these faulty nodes
pub record IsEra (plan : Plan) (before : List ℕ) (era : Era) : Type 0 where
  pub borne : IsToleratedBy plan era.faulty
  pub starts : AreStarts plan before era.faulty era.starts

-- a round with these faulty nodes
pub record IsTurn (plan : Plan) (faulty : List ℕ) (turn : Turn) : Type 0 where
  pub told : map (λ lie. (lie.sender, lie.receiver)) turn.lies ≡ pairs_of (plan_nodes plan) faulty
  pub states : All (λ lie. is_state_text (fields_of plan lie.sender) lie.digits ≡ true) turn.lies
  pub era : IfSome turn.era (IsEra plan faulty)
  pub row : IsRow plan (faulty_behind faulty turn.era) turn.row

abbrev pub AreTurns : Plan → List ℕ → List Turn → Type 0
AreTurns plan faulty [] = ⊤
AreTurns plan faulty (turn ∷ turns) =
    IsTurn plan faulty turn × AreTurns plan (faulty_behind faulty turn.era) turns

-- the version of the plan of a certificate of a version
abbrev pub plan_version : ℕ → ℕ
plan_version version = if version == 3 then 2 else 1

-- how many eras may begin after rounds
abbrev pub most_eras : ℕ → ℕ
most_eras version = if version == 1 then 0 else 16

abbrev pub era_count : List Turn → ℕ
era_count turns = count_by (λ turn. is_some turn.era) turns

-- a run certificate
pub record IsCertificate (c : Certificate) : Type 0 where
  pub version : (1 ≤ c.version) × (c.version ≤ 3)
  pub plan_is : c.plan.version ≡ plan_version c.version
  pub accepted : IsAccepted c.plan
  pub borne : IsToleratedBy c.plan c.faulty
  pub starts : AreStarts c.plan (range_with_len 0 (plan_nodes c.plan)) c.faulty c.starts
  pub row : IsRow c.plan c.faulty c.row
  pub turns : AreTurns c.plan c.faulty c.turns
  pub rounds : length c.turns ≤ most_rounds
  pub eras : era_count c.turns ≤ most_eras c.version
  pub lines : All HasLine (items_of c)

-- these lines are the first of some run certificate
pub record AreFirstLines (lines : List (List ℕ)) : Type 0 where
  pub certificate : Certificate
  pub is : IsCertificate certificate
  pub rest : List (List ℕ)
  pub parts : map item_line (items_of certificate) ≡ lines ++ rest
