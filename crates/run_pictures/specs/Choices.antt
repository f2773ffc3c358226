-- The text of a choice, a line for each plan, and where its plans belong: each one stands by its
-- nodes, and by its bound on a scale of decades.
use Rattle.std.specs.Prelude.{◌≡◌, ℕ, ◌+◌, ◌*◌, ◌/◌, ◌^◌, ◌<◌, ◌≤◌, ◌==◌, ◌&&◌, ◌||◌, nat_le}
use Rattle.std.specs.Prelude.{nat_lt, not, Bool, true, List, [], ◌∷◌, ◌++◌, Option, Some, None, All}
use Rattle.std.specs.Prelude.{if◌then◌else◌, codes, decimal, length}
use Rattle.std.specs.List.{concat, flat_map, starts_with}
use Rattle.run_pictures.specs.declared.choices.Choice.{Choice}
use Rattle.run_pictures.specs.declared.choices.Point.{Point}
use Rattle.run_pictures.specs.Sweeps.{AreChained}

-- ---- the text

abbrev pub point_words : Point → List ℕ
point_words point = concat (
    codes "nodes " ∷ decimal point.nodes
    ∷ codes " bound " ∷ decimal point.bound
    ∷ codes " bytes " ∷ decimal point.bytes
    ∷ codes " levels " ∷ decimal point.levels
    ∷ codes " " ∷ point.plan.now ∷ [])

abbrev pub point_line : Point → List ℕ
point_line point = point_words point ++ codes "\n"

abbrev pub choice_text : Choice → List ℕ
choice_text choice = flat_map point_line choice.points.items

-- ---- where the plans stand

-- whether a byte is one of these, or between them
abbrev pub is_between : (least most byte : ℕ) → Bool
is_between least most byte = nat_le least byte && nat_le byte most

-- small letters, digits, spaces and semicolons, of which the text of a plan consists
abbrev pub is_plain : ℕ → Bool
is_plain byte =
    (byte == 32) || ((byte == 59) || (is_between 48 57 byte || is_between 97 122 byte))

-- where a bound stands on the scale of decades: 0 stands where 1 does
abbrev pub on_scale : ℕ → ℕ
on_scale bound = if bound == 0 then 1 else bound

-- whether a plan is a halving plan; else it is a boosting plan
abbrev pub is_halving : Point → Bool
is_halving point = starts_with (λ a b. a == b) point.plan.now (codes "halving ")

-- Whether a plan has more nodes than the one before it, if there is one, and a lesser bound; or is
-- the first boosting plan after halving plans.
abbrev pub is_better : Option Point → Point → Bool
is_better None point = true
is_better (Some before) point =
    if is_halving before && not (is_halving point)
    then true
    else nat_lt before.nodes point.nodes && nat_lt point.bound before.bound

-- A plan in its place, after the one before it: the decade of its bound, and the first two digits
-- of that, or ten times a bound of one digit.
pub record IsPlotted (before : Option Point) (point : Point) : Type 0 where
  pub better : is_better before point ≡ true
  pub few : point.nodes ≤ 256
  pub least : 10 ^ point.decade ≤ on_scale point.bound
  pub most : on_scale point.bound < 10 * 10 ^ point.decade
  pub part : point.part ≡ on_scale point.bound * 10 / 10 ^ point.decade
  pub plain : All (λ byte. is_plain byte ≡ true) point.plan.now

-- all plans of a choice
abbrev pub ArePlotted : List Point → Type 0
ArePlotted points = AreChained IsPlotted None points

-- there are some
pub record IsChoiceLaid (choice : Choice) : Type 0 where
  pub some : 1 ≤ length choice.points.items
  pub plotted : ArePlotted choice.points.items
