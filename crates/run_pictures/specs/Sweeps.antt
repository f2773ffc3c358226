-- The text of a sweep, and where its lines belong: each one's runs are a part of a bar, which
-- stands where its configurations say, and is as high as its runs say; and where the bound belongs.
use Rattle.std.specs.Prelude.{◌≡◌, ℕ, ◌+◌, ◌-◌, ◌*◌, ◌/◌, ◌<◌, ◌≤◌, ◌==◌, ◌&&◌, nat_lt, not, Bool}
use Rattle.std.specs.Prelude.{true, false, List, [], ◌∷◌, ◌++◌, Option, Some, None, All}
use Rattle.std.specs.Prelude.{if◌then◌else◌, codes, decimal, length, min, slice_index_or}
use Rattle.std.specs.List.{concat, flat_map}
use Rattle.run_pictures.specs.declared.sweep_charts.Tally.{Tally}
use Rattle.run_pictures.specs.declared.sweep_charts.Sweep.{Sweep}
use Rattle.picture_parts.specs.LineWords.{bound_line, era_words, locked_words}

-- ---- the text

abbrev pub runs_words : Tally → List ℕ
runs_words tally =
    concat (codes " runs " ∷ decimal tally.runs ∷ codes " seed " ∷ decimal tally.seed ∷ [])

abbrev pub tally_words : Tally → List ℕ
tally_words tally =
    era_words (Some tally.era) ++ (locked_words tally.locked ++ runs_words tally)

abbrev pub tally_line : Tally → List ℕ
tally_line tally = tally_words tally ++ codes "\n"

abbrev pub sweep_text : Sweep → List ℕ
sweep_text sweep = bound_line sweep.bound ++ flat_map tally_line sweep.tallies.items

-- ---- the lines in their order

-- whether a first locked configuration is later than one before; none is later than each
abbrev pub locks_later : Option ℕ → Option ℕ → Bool
locks_later None locked = false
locks_later (Some before) None = true
locks_later (Some before) (Some locked) = nat_lt before locked

-- Whether a line may come after the one before it, if there is one: first locked configurations
-- rise in an era, and eras rise, from that which begins at 0 on.
abbrev pub comes_behind : Option Tally → Tally → Bool
comes_behind None tally = tally.era == 0
comes_behind (Some before) tally =
    if before.era == tally.era
    then locks_later before.locked tally.locked
    else nat_lt before.era tally.era

-- how many eras stand before that of a line
abbrev pub band_behind : Option Tally → Tally → ℕ
band_behind None tally = 0
band_behind (Some before) tally =
    if before.era == tally.era then before.band else before.band + 1

-- how many runs its era has in the lines before it
abbrev pub total_before : Option Tally → Tally → ℕ
total_before None tally = 0
total_before (Some before) tally = if before.era == tally.era then before.total else 0

-- and how many its bar has
abbrev pub upto_before : Option Tally → Tally → ℕ
upto_before None tally = 0
upto_before (Some before) tally =
    if (before.era == tally.era) && (before.column == tally.column) then before.upto else 0

abbrev pub has_lock : Option ℕ → Bool
has_lock None = false
has_lock (Some locked) = true

-- the line before knows whether no line of its era after it has a first locked configuration
abbrev pub is_worst_known : Option Tally → Tally → Bool
is_worst_known None tally = true
is_worst_known (Some before) tally =
    if (before.era == tally.era) && has_lock tally.locked
    then not before.is_worst
    else before.is_worst

-- ---- where they stand

-- all bars stand for equally many configurations, from that on with which the era begins; the runs
-- that have no first locked configuration are on the right of all
abbrev pub StandsAt : Sweep → (era column : ℕ) → Option ℕ → Type 0
StandsAt sweep era column None = column ≡ sweep.columns + 1
StandsAt sweep era column (Some locked) =
    (era ≤ locked) × (column ≡ (locked - era) / sweep.span) × (column < sweep.columns)

-- A line in its place, after the one before it. Its foot is rounded down and its head up, so that
-- each line is at least 1 high.
pub record IsPlaced (sweep : Sweep) (before : Option Tally) (tally : Tally) : Type 0 where
  pub behind : comes_behind before tally ≡ true
  pub known : is_worst_known before tally ≡ true
  pub some : 1 ≤ tally.runs
  pub band : tally.band ≡ band_behind before tally
  pub column : StandsAt sweep tally.era tally.column tally.locked
  pub total : tally.total ≡ total_before before tally + tally.runs
  pub upto : tally.upto ≡ upto_before before tally + tally.runs
  pub high : tally.upto ≤ sweep.most
  pub foot : tally.foot ≡ (tally.upto - tally.runs) * 100 / sweep.most
  pub head : tally.head ≡ (tally.upto * 100 + (sweep.most - 1)) / sweep.most

-- of each of these, and the one before it if there is one, something holds
abbrev pub AreChained : {X : Type 0} → (Option X → X → Type 0) → Option X → List X → Type 0
AreChained Holds before [] = Unit {0}
AreChained Holds before (x ∷ xs) = Holds before x × AreChained Holds (Some x) xs

-- the last of them, or the one before all if there is none
abbrev pub last_or : {X : Type 0} → Option X → List X → Option X
last_or before [] = before
last_or before (x ∷ xs) = last_or (Some x) xs

-- some bar has as many runs as the highest one
pub record IsReached (most : ℕ) (tallies : List Tally) : Type 0 where
  pub place : ℕ
  pub inside : place < length tallies
  pub is : (d : Tally) → (slice_index_or tallies place d).upto ≡ most

-- there is a last line, after which there is none, and its era is the last one
abbrev pub IsEnd : Sweep → Option Tally → Type 0
IsEnd sweep None = ⊥
IsEnd sweep (Some tally) = (tally.is_worst ≡ true) × (sweep.bands ≡ tally.band + 1)

-- the bound stands where its range does, or after the last bar if it is beyond that
abbrev pub IsBoundPlaced : Sweep → Type 0
IsBoundPlaced sweep = sweep.bound_column ≡ min (sweep.bound / sweep.span) sweep.columns

pub record IsSweepLaid (sweep : Sweep) : Type 0 where
  pub span : 1 ≤ sweep.span
  pub most : 1 ≤ sweep.most
  pub bound : IsBoundPlaced sweep
  pub placed : AreChained (IsPlaced sweep) None sweep.tallies.items
  pub reached : IsReached sweep.most sweep.tallies.items
  pub ended : IsEnd sweep (last_or None sweep.tallies.items)
  pub numbers : All (λ tick. tick.number ≡ tick.column * sweep.span) sweep.ticks.items
