-- The search for an explanation, by what each configuration shows. A stretch says for how many
-- configurations one leader has been seen, with a part that grows by one; when it is as long as the
-- beat, a window ends.
use Rattle.std.specs.Prelude.{ℕ, zero, suc, ◌+◌, ◌-◌, ◌/◌, ◌%◌, Bool, false, not, ◌==◌, ◌&&◌}
use Rattle.std.specs.Prelude.{nat_le, Option, Some, None, if◌then◌else◌}
use Rattle.std.specs.Option.{option_map}
use Rattle.run_explanations.specs.declared.explanations.Explanation.{Explanation}
use Rattle.run_explanations.specs.declared.seeing.Observation.{Observation}
use Rattle.run_explanations.specs.declared.searching.LeaderStreak.{LeaderStreak}

-- whether what is seen goes on: the same leader, and a part that is one more
abbrev pub goes_on : (beat : ℕ) → Option Observation → Observation → Bool
goes_on beat None now = false
goes_on beat (Some before) now =
    before.leader == now.leader && now.part == (before.part + 1) % beat

-- a stretch of no configuration
abbrev pub no_stretch : LeaderStreak
no_stretch = record { seen = None; count = 0 }

-- a stretch and one more configuration, which shows this
abbrev pub stretched : (beat : ℕ) → LeaderStreak → Option Observation → LeaderStreak
stretched beat stretch None = no_stretch
stretched beat stretch (Some now) = record {
  seen = Some now;
  count = if goes_on beat stretch.seen now then stretch.count + 1 else 1;
}

-- the one that is known, or else the other
abbrev pub first_or : {X : Type 0} → Option X → Option X → Option X
first_or (Some known) other = Some known
first_or None other = other

-- the first number below n that passes a test
abbrev pub first_below : (test : ℕ → Bool) → (n : ℕ) → Option ℕ
first_below test zero = None
first_below test (suc n) = first_or (first_below test n) (if test n then Some n else None)

-- the stretch of configurations from `from` on that ends before configuration c
module _ (beat from : ℕ) (seen_at : ℕ → Option Observation) where
  abbrev pub stretch_before : (c : ℕ) → LeaderStreak
  stretch_before zero = no_stretch
  stretch_before (suc c) =
      if nat_le from c then stretched beat (stretch_before c) (seen_at c) else stretch_before c

module _ (beat : ℕ) (faulty : ℕ → Bool) (last : ℕ) where
  -- Whether the phase of a correct king begins x configurations after configuration t, in which the
  -- part is `start`, and ends by the last one.
  abbrev pub begins_phase : (t start x : ℕ) → Bool
  begins_phase t start x =
      (start + x) % beat % 3 == 0 && not (faulty ((start + x) % beat / 3))
      && nat_le (t + x + 3) last

  -- the explanation of that phase, in the window of leader b from configuration t on
  abbrev pub explained_by : (t b start x : ℕ) → Explanation
  explained_by t b start x =
      record { window = t; leader = b; phase = t + x; king = (start + x) % beat / 3 }

  -- that of the first such phase that ends in the window
  abbrev pub explained_in : (t b start : ℕ) → Option Explanation
  explained_in t b start = option_map (explained_by t b start)
      (first_below (begins_phase t start) (beat - 2))

  -- that of the window which ends with configuration c, if a stretch ends there
  abbrev pub explained_from : (c count : ℕ) → Option Observation → Option Explanation
  explained_from c count None = None
  explained_from c count (Some seen) =
      if nat_le beat count
      then explained_in (c + 1 - beat) seen.leader ((seen.part + 1) % beat) else None

  module _ (from : ℕ) (seen_at : ℕ → Option Observation) where
    -- the explanation of the window that ends with configuration c
    abbrev pub explained_at : (c : ℕ) → Option Explanation
    explained_at c =
        explained_from c (stretch_before beat from seen_at (suc c)).count
        (stretch_before beat from seen_at (suc c)).seen

    -- that of the first window that ends before configuration c and has one
    abbrev pub found_before : (c : ℕ) → Option Explanation
    found_before zero = None
    found_before (suc c) = first_or (found_before c) (explained_at c)
