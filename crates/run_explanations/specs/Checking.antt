-- How an explanation that is given is tested, by the stretch that ends with its window.
use Rattle.std.specs.Prelude.{ℕ, ◌+◌, ◌-◌, ◌/◌, ◌%◌, ◌≤◌, Bool, false, ◌==◌, ◌&&◌, nat_le, Option}
use Rattle.std.specs.Prelude.{Some, None}
use Rattle.run_explanations.specs.declared.explanations.Explanation.{Explanation}
use Rattle.run_explanations.specs.declared.seeing.Observation.{Observation}
use Rattle.run_explanations.specs.declared.searching.LeaderStreak.{LeaderStreak}
use Rattle.run_explanations.specs.Searching.{begins_phase}

-- the window begins in the era and ends by the last configuration, and the phase is in it
pub record IsWithinWindow (beat since last : ℕ) (e : Explanation) : Type 0 where
  pub from : since ≤ e.window
  pub window : e.window + beat ≤ last + 1
  pub begins : e.window ≤ e.phase
  pub ends : e.phase + 3 ≤ e.window + beat

module _ (beat : ℕ) (faulty : ℕ → Bool) (last : ℕ) where
  -- whether this leader was seen, and this king's phase begins when it is said to
  abbrev pub is_of_seen : (count : ℕ) → Option Observation → Explanation → Bool
  is_of_seen count None e = false
  is_of_seen count (Some seen) e =
      nat_le beat count && seen.leader == e.leader
      && begins_phase beat faulty last e.window ((seen.part + 1) % beat) (e.phase - e.window)
      && ((seen.part + 1) % beat + (e.phase - e.window)) % beat / 3 == e.king

  abbrev pub is_of : LeaderStreak → Explanation → Bool
  is_of stretch e = is_of_seen stretch.count stretch.seen e
