-- What is written in the place of the best attack was played, and locks no sooner.
use Rattle.std.proofs.Common.{◌≡◌, ℕ, zero, suc, ◌+◌, ◌-◌, Option, Bool, true, false, length, refl}
use Rattle.std.proofs.Common.{add-one}
use Rattle.std.specs.Prelude.{if◌then◌else◌}
use Rattle.state_codec.specs.Shapes.{Shape}
use Rattle.machines.specs.Machines.{Machine}
use Rattle.attack.specs.Attacks.{Attack}
use Rattle.attack.specs.Targets.{IsTarget}
use Rattle.attack.specs.Searches.{is_later, outcome}
use Rattle.attack.specs.SearchLaws.{IsPlayed}
use Rattle.attack.specs.Lean.{kept, without_lie, showing, kept_by, leaner, lean, finished}
use Rattle.attack.specs.LeanLaws.{IsAsLate, LeanIsAsLate}
use Rattle.attack.specs.declared.searching.Best.{Best}
use Rattle.attack.specs.declared.trying.Tried.{Tried}
use Rattle.attack.specs.declared.trying.Tried.TheVariants as tried
use Rattle.attack.proofs.BestOfTries.{outlasted, not_self, was_played}

-- one lie more is tried
pub leaner_more : (machine : Machine) (shape : Shape) (first_line count : ℕ) (best : Best) (i : ℕ)
    → let now = leaner machine shape first_line count best i in
    leaner machine shape first_line count best (i + 1)
    ≡ kept_by machine shape first_line now (without_lie (count - 1 - i) now.attack)
leaner_more machine shape first_line count best i = rw (add-one i) refl

module _ (machine : Machine) (shape : Shape) (first_line : ℕ)
    (target : IsTarget machine shape first_line) (best : Best) where
  abbrev Late : Best → Type 0
  Late now = IsAsLate machine shape first_line best now

  -- one that was played, by whether the one before it locks later
  by_test : (now : Best) (attack : Attack) (lock : Option ℕ) (later : Bool)
      → is_later now.lock lock ≡ later → Late now
      → outcome machine shape first_line attack ≡ tried.Played lock
      → Late (if later then now else record { attack = attack; lock = lock })
  by_test now attack lock true is late came = late
  by_test now attack lock false is late came = record {
    played = was_played machine shape first_line target attack lock came;
    no_sooner = outlasted lock now.lock best.lock is late.no_sooner;
  }

  by_outcome : (now : Best) (attack : Attack) (t : Tried) → Late now
      → outcome machine shape first_line attack ≡ t → Late (kept now attack t)
  by_outcome now attack tried.Refused late came = late
  by_outcome now attack (tried.Played lock) late came =
      by_test now attack lock (is_later now.lock lock) refl late came

  kept_late : (now : Best) (attack : Attack) → Late now
      → Late (kept_by machine shape first_line now attack)
  kept_late now attack late =
      by_outcome now attack (outcome machine shape first_line attack) late refl

  leaner_late : (count tries : ℕ) (now : Best) → Late now
      → Late (leaner machine shape first_line count now tries)
  leaner_late count zero now late = late
  leaner_late count (suc tries) now late =
      let last = leaner machine shape first_line count now tries in
      kept_late last (without_lie (count - 1 - tries) last.attack)
      (leaner_late count tries now late)

  lean_late : (now : Best) → Late now → Late (lean machine shape first_line now)
  lean_late now late = leaner_late (length now.attack.lies) (length now.attack.lies) now late

  finished_late : IsPlayed machine shape first_line best.attack best.lock
      → Late (finished machine shape first_line best)
  finished_late played =
      let once = lean machine shape first_line best in
      let last = lean machine shape first_line once in
      kept_late last (showing last)
      (lean_late once (lean_late best (record {
        played = played;
        no_sooner = not_self best.lock;
      })))

pub lean_is_as_late : LeanIsAsLate
lean_is_as_late machine shape first_line best target played =
    finished_late machine shape first_line target best played
