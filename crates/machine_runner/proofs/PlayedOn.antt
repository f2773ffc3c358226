-- A runner that plays on.
use Rattle.std.proofs.Common.{◌≡◌, ℕ, ◌<◌, ◌≤◌, sym, ap, ◌∙◌, subst, arith}
use Rattle.adversary_script.specs.Scripts.{Script}
use Rattle.machines.specs.Machines.{Machine}
use Rattle.machine_runner.specs.RunTexts.{lock_lines}
use Rattle.machine_runner.specs.Runners.{Running}
use Rattle.machine_runner.specs.ShownTexts.{lock_played}
use Rattle.machine_runner.specs.Counting.{Knows}

module _ {M : Type 0} (start : Running M) where
  -- the same runner at configuration t
  abbrev pub at_number : ℕ → Running M
  at_number t = record start { at = t }

  pub stands : (t : ℕ) → t ≡ start.at → start ≡ at_number t
  stands t is = ap at_number (sym is)

  module _ (r : Running M) (t : ℕ) (is : r ≡ at_number t) where
    pub script_is : r.script ≡ start.script
    script_is = ap (λ (r : Running M). r.script) is

    pub at_is : r.at ≡ t
    at_is = ap (λ (r : Running M). r.at) is

    pub own_number : r ≡ at_number r.at
    own_number = is ∙ ap at_number (sym at_is)

    -- there is a round to play before that one
    pub has_round : (end : ℕ) → t < end → end ≤ start.script.rounds → r.at < r.script.rounds
    has_round end lt within =
        let rounds = ap (λ (s : Script). s.rounds) script_is in
        omega (arith, at_is, lt, within, rounds)

    -- from there it plays on
    pub plays_on : (new : Running M) (n : ℕ) → new ≡ record r { at = n } → new ≡ at_number n
    plays_on new n on =
        on ∙ ap (λ (r : Running M). let s : Running M = record r { at = n } in s) is

module _ {M : Type 0} (machine : M → Machine) where
  -- what is known of one number is of another that is the same
  pub knows_there : (r : Running M) (t u : ℕ) → t ≡ u → Knows machine r t → Knows machine r u
  knows_there r t u same knows = subst (λ (t : ℕ). Knows machine r t) same knows

  -- the lines after those of the configurations are of the same run
  pub locks_after : (start r : Running M) (n : ℕ) → r ≡ record start { at = n }
      → lock_lines r.script (lock_played (machine r.machine) r.script)
      ≡ lock_lines start.script (lock_played (machine start.machine) start.script)
  locks_after start r n is =
      ap (λ (r : Running M). lock_lines r.script (lock_played (machine r.machine) r.script)) is
