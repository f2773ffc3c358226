-- What the text of `demo` is read as, for every seed: who lies, what and when, and what is shown.
use Rattle.std.specs.Prelude.{◌≡◌, ℕ, ◌+◌, List, [], ◌∷◌, ◌++◌, replicate, MatchResult, Some}
use Rattle.std.specs.Int.{w64, to_be_bytes}
use Rattle.sync_types.specs.declared.status.Status.TheVariants as status
use Rattle.construction.specs.Plans.{Plan, plan_bound}
use Rattle.plan_numbers.specs.Numbers.{line}
use Rattle.adversary_script.specs.declared.lies.CommonStart.TheVariants as common
use Rattle.adversary_script.specs.declared.lies.Lie.{Lie}
use Rattle.adversary_script.specs.declared.lies.What.TheVariants as what
use Rattle.adversary_script.specs.declared.lies.Who.TheVariants as who
use Rattle.outcomes.specs.declared.commands.Command.TheVariants as command
use Rattle.outcomes.specs.declared.demo.Liars.{Liars}
use Rattle.outcomes.specs.DemoText.{liars_of, demo_text}
use Rattle.outcomes.specs.Inputs.{Scripted, scripted_of}
use Rattle.outcomes.specs.Commands.{defined}

-- two levels, the lower one of four nodes with one fault
abbrev pub demo_plan : Plan
demo_plan =
    record { version = 1; base = 2304; levels = line 3 3 10 0 ∷ line 4 1 960 0 ∷ [] }

-- the 32 bytes of its noise key: those of the seed, the highest first, and zeros
abbrev pub demo_key : (seed : ℕ) → List ℕ
demo_key seed = to_be_bytes w64 seed ++ replicate 24 0

-- node u says noise to all nodes, in all rounds
abbrev pub noise_of : (u : ℕ) → Lie
noise_of u = record { first = 0; last = 3363; sender = u; who = who.All; what = what.Noise }

-- The bound lies before the rows that are shown, and those are the last ones. The liars are faulty,
-- and say noise in all rounds; all nodes start in noise, and these bytes are its key.
pub record IsDemo (bytes : List ℕ) (liars : Liars) (scripted : Scripted) : Type 0 where
  pub plan : scripted.plan ≡ demo_plan
  pub bound : plan_bound scripted.plan ≡ 3264
  pub rounds : scripted.script.rounds ≡ 3364
  pub first : scripted.script.first ≡ 3360
  pub last : scripted.script.last ≡ 3364
  pub faulty : scripted.script.faulty ≡ liars.first ∷ liars.second ∷ liars.third ∷ []
  pub key : scripted.script.key ≡ bytes
  pub noisy : scripted.script.common ≡ common.Noise
  pub lies : scripted.script.lies
      ≡ noise_of liars.first ∷ noise_of liars.second ∷ noise_of liars.third ∷ []

-- the text of every seed is accepted as a plan and a script
abbrev pub DemoIsAccepted : Type 0
DemoIsAccepted = (seed : ℕ) → MatchResult (scripted_of (demo_text seed))
    (IsDemo (demo_key seed) (liars_of seed)) (λ refusal. ⊥)

-- By the seed there are three choices of liars: one in each block of four nodes, all in block 0, or
-- one there and two in block 1.
pub record LiarsAreSpread : Type 0 where
  pub apart : liars_of 0 ≡ record { first = 0; second = 4; third = 8 }
  pub together : liars_of 1 ≡ record { first = 0; second = 1; third = 2 }
  pub divided : liars_of 2 ≡ record { first = 3; second = 4; third = 5 }
  pub again : (seed : ℕ) → liars_of (seed + 3) ≡ liars_of seed

-- so the outcome is never a refusal
abbrev pub DemoIsAnswered : Type 0
DemoIsAnswered = (seed : ℕ) (input : List ℕ)
    → (defined (Some (command.Demo seed)) input).status ≡ status.Ok
