-- What the empty script has and each line keeps, every script that is read has.
use Rattle.std.proofs.Common.{◌≡◌, ℕ, ◌+◌, List, Bool, true, false, if◌then◌else◌, Option, Some}
use Rattle.std.proofs.Common.{None, Result, Ok, Err, refl}
use Rattle.std.specs.Prelude.{IfOk}
use Rattle.texts.specs.Lines.{words_of}
use Rattle.texts.specs.Parts.{Next, refuses, with_skips, Found, At}
use Rattle.texts.proofs.Parts.{After, skips_keep, part_keeps}
use Rattle.sync_types.specs.declared.answers.Rule.{Rule}
use Rattle.sync_types.specs.declared.answers.Rule.TheVariants as rule
use Rattle.state_codec.specs.Shapes.{Shape}
use Rattle.plan_reader.specs.Skipped.{first_unskipped}
use Rattle.adversary_script.specs.declared.kinds.Kind.{Kind}
use Rattle.adversary_script.specs.declared.kinds.Kind.TheVariants as kind
use Rattle.adversary_script.specs.Kinds.{kind_of, may_follow}
use Rattle.adversary_script.specs.Scripts.{Script, empty_script}
use Rattle.adversary_script.specs.Steps.{line_step}
use Rattle.adversary_script.specs.ScriptPart.{ScriptSoFar, nothing_read, passed, read_as}
use Rattle.adversary_script.specs.ScriptPart.{script_step, part_for, unless_followed, alone}
use Rattle.adversary_script.specs.ScriptPart.{script_for}

-- P speaks of the kind of the last line and of what was said
module _ (nodes faults : ℕ) (shape : Shape) (P : Option Kind → Script → Type 0)
    (line_keeps : (last : Option Kind) (k : Kind) (s : Script) (words : List (List ℕ))
    → may_follow last k ≡ true → P last s → IfOk (line_step faults k s words) (P (Some k))) where
  -- what is kept from line to line
  abbrev Kept : ScriptSoFar → Type 0
  Kept s = (s.faults ≡ faults) × P s.last s.script

  -- what the last line leaves
  abbrev Closed : Script → Type 0
  Closed script = P (Some kind.End) script

  passed_keeps : (s : ScriptSoFar) (k : Kind) (r : Result Script Rule) → Kept s
      → IfOk r (P (Some k)) → After Kept Closed (passed s k r)
  passed_keeps s k (Err r) kept h = tt
  passed_keeps s kind.End (Ok script) kept h = h
  passed_keeps s k (Ok script) kept h = (kept.0, h)

  may_keep : (s : ScriptSoFar) (b : Bool) (x : Next ScriptSoFar Script Rule)
      → (b ≡ true → After Kept Closed x) → After Kept Closed (if b then x else refuses rule.Form)
  may_keep s true x h = h refl
  may_keep s false x h = tt

  read_keeps : (s : ScriptSoFar) (found : Option (Kind × List (List ℕ))) → Kept s
      → After Kept Closed (read_as s found)
  read_keeps s None kept = tt
  read_keeps s (Some (k, words)) kept =
      may_keep s (may_follow s.last k) (passed s k (line_step s.faults k s.script words)) (λ may.
      let line : IfOk (line_step s.faults k s.script words) (P (Some k)) =
      rw kept.0 (line_keeps s.last k s.script words may kept.1) in
      passed_keeps s k (line_step s.faults k s.script words) kept line)

  step_keeps : (s : ScriptSoFar) (line : List ℕ) → Kept s
      → After Kept Closed (with_skips script_step rule.Form s line)
  step_keeps s line kept =
      skips_keep script_step rule.Form Kept Closed s line kept
      (read_keeps s (kind_of (words_of line)) kept)

  followed_keeps : (number : Option ℕ) (script : Script) → Closed script
      → IfOk (unless_followed number script) Closed
  followed_keeps None script h = h
  followed_keeps (Some number) script h = tt

  alone_keeps : (number : ℕ) (r : Result (Found Script) (At Rule))
      → IfOk r (λ found. Closed found.value) → IfOk (alone number r) Closed
  alone_keeps number (Ok found) h =
      followed_keeps (first_unskipped (number + found.taken) found.behind) found.value h
  alone_keeps number (Err refusal) h = tt

  pub script_has : P None (empty_script nodes shape)
      → (number : ℕ) (lines : List (List ℕ)) → IfOk (script_for nodes faults shape number lines)
      (P (Some kind.End))
  unfolding script_for
  script_has empty number lines =
      alone_keeps number (part_for nodes faults shape number lines)
      (part_keeps (with_skips script_step rule.Form) rule.Form Kept Closed step_keeps lines
      (nothing_read nodes faults shape) 0 number (refl, empty))
