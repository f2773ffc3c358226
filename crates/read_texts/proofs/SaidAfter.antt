-- What a script's lines say after one of a kind, and what may stand before a line of a kind.
use Rattle.std.proofs.Common.{◌≡◌, ℕ, ◌-◌, true, false, List, [], ◌∷◌, ◌++◌}
use Rattle.std.proofs.Common.{replicate, Option, Some, None}
use Rattle.std.proofs.Common.{sym}
use Rattle.std.proofs.Common.{ap, subst, ◌+◌}
use Rattle.std.proofs.lemmas.Bool.{true≢false}
use Rattle.adversary_script.specs.declared.kinds.Kind.{Kind}
use Rattle.adversary_script.specs.declared.kinds.Kind.TheVariants as kind
use Rattle.adversary_script.specs.Kinds.{may_follow}
use Rattle.read_texts.specs.ReadScripts.{SayLines}
use Rattle.adversary_script.specs.ScriptTexts.{version_line, faulty_line, seed_lines}
use Rattle.adversary_script.specs.ScriptTexts.{rounds_line, show_line}
use Rattle.adversary_script.specs.ScriptTexts.{last_lines}
use Rattle.adversary_script.specs.Scripts.{Script}
use Rattle.read_texts.proofs.SaidSections.{middle, key_lines}

abbrev pub zeros : List ℕ
zeros = replicate 32 0

-- nothing was said behind the head
abbrev pub IsBlank : Script → Type 0
IsBlank s = (s.starts ≡ []) × (s.eras ≡ []) × (s.groups ≡ []) × (s.lies ≡ [])

-- nothing was said of groups and lies
abbrev pub IsOpen : Script → Type 0
IsOpen s = (s.groups ≡ []) × (s.lies ≡ [])

-- what the lines say after one of a kind, and what they don't say yet
abbrev pub SaysAfter : Option Kind → Script → List (List ℕ) → Type 0
SaysAfter None s said = (said ≡ []) × (s.key ≡ zeros) × IsBlank s
SaysAfter (Some kind.Script) s said =
    SayLines s.shape said (version_line s.version ∷ []) × (s.key ≡ zeros) × IsBlank s
SaysAfter (Some kind.Faulty) s said =
    SayLines s.shape said (version_line s.version ∷ faulty_line s.faulty ∷ []) × (s.key ≡ zeros)
    × IsBlank s
SaysAfter (Some kind.Seed) s said = SayLines s.shape said (key_lines s) × IsBlank s
SaysAfter (Some kind.StartZero) s said = SayLines s.shape said (middle s) × IsOpen s
SaysAfter (Some kind.StartNoise) s said = SayLines s.shape said (middle s) × IsOpen s
SaysAfter (Some kind.StartNode) s said = SayLines s.shape said (middle s) × IsOpen s
SaysAfter (Some kind.Era) s said = SayLines s.shape said (middle s) × IsOpen s
SaysAfter (Some kind.Group) s said = SayLines s.shape said (middle s) × (s.lies ≡ [])
SaysAfter (Some kind.Lie) s said = SayLines s.shape said (middle s)
SaysAfter (Some kind.Rounds) s said =
    SayLines s.shape said (middle s ++ rounds_line s.rounds ∷ [])
SaysAfter (Some kind.Show) s said =
    SayLines s.shape said (middle s ++ rounds_line s.rounds ∷ show_line s.first s.last ∷ [])
SaysAfter (Some kind.End) s said = SayLines s.shape said (middle s ++ last_lines s)

-- ---- what stands before a line of a kind

module _ (s : Script) (said : List (List ℕ)) where
  pub before_script : (last : Option Kind) → may_follow last kind.Script ≡ true
      → SaysAfter last s said → SaysAfter None s said
  before_script None may h = h
  before_script (Some kind.Script) may h = absurd (true≢false (sym may))
  before_script last may h = absurd (true≢false (sym may))

  pub before_faulty : (last : Option Kind) → may_follow last kind.Faulty ≡ true
      → SaysAfter last s said → SaysAfter (Some kind.Script) s said
  before_faulty (Some kind.Script) may h = h
  before_faulty last may h = absurd (true≢false (sym may))

  pub before_seed : (last : Option Kind) → may_follow last kind.Seed ≡ true
      → SaysAfter last s said → SaysAfter (Some kind.Faulty) s said
  before_seed (Some kind.Faulty) may h = h
  before_seed last may h = absurd (true≢false (sym may))

  no_seed : SaysAfter (Some kind.Faulty) s said → SaysAfter (Some kind.Seed) s said
  no_seed h =
      let none : key_lines s ≡ version_line s.version ∷ faulty_line s.faulty ∷ [] =
      ap (λ (key : List ℕ). version_line s.version ∷ faulty_line s.faulty ∷ seed_lines key) h.1
      in
      (subst (SayLines s.shape said) (sym none) h.0, h.2)

  pub before_zero : (last : Option Kind) → may_follow last kind.StartZero ≡ true
      → SaysAfter last s said → SaysAfter (Some kind.Seed) s said
  before_zero (Some kind.Faulty) may h = no_seed h
  before_zero (Some kind.Seed) may h = h
  before_zero last may h = absurd (true≢false (sym may))

  pub before_noise : (last : Option Kind) → may_follow last kind.StartNoise ≡ true
      → SaysAfter last s said → SaysAfter (Some kind.Seed) s said
  before_noise (Some kind.Faulty) may h = no_seed h
  before_noise (Some kind.Seed) may h = h
  before_noise last may h = absurd (true≢false (sym may))

  pub before_node : (last : Option Kind) → may_follow last kind.StartNode ≡ true
      → SaysAfter last s said → SaysAfter (Some kind.StartNode) s said
  before_node (Some kind.StartZero) may h = h
  before_node (Some kind.StartNoise) may h = h
  before_node (Some kind.StartNode) may h = h
  before_node (Some kind.Era) may h = h
  before_node last may h = absurd (true≢false (sym may))

  pub before_era : (last : Option Kind) → may_follow last kind.Era ≡ true
      → SaysAfter last s said → SaysAfter (Some kind.StartNode) s said
  before_era (Some kind.StartZero) may h = h
  before_era (Some kind.StartNoise) may h = h
  before_era (Some kind.StartNode) may h = h
  before_era (Some kind.Era) may h = h
  before_era last may h = absurd (true≢false (sym may))

  pub before_group : (last : Option Kind) → may_follow last kind.Group ≡ true
      → SaysAfter last s said → SaysAfter (Some kind.Group) s said
  before_group (Some kind.StartZero) may h = (h.0, h.1.1)
  before_group (Some kind.StartNoise) may h = (h.0, h.1.1)
  before_group (Some kind.StartNode) may h = (h.0, h.1.1)
  before_group (Some kind.Era) may h = (h.0, h.1.1)
  before_group (Some kind.Group) may h = h
  before_group last may h = absurd (true≢false (sym may))

  pub before_lie : (last : Option Kind) → may_follow last kind.Lie ≡ true
      → SaysAfter last s said → SayLines s.shape said (middle s)
  before_lie (Some kind.StartZero) may h = h.0
  before_lie (Some kind.StartNoise) may h = h.0
  before_lie (Some kind.StartNode) may h = h.0
  before_lie (Some kind.Era) may h = h.0
  before_lie (Some kind.Group) may h = h.0
  before_lie (Some kind.Lie) may h = h
  before_lie last may h = absurd (true≢false (sym may))

  pub before_rounds : (last : Option Kind) → may_follow last kind.Rounds ≡ true
      → SaysAfter last s said → SayLines s.shape said (middle s)
  before_rounds (Some kind.StartZero) may h = h.0
  before_rounds (Some kind.StartNoise) may h = h.0
  before_rounds (Some kind.StartNode) may h = h.0
  before_rounds (Some kind.Era) may h = h.0
  before_rounds (Some kind.Group) may h = h.0
  before_rounds (Some kind.Lie) may h = h
  before_rounds last may h = absurd (true≢false (sym may))

  pub before_show : (last : Option Kind) → may_follow last kind.Show ≡ true
      → SaysAfter last s said → SaysAfter (Some kind.Rounds) s said
  before_show (Some kind.Rounds) may h = h
  before_show last may h = absurd (true≢false (sym may))

  pub before_end : (last : Option Kind) → may_follow last kind.End ≡ true
      → SaysAfter last s said → SaysAfter (Some kind.Show) s said
  before_end (Some kind.Show) may h = h
  before_end last may h = absurd (true≢false (sym may))
