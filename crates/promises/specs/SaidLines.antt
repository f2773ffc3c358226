-- What the lines of a script say: which nodes are faulty from when on, in which states nodes are
-- put, and what faulty nodes tell.
use Rattle.std.specs.Prelude.{◌≡◌, ◌≢◌, ⊤, ℕ, suc, ◌+◌, ◌≤◌, true, List, ◌∷◌, ◌++◌}
use Rattle.std.specs.Prelude.{length, Some, None, slice_get}
use Rattle.std.specs.List.{AllByRecursion}
use Rattle.sync_types.specs.States.{State}
use Rattle.construction.specs.Steps.{state_of}
use Rattle.construction.specs.Runs.{is_in}
use Rattle.adversary_script.specs.declared.lies.Who.{Who}
use Rattle.adversary_script.specs.declared.lies.Who.TheVariants as who
use Rattle.adversary_script.specs.declared.lies.Lie.{Lie}
use Rattle.adversary_script.specs.declared.lies.Start.{Start}
use Rattle.adversary_script.specs.Scripts.{Script, Era, Group}
use Rattle.adversary_script.specs.Eras.{first_of_era, faulty_of_era}
use Rattle.adversary_script.specs.Lookup.{hit_at}
use Rattle.adversary_script.specs.Lies.{common_start, start_of, lie_state, lie_of}

-- Era 0 begins with configuration 0, and its faulty nodes are those of the script; each further one
-- begins where its line says, and its faulty nodes are those of this line.
pub record SaysEras (script : Script) : Type 0 where
  pub first : first_of_era script 0 ≡ 0
  pub faulty : faulty_of_era script 0 ≡ script.faulty
  pub firsts : (before after : List Era) (era : Era) → script.eras ≡ before ++ era ∷ after
      → first_of_era script (suc (length before)) ≡ era.first
  pub sets : (before after : List Era) (era : Era) → script.eras ≡ before ++ era ∷ after
      → faulty_of_era script (suc (length before)) ≡ era.faulty

-- none of these lines is of node v
abbrev pub NoneIsOf : (v : ℕ) → List Start → Type 0
NoneIsOf v lines = AllByRecursion (λ line. line.node ≢ v) lines

-- this is the first of the lines that is of node v
pub record IsFirstOf (v : ℕ) (lines : List Start) (line : Start) : Type 0 where
  pub before : List Start
  pub after : List Start
  pub is : lines ≡ before ++ line ∷ after
  pub own : line.node ≡ v
  pub none : NoneIsOf v before

-- A node starts in the state of its first start line, and one without such a line as all nodes do.
-- When an era begins, a node is put into the state of its first start line there, and one without
-- such a line is not hit.
pub record SaysStarts (script : Script) : Type 0 where
  pub own : (v : ℕ) (line : Start) → IsFirstOf v script.starts line → start_of script v ≡ line.state
  pub common : (v : ℕ) → NoneIsOf v script.starts
      → start_of script v ≡ common_start script script.common v
  pub hits : (before after : List Era) (era : Era) → script.eras ≡ before ++ era ∷ after
      → AllByRecursion (λ other. other.first ≢ era.first) before
      → (v : ℕ) (line : Start) → IsFirstOf v era.starts line
      → hit_at script era.first v ≡ Some line.state
  pub spared : (before after : List Era) (era : Era) → script.eras ≡ before ++ era ∷ after
      → AllByRecursion (λ other. other.first ≢ era.first) before
      → (v : ℕ) → NoneIsOf v era.starts → hit_at script era.first v ≡ None
  pub quiet : (t v : ℕ) → AllByRecursion (λ era. era.first ≢ t) script.eras
      → hit_at script t v ≡ None

-- node v is among those who hear a lie
abbrev pub Hears : List Group → Who → (v : ℕ) → Type 0
Hears groups who.All v = ⊤
Hears groups (who.Ids p q) v = (p ≤ v) × (v ≤ q)
Hears groups (who.Group i) v =
    (group : Group) × (slice_get groups i ≡ Some group) × (is_in group.ids v ≡ true)

-- the lie says what u tells v in round t
pub record Speaks (script : Script) (t u v : ℕ) (lie : Lie) : Type 0 where
  pub sender : lie.sender ≡ u
  pub from : lie.first ≤ t
  pub to : t ≤ lie.last
  pub heard : Hears script.groups lie.who v

-- What u tells v in round t is what the first lie gives that says this, and if none does, the state
-- of u's puppet.
pub record SaysLies (script : Script) : Type 0 where
  pub told : (before after : List Lie) (lie : Lie) → script.lies ≡ before ++ lie ∷ after
      → (t u v : ℕ) → Speaks script t u v lie
      → AllByRecursion (λ other. Speaks script t u v other → ⊥) before
      → (config : List State) → lie_of script t u v config ≡ lie_state script t u v config lie.what
  pub puppet : (t u v : ℕ) → AllByRecursion (λ lie. Speaks script t u v lie → ⊥) script.lies
      → (config : List State) → lie_of script t u v config ≡ state_of config u

-- all that the lines of a script say of its run
pub record SaysLines (script : Script) : Type 0 where
  pub eras : SaysEras script
  pub starts : SaysStarts script
  pub lies : SaysLies script
