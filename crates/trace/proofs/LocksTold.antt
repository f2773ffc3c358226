-- On a boosting plan the line of a correct node at the top level says whether the configuration is
-- locked.
use Rattle.std.proofs.Common.{◌≡◌, ℕ, ◌+◌, ◌-◌, ◌*◌, ◌/◌, ◌%◌, ◌<◌, Bool, false, cond, ltb, List}
use Rattle.std.proofs.Common.{[], ◌∷◌, ◌++◌, length, sym, ap, ◌∙◌, subst, arith}
use Rattle.std.specs.Prelude.{nat_lt, codes, decimal}
use Rattle.std.specs.List.{concat}
use Rattle.sync_types.specs.FaultSets.{is_in}
use Rattle.sync_types.specs.States.{State, register_at}
use Rattle.sync_types.specs.declared.states.Reg.{Reg}
use Rattle.construction.specs.Plans.{Level, nodes_of}
use Rattle.construction.specs.Steps.{state_of}
use Rattle.construction.specs.Votes.{block}
use Rattle.adversary_script.specs.Eras.{faulty_at}
use Rattle.round_runner.specs.Locks.{is_locked_in}
use Rattle.round_runner.specs.Played.{played_at, heard_at}
use Rattle.trace.specs.declared.headings.Heading.{Heading}
use Rattle.trace.specs.Laws.{HasPart, told_front, TellsLock, LocksAreTold}
use Rattle.trace.specs.LevelTexts.{level_front, level_line, level_lines, heard_if}
use Rattle.trace.specs.NodeTexts.{state_line, view_text, node_text}
use Rattle.trace.specs.TraceTexts.{moment_text}
use Rattle.trace.specs.Words.{number_or_none}
use Rattle.trace.proofs.LockWords.{word_is}
use Rattle.trace.proofs.TextParts.{part_right, part_of, part_between}

abbrev heading_with : (t v : ℕ) → Bool → Heading
heading_with t v bad = record { at = t; node = v; faulty = bad }

module _ (faulty : List ℕ) (config : List State) (t v : ℕ) where
  abbrev heading : Heading
  heading = heading_with t v false

  -- what is told of the top level of these
  abbrev told : List Level → (l : ℕ) → List ℕ
  told levels l =
      told_front t v (codes " level " ∷ decimal (l + 1) ∷ []) (register_at l (state_of config v))
      (is_locked_in levels faulty config)

  front_is : (level : Level) (below : List Level) → v < nodes_of (level ∷ below)
      → is_in faulty v ≡ false
      → level_front heading faulty config (length below) (v - v) (nodes_of (level ∷ below))
      (register_at (length below) (state_of config v))
      ≡ told (level ∷ below) (length below)
  front_is level below node correct =
      let l : ℕ = length below in
      let n : ℕ = nodes_of (level ∷ below) in
      let own : Reg = register_at l (state_of config v) in
      let none : v - v ≡ 0 = omega arith in
      ap (λ (first : ℕ). level_front heading faulty config l first n own) none
      ∙ ap (λ (word : List ℕ). concat (codes "at " ∷ decimal t ∷ codes " node " ∷ decimal v
      ∷ codes " level " ∷ decimal (l + 1) ∷ codes " value " ∷ number_or_none own.a ∷ word ∷ []))
      (word_is l n faulty config v node correct)

  -- a line that the top level has
  view_tells : (hears : Bool) (levels : List Level) (heard : List State) → v < nodes_of levels
      → is_in faulty v ≡ false
      → TellsLock levels faulty config t v
      (view_text heading faulty config hears levels heard)
  view_tells hears [] heard node correct = tt
  view_tells hears (level ∷ below) heard node correct =
      let n : ℕ = nodes_of below in
      let l : ℕ = length below in
      let own : Reg = register_at l (state_of config v) in
      let part : List ℕ = told (level ∷ below) l in
      let rest : List ℕ = heard_if hears l n level (v - v) own.a heard ++ codes "\n" in
      let line : List ℕ =
      level_line heading faulty config hears l n level (v - v) heard in
      let here : HasPart part line = record {
        before = [];
        after = rest;
        is = ap (λ (front : List ℕ). front ++ rest) (front_is level below node correct);
      } in
      let lower : List ℕ =
      cond (ltb v (level.blocks * n)) (level_lines heading faulty config hears below (v % n)
      (block n (v / n) heard)) [] in
      part_right part (state_line heading (level ∷ below) (state_of config v)) (lower ++ line)
      (part_right part lower line here)

  -- a text that has each part of another one tells the same
  told_on : (levels : List Level) (one other : List ℕ)
      → ((part : List ℕ) → HasPart part one → HasPart part other)
      → TellsLock levels faulty config t v one → TellsLock levels faulty config t v other
  told_on [] one other on h = tt
  told_on (level ∷ below) one other on h = on (told (level ∷ below) (length below)) h

pub locks_are_told : LocksAreTold
locks_are_told plan script nodes first last t v from to named node correct =
    let faulty : List ℕ = faulty_at script t in
    let config : List State = played_at plan script t in
    let hears : Bool = nat_lt t script.rounds in
    let heard : List State = heard_at script t config v in
    let own : TellsLock plan.levels faulty config t v (node_text plan script t config v) =
    subst (λ (bad : Bool). TellsLock plan.levels faulty config t v
    (view_text (heading_with t v bad) faulty config hears plan.levels heard)) (sym correct)
    (view_tells faulty config t v hears plan.levels heard node correct) in
    told_on faulty config t v plan.levels (node_text plan script t config v) _
    (λ part h. part_between part
    (λ u. moment_text plan script nodes u (played_at plan script u)) first last t from to
    (part_of part (node_text plan script t config) nodes v named.0 v named.1 named.2 h)) own
