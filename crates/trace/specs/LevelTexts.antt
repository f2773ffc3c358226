-- The line of a level in which a node takes part: its register there, and what it hears of its
-- group.
use Rattle.std.specs.Prelude.{ℕ, ◌+◌, ◌-◌, ◌*◌, ◌/◌, ◌%◌, nat_lt, List, [], ◌∷◌, ◌++◌}
use Rattle.std.specs.Prelude.{length, map, take, Bool, true, false, Option}
use Rattle.std.specs.Prelude.{if◌then◌else◌, codes, decimal}
use Rattle.std.specs.List.{concat, flat_map, range_with_len}
use Rattle.counting.specs.Values.{count_of, least_above}
use Rattle.sync_types.specs.States.{State, register_at}
use Rattle.sync_types.specs.declared.states.Reg.{Reg}
use Rattle.construction.specs.Plans.{Level, group_size, nodes_of}
use Rattle.construction.specs.Shown.{shown}
use Rattle.construction.specs.Steps.{state_of}
use Rattle.construction.specs.Votes.{block, vote, lead, beat_heard}
use Rattle.trace.specs.declared.headings.Heading.{Heading}
use Rattle.trace.specs.Words.{number_or_none, faulty_word, turn_word, all_have, mark_word}

-- ---- what the node hears of a group, whose blocks have n nodes and stand above l levels

-- the vote of a block
abbrev pub vote_word : (n : ℕ) → Level → (outputs : List ℕ) → (i : ℕ) → List ℕ
vote_word n level outputs i = codes " " ++ decimal (vote level n outputs i)

-- the votes of the blocks
abbrev pub votes_part : (n : ℕ) → Level → (outputs : List ℕ) → List ℕ
votes_part n level outputs =
    codes " votes" ++ flat_map (vote_word n level outputs) (range_with_len 0 level.blocks)

-- whose position is heard, and whose phase that is; the group begins with node `first`
abbrev pub turn_part : (n : ℕ) → Level → (first : ℕ) → (outputs : List ℕ) → List ℕ
turn_part n level first outputs =
    let position = beat_heard level n outputs in
    concat (codes " lead " ∷ decimal (lead level n outputs)
    ∷ codes " position " ∷ decimal position ∷ turn_word (position % 3)
    ∷ codes " king " ∷ decimal (first + position / 3) ∷ [])

-- at how many places the node's own value is heard, and the least finite one at more than f places
abbrev pub counts_part : (f : ℕ) → (own : Option ℕ) → (values : List (Option ℕ)) → List ℕ
counts_part f own values =
    concat (codes " same " ∷ decimal (count_of values own)
    ∷ codes " least " ∷ number_or_none (least_above f values) ∷ [])

abbrev pub heard_part : (l n : ℕ) → Level → (first : ℕ) → (own : Option ℕ) → (group : List State)
    → List ℕ
heard_part l n level first own group =
    let outputs = map (shown l) (take (level.blocks * n) group) in
    votes_part n level outputs ++ (turn_part n level first outputs
    ++ counts_part level.faults own (map (λ s. (register_at l s).a) group))

abbrev pub heard_if : (hears : Bool) → (l n : ℕ) → Level → (first : ℕ) → (own : Option ℕ)
    → (group : List State) → List ℕ
heard_if true l n level first own group = heard_part l n level first own group
heard_if false l n level first own group = []

-- ---- the lines of the levels

-- the beginning of a level's line, up to the node's own register there, which this is
abbrev pub level_front : Heading → (faulty : List ℕ) → List State → (l first many : ℕ) → Reg
    → List ℕ
level_front h faulty config l first many own =
    concat (codes "at " ∷ decimal h.at ∷ codes " node " ∷ decimal h.node ∷ faulty_word h.faulty
    ∷ codes " level " ∷ decimal (l + 1) ∷ codes " value " ∷ number_or_none own.a
    ∷ mark_word own.d (all_have l first many faulty config own.a) ∷ [])

-- Of a heading, with the faulty nodes and the configuration. If no round follows, nothing is heard.
module _ (h : Heading) (faulty : List ℕ) (config : List State) (hears : Bool) where
  -- the line of a level above l levels whose group begins with node `first`
  abbrev pub level_line : (l n : ℕ) → Level → (first : ℕ) → (group : List State) → List ℕ
  level_line l n level first group =
      let own = register_at l (state_of config h.node) in
      concat (level_front h faulty config l first (group_size level n) own
      ∷ heard_if hears l n level first own.a group ∷ codes "\n" ∷ [])

  -- The lines of the levels in which the node at a place of a group takes part, the lowest first,
  -- from what it hears of the group's nodes. A node of a block takes part in the levels of its
  -- block.
  abbrev pub level_lines : List Level → (place : ℕ) → (group : List State) → List ℕ
  level_lines [] place group = []
  level_lines (level ∷ below) place group =
      let n = nodes_of below in
      (if nat_lt place (level.blocks * n)
      then level_lines below (place % n) (block n (place / n) group) else [])
      ++ level_line (length below) n level (h.node - place) group
