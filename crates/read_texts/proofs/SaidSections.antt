-- The lines of a script with one more start, era, group or lie.
use Rattle.std.proofs.Common.{◌≡◌, ℕ, zero, suc, ◌+◌, ◌-◌, List, [], ◌∷◌, ◌++◌, length, map, Option}
use Rattle.std.proofs.Common.{Some, None, refl, sym, ap, ◌∙◌, subst, append_assoc, arith}
use Rattle.std.specs.Prelude.{slice_get, slice_set}
use Rattle.std.specs.List.{flat_map}
use Rattle.std.proofs.lemmas.List.{append-nil, map-append}
use Rattle.std.proofs.lemmas.List.Concat.{flat_map-append}
use Rattle.state_codec.specs.Shapes.{Shape}
use Rattle.adversary_script.specs.declared.lies.Lie.{Lie}
use Rattle.adversary_script.specs.declared.lies.Start.{Start}
use Rattle.adversary_script.specs.FaultySteps.{last_era, with_era}
use Rattle.adversary_script.specs.ScriptTexts.{version_line, faulty_line, seed_lines, common_line}
use Rattle.adversary_script.specs.ScriptTexts.{start_line, era_line, era_lines, group_line}
use Rattle.adversary_script.specs.ScriptTexts.{lie_line}
use Rattle.adversary_script.specs.ScriptTexts.{head_lines, eras_lines, lies_lines}
use Rattle.adversary_script.specs.Scripts.{Group, Era, Script}
use Rattle.adversary_script.specs.StartSteps.{started}
use Rattle.read_texts.specs.ReadScripts.{SayLines}

-- the lines up to the key
abbrev pub key_lines : Script → List (List (List ℕ))
key_lines s = version_line s.version ∷ faulty_line s.faulty ∷ seed_lines s.key

-- the lines before what is played
abbrev pub middle : Script → List (List (List ℕ))
middle s = head_lines s ++ (eras_lines s ++ lies_lines s)

-- the head alone
pub head_whole : (s : Script) → s.starts ≡ [] → s.eras ≡ [] → s.groups ≡ [] → s.lies ≡ []
    → middle s ≡ key_lines s ++ common_line s.common ∷ []
head_whole s no_starts no_eras no_groups no_lies =
    rw (no_starts, no_eras, no_groups, no_lies) (append-nil (head_lines s))

-- one more line at the end of the second of three sections, if the third is empty
second_more : (head second more third : List (List (List ℕ))) → third ≡ []
    → (head ++ (second ++ third)) ++ more ≡ head ++ ((second ++ more) ++ third)
second_more head second more third none =
    rw none
    (ap (λ ls. (head ++ ls) ++ more) (append-nil second)
    ∙ append_assoc head second more
    ∙ ap (λ ls. head ++ ls) (sym (append-nil (second ++ more))))

no_lies_lines : (s : Script) → s.groups ≡ [] → s.lies ≡ [] → lies_lines s ≡ []
no_lies_lines s no_groups no_lies = rw (no_groups, no_lies) refl

-- with one more era
pub with_one_era : (s : Script) (first : ℕ) (ids : List ℕ) → s.groups ≡ [] → s.lies ≡ []
    → middle s ++ era_line first ids ∷ [] ≡ middle (with_era s first ids)
with_one_era s first ids no_groups no_lies =
    let era : Era = record { first = first; faulty = ids; starts = [] } in
    let starts = map (start_line s.shape) s.starts in
    let eras = flat_map (era_lines s.shape) s.eras in
    second_more (head_lines s) (eras_lines s) (era_line first ids ∷ []) (lies_lines s)
    (no_lies_lines s no_groups no_lies)
    ∙ ap (λ ls. head_lines s ++ (ls ++ lies_lines s))
    (append_assoc starts eras (era_line first ids ∷ [])
    ∙ ap (λ ls. starts ++ ls) (sym (flat_map-append (era_lines s.shape) s.eras (era ∷ []))))

-- with one more group
pub with_one_group : (s : Script) (group : Group) → s.lies ≡ []
    → middle s ++ group_line group ∷ [] ≡ middle (record s { groups = s.groups ++ group ∷ [] })
with_one_group s group no_lies =
    let groups = map group_line s.groups in
    let more = group_line group ∷ [] in
    let all : Script = record s { groups = s.groups ++ group ∷ [] } in
    let none : lies_lines s ≡ groups = rw no_lies (append-nil groups) in
    let one : lies_lines all ≡ map group_line (s.groups ++ group ∷ []) =
    rw no_lies (append-nil (map group_line (s.groups ++ group ∷ []))) in
    ap (λ ls. (head_lines s ++ (eras_lines s ++ ls)) ++ more) none
    ∙ append_assoc (head_lines s) (eras_lines s ++ groups) more
    ∙ ap (λ ls. head_lines s ++ ls) (append_assoc (eras_lines s) groups more)
    ∙ ap (λ ls. head_lines s ++ (eras_lines s ++ ls))
    (sym (map-append group_line s.groups (group ∷ [])) ∙ sym one)

-- with one more lie
pub with_one_lie : (s : Script) (lie : Lie)
    → middle s ++ lie_line s.groups s.shape lie ∷ []
    ≡ middle (record s { lies = s.lies ++ lie ∷ [] })
with_one_lie s lie =
    let groups = map group_line s.groups in
    let lies = map (lie_line s.groups s.shape) s.lies in
    let more = lie_line s.groups s.shape lie ∷ [] in
    append_assoc (head_lines s) (eras_lines s ++ (groups ++ lies)) more
    ∙ ap (λ ls. head_lines s ++ ls) (append_assoc (eras_lines s) (groups ++ lies) more)
    ∙ ap (λ ls. head_lines s ++ (eras_lines s ++ ls))
    (append_assoc groups lies more
    ∙ ap (λ ls. groups ++ ls)
    (sym (map-append (lie_line s.groups s.shape) s.lies (lie ∷ []))))

-- ---- one more start

some_none : (era : Era) → Some era ≡ None → ⊥
some_none era same = absurd cc

none_there : (eras : List Era) → last_era eras ≡ None → eras ≡ []
none_there [] is = refl
none_there (era ∷ []) is = absurd (some_none era is)
none_there (era ∷ next ∷ eras) is =
    let less : length (era ∷ next ∷ eras) - 1 ≡ suc (length (next ∷ eras) - 1) = omega arith in
    let below : last_era (era ∷ next ∷ eras) ≡ last_era (next ∷ eras) =
    ap (slice_get (era ∷ next ∷ eras)) less in
    let none : next ∷ eras ≡ [] = none_there (next ∷ eras) (sym below ∙ is) in absurd cc

-- in the last era
in_last : (shape : Shape) (eras : List Era) (era : Era) (start : Start) → last_era eras ≡ Some era
    → flat_map (era_lines shape) eras ++ start_line shape start ∷ []
    ≡ flat_map (era_lines shape) (slice_set eras (length eras - 1)
    (record era { starts = era.starts ++ start ∷ [] }))
in_last shape [] era start is = absurd cc
in_last shape (last ∷ []) era start is =
    let same : last ≡ era = cc in
    let more = start_line shape start ∷ [] in
    let begins = era_line era.first era.faulty in
    let starts = map (start_line shape) era.starts in
    ap (λ (e : Era). flat_map (era_lines shape) (e ∷ []) ++ more) same
    ∙ ap (λ ls. ls ++ more) (append-nil (begins ∷ starts))
    ∙ ap (λ ls. begins ∷ ls) (sym (map-append (start_line shape) era.starts (start ∷ [])))
    ∙ sym (append-nil (era_lines shape (record era { starts = era.starts ++ start ∷ [] })))
in_last shape (first ∷ next ∷ eras) era start is =
    let less : length (first ∷ next ∷ eras) - 1 ≡ suc (length (next ∷ eras) - 1) = omega arith in
    let below : last_era (next ∷ eras) ≡ Some era =
    sym (ap (slice_get (first ∷ next ∷ eras)) less) ∙ is in
    let more = start_line shape start ∷ [] in
    let new : Era = record era { starts = era.starts ++ start ∷ [] } in
    append_assoc (era_lines shape first) (flat_map (era_lines shape) (next ∷ eras)) more
    ∙ ap (λ ls. era_lines shape first ++ ls) (in_last shape (next ∷ eras) era start below)
    ∙ ap (λ i. flat_map (era_lines shape) (slice_set (first ∷ next ∷ eras) i new)) (sym less)

-- what is said of the script with one more start
pub with_one_start : (s : Script) (found : Option Era) (start : Start) → last_era s.eras ≡ found
    → s.groups ≡ [] → s.lies ≡ []
    → middle s ++ start_line s.shape start ∷ [] ≡ middle (started s found start)
with_one_start s None start is no_groups no_lies =
    let none = none_there s.eras is in
    let starts = map (start_line s.shape) s.starts in
    let more = start_line s.shape start ∷ [] in
    let alone : eras_lines s ≡ starts = rw none (append-nil starts) in
    let longer : eras_lines (started s None start)
    ≡ map (start_line s.shape) (s.starts ++ start ∷ []) =
    rw none (append-nil (map (start_line s.shape) (s.starts ++ start ∷ []))) in
    second_more (head_lines s) (eras_lines s) more (lies_lines s)
    (no_lies_lines s no_groups no_lies)
    ∙ ap (λ ls. head_lines s ++ (ls ++ lies_lines s))
    (ap (λ ls. ls ++ more) alone
    ∙ sym (map-append (start_line s.shape) s.starts (start ∷ [])) ∙ sym longer)
with_one_start s (Some era) start is no_groups no_lies =
    let starts = map (start_line s.shape) s.starts in
    let more = start_line s.shape start ∷ [] in
    second_more (head_lines s) (eras_lines s) more (lies_lines s)
    (no_lies_lines s no_groups no_lies)
    ∙ ap (λ ls. head_lines s ++ (ls ++ lies_lines s))
    (append_assoc starts (flat_map (era_lines s.shape) s.eras) more
    ∙ ap (λ ls. starts ++ ls) (in_last s.shape s.eras era start is))
