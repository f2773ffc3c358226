-- The text of a script, which is read back.
use Rattle.std.specs.Prelude.{ℕ, List, [], ◌∷◌, ◌++◌, map, replicate, slice_index_or, codes}
use Rattle.std.specs.Prelude.{decimal}
use Rattle.std.specs.Prelude.{if◌then◌else◌}
use Rattle.std.specs.List.{flat_map}
use Rattle.std.specs.Str.{bytes_eq}
use Rattle.hex.specs.Hex.{encode_lower}
use Rattle.texts.specs.Words.{joined, text_of}
use Rattle.state_codec.specs.Shapes.{Fields, Shape, fields_at}
use Rattle.state_codec.specs.Texts.{written_text}
use Rattle.adversary_script.specs.declared.lies.CommonStart.{CommonStart}
use Rattle.adversary_script.specs.declared.lies.CommonStart.TheVariants as common
use Rattle.adversary_script.specs.declared.lies.Who.{Who}
use Rattle.adversary_script.specs.declared.lies.Who.TheVariants as who
use Rattle.adversary_script.specs.declared.lies.What.{What}
use Rattle.adversary_script.specs.declared.lies.What.TheVariants as what
use Rattle.adversary_script.specs.declared.lies.Lie.{Lie}
use Rattle.adversary_script.specs.declared.lies.Start.{Start}
use Rattle.adversary_script.specs.Scripts.{Group, Era, Script}

-- ---- lines, as their words

abbrev pub version_line : ℕ → List (List ℕ)
version_line version = codes "script" ∷ decimal version ∷ []

abbrev pub faulty_line : List ℕ → List (List ℕ)
faulty_line ids = codes "faulty" ∷ map decimal ids

-- the key's line, which is left out if the key is zeros
abbrev pub seed_lines : List ℕ → List (List (List ℕ))
seed_lines key =
    if bytes_eq key (replicate 32 0) then [] else (codes "seed" ∷ encode_lower key ∷ []) ∷ []

abbrev pub common_line : CommonStart → List (List ℕ)
common_line common.Zero = codes "start" ∷ codes "zero" ∷ []
common_line common.Noise = codes "start" ∷ codes "noise" ∷ []

abbrev pub start_line : Shape → Start → List (List ℕ)
start_line shape start =
    codes "start" ∷ codes "node" ∷ decimal start.node
    ∷ written_text (fields_at shape start.node) start.state ∷ []

abbrev pub era_line : (first : ℕ) → (ids : List ℕ) → List (List ℕ)
era_line first ids = codes "era" ∷ decimal first ∷ codes "faulty" ∷ map decimal ids

-- the line of an era, and those of its starts
abbrev pub era_lines : Shape → Era → List (List (List ℕ))
era_lines shape era = era_line era.first era.faulty ∷ map (start_line shape) era.starts

abbrev pub group_line : Group → List (List ℕ)
group_line group = codes "group" ∷ group.name ∷ map decimal group.ids

-- the group at a place
abbrev pub group_in : List Group → ℕ → Group
group_in groups i = slice_index_or groups i (record { name = []; ids = [] })

-- who hears
abbrev pub hearers : List Group → Who → List (List ℕ)
hearers groups who.All = codes "all" ∷ []
hearers groups (who.Ids p q) = decimal p ∷ decimal q ∷ []
hearers groups (who.Group i) = (group_in groups i).name ∷ []

-- what a sender with these fields says
abbrev pub saying : Fields → What → List (List ℕ)
saying fields what.Noise = codes "noise" ∷ []
saying fields (what.Copy w) = codes "copy" ∷ decimal w ∷ []
saying fields (what.State state) = codes "hex" ∷ written_text fields state ∷ []
saying fields (what.Shift by) = codes "shift" ∷ decimal by ∷ []

abbrev pub lie_line : List Group → Shape → Lie → List (List ℕ)
lie_line groups shape lie =
    codes "lie" ∷ decimal lie.first ∷ decimal lie.last ∷ decimal lie.sender ∷ codes "to"
    ∷ (hearers groups lie.who ++ saying (fields_at shape lie.sender) lie.what)

abbrev pub rounds_line : ℕ → List (List ℕ)
rounds_line rounds = codes "rounds" ∷ decimal rounds ∷ []

abbrev pub show_line : (first last : ℕ) → List (List ℕ)
show_line first last = codes "show" ∷ decimal first ∷ decimal last ∷ []

abbrev pub end_line : List (List ℕ)
end_line = codes "end" ∷ []

-- ---- all lines

-- who is faulty at first, the key, and how nodes start
abbrev pub head_lines : Script → List (List (List ℕ))
head_lines s =
    version_line s.version ∷ faulty_line s.faulty ∷ (seed_lines s.key ++ common_line s.common ∷ [])

-- the starts of single nodes, and further eras with theirs
abbrev pub eras_lines : Script → List (List (List ℕ))
eras_lines s = map (start_line s.shape) s.starts ++ flat_map (era_lines s.shape) s.eras

abbrev pub lies_lines : Script → List (List (List ℕ))
lies_lines s = map group_line s.groups ++ map (lie_line s.groups s.shape) s.lies

-- what is played, and shown of it
abbrev pub last_lines : Script → List (List (List ℕ))
last_lines s = rounds_line s.rounds ∷ show_line s.first s.last ∷ end_line ∷ []

abbrev pub script_lines : Script → List (List (List ℕ))
script_lines s = head_lines s ++ (eras_lines s ++ (lies_lines s ++ last_lines s))

-- the part that says a script
abbrev pub script_text : Script → List ℕ
script_text s = text_of (map joined (script_lines s))
