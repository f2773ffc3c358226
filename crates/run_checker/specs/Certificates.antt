-- A run certificate as a value, and its text.
use Rattle.std.specs.Prelude.{ℕ, ◌+◌, List, [], ◌∷◌, ◌++◌, map, reverse, Option, Some, None, ◌==◌}
use Rattle.std.specs.Prelude.{if◌then◌else◌}
use Rattle.construction.specs.Plans.{Level, Plan}
use Rattle.texts.specs.Words.{text_of}
use Rattle.run_checker.specs.Items.{Item, run_item, base_item, level_item, faulty_item}
use Rattle.run_checker.specs.Items.{start_item, row_item, lie_item, era_item, end_item}
use Rattle.run_checker.specs.Items.{item_line}

-- a node is put into the state of these hex digits
pub record Put : Type 0 where
  pub node : ℕ
  pub digits : List ℕ

-- a faulty node tells a correct one the state of these hex digits
pub record Lie : Type 0 where
  pub sender : ℕ
  pub receiver : ℕ
  pub digits : List ℕ

-- from here on these nodes are faulty, and some others are put into states
pub record Era : Type 0 where
  pub faulty : List ℕ
  pub starts : List Put

-- a round: what was told in it, the era that begins after it, if one does, and the row after it,
-- None standing for a faulty node
pub record Turn : Type 0 where
  pub lies : List Lie
  pub era : Option Era
  pub row : List (Option ℕ)

pub record Certificate : Type 0 where
  pub version : ℕ
  pub plan : Plan
  pub faulty : List ℕ
  pub starts : List Put
  pub row : List (Option ℕ)
  pub turns : List Turn

-- version 3 states how many spares a level has
abbrev pub spares_said : (version spares : ℕ) → Option ℕ
spares_said version spares = if version == 3 then Some spares else None

abbrev pub level_of : (version : ℕ) → Level → Item
level_of version level =
    level_item level.blocks level.faults level.modulus (spares_said version level.spares)

abbrev pub start_of : Put → Item
start_of put = start_item put.node put.digits

abbrev pub lie_of : Lie → Item
lie_of lie = lie_item lie.sender lie.receiver lie.digits

-- the line of an era that begins at configuration t, with its starts
abbrev pub era_items : ℕ → Option Era → List Item
era_items t None = []
era_items t (Some era) = era_item t era.faulty ∷ map start_of era.starts

-- the rounds from that of row t on, and the last line
abbrev pub turns_items : ℕ → List Turn → List Item
turns_items t [] = end_item ∷ []
turns_items t (turn ∷ turns) =
    map lie_of turn.lies
    ++ (era_items t turn.era ++ (row_item t turn.row ∷ turns_items (t + 1) turns))

-- the lines of a certificate
abbrev pub items_of : Certificate → List Item
items_of c =
    run_item c.version ∷ base_item c.plan.base
    ∷ (map (level_of c.version) (reverse c.plan.levels)
    ++ (faulty_item c.faulty
    ∷ (map start_of c.starts ++ (row_item 0 c.row ∷ turns_items 1 c.turns))))

-- the text of a certificate
abbrev pub certificate_text : Certificate → List ℕ
certificate_text c = text_of (map item_line (items_of c))
