-- The start line of a node, and the lie line that says what one node tells another in a round.
pub use Rattle.receiver_groups.specs.Groups.{in_group}
use Rattle.std.specs.Prelude.{ℕ, List, Bool, true, ◌&&◌, nat_le, ◌==◌, Option}
use Rattle.std.specs.Prelude.{find, slice_get}
use Rattle.std.specs.Option.{option_map, option_and_then}
use Rattle.sync_types.specs.States.{State}
use Rattle.adversary_script.specs.declared.lies.Who.{Who}
use Rattle.adversary_script.specs.declared.lies.Who.TheVariants.{All, Ids, Group}
use Rattle.adversary_script.specs.declared.lies.Lie.{Lie}
use Rattle.adversary_script.specs.declared.lies.Start.{Start}
use Rattle.adversary_script.specs.Scripts as scripts
use Rattle.adversary_script.specs.Scripts.{Script}

-- whether v is among those who hear
abbrev pub hears : List scripts.Group → Who → ℕ → Bool
hears groups All v = true
hears groups (Ids p q) v = nat_le p v && nat_le v q
hears groups (Group i) v = in_group (slice_get groups i) v

-- whether a lie says what u tells v in round t
abbrev pub speaks : List scripts.Group → (t u v : ℕ) → Lie → Bool
speaks groups t u v lie =
    lie.sender == u && nat_le lie.first t && nat_le t lie.last && hears groups lie.who v

-- the first lie that says what u tells v in round t
abbrev pub lie_for : Script → (t u v : ℕ) → Option Lie
lie_for script t u v = find (speaks script.groups t u v) script.lies

-- the state that start lines give node v
abbrev pub start_in : List Start → ℕ → Option State
start_in starts v = option_map (λ start. start.state) (find (λ start. start.node == v) starts)

-- the state of v's own start line
abbrev pub start_for : Script → ℕ → Option State
start_for script v = start_in script.starts v

-- the state that node v is put into if an era begins with configuration t
abbrev pub hit_at : Script → (t v : ℕ) → Option State
hit_at script t v =
    option_and_then (λ era. start_in era.starts v) (find (λ era. era.first == t) script.eras)
