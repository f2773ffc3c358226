-- The text of an attack: a script of version 1 for the nodes of a machine.
use Rattle.std.specs.Prelude.{ℕ, ◌%◌, nat_lt, if◌then◌else◌, List, [], ◌++◌, map, codes}
use Rattle.std.specs.Prelude.{decimal}
use Rattle.std.specs.Int.{w64, to_be_bytes}
use Rattle.std.specs.List.{flat_map, range_with_len}
use Rattle.hex.specs.Hex.{encode_lower}
use Rattle.state_codec.specs.Shapes.{Fields, bytes_in}
use Rattle.state_codec.specs.Reading.{read}
use Rattle.state_codec.specs.Writing.{written}
use Rattle.machines.specs.Machines.{Machine}
use Rattle.attack.specs.declared.candidates.Say.{Say}
use Rattle.attack.specs.declared.candidates.Say.TheVariants as say
use Rattle.attack.specs.declared.candidates.StartLine.{StartLine}
use Rattle.attack.specs.declared.candidates.LieLine.{LieLine}
use Rattle.attack.specs.Draws.{drawn}
use Rattle.attack.specs.Attacks.{Attack}

-- so many bytes of a lot
abbrev pub drawn_bytes : (seed count : ℕ) → List ℕ
drawn_bytes seed count = map (λ i. drawn seed i % 256) (range_with_len 0 count)

-- the digits of the state with these fields that is read from bytes of a lot
abbrev pub drawn_digits : Fields → (seed : ℕ) → List ℕ
drawn_digits fields seed =
    encode_lower (written fields (read fields (drawn_bytes seed (bytes_in fields))))

-- those of a node; an id that no node has has none
abbrev pub node_digits : Machine → (node seed : ℕ) → List ℕ
node_digits machine node seed =
    if nat_lt node machine.nodes then drawn_digits (machine.fields node) seed else []

-- a number with a space before it
unfoldable pub spaced : ℕ → List ℕ
spaced n = codes " " ++ decimal n

-- the 64 digits of a key: 16 of its number, the highest first, and zeros
abbrev pub key_text : (key : ℕ) → List ℕ
key_text key =
    encode_lower (to_be_bytes w64 key) ++ codes "000000000000000000000000000000000000000000000000"

-- the version, and who is faulty
abbrev pub faulty_text : List ℕ → List ℕ
faulty_text faulty = codes "script 1\nfaulty" ++ flat_map spaced faulty

-- the key, and how nodes start that have no line of their own
abbrev pub seed_text : (key : ℕ) → List ℕ
seed_text key = codes "\nseed " ++ (key_text key ++ codes "\nstart noise\n")

unfoldable pub start_text : Machine → StartLine → List ℕ
start_text machine start =
    codes "start node" ++ (spaced start.node
    ++ (codes " " ++ (node_digits machine start.node start.seed ++ codes "\n")))

-- what a sender says
abbrev pub say_text : Machine → (sender : ℕ) → Say → List ℕ
say_text machine sender say.Noise = codes "noise"
say_text machine sender (say.Copy node) = codes "copy" ++ spaced node
say_text machine sender (say.Drawn seed) = codes "hex " ++ node_digits machine sender seed
say_text machine sender (say.Shift by) = codes "shift" ++ spaced by

-- who hears a lie
abbrev pub hearers_text : LieLine → List ℕ
hearers_text lie = codes " to" ++ (spaced lie.from ++ (spaced lie.to ++ codes " "))

-- the rounds and the sender, and who hears it
abbrev pub lie_front : LieLine → List ℕ
lie_front lie =
    codes "lie" ++ (spaced lie.first ++ (spaced lie.last ++ (spaced lie.sender
    ++ hearers_text lie)))

unfoldable pub lie_text : Machine → LieLine → List ℕ
lie_text machine lie =
    lie_front lie ++ (say_text machine lie.sender lie.says ++ codes "\n")

-- how many rounds are played, and which configurations are shown
abbrev pub rounds_text : (rounds first last : ℕ) → List ℕ
rounds_text rounds first last =
    codes "rounds" ++ (spaced rounds ++ (codes "\nshow" ++ (spaced first
    ++ (spaced last ++ codes "\nend\n"))))

abbrev pub attack_text : Machine → Attack → List ℕ
attack_text machine attack =
    faulty_text attack.faulty ++ (seed_text attack.key
    ++ (flat_map (start_text machine) attack.starts
    ++ (flat_map (lie_text machine) attack.lies
    ++ rounds_text attack.rounds attack.first attack.last)))
