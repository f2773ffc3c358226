-- The kinds of a script's lines, and in which order they may stand.
use Rattle.std.specs.Prelude.{ℕ, List, [], ◌∷◌, Bool, true, false, Option, Some, None}
use Rattle.std.specs.Prelude.{if◌then◌else◌, codes}
use Rattle.std.specs.Str.{bytes_eq}
use Rattle.adversary_script.specs.declared.kinds.Kind.{Kind}
use Rattle.adversary_script.specs.declared.kinds.Kind.TheVariants as kind

-- a start line's kind, by the word after `start`, and the words after that
abbrev pub start_kind : List (List ℕ) → Option (Kind × List (List ℕ))
start_kind [] = None
start_kind (word ∷ words) =
    if bytes_eq word (codes "zero") then Some (kind.StartZero, words)
    else if bytes_eq word (codes "noise") then Some (kind.StartNoise, words)
    else if bytes_eq word (codes "node") then Some (kind.StartNode, words)
    else None

-- a line's kind, and the words after those that say it
abbrev pub kind_of : List (List ℕ) → Option (Kind × List (List ℕ))
kind_of [] = None
kind_of (word ∷ words) =
    if bytes_eq word (codes "start") then start_kind words
    else if bytes_eq word (codes "lie") then Some (kind.Lie, words)
    else if bytes_eq word (codes "group") then Some (kind.Group, words)
    else if bytes_eq word (codes "script") then Some (kind.Script, words)
    else if bytes_eq word (codes "faulty") then Some (kind.Faulty, words)
    else if bytes_eq word (codes "seed") then Some (kind.Seed, words)
    else if bytes_eq word (codes "era") then Some (kind.Era, words)
    else if bytes_eq word (codes "rounds") then Some (kind.Rounds, words)
    else if bytes_eq word (codes "show") then Some (kind.Show, words)
    else if bytes_eq word (codes "end") then Some (kind.End, words)
    else None

-- what may stand after a start: further starts of nodes, eras, groups, lies, and the rounds
abbrev pub may_follow_start : Kind → Bool
may_follow_start kind.StartNode = true
may_follow_start kind.Era = true
may_follow_start kind.Group = true
may_follow_start kind.Lie = true
may_follow_start kind.Rounds = true
may_follow_start other = false

-- whether a line of a kind may stand after one of another, or first
abbrev pub may_follow : Option Kind → Kind → Bool
may_follow None kind.Script = true
may_follow (Some kind.Script) kind.Faulty = true
may_follow (Some kind.Faulty) kind.Seed = true
may_follow (Some kind.Faulty) kind.StartZero = true
may_follow (Some kind.Faulty) kind.StartNoise = true
may_follow (Some kind.Seed) kind.StartZero = true
may_follow (Some kind.Seed) kind.StartNoise = true
may_follow (Some kind.StartZero) k = may_follow_start k
may_follow (Some kind.StartNoise) k = may_follow_start k
may_follow (Some kind.StartNode) k = may_follow_start k
may_follow (Some kind.Era) k = may_follow_start k
may_follow (Some kind.Group) kind.Group = true
may_follow (Some kind.Group) kind.Lie = true
may_follow (Some kind.Group) kind.Rounds = true
may_follow (Some kind.Lie) kind.Lie = true
may_follow (Some kind.Lie) kind.Rounds = true
may_follow (Some kind.Rounds) kind.Show = true
may_follow (Some kind.Show) kind.End = true
may_follow last k = false
