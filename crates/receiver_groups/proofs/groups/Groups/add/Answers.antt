use Rattle.std.proofs.Common.{◌≡◌, refl, map, ◌++◌, ◌∷◌, [], None}
use Rattle.receiver_groups.specs.Groups.{group_at}
use Rattle.receiver_groups.specs.Seen.{group_seen}
use Rattle.receiver_groups.proofs.Mapped.{group_added}
use Rattle.receiver_groups.proofs.groups.Groups.add.Goals as goal

pub returns-clause-added : goal.returns-clause-added
returns-clause-added c =
    let none : group_at (map group_seen c.self.inside.sets.entries) c.in_ok-name.name.items ≡ None =
    rw (c.in_ok-name.ensures.items) (rw (← c.self.view_is) at c.requires) in
    let new : map group_seen c.insert.new.self.entries ≡ map group_seen c.self.inside.sets.entries
    ++ record { name = c.in_ok-name.name.items; ids = c.args.ids.ids } ∷ [] =
    group_added _ c.args.ids c.self.inside.sets.entries c.insert.new.self.entries none
    c.in_ok-insert.ensures.entries in
    let seen : map group_seen c.insert.new.self.entries ≡ map group_seen
    c.self.inside.sets.entries ++ record
    { name = c.args.name.now; ids = c.args.ids.ids } ∷ [] =
    rw (← c.in_ok-name.ensures.items) new in
    rw (← c.self.view_is, seen) refl
