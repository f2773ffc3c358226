use Rattle.std.proofs.Common.{◌∙◌, sym}
use Rattle.std.specs.Str.{bytes_eq}
use Rattle.receiver_groups.specs.Seen.{group_seen}
use Rattle.receiver_groups.proofs.Positions.{position-map}
use Rattle.receiver_groups.proofs.groups.Groups.place_of.Goals as goal

pub returns : goal.returns
returns c = rw (← c.self.view_is) (
    c.get_index_of.ensures.index
    ∙ position-map (λ e. e.0) (λ k. bytes_eq c.args.name.now k.items) c.self.inside.sets.entries
    ∙ sym (position-map group_seen (λ g. bytes_eq c.args.name.now g.name)
    c.self.inside.sets.entries))
