-- What holds of a node part that was read so far.
use Rattle.std.specs.Prelude.{⊤, ◌<◌}
use Rattle.state_codec.specs.Shapes.{Shape, fields_at, shape_nodes}
use Rattle.state_codec.specs.Ranges.{InRange}
use Rattle.node_words.specs.declared.header_lines.NodeHeader.{NodeHeader}
use Rattle.node_words.specs.declared.header_lines.HeaderStage.{HeaderStage}
use Rattle.node_words.specs.declared.header_lines.HeaderStage.TheVariants.{Named, Stated}

-- the id is that of a node, and the state is one of it
pub record IsFit (shape : Shape) (header : NodeHeader) : Type 0 where
  pub node : header.id < shape_nodes shape
  pub range : InRange (fields_at shape header.id) header.state

abbrev pub StageFits : Shape → HeaderStage → Type 0
StageFits shape (Named id) = id < shape_nodes shape
StageFits shape (Stated header) = IsFit shape header
StageFits shape other = ⊤
