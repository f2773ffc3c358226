-- A text can say every script that is read.
use Rattle.std.proofs.Common.{ℕ, Some, Result, Ok, Err}
use Rattle.std.specs.Prelude.{IfOk}
use Rattle.texts.specs.Parts.{At}
use Rattle.sync_types.specs.declared.answers.Rule.{Rule}
use Rattle.state_codec.specs.Shapes.{Shape}
use Rattle.adversary_script.specs.declared.kinds.Kind.TheVariants as kind
use Rattle.adversary_script.specs.Scripts.{Script}
use Rattle.adversary_script.specs.ScriptPart.{script_for}
use Rattle.adversary_script.specs.Writable.{IsWritableFor}
use Rattle.adversary_script.specs.ScriptLaws.{ReadIsWritable}
use Rattle.adversary_script.proofs.ReadScripts.{IsSoFar, script_is}

all_of : (nodes faults : ℕ) (shape : Shape) (r : Result Script (At Rule))
    → IfOk r (IsSoFar nodes faults shape (Some kind.End))
    → IfOk r (IsWritableFor nodes faults shape)
all_of nodes faults shape (Err e) so = tt
all_of nodes faults shape (Ok s) so =
    let said = so.kept.said in
    let sound = so.kept.sound in
    record {
      for = sound.right;
      whole = record { formed = sound.formed; within = so.closed };
      oldest = said.oldest;
      newest = said.newest;
      eras = said.eras;
      key = said.key;
      starts = said.starts;
      hits = said.hits;
      groups = said.groups;
      many = said.many;
      lies = said.lies;
    }

pub read_is_writable : ReadIsWritable
read_is_writable nodes faults shape sound number lines =
    all_of nodes faults shape (script_for nodes faults shape number lines)
    (script_is nodes faults shape sound number lines)
