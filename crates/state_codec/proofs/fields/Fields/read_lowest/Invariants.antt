use Rattle.std.proofs.Common.{◌≡◌, ◌<◌, ℕ, length, take}
use Rattle.sync_types.specs.States.{register_at}
use Rattle.state_codec.specs.Shapes.{bytes_in}
use Rattle.state_codec.specs.Reading.{read}
use Rattle.state_codec.proofs.fields.Fields.read_lowest.Given as goal

abbrev pub invariant-loop-i : goal.invariant-loop-i
invariant-loop-i l =
    let state = read l.self (take (bytes_in l.self) l.bytes) in
    record {
      number : l.out.x ≡ state.x;
      depth : length l.out.registers ≡ length l.fn.out.registers;
      registers : (j : ℕ) → j < l.i → register_at j l.out ≡ register_at j state;
    }
