-- A text that was written into memory.
use Rattle.std.proofs.Common.{◌≡◌, ℕ, List, [], Ok, ap}
use Rattle.edge_io.specs.Memory.{memory_told}
use Rattle.edge_io.specs.Writing.{Writes, IsFresh, Finishes}
use Rattle.edge_io.specs.declared.mem_sink.MemSink.{MemSink}
use Rattle.edge_io.specs.declared.writer.Writer.{Writer}
use Rattle.edge_io.proofs.Writing.{writes_all}

-- A writer was made of an empty sink, wrote a text and was finished without a fault: the sink took
-- just that text.
pub text_taken : {T E : Type 0} {value : T} {lent : ℕ} {text : List ℕ} {x y z : Writer MemSink}
    (old : MemSink) (taken : List ℕ) → old.taken ≡ [] → IsFresh memory_told lent (memory_told old) x
    → Writes memory_told text x y → Finishes {E = E} memory_told (Ok value) y z
    → (lent ≡ z.sink.ghost_name → taken ≡ z.sink.now.taken) → taken ≡ text
text_taken {z = z} old taken empty fresh writes finishes ends =
    let with_taken : List ℕ → MemSink = λ bytes. record z.sink.now { taken = bytes } in
    rw empty at (writes_all {final = with_taken taken} fresh writes finishes
    (λ same. ap with_taken (ends same))).bytes
