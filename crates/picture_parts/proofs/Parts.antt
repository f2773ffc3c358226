-- Texts that are written only if something holds.
use Rattle.std.proofs.Common.{◌≡◌, ℕ, Bool, true, false, List, []}
use Rattle.std.specs.Prelude.{if◌then◌else◌, ◌==◌}
use Rattle.std.proofs.lemmas.Bool.{ne_eqb}
use Rattle.texts.specs.Growth.{SinkState}
use Rattle.edge_io.specs.Writing.{Writes}
use Rattle.edge_io.specs.declared.writer.Writer.{Writer}
use Rattle.edge_io.proofs.Writing.{writes_none}

-- if it does not hold, nothing is to be written
pub writes_unless : {K : Type 0} {told : K → SinkState} {x : Writer K} (holds : Bool)
    (text : List ℕ) → holds ≡ false → Writes told (if holds then text else []) x x
writes_unless holds text fails = rw fails writes_none

-- if it holds of one number alone
pub writes_unless_is : {K : Type 0} {told : K → SinkState} {x : Writer K} (m n : ℕ)
    (text : List ℕ) → (m ≡ n → ⊥) → Writes told (if m == n then text else []) x x
writes_unless_is m n text apart = writes_unless (m == n) text (ne_eqb m n apart)

-- if it holds, the text is
pub writes_if : {K : Type 0} {told : K → SinkState} {text : List ℕ} {x y : Writer K} (holds : Bool)
    → holds ≡ true → Writes told text x y → Writes told (if holds then text else []) x y
writes_if holds does written = rw does written
