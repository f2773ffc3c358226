-- A layer of one register for tests: it takes the output that its node showed, and the node keeps
-- that too.
use Rattle.std.specs.Prelude.{ℕ, [], ◌∷◌, Some, false}
use Rattle.std.proofs.Common.{◌<◌, IfSome, refl, arith}
use Rattle.std.proofs.lemmas.List.Elements.{All-nil, All-cons}
use Rattle.sync_types.specs.declared.states.Reg.{Reg}
use Rattle.counter_core.specs.Overlays.{Layer, KeepsRange}

abbrev pub repeat_layer : (nodes modulus depth : ℕ) → Layer ℕ
repeat_layer nodes modulus depth = record {
  nodes = nodes;
  modulus = modulus;
  depth = depth;
  extra = 1;
  values = modulus;
  first = 0;
  begun = λ at kept. kept;
  next = λ node kept output heard. record {
    registers = (record { a = Some output; d = false }) ∷ [];
    kept = output;
  };
}

pub repeat_layer_keeps : (nodes modulus depth : ℕ) → KeepsRange (repeat_layer nodes modulus depth)
repeat_layer_keeps nodes modulus depth v o kept heard may = record {
  size = refl;
  range =
      let within = λ (r : Reg). IfSome r.a (λ a. a < modulus) in
      let m = may (omega arith) in
      All-cons within (record { a = Some o; d = false }) [] m.output (All-nil within);
}
