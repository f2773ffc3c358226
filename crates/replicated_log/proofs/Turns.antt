-- What a round of the log does if it begins an entry, and if it is a round of a slot.
use Rattle.std.proofs.Common.{◌≡◌, ◌≢◌, ℕ, ◌+◌, ◌-◌, ◌%◌, Bool, true, false, List, unwrap_or}
use Rattle.std.proofs.Common.{ap}
use Rattle.std.specs.Prelude.{◌==◌, if◌then◌else◌}
use Rattle.std.proofs.lemmas.Bool.{eq-eqb, ne_eqb}
use Rattle.sync_types.specs.declared.states.Reg.{Reg}
use Rattle.sync_types.specs.States.{State, register_at}
use Rattle.construction.specs.Steps.{state_of}
use Rattle.layer_laws.specs.Slots.{agreed_in_turn}
use Rattle.consensus_layer.specs.Agreeing.{loaded}
use Rattle.replicated_log.specs.EntryLength.{entry_length, owner_at}
use Rattle.replicated_log.specs.Logs.{agreement_after}

first : (b : Bool) (one other : Reg) → b ≡ true → (if b then one else other) ≡ one
first b one other is = ap (λ b. if b then one else other) is

second : (b : Bool) (one other : Reg) → b ≡ false → (if b then one else other) ≡ other
second b one other is = ap (λ b. if b then one else other) is

module _ (n f depth v output : ℕ) (heard : List State) where
  abbrev command : Reg
  command = loaded
      (unwrap_or (register_at (depth + 1) (state_of heard (owner_at n f output))).a 0)

  abbrev turn : Reg
  turn = agreed_in_turn n f depth v (output % entry_length f - 1) heard

  pub begins : output % entry_length f ≡ 0
      → agreement_after n f depth v output heard ≡ command
  begins is =
      first (output % entry_length f == 0) command turn (eq-eqb (output % entry_length f) 0 is)

  pub goes_on : output % entry_length f ≢ 0
      → agreement_after n f depth v output heard ≡ turn
  goes_on is =
      second (output % entry_length f == 0) command turn (ne_eqb (output % entry_length f) 0 is)
