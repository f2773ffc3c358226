-- A register that is finite and marked.
use Rattle.std.proofs.Common.{◌≡◌, ℕ, true, Option, Some, None, is_some, refl, ap, ◌∙◌}
use Rattle.std.proofs.lemmas.Bool.{false≢true}
use Rattle.sync_types.specs.declared.states.Reg.{Reg}
use Rattle.construction.specs.PhaseKing.{locked_at}

pub finite : (o : Option ℕ) → is_some o ≡ true → (value : ℕ) × (o ≡ Some value)
finite None h = absurd (false≢true h)
finite (Some value) h = (value, refl)

-- it is locked at its value
pub locked_by : (own : Reg) → own.d ≡ true → is_some own.a ≡ true → (value : ℕ)
    × (own ≡ locked_at value)
locked_by own mark some =
    let f = finite own.a some in
    (f.0, ap (λ a. record { a = a; d = own.d }) f.1 ∙ ap (λ d. record { a = Some f.0; d = d }) mark)
