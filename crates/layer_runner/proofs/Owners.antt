-- The owner of a slot, found from the output at its end.
use Rattle.std.proofs.Common.{◌≡◌, ℕ, ◌+◌, ◌-◌, ◌*◌, ◌/◌, ◌%◌, ◌<◌, ◌≤◌, inl, inr, cond, sym, ap}
use Rattle.std.proofs.Common.{◌∙◌, arith}
use Rattle.std.proofs.Math.Nat.{mod-eq_of_lt, mod-lt, add-mod_right, mod-add-mod, mod-mod_of_dvd}
use Rattle.std.proofs.Math.Arith.{mod-mul}
use Rattle.std.proofs.lemmas.Nat.{div-mul-add}
use Rattle.std.proofs.lemmas.Nat.Gcd.{dvd_of_mod-eq-zero}
use Rattle.std.proofs.lemmas.Bool.{cases_lt, lt-ltb, le-ltb}
use Rattle.replicated_log.specs.EntryLength.{entry_length, owner_at}
use Rattle.layer_runner.specs.EntryTexts.{output_before}

-- q rounds after an output, the one q rounds before is that output
back_again : (m q o : ℕ) → o < m → q ≤ m → output_before m q ((o + q) % m) ≡ o
back_again m q o lt le = elim (cases_lt (o + q) m) [
  | inl below ↦
      let same : (o + q) % m ≡ o + q = mod-eq_of_lt below in
      ap (output_before m q) same
      ∙ ap (λ b. cond b (o + q + m - q) (o + q - q)) (le-ltb (o + q) q (omega arith))
      ∙ omega arith
  | inr above ↦
      let less : ℕ = o + q - m in
      let parts : o + q ≡ less + m = omega (arith, above) in
      let same : (o + q) % m ≡ less =
      ap (λ y. y % m) parts ∙ (add-mod_right less m ∙ mod-eq_of_lt (omega (arith, above))) in
      ap (output_before m q) same
      ∙ ap (λ b. cond b (less + m - q) (less - q)) (lt-ltb less q (omega (arith, above)))
      ∙ omega (arith, above)
]

-- that of any output is its remainder by the modulus
back_by : (m q o : ℕ) → 0 < m → q ≤ m → output_before m q ((o + q) % m) ≡ o % m
back_by m q o some le =
    ap (output_before m q) (sym (mod-add-mod o m q)) ∙ back_again m q (o % m) (mod-lt o some) le

-- the owner follows from an output's remainder by the entries of all nodes
by_rest : (n f o : ℕ) → 0 < n → o % (n * entry_length f) / entry_length f ≡ owner_at n f o
by_rest n f o some =
    let e : ℕ = entry_length f in
    let one : 0 < entry_length f = omega arith in
    ap (λ r. r / entry_length f) (mod-mul o some one)
    ∙ div-mul-add (o / e % n) e (o % e) (mod-lt o one)

-- so it is that of the output's remainder by a modulus that is a multiple of them
owner_by : (m n f o : ℕ) → 0 < n → m % (n * entry_length f) ≡ 0
    → owner_at n f (o % m) ≡ owner_at n f o
owner_by m n f o some whole =
    sym (by_rest n f (o % m) some)
    ∙ (ap (λ r. r / entry_length f)
    (mod-mod_of_dvd (n * entry_length f) o (dvd_of_mod-eq-zero (n * entry_length f) whole))
    ∙ by_rest n f o some)

pub owner_before : (m n f o : ℕ) → 0 < m → 0 < n → entry_length f ≤ m
    → m % (n * entry_length f) ≡ 0
    → owner_at n f (output_before m (entry_length f) ((o + entry_length f) % m)) ≡ owner_at n f o
owner_before m n f o some one room whole =
    ap (owner_at n f) (back_by m (entry_length f) o some room) ∙ owner_by m n f o one whole
