-- One number leads among those that were shown, if each other one takes one away from its lead.
use Rattle.std.proofs.Common.{◌≡◌, ◌≢◌, ℕ, ◌+◌, ◌-◌, ◌*◌, ◌<◌, ◌≤◌, Bool, cond, nat_eq, ap, ◌∙◌}
use Rattle.std.proofs.Common.{⊎_elim, sym, refl, arith}
use Rattle.std.proofs.lemmas.Bool.{cases_eq, eq-eqb, ne_eqb}

-- so often each number was shown by i nodes
pub record IsLead (count : ℕ → ℕ) (i number lead : ℕ) : Type 0 where
  pub most : lead ≤ i
  pub some : lead ≤ count number
  pub own : 2 * count number ≤ i + lead
  pub others : (z : ℕ) → z ≢ number → 2 * count z + lead ≤ i

-- a further node shows a number
pub record IsNext (count next : ℕ → ℕ) (a : ℕ) : Type 0 where
  pub is : (z : ℕ) → next z ≡ count z + cond (nat_eq z a) 1 0

module _ (count next : ℕ → ℕ) (i number lead a : ℕ) (more : IsNext count next a)
    (was : IsLead count i number lead) where
  shown : (z : ℕ) → z ≡ a → next z ≡ count z + 1
  shown z e = more.is z ∙ ap (λ (b : Bool). count z + cond b 1 0) (eq-eqb z a e)

  other : (z : ℕ) → z ≢ a → next z ≡ count z
  other z ne =
      let n : next z ≡ count z + 0 =
      more.is z ∙ ap (λ (b : Bool). count z + cond b 1 0) (ne_eqb z a ne) in
      omega (arith, n)

  most_next : (z : ℕ) → next z ≤ count z + 1
  most_next z = ⊎_elim (λ e. omega (arith, shown z e)) (λ ne. omega (arith, other z ne))
      (cases_eq z a)

  pub leads_more : a ≡ number → IsLead next (i + 1) number (lead + 1)
  leads_more e = record {
    most = omega (arith, was.most);
    some = omega (arith, was.some, shown number (sym e));
    own = omega (arith, was.own, shown number (sym e));
    others = λ z ne. omega (arith, was.others z ne, other z (λ f. ne (f ∙ e)));
  }

  pub leads_less : a ≢ number → 0 < lead → IsLead next (i + 1) number (lead - 1)
  leads_less ne some = record {
    most = omega (arith, was.most);
    some = omega (arith, was.some, other number (λ e. ne (sym e)));
    own = omega (arith, was.own, some, other number (λ e. ne (sym e)));
    others = λ z other_is. omega (arith, was.others z other_is, some, most_next z);
  }

  pub leads_now : a ≢ number → lead ≡ 0 → IsLead next (i + 1) a 1
  leads_now ne none = record {
    most = omega arith;
    some = omega (arith, shown a refl);
    own = omega (arith, was.others a ne, shown a refl, none);
    others = λ z other_is.
        let same = other z other_is in
        ⊎_elim (λ (e : z ≡ number). omega (arith, was.own, none, same, ap count e))
        (λ ne_z. omega (arith, was.others z ne_z, none, same)) (cases_eq z number);
  }

-- the same by other names
pub lead_as : (count : ℕ → ℕ) (i number lead number' lead' : ℕ) → number' ≡ number → lead' ≡ lead
    → IsLead count i number lead → IsLead count i number' lead'
lead_as count i number lead number' lead' e f is = record {
  most = omega (arith, is.most, f);
  some = omega (arith, is.some, f, ap count e);
  own = omega (arith, is.own, f, ap count e);
  others = λ z ne. omega (arith, is.others z (λ g. ne (g ∙ sym e)), f);
}

-- in the end no other number was shown by more than half
pub others_few : (count all : ℕ → ℕ) (i number lead n : ℕ) → IsLead count i number lead → i ≡ n
    → ((z : ℕ) → all z ≡ count z) → (z : ℕ) → z ≢ number → 2 * all z ≤ n
others_few count all i number lead n is e same z ne =
    omega (arith, is.others z ne, e, same z)
