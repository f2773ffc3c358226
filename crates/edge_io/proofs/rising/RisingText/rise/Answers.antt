use Rattle.std.proofs.Common.{ℕ, ◌+◌, ◌-◌, List, ap, ap₂, ◌∙◌, arith}
use Rattle.std.proofs.lemmas.List.{take-set-le}
use Rattle.edge_io.specs.Rising.{Labelled}
use Rattle.edge_io.proofs.LastDigits.{digit_rises, digit_before, nine_rises, decimal_some, anew}
use Rattle.edge_io.proofs.rising.RisingText.rise.Goals as goal

pub invariant_of-self : goal.invariant_of-self
invariant_of-self c =
    let t = c.self.inside in
    let fits = ap (λ (n : Labelled). n.value) c.self.view_is in
    digit_rises t.bytes t.label t.last t.digit t.value c.self.invariant
    (omega (arith, fits, c.requires)) c.if-self-lt57.true

pub overflow_sub-self-inside : goal.overflow_sub-self-inside
overflow_sub-self-inside c =
    let t = c.self.inside in
    let fits = ap (λ (n : Labelled). n.value) c.self.view_is in
    omega (
      arith,
      digit_before t.bytes t.label t.last t.digit t.value c.self.invariant
          (omega (arith, c.if-self-gt10.true)) (omega (arith, fits, c.requires)),
    )

pub overflow_sub-self : goal.overflow_sub-self
overflow_sub-self c =
    let t = c.self.inside in
    let fits = ap (λ (n : Labelled). n.value) c.self.view_is in
    omega (
      arith,
      digit_before t.bytes t.label t.last t.digit t.value c.self.invariant
          (omega (arith, c.if-self-gt10.true)) (omega (arith, fits, c.requires)),
    )

pub invariant_of-self-then-self-lt57-2 : goal.invariant_of-self-then-self-lt57-2
invariant_of-self-then-self-lt57-2 c =
    let t = c.self.inside in
    let fits = ap (λ (n : Labelled). n.value) c.self.view_is in
    nine_rises t.bytes t.label t.last t.digit t.value c.self.invariant
    (omega (arith, c.if-self-gt10.true)) (omega (arith, fits, c.requires)) c.if-self-lt57.false
    c.if-self-lt57-2.true

pub returns-then-self-lt57-2 : goal.returns-then-self-lt57-2
returns-then-self-lt57-2 c =
    let t = c.self.inside in
    let fits = ap (λ (n : Labelled). n.value) c.self.view_is in
    let before = digit_before t.bytes t.label t.last t.digit t.value c.self.invariant
    (omega (arith, c.if-self-gt10.true)) (omega (arith, fits, c.requires)) in
    let risen : List ℕ → ℕ → Labelled =
    λ label value. record { label = label; value = value + 1 } in
    ap₂ risen
    (take-set-le t.label t.bytes (t.last - 1) _ (omega (arith, before))
    ∙ ap (λ (n : Labelled). n.label) c.self.view_is)
    (ap (λ (n : Labelled). n.value) c.self.view_is)

pub overflow_sub-self-else-self-gt10 : goal.overflow_sub-self-else-self-gt10
overflow_sub-self-else-self-gt10 c =
    let fits = ap (λ (n : Labelled). n.value) c.self.view_is in
    omega (
      arith,
      c.place_number-end.ensures.end,
      decimal_some (c.self.inside.value + 1)
          (omega (arith, fits, c.requires)),
    )

pub overflow_sub-self-else-self-gt10-2 : goal.overflow_sub-self-else-self-gt10-2
overflow_sub-self-else-self-gt10-2 c =
    let fits = ap (λ (n : Labelled). n.value) c.self.view_is in
    omega (
      arith,
      c.place_number-end.ensures.end,
      decimal_some (c.self.inside.value + 1)
          (omega (arith, fits, c.requires)),
    )

pub invariant_of-self-else-self-gt10 : goal.invariant_of-self-else-self-gt10
invariant_of-self-else-self-gt10 c =
    let t = c.self.inside in
    let fits = ap (λ (n : Labelled). n.value) c.self.view_is in
    let short = c.self.invariant.text.short in
    anew t.bytes c.place_number-end.new.buffer t.label c.place_number-end.result (t.value + 1)
    (omega (arith, fits, c.requires)) c.self.invariant.size
    (c.place_number-end.auto.buffer ∙ c.self.invariant.size) short
    (omega (arith, c.place_number-end.ensures.within, short)) c.place_number-end.ensures.end
    c.place_number-end.ensures.placed
