-- A number whose last digit is kept apart rises.
use Rattle.std.proofs.Common.{◌≡◌, ℕ, zero, suc, ◌+◌, ◌-◌, ◌/◌, ◌%◌, ◌^◌, ◌<◌, ◌≤◌, List, [], ◌∷◌}
use Rattle.std.proofs.Common.{◌++◌, length, take, drop, get_or, set, inl, inr, length-append, refl}
use Rattle.std.proofs.Common.{sym, ap, ap₂, subst, ◌∙◌, decimal, arith}
use Rattle.std.proofs.lemmas.Bool.{cases_lt}
use Rattle.std.proofs.lemmas.Fmt.{decimal_digit, decimal_step}
use Rattle.std.proofs.Math.Seq.{take-append_seam, take-append-add}
use Rattle.std.proofs.lemmas.List.{length-take-le, length-set, get_or-set_same, get_or-set_other}
use Rattle.std.proofs.lemmas.List.{set-get_or, take-set-le, set-append_left, set-append_right}
use Rattle.edge_io.specs.Rising.{IsText, IsRising}
use Rattle.edge_io.proofs.RisingTexts.{text_length, text_placed, rises_in_place, two_digits}
use Rattle.edge_io.proofs.RisingTexts.{nine_carried}

-- what is set last stands
set_twice : (xs : List ℕ) (i a b : ℕ) → set (set xs i a) i b ≡ set xs i b
set_twice [] i a b = refl
set_twice (x ∷ xs) zero a b = refl
set_twice (x ∷ xs) (suc i) a b = ap (λ (l : List ℕ). x ∷ l) (set_twice xs i a b)

-- also if another place was set between
set_under : (xs : List ℕ) (i j a x b : ℕ) → set (set (set xs j a) i x) j b ≡ set (set xs i x) j b
set_under [] i j a x b = refl
set_under (y ∷ ys) zero zero a x b = refl
set_under (y ∷ ys) zero (suc j) a x b = ap (λ (l : List ℕ). x ∷ l) (set_twice ys j a b)
set_under (y ∷ ys) (suc i) zero a x b = refl
set_under (y ∷ ys) (suc i) (suc j) a x b = ap (λ (l : List ℕ). y ∷ l) (set_under ys i j a x b)

module _ (bytes : List ℕ) (label last digit n : ℕ) (r : IsRising bytes label last digit n) where
  abbrev whole : List ℕ
  whole = set bytes last digit

  within : last < length bytes
  within = let room = r.text.room in omega (arith, room, r.size)

  own : get_or whole (last + 1 - 1) 0 ≡ digit
  own =
      let e : last + 1 - 1 ≡ last = omega arith in
      ap (λ (k : ℕ). get_or whole k 0) e ∙ get_or-set_same bytes last digit 0 within

  -- the last digit rises
  pub digit_rises : n < 2 ^ 64 - 1 → digit < 57 → IsRising bytes label last (digit + 1) (n + 1)
  digit_rises fits low =
      let e : last + 1 - 1 ≡ last = omega arith in
      let risen = rises_in_place whole label (last + 1) n r.text fits (omega (arith, own, low)) in
      let same : set whole (last + 1 - 1) (get_or whole (last + 1 - 1) 0 + 1)
      ≡ set bytes last (digit + 1) =
      ap₂ (λ (k d : ℕ). set whole k (d + 1)) e own ∙ set_twice bytes last digit (digit + 1) in
      record {
        size = r.size;
        behind = r.behind;
        text = subst (λ (l : List ℕ). IsText l label (last + 1) (n + 1)) same risen;
      }

  -- there are two digits
  pub digit_before : 10 ≤ n → n < 2 ^ 64 - 1 → label < last
  digit_before long fits =
      let two = two_digits whole label (last + 1) n r.text long fits in
      omega (arith, two)

  -- it is a nine, and the one before it rises
  pub nine_rises : 10 ≤ n → n < 2 ^ 64 - 1 → 57 ≤ digit → get_or bytes (last - 1) 0 < 57
      → IsRising (set bytes (last - 1) (get_or bytes (last - 1) 0 + 1)) label last 48 (n + 1)
  nine_rises long fits nine low =
      let two = digit_before long fits in
      let e : last + 1 - 1 ≡ last = omega arith in
      let f : last + 1 - 1 - 1 ≡ last - 1 = omega arith in
      let tens : get_or whole (last + 1 - 1 - 1) 0 ≡ get_or bytes (last - 1) 0 =
      ap (λ (k : ℕ). get_or whole k 0) f
      ∙ get_or-set_other bytes last (last - 1) digit 0 (λ is. omega (arith, is, two)) in
      let risen = nine_carried whole label (last + 1) n r.text long fits
      (omega (arith, own, nine)) (omega (arith, tens, low)) in
      let new = get_or bytes (last - 1) 0 + 1 in
      let same : set (set whole (last + 1 - 1 - 1) (get_or whole (last + 1 - 1 - 1) 0 + 1))
      (last + 1 - 1) 48
      ≡ set (set bytes (last - 1) new) last 48 =
      ap₂ (λ (k d : ℕ). set (set whole k (d + 1)) (last + 1 - 1) 48) f tens
      ∙ (ap (λ (k : ℕ). set (set whole (last - 1) new) k 48) e
      ∙ set_under bytes (last - 1) last digit new 48) in
      record {
        size = length-set bytes (last - 1) new ∙ r.size;
        behind = r.behind;
        text = subst (λ (l : List ℕ). IsText l label (last + 1) (n + 1)) same risen;
      }

-- a text that was placed anew
pub placed_anew : (bytes : List ℕ) (label end n : ℕ) → IsText bytes label end n → label < end
    → IsRising bytes label (end - 1) (get_or bytes (end - 1) 0) n
placed_anew bytes label end n t some =
    let e : end - 1 + 1 ≡ end = omega (arith, some) in
    record {
      size = t.size;
      behind = omega (arith, some);
      text = subst (λ (l : List ℕ). IsText l label (end - 1 + 1) n)
          (sym (set-get_or bytes (end - 1) 0))
          (subst (λ (k : ℕ). IsText bytes label k n) (sym e) t);
    }

-- a number has a digit
pub decimal_some : (n : ℕ) → n < 2 ^ 64 → 1 ≤ length (decimal n)
decimal_some n fits = elim (cases_lt n 10) [
  | inl lt ↦ omega (arith, ap length (decimal_digit n lt))
  | inr long ↦ omega (
    arith,
    ap length (decimal_step n long fits),
    length-append (decimal (n / 10))
        ((48 + n % 10) ∷ []),
  )
]

-- the digits of a number were placed after the label
pub anew : (old new : List ℕ) (label end n : ℕ) → n < 2 ^ 64 → length old ≡ 32 → length new ≡ 32
    → label ≤ 12 → end ≤ 32 → end ≡ label + length (decimal n)
    → new ≡ take label old ++ (decimal n ++ drop (label + length (decimal n)) old)
    → IsRising new label (end - 1) (get_or new (end - 1) 0) n
anew old new label end n fits size long short room ends placed =
    let front = take label old in
    let digits = decimal n in
    let rest = drop (label + length digits) old in
    let at : length front ≡ label = length-take-le label old (omega (arith, short, size)) in
    let kept : take label new ≡ front =
    ap (take label) placed ∙ (ap (λ (k : ℕ). take k (front ++ (digits ++ rest))) (sym at)
    ∙ take-append_seam front (digits ++ rest)) in
    let text : take end new ≡ front ++ digits =
    ap₂ (λ (k : ℕ) (l : List ℕ). take k l) (ends
    ∙ ap (λ (k : ℕ). k + length digits) (sym at)) placed
    ∙ (take-append-add front (digits ++ rest) (length digits)
    ∙ ap (λ (l : List ℕ). front ++ l) (take-append_seam digits rest)) in
    placed_anew new label end n
    (record {
      size = long;
      short = short;
      room = room;
      text = text ∙ ap (λ (l : List ℕ). l ++ digits) (sym kept);
    })
    (omega (arith, ends, decimal_some n fits))

-- how long the text is
pub rising_length : (bytes : List ℕ) (label last digit n : ℕ) → IsRising bytes label last digit n
    → last + 1 ≡ length (take label bytes ++ decimal n)
rising_length bytes label last digit n r =
    text_length (set bytes last digit) label (last + 1) n r.text
    ∙ ap (λ (l : List ℕ). length (l ++ decimal n)) (take-set-le label bytes last digit r.behind)

-- the text is there once all bytes are placed and the digit is set
pub rising_placed : (bytes : List ℕ) (label last digit n : ℕ) → IsRising bytes label last digit n
    → (at : ℕ) (buffer placed after rest : List ℕ) → at ≤ length buffer
    → placed ≡ take at buffer ++ (bytes ++ rest) → after ≡ set placed (at + last) digit
    → take (at + last + 1) after ≡ take at buffer ++ (take label bytes ++ decimal n)
rising_placed bytes label last digit n r at buffer placed after rest inside is over =
    let size : length (take at buffer) ≡ at = length-take-le at buffer inside in
    let e : at + last - at ≡ last = omega arith in
    let f : at + last + 1 ≡ at + (last + 1) = omega arith in
    let room = r.text.room in
    let all : after ≡ take at buffer ++ (set bytes last digit ++ rest) =
    over ∙ (ap (λ (l : List ℕ). set l (at + last) digit) is
    ∙ (set-append_right (take at buffer) (bytes ++ rest) at (at + last) digit size (omega arith)
    ∙ (ap (λ (k : ℕ). take at buffer ++ set (bytes ++ rest) k digit) e
    ∙ ap (λ (l : List ℕ). take at buffer ++ l)
    (set-append_left bytes rest last digit (omega (arith, room, r.size)))))) in
    ap (λ (k : ℕ). take k after) f
    ∙ (text_placed (set bytes last digit) label (last + 1) n r.text at buffer after rest inside all
    ∙ ap (λ (l : List ℕ). take at buffer ++ (l ++ decimal n))
    (take-set-le label bytes last digit r.behind))
