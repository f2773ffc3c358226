-- A number that is kept as text rises.
use Rattle.std.proofs.Common.{◌≡◌, ℕ, ◌+◌, ◌-◌, ◌*◌, ◌/◌, ◌%◌, ◌^◌, ◌<◌, ◌≤◌, List, [], ◌∷◌, ◌++◌}
use Rattle.std.proofs.Common.{length, take, get_or, set, inl, inr, sym, ap, ap₂, ◌∙◌, append_assoc}
use Rattle.std.proofs.Common.{length-append, length-set, take-take, decimal, arith, eq-zero-or-pos}
use Rattle.std.proofs.lemmas.List.{length-take-le, take_more_set, take-set-le, take-append-le}
use Rattle.std.proofs.lemmas.List.{get_or-take}
use Rattle.std.proofs.lemmas.Fmt.{decimal_digit, decimal_step}
use Rattle.std.proofs.Math.Seq.{take-append_seam, take-append-add, get_or-append_seam}
use Rattle.edge_io.specs.Rising.{IsText}

-- A number's text ends in its last digit, and if that is no nine, the next number's text is the
-- same but for that digit.
record EndsInDigit (n : ℕ) : Type 0 where
  pub front : List ℕ
  pub digit : ℕ
  pub text : decimal n ≡ front ++ digit ∷ []
  pub next : digit < 57 → decimal (n + 1) ≡ front ++ (digit + 1) ∷ []

ends_short : (n : ℕ) → n < 10 → EndsInDigit n
ends_short n lt = record {
  front = [];
  digit = 48 + n;
  text = decimal_digit n lt;
  next = λ low. let same : 48 + (n + 1) ≡ 48 + n + 1 = omega arith in
      decimal_digit (n + 1) (omega arith) ∙ ap (λ (d : ℕ). d ∷ []) same;
}

ends_long : (n : ℕ) → 10 ≤ n → n < 2 ^ 64 - 1 → EndsInDigit n
ends_long n long fits = record {
  front = decimal (n / 10);
  digit = 48 + n % 10;
  text = decimal_step n long (omega arith);
  next = λ low.
      let tens : (n + 1) / 10 ≡ n / 10 = omega arith in
      let ones : 48 + (n + 1) % 10 ≡ 48 + n % 10 + 1 = omega arith in
      decimal_step (n + 1) (omega arith) (omega arith)
      ∙ ap₂ (λ (q d : ℕ). decimal q ++ d ∷ []) tens ones;
}

ends_in_digit : (n : ℕ) → n < 2 ^ 64 - 1 → EndsInDigit n
ends_in_digit n fits = elim (eq-zero-or-pos (n - 9)) [
  | inl z ↦ ends_short n (omega arith)
  | inr s ↦ ends_long n (omega arith) fits
]

-- what lies before the last of some bytes, and that byte
module _ (bytes front : List ℕ) (digit end : ℕ) (room : end ≤ length bytes)
    (is : take end bytes ≡ front ++ digit ∷ []) where
  size : end ≡ length front + 1
  size = sym (length-take-le end bytes room) ∙ ap length is ∙ length-append front (digit ∷ [])

  before : take (end - 1) bytes ≡ front
  before =
      let last : end - 1 ≡ length front = omega (arith, size) in
      sym (take-take (end - 1) end bytes (omega arith))
      ∙ ap₂ (λ (k : ℕ) (l : List ℕ). take k l) last is ∙ take-append_seam front (digit ∷ [])

  last_byte : get_or bytes (end - 1) 0 ≡ digit
  last_byte =
      let last : end - 1 ≡ length front = omega (arith, size) in
      sym (get_or-take end bytes (end - 1) 0 (omega (arith, size)))
      ∙ ap₂ (λ (k : ℕ) (l : List ℕ). get_or l k 0) last is ∙ get_or-append_seam front digit [] 0

-- where the text ends, and that it is not empty
pub text_end : (bytes : List ℕ) (label end n : ℕ) → IsText bytes label end n → n < 2 ^ 64 - 1
    → label < end
text_end bytes label end n t fits =
    let ends = ends_in_digit n fits in
    omega (
      arith,
      t.size,
      t.short,
      t.room,
      length-take-le end bytes (omega (arith, t.size, t.room)),
      ap length t.text,
      length-append (take label bytes) (decimal n),
      length-take-le label bytes
          (omega (arith, t.size, t.short)),
      ap length ends.text,
      length-append ends.front
          (ends.digit ∷ []),
    )

-- the last digit rises
pub rises_in_place : (bytes : List ℕ) (label end n : ℕ) → IsText bytes label end n → n < 2 ^ 64 - 1
    → get_or bytes (end - 1) 0 < 57
    → IsText (set bytes (end - 1) (get_or bytes (end - 1) 0 + 1)) label end (n + 1)
rises_in_place bytes label end n t fits low =
    let ends = ends_in_digit n fits in
    let behind = text_end bytes label end n t fits in
    let front = take label bytes ++ ends.front in
    let is : take end bytes ≡ front ++ ends.digit ∷ [] =
    t.text ∙ ap (λ (l : List ℕ). take label bytes ++ l) ends.text
    ∙ sym (append_assoc (take label bytes) ends.front (ends.digit ∷ [])) in
    let room : end ≤ length bytes = omega (arith, t.size, t.room) in
    let digit = last_byte bytes front ends.digit end room is in
    let new = get_or bytes (end - 1) 0 + 1 in
    let whole : end - 1 + 1 ≡ end = omega (arith, behind) in
    let label_is : take label (set bytes (end - 1) new) ≡ take label bytes =
    take-set-le label bytes (end - 1) new (omega (arith, behind)) in
    record {
      size = length-set bytes (end - 1) new ∙ t.size;
      short = t.short;
      room = t.room;
      text =
          ap (λ (k : ℕ). take k (set bytes (end - 1) new)) (sym whole)
          ∙ take_more_set bytes (end - 1) new (omega (arith, behind, room))
          ∙ ap₂ (λ (l : List ℕ) (d : ℕ). l ++ (d + 1) ∷ [])
          (before bytes front ends.digit end room is) digit
          ∙ append_assoc (take label bytes) ends.front ((ends.digit + 1) ∷ [])
          ∙ ap₂ (λ (l m : List ℕ). l ++ m) (sym label_is)
          (sym (ends.next (omega (arith, digit, low))));
    }

-- what stands before the last digit is the text of the tens
pub tens_text : (bytes : List ℕ) (label end n : ℕ) → IsText bytes label end n → 10 ≤ n → n < 2 ^ 64
    → end ≤ length bytes
    → IsText bytes label (end - 1) (n / 10) × (get_or bytes (end - 1) 0 ≡ 48 + n % 10)
tens_text bytes label end n t long fits room =
    let front = take label bytes ++ decimal (n / 10) in
    let digit = 48 + n % 10 in
    let is : take end bytes ≡ front ++ digit ∷ [] =
    t.text ∙ ap (λ (l : List ℕ). take label bytes ++ l) (decimal_step n long fits)
    ∙ sym (append_assoc (take label bytes) (decimal (n / 10)) (digit ∷ [])) in (
      record {
        size = t.size;
        short = t.short;
        room = omega (arith, t.room);
        text = before bytes front digit end room is;
      },
      last_byte bytes front digit end room is,
    )

-- a zero after the text makes the number ten times as large
pub zero_behind : (bytes : List ℕ) (label at end m n : ℕ) → IsText bytes label at m → end ≡ at + 1
    → label ≤ at → end ≤ 32 → 0 < m → n ≡ 10 * m → n < 2 ^ 64
    → IsText (set bytes at 48) label end n
zero_behind bytes label at end m n t end_is behind within some is fits =
    let within_bytes : at < length bytes = omega (arith, t.size, end_is, within) in
    let tens : m ≡ n / 10 = omega (arith, is) in
    let ones : 48 ≡ 48 + n % 10 = omega (arith, is) in
    let digits : decimal m ++ 48 ∷ [] ≡ decimal n =
    ap₂ (λ (q d : ℕ). decimal q ++ d ∷ []) tens ones
    ∙ sym (decimal_step n (omega (arith, some, is)) fits) in
    record {
      size = length-set bytes at 48 ∙ t.size;
      short = t.short;
      room = within;
      text =
          ap (λ (k : ℕ). take k (set bytes at 48)) end_is
          ∙ take_more_set bytes at 48 within_bytes
          ∙ ap (λ (l : List ℕ). l ++ 48 ∷ []) t.text
          ∙ append_assoc (take label bytes) (decimal m) (48 ∷ [])
          ∙ ap₂ (λ (l m : List ℕ). l ++ m) (sym (take-set-le label bytes at 48 behind)) digits;
    }

-- the last digit is a nine, and the one before it rises
module _ (bytes : List ℕ) (label end n : ℕ) (t : IsText bytes label end n) (long : 10 ≤ n)
    (fits : n < 2 ^ 64 - 1) where
  room_is : end ≤ length bytes
  room_is = omega (arith, t.size, t.room)

  tens : IsText bytes label (end - 1) (n / 10)
  tens = (tens_text bytes label end n t long (omega arith) room_is).0

  pub two_digits : label + 1 < end
  two_digits = omega (arith, text_end bytes label (end - 1) (n / 10) tens (omega arith))

  pub nine_carried : 57 ≤ get_or bytes (end - 1) 0 → get_or bytes (end - 1 - 1) 0 < 57
      → IsText (set (set bytes (end - 1 - 1) (get_or bytes (end - 1 - 1) 0 + 1)) (end - 1) 48) label
      end (n + 1)
  nine_carried nine low =
      let last : n % 10 ≡ 9 = omega
      (arith, nine, (tens_text bytes label end n t long (omega arith) room_is).1) in
      let risen = rises_in_place bytes label (end - 1) (n / 10) tens (omega arith) low in
      zero_behind _ label (end - 1) end (n / 10 + 1) (n + 1) risen (omega (arith, two_digits))
      (omega (arith, two_digits)) t.room (omega arith) (omega (arith, last)) (omega arith)

-- how long the text is
pub text_length : (bytes : List ℕ) (label end n : ℕ) → IsText bytes label end n
    → end ≡ length (take label bytes ++ decimal n)
text_length bytes label end n t =
    sym (length-take-le end bytes (omega (arith, t.size, t.room))) ∙ ap length t.text

-- the text is there once all bytes are placed
pub text_placed : (bytes : List ℕ) (label end n : ℕ) → IsText bytes label end n
    → (at : ℕ) (buffer after rest : List ℕ) → at ≤ length buffer
    → after ≡ take at buffer ++ (bytes ++ rest)
    → take (at + end) after ≡ take at buffer ++ (take label bytes ++ decimal n)
text_placed bytes label end n t at buffer after rest within is =
    let front = take at buffer in
    let size : length front ≡ at = length-take-le at buffer within in
    ap (take (at + end)) is
    ∙ (ap (λ (k : ℕ). take (k + end) (front ++ (bytes ++ rest))) (sym size)
    ∙ (take-append-add front (bytes ++ rest) end
    ∙ ap (λ (l : List ℕ). front ++ l)
    (take-append-le end bytes rest (omega (arith, t.size, t.room)) ∙ t.text)))
