-- What a gathering sink holds back.
use Rattle.std.proofs.Common.{◌≡◌, ℕ, ◌+◌, ◌-◌, ◌≤◌, List, [], ◌++◌, length, take, drop, sym, ap}
use Rattle.std.proofs.Common.{◌∙◌, append_assoc, arith}
use Rattle.std.proofs.lemmas.List.{drop-take, drop-drop, length-take-le, drop-append-le}
use Rattle.std.proofs.lemmas.List.{take-append-drop, take-take}
use Rattle.std.proofs.Math.Seq.{take-append-add, take-append_seam}
use Rattle.std.specs.Io.KnownBytes.{Appends}
use Rattle.texts.specs.Growth.{SinkState, gathering, Follows, Wrote}
use Rattle.texts.proofs.Growth.{wrote_then, passed_more, held_more}

-- what is passed on is what is held back
pub part_is : (buffer : List ℕ) (at end : ℕ) → at ≤ end
    → take (end - at) (drop at buffer) ≡ drop at (take end buffer)
part_is buffer at end le = let all : at + (end - at) ≡ end = omega arith in
    sym (drop-take at (end - at) buffer) ∙ ap (λ (n : ℕ). drop at (take n buffer)) all

-- the first bytes, and those from there up to a place
pub part_taken : (at end : ℕ) (bytes : List ℕ) → at ≤ end
    → take at bytes ++ take (end - at) (drop at bytes) ≡ take end bytes
part_taken at end bytes le = ap (λ (l : List ℕ). take at bytes ++ l) (part_is bytes at end le)
    ∙ ap (λ (l : List ℕ). l ++ drop at (take end bytes)) (sym (take-take at end bytes le))
    ∙ take-append-drop at (take end bytes)

-- some more bytes were passed on
pub held_passed : (name at end n : ℕ) (buffer : List ℕ) (old : SinkState) (s t : SinkState)
    → at ≤ end
    → n ≤ length (take (end - at) (drop at buffer))
    → Wrote [] old (gathering name (drop at (take end buffer)) s)
    → Appends s.taken t.taken (take n (take (end - at) (drop at buffer))) → t.faults ≡ s.faults
    → s.certain ≤ t.certain + n → Follows s t
    → Wrote [] old (gathering name (drop (at + n) (take end buffer)) t)
held_passed name at end n buffer old s t le most h bytes still lasts follows =
    let part = part_is buffer at end le in
    rw (← drop-drop n at (take end buffer))
    (wrote_then old _ _ [] [] h
    (passed_more name n (drop at (take end buffer)) s t (rw (← part) most)
    (rw (← part) bytes) still lasts follows))

-- bytes that are placed after the held ones are held
pub held_placed : (at end : ℕ) (buffer bytes rest : List ℕ) → at ≤ end → end ≤ length buffer
    → drop at (take (end + length bytes) (take end buffer ++ (bytes ++ rest)))
    ≡ drop at (take end buffer) ++ bytes
held_placed at end buffer bytes rest le within =
    let front = take end buffer in
    let len : length front ≡ end = length-take-le end buffer within in
    let all : take (end + length bytes) (front ++ (bytes ++ rest)) ≡ front ++ bytes =
    ap (λ (k : ℕ). take (k + length bytes) (front ++ (bytes ++ rest))) (sym len)
    ∙ take-append-add front (bytes ++ rest) (length bytes)
    ∙ ap (λ (l : List ℕ). front ++ l) (take-append_seam bytes rest) in
    ap (drop at) all ∙ drop-append-le at front bytes (omega (arith, len))

-- some bytes are held back
pub held_all : (name at end : ℕ) (buffer after bytes rest : List ℕ) (s : SinkState) → at ≤ end
    → end ≤ length buffer → after ≡ take end buffer ++ (bytes ++ rest)
    → Wrote bytes (gathering name (drop at (take end buffer)) s)
    (gathering name (drop at (take (end + length bytes) after)) s)
held_all name at end buffer after bytes rest s le within is =
    let held : drop at (take (end + length bytes) after) ≡ drop at (take end buffer) ++ bytes =
    ap (λ (l : List ℕ). drop at (take (end + length bytes) l)) is
    ∙ held_placed at end buffer bytes rest le within in
    rw held (held_more name (drop at (take end buffer)) bytes s)

-- bytes are held up to a place
pub held_to : (name at end to : ℕ) (buffer after bytes : List ℕ) (s : SinkState) → at ≤ end
    → end ≤ length buffer → to ≡ end + length bytes → take to after ≡ take end buffer ++ bytes
    → Wrote bytes (gathering name (drop at (take end buffer)) s)
    (gathering name (drop at (take to after)) s)
held_to name at end to buffer after bytes s le within ends is =
    let whole : after ≡ take end buffer ++ (bytes ++ drop to after) =
    sym (take-append-drop to after) ∙ ap (λ (l : List ℕ). l ++ drop to after) is
    ∙ append_assoc (take end buffer) bytes (drop to after) in
    rw ends (held_all name at end buffer after bytes (drop to after) s le within whole)
