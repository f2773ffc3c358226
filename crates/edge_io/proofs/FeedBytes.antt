-- The bytes of a feed.
use Rattle.std.proofs.Common.{Err, ◌≡◌, ℕ, suc, ◌+◌, ◌-◌, ◌<◌, ◌≤◌, true, List, []}
use Rattle.std.proofs.Common.{◌∷◌, ◌++◌, length, take, drop, get_or, Option, Some, None, refl, sym}
use Rattle.std.proofs.Common.{ap, ◌∙◌, arith, min, ◌^◌}
use Rattle.std.specs.Io.KnownBytes.{prepend_known, Consumes, Keeps}
use Rattle.std.proofs.KnownBytes.{Consumes-nil, Consumes-trans, Consumes-kept}
use Rattle.std.proofs.lemmas.List.{drop_more, length-take, length-drop}
use Rattle.edge_io.specs.declared.feed.LineFault.{LineFault}
use Rattle.edge_io.specs.declared.feed.LineFault.TheVariants as fault
use Rattle.texts.specs.Lines.{is_one_line}
use Rattle.edge_io.specs.declared.feed.Feed.{Feed}
use Rattle.edge_io.specs.Feeds.{buffered, TakesLineByte, LineIs}

buffer_more : (buffer : List ℕ) (at end : ℕ) → at < end → end ≤ length buffer
    → take (end - at) (drop at buffer)
    ≡ get_or buffer at 0 ∷ take (end - (at + 1)) (drop (at + 1) buffer)
buffer_more buffer at end lt le =
    let k : end - at ≡ suc (end - (at + 1)) = omega arith in
    rw (drop_more buffer at 0 (omega arith), k) refl

-- one byte is taken of the buffer
pub takes_byte : (old left : Option (List ℕ)) (buffer : List ℕ) (at end : ℕ)
    → at < end → end ≤ length buffer
    → Keeps old (prepend_known (take (end - at) (drop at buffer)) left)
    → Consumes old (prepend_known (take (end - (at + 1)) (drop (at + 1) buffer)) left)
    (get_or buffer at 0 ∷ [])
takes_byte None left buffer at end lt le keeps = tt
takes_byte (Some xs) None buffer at end lt le keeps = absurd keeps
takes_byte (Some xs) (Some ys) buffer at end lt le keeps =
    sym keeps ∙ ap (λ (l : List ℕ). l ++ ys) (buffer_more buffer at end lt le)

-- so far these bytes of a line were read
pub record LineSoFar (limit before after : ℕ) (old now : Option (List ℕ)) (bytes : List ℕ)
    (count : ℕ) : Type 0 where
  pub read : Consumes old now bytes
  pub size : length bytes ≡ count
  pub one : is_one_line bytes ≡ true
  pub counts : after ≡ before + count
  pub within : count ≤ limit - before

pub no_bytes : (limit before : ℕ) (s : Option (List ℕ)) → LineSoFar limit before before s s [] 0
no_bytes limit before s = record {
  read = Consumes-nil s;
  size = refl;
  one = refl;
  counts = omega arith;
  within = omega arith;
}

module _ (limit before mid after : ℕ) (s t u : Option (List ℕ)) (bytes : List ℕ) (count : ℕ)
    (h : LineSoFar limit before mid s t bytes count) where
  -- a fault after these bytes
  pub fault_behind : (e : LineFault) → TakesLineByte limit mid after t u (Err e)
      → LineIs limit before after s u bytes (Err e)
  fault_behind fault.ReadFault q = (
    Consumes-kept s t u bytes h.read q.0,
    omega (arith, q.1, h.counts, h.size),
    omega (arith, h.within, h.size),
  )
  fault_behind fault.TooLong (b, q, e, past) =
      let size : mid ≡ before + length bytes = omega (arith, h.counts, h.size) in (
        b,
        Consumes-trans s t u bytes (b ∷ []) h.read q,
        omega (arith, past, h.counts, h.size, h.within),
        e ∙ ap (λ n. min (n + 1) (2 ^ 64 - 1)) size,
      )

-- at most one buffer of bytes was given and not read
pub buffered_few : {S : Type 0} (f : Feed S) → length (buffered f) ≤ 4096
buffered_few f =
    let bytes = drop f.at f.buffer in
    omega (arith, length-take (f.end - f.at) bytes, length-drop f.at f.buffer, f.room, f.size)
