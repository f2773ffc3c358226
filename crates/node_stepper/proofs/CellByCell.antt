-- One cell after another.
use Rattle.std.proofs.Common.{◌*◌, ◌<◌, Bool, true, false, drop, Option, Some, None, Result}
use Rattle.std.proofs.Common.{Ok, Err, length-append, sym, ◌-◌, ◌/◌, ◌%◌, ◌≡◌, ℕ, suc, ◌+◌, ◌≤◌}
use Rattle.std.proofs.Common.{List, [], ◌∷◌, ◌++◌, length, take, set, get_or, refl, ap, ◌∙◌, subst}
use Rattle.std.proofs.Common.{arith}
use Rattle.std.specs.Io.KnownBytes.{Consumes}
use Rattle.std.proofs.KnownBytes.{Consumes-trans}
use Rattle.std.proofs.Math.Seq.{take-append_seam, drop-append_seam}
use Rattle.std.proofs.lemmas.Bool.{le-leb, lt-leb}
use Rattle.std.proofs.lemmas.List.{length-set, length-take-le}
use Rattle.std.proofs.lemmas.Slice.{take-put_mid}
use Rattle.state_codec.proofs.Bytes.{length-bytes_of_bits}
use Rattle.sync_types.specs.States.{State}
use Rattle.state_codec.specs.Shapes.{Fields, bytes_in}
use Rattle.state_codec.specs.Writing.{written, bits_of_state, padding}
use Rattle.node_stepper.specs.Packets.{cell_at}
use Rattle.machines.specs.Machines.{Machine}
use Rattle.node_stepper.specs.Nodes.{Standing, hearing, cell_text}
use Rattle.node_stepper.specs.Hearing.{BodyFed, WholeCell, CellFed}
use borrow.Rule.Slice.PartMut.{put_mid}

-- the first two of a list in which these were put there
first_two : (h l : ℕ) (out : List ℕ) → 2 ≤ length out → take 2 (set (set out 0 h) 1 l) ≡ h ∷ l ∷ []
first_two h l [] long = absurd (omega arith)
first_two h l (a ∷ []) long = absurd (omega arith)
first_two h l (a ∷ b ∷ out) long = refl

long2 : (h l : ℕ) (out : List ℕ) → length (set (set out 0 h) 1 l) ≡ length out
long2 h l out = length-set (set out 0 h) 1 l ∙ length-set out 0 h

-- a cell that is written at the beginning
pub front_is : (h l n : ℕ) (out bytes : List ℕ) → 2 + n ≤ length out → length bytes ≡ n
    → take (2 + n) (put_mid 2 n (set (set out 0 h) 1 l) bytes) ≡ h ∷ l ∷ bytes
front_is h l n out bytes room size =
    take-put_mid 2 n (set (set out 0 h) 1 l) bytes (2 + n) (omega (arith, size))
    (omega (arith, long2 h l out, room))
    ∙ ap (λ (xs : List ℕ). xs ++ bytes) (first_two h l out (omega (arith, room)))

pub cell_front : (n : ℕ) (out bytes new : List ℕ) → 2 + n ≤ length out → new ≡ bytes
    → length bytes ≡ n
    → take (2 + n) (put_mid 2 (2 + n - 2) (set (set out 0 (n / 256)) 1 (n % 256)) new)
    ≡ cell_text bytes
cell_front n out bytes new room is size =
    let mid : 2 + n - 2 ≡ n = omega arith in
    ap (λ (l : List ℕ). take (2 + n) (put_mid 2 (2 + n - 2) (set (set out 0 (n / 256)) 1 (n % 256))
    l)) is
    ∙ ap (λ (k : ℕ). take (2 + n) (put_mid 2 k (set (set out 0 (n / 256)) 1 (n % 256)) bytes)) mid
    ∙ front_is (n / 256) (n % 256) n out bytes room size
    ∙ ap (λ (k : ℕ). k / 256 ∷ k % 256 ∷ bytes) (sym size)

pub written_size : (fields : Fields) (s : State) → length (written fields s) ≡ bytes_in fields
written_size fields s =
    length-bytes_of_bits (bytes_in fields) (bits_of_state fields s ++ padding fields)

-- ---- cells that are read

whole_by : (n : ℕ) (body rest : List ℕ) → length body ≡ n → take n (body ++ rest) ≡ body
whole_by n body rest e = ap (λ k. take k (body ++ rest)) (sym e) ∙ take-append_seam body rest

behind_by : (n : ℕ) (body rest : List ℕ) → length body ≡ n → drop n (body ++ rest) ≡ rest
behind_by n body rest e = ap (λ k. drop k (body ++ rest)) (sym e) ∙ drop-append_seam body rest

-- a cell whose bytes are all there
pub whole_cell : (high low : ℕ) (body rest : List ℕ) → length body ≡ 256 * high + low
    → cell_at (high ∷ low ∷ (body ++ rest)) ≡ Some (body, rest)
whole_cell high low body rest e =
    rw (
      le-leb (256 * high + low) (length (body ++ rest)) (omega (arith, length-append body rest, e)),
      whole_by (256 * high + low) body rest e,
      behind_by (256 * high + low) body rest e,
    ) refl

-- a cell that lacks some
cut_cell : (high low : ℕ) (body : List ℕ) → length body < 256 * high + low
    → cell_at (high ∷ low ∷ body) ≡ None
cut_cell high low body lt = rw (lt-leb (256 * high + low) (length body) lt) refl

-- which machine each counter is
module _ {M : Type 0} (machine : M → Machine) where
  -- the length of a cell was read, and then its bytes
  pub rest_fed : {E : Type 0} (high low sender : ℕ) (before after : Standing M)
      (s t u : Option (List ℕ)) (result : Result Bool E) → Consumes s t (low ∷ [])
      → BodyFed machine (256 * high + low) sender before after t u result
      → CellFed machine (high ∷ []) sender before after s u result
  rest_fed high low sender before after s t u (Ok true) first (body, fed, heard) = (
    low ∷ body,
    body,
    Consumes-trans s t u (low ∷ []) body first fed.0,
    λ rest. whole_cell high low body rest fed.1,
    heard,
  )
  rest_fed high low sender before after s t u (Ok false) first (body, fed, heard) = (
    low ∷ body,
    Consumes-trans s t u (low ∷ []) body first fed.0,
    cut_cell high low body fed.1,
    fed.2,
    heard,
  )
  rest_fed high low sender before after s t u (Err e) first (body, fed, heard) = (
    low ∷ body,
    Consumes-trans s t u (low ∷ []) body first fed.0,
    cut_cell high low body fed.1,
    heard,
  )

  -- a cell that stands at the beginning of bytes was read there
  pub held_cell : (n sender : ℕ) (before after : Standing M) (s t : Option (List ℕ))
      (bytes : List ℕ)
      → 2 + n ≤ length bytes → 256 * get_or bytes 0 0 + get_or bytes 1 0 ≡ n
      → Consumes s t (take (2 + n) bytes)
      → after ≡ hearing machine before sender (take n (drop 2 bytes))
      → WholeCell machine [] sender before after s t
  held_cell n sender before after s t [] within size fed heard = absurd (omega (arith, within))
  held_cell n sender before after s t (high ∷ []) within size fed heard =
      absurd (omega (arith, within))
  held_cell n sender before after s t (high ∷ low ∷ bytes) within size fed heard =
      let two : 2 + n ≡ suc (suc n) = omega arith in (
        high ∷ low ∷ take n bytes,
        take n bytes,
        subst (λ (k : ℕ). Consumes s t (take k (high ∷ low ∷ bytes))) two fed,
        λ rest. whole_cell high low (take n bytes) rest
            (length-take-le n bytes (omega (arith, within)) ∙ sym size),
        heard,
      )

  -- the first byte of a cell was read, and then the others
  pub first_then : (high sender : ℕ) (before after : Standing M) (s t u : Option (List ℕ))
      → Consumes s t (high ∷ []) → WholeCell machine (high ∷ []) sender before after t u
      → WholeCell machine [] sender before after s u
  first_then high sender before after s t u first (bytes, cell, fed, is, heard) =
      (high ∷ bytes, cell, Consumes-trans s t u (high ∷ []) bytes first fed, is, heard)

  pub cell_fed : {E : Type 0} (high sender : ℕ) (before after : Standing M)
      (s t u : Option (List ℕ)) (result : Result Bool E) → Consumes s t (high ∷ [])
      → CellFed machine (high ∷ []) sender before after t u result
      → CellFed machine [] sender before after s u result
  cell_fed high sender before after s t u (Ok true) first whole =
      first_then high sender before after s t u first whole
  cell_fed high sender before after s t u (Ok false) first (bytes, fed, is, ended, heard) =
      (high ∷ bytes, Consumes-trans s t u (high ∷ []) bytes first fed, is, ended, heard)
  cell_fed high sender before after s t u (Err e) first (bytes, fed, is, heard) =
      (high ∷ bytes, Consumes-trans s t u (high ∷ []) bytes first fed, is, heard)
