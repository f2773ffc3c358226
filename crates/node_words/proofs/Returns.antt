-- What was read of a feed, of its source.
use Rattle.std.proofs.Common.{◌≡◌, ℕ, ◌-◌, ◌≤◌, Bool, true, false, ltb, List, [], ◌∷◌, ◌++◌}
use Rattle.std.proofs.Common.{length, take, drop, Option, Some, None, Result, refl, sym, ap, ◌∙◌}
use Rattle.std.proofs.Common.{subst, append_assoc, append-nil, length-append, arith}
use Rattle.std.specs.Io.KnownBytes.{prepend_known, Consumes, Keeps, IsAtEnd}
use Rattle.std.proofs.lemmas.Bool.{le-ltb}
use Rattle.texts.specs.Growth.{SinkState}
use Rattle.texts.specs.Limits.{longest_input}
use Rattle.edge_io.specs.FedParts.{MayFollow}
use Rattle.node_words.specs.declared.errors.NodeError.{NodeError}
use Rattle.node_words.specs.Constructions.{Words}
use Rattle.node_words.specs.Conduct.{Holds, ReadsFront, ReadsAll, NodeDoes, LeavesUnmet}

-- what is left, if it is known
pub left_of : Option (List ℕ) → List ℕ
left_of None = []
left_of (Some left) = left

pub holds_left : (left : Option (List ℕ)) → Holds left (left_of left)
unfolding left_of
holds_left None = tt
holds_left (Some left) = refl

-- bytes read of a feed and those in its buffer were read of its source
read_of : (s f l : Option (List ℕ)) (held bytes : List ℕ) → Keeps s f
    → Consumes f (prepend_known held l) bytes → Consumes s l (bytes ++ held)
read_of None f l held bytes keeps read = tt
read_of (Some xs) None l held bytes keeps read = absurd keeps
read_of (Some xs) (Some ys) None held bytes keeps read = absurd read
read_of (Some xs) (Some ys) (Some zs) held bytes keeps read =
    sym keeps ∙ read ∙ sym (append_assoc bytes held zs)

-- with an empty buffer
pub read_dry : (s f l : Option (List ℕ)) (held bytes : List ℕ) → Keeps s f
    → Consumes f (prepend_known held l) bytes → held ≡ [] → Consumes s l bytes
read_dry s f l held bytes keeps read dry =
    subst (Consumes s l) (ap (λ (h : List ℕ). bytes ++ h) dry ∙ append-nil bytes)
    (read_of s f l held bytes keeps read)

-- a prefix of an input was read, of which that much follows what was read of the feed
pub reads_front : (s f l : Option (List ℕ)) (held bytes : List ℕ) → Keeps s f
    → Consumes f (prepend_known held l) bytes → ReadsFront s l (bytes ++ (held ++ left_of l))
reads_front s f l held bytes keeps read = record {
  front = bytes ++ held;
  behind = left_of l;
  parts = sym (append_assoc bytes held (left_of l));
  read = read_of s f l held bytes keeps read;
  rest = holds_left l;
}

-- all was read
pub nothing_left : (xs ys : List ℕ) → xs ++ ys ≡ [] → (xs ≡ []) × (ys ≡ [])
nothing_left [] ys e = (refl, e)
nothing_left (x ∷ xs) ys e = absurd cc

pub reads_all : (s f l : Option (List ℕ)) (held bytes : List ℕ) → Keeps s f
    → Consumes f (prepend_known held l) bytes → IsAtEnd (prepend_known held l) → ReadsAll s l bytes
reads_all None f None held bytes keeps read end = record { read = tt; end = tt }
reads_all None f (Some zs) held bytes keeps read end =
    record { read = tt; end = (nothing_left held zs end).1 }
reads_all (Some xs) None l held bytes keeps read end = absurd keeps
reads_all (Some xs) (Some ys) None held bytes keeps read end = absurd read
reads_all (Some xs) (Some ys) (Some zs) held bytes keeps read end =
    let e = nothing_left held zs end in
    record {
      read = sym keeps ∙ read ∙ ap (λ (h : List ℕ). bytes ++ h) end
          ∙ ap (λ (h : List ℕ). bytes ++ h) (sym (e.1));
      end = e.1;
    }

pub all_front : (s l : Option (List ℕ)) (bytes : List ℕ) → ReadsAll s l bytes → ReadsFront s l bytes
all_front s None bytes h =
    record { front = bytes; behind = []; parts = sym (append-nil bytes); read = h.read; rest = tt }
all_front s (Some ys) bytes h =
    record
    { front = bytes; behind = []; parts = sym (append-nil bytes); read = h.read; rest = h.end }

-- ---- a header

-- an input whose header these bytes decide
pub record Input (s l : Option (List ℕ)) (bytes : List ℕ) (ended : Bool) : Type 0 where
  pub rest : List ℕ
  pub read : ReadsFront s l (bytes ++ rest)
  pub follows : MayFollow ended (ltb longest_input (length (bytes ++ rest))) rest

pub input_of : (ended : Bool) (s f l : Option (List ℕ)) (held bytes : List ℕ)
    → length bytes ≤ longest_input → Keeps s f → Consumes f (prepend_known held l) bytes
    → (ended ≡ true → IsAtEnd (prepend_known held l)) → Input s l bytes ended
input_of true s f l held bytes short keeps read end = record {
  rest = [];
  read =
      subst (ReadsFront s l) (sym (append-nil bytes))
      (all_front s l bytes (reads_all s f l held bytes keeps read (end refl)));
  follows = (
    refl,
    le-ltb longest_input (length (bytes ++ []))
        (omega (arith, length-append bytes [], short)),
  );
}
input_of false s f l held bytes short keeps read end =
    record
    { rest = held ++ left_of l; read = reads_front s f l held bytes keeps read; follows = tt }

-- a feed whose buffer was read
pub none_held : (at end : ℕ) (buffer : List ℕ) → at ≡ end → take (end - at) (drop at buffer) ≡ []
none_held at end buffer e = let none : end - at ≡ 0 = omega (arith, e) in rw none refl

-- so it is after a read that failed
pub dry_held : (at end : ℕ) (buffer : List ℕ) (Met : Type 0) → (at ≡ end) × Met
    → take (end - at) (drop at buffer) ≡ []
dry_held at end buffer Met dry = none_held at end buffer (dry.0)

-- the source that was lent ends as what stands under its name
pub does_end : {Reader Plan Premise X : Type 0} (words : Words Reader Plan Premise)
    (left : X → Option (List ℕ)) (faults : X → ℕ) (r : Result ℕ (NodeError Premise))
    (start final now : X) (lent other : ℕ) (t u : SinkState)
    → (lent ≡ other → final ≡ now) → lent ≡ other
    → NodeDoes words r (left start) (left now) (faults start) (faults now) t u
    → NodeDoes words r (left start) (left final) (faults start) (faults final) t u
does_end words left faults r start final now lent other t u given same h = rw (given same) h

pub unmet_end : {Premise X : Type 0} (met : X → Bool) (r : Result ℕ (NodeError Premise))
    (start final now : X) (lent other : ℕ)
    → (lent ≡ other → final ≡ now) → lent ≡ other → LeavesUnmet r (met start) (met now)
    → LeavesUnmet r (met start) (met final)
unmet_end met r start final now lent other given same h = rw (given same) h
