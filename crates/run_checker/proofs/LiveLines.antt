-- The lines of the shortest end of a certificate: they are short, and a row of zeros is a row.
use Rattle.std.proofs.Common.{◌≡◌, ℕ, zero, suc, ◌+◌, ◌*◌, ◌<◌, ◌≤◌}
use Rattle.std.proofs.Common.{Bool, true, false, cond, not, List, [], ◌∷◌, ◌++◌, length, map}
use Rattle.std.proofs.Common.{replicate, decimal, Option, Some, None, refl}
use Rattle.std.proofs.Common.{arith, if◌then◌else◌}
use Rattle.std.specs.Prelude.{All, IfSome}
use Rattle.std.specs.Option.{is_some}
use Rattle.std.specs.Int.{div_ceil}
use Rattle.std.specs.List.{range_with_len, list_all, join_with_byte}
use Rattle.std.proofs.lemmas.Bool.{and_from}
use Rattle.std.proofs.lemmas.Bool.{eq-eqb}
use Rattle.std.proofs.lemmas.Fmt.{length-decimal-le}
use Rattle.std.proofs.lemmas.List.{length-append, length-replicate}
use Rattle.std.proofs.lemmas.List.Elements.{All-head, All-tail}
use Rattle.std.proofs.lemmas.List.Elements.{All-map}
use Rattle.std.proofs.lemmas.List.FromFn.{length-range_with_len}
use Rattle.construction.specs.Plans.{Plan, plan_nodes}
use Rattle.construction.specs.Runs.{is_in}
use Rattle.plan_numbers.specs.Premises.{IsAccepted}
use Rattle.plan_numbers.proofs.Accepted.{accepted_sized, accepted_depth}
use Rattle.state_codec.specs.Shapes.{bits_in, bytes_in}
use Rattle.run_checker.specs.NodeFields.{fields_of}
use Rattle.state_codec.specs.Texts.{is_state_text, is_lower_digit}
use Rattle.state_codec.specs.Shapes.{shape_of, register_bits, registers_bits}
use Rattle.state_codec.proofs.Plans.{shape_of_accepted, depth_of_shape}
use Rattle.state_codec.proofs.Lows.{fields_limited, depth_at}
use Rattle.construction.specs.Widths.{width}
use Rattle.plan_numbers.proofs.WidthLaws.{width_most}
use Rattle.std.specs.Prelude.{◌==◌, ◌^◌}
use Rattle.std.proofs.lemmas.List.Sums.{sum_by-cons}
use Rattle.run_checker.specs.Items.{IsShort, HasLine, row_word, start_item, row_item}
use Rattle.run_checker.specs.Items.{lie_item, end_item}
use Rattle.run_checker.specs.Grammar.{IsRow}
use Rattle.adversary_script.specs.Scripts.{most_rounds}

-- ---- the digits of the zero state

abbrev pub zeros : Plan → (v : ℕ) → List ℕ
zeros plan v = replicate (2 * bytes_in (fields_of plan v)) 48

all_zeros : (n : ℕ) → list_all is_lower_digit (replicate n 48) ≡ true
all_zeros zero = refl
all_zeros (suc n) = all_zeros n

pub zeros_fit : (plan : Plan) (v : ℕ) → is_state_text (fields_of plan v) (zeros plan v) ≡ true
zeros_fit plan v =
    and_from _ _ (eq-eqb _ _ (length-replicate {A = ℕ} (2 * bytes_in (fields_of plan v)) 48))
    (all_zeros (2 * bytes_in (fields_of plan v)))

eighth : (n m : ℕ) → n ≤ 8 * m → div_ceil n 8 ≤ m + 1
eighth n m le = omega arith

few_nodes : (plan : Plan) → IsAccepted plan → plan_nodes plan ≤ 256
few_nodes plan h = (accepted_sized plan.base plan.levels h.levels).most

width_small : (z : ℕ) → z ≤ 2 ^ 41 → width z ≤ 41
width_small z le = width_most z 41 (omega arith) le

register_small : (none : Bool) (c : ℕ) → c ≤ 2 ^ 40 → cond none 0 (width (c + 1) + 1) ≤ 42
register_small true c le = omega arith
register_small false c le = omega (arith, width_small (c + 1) (omega arith))

registers_small : (cs : List ℕ) → All (λ c. c ≤ 2 ^ 40) cs → registers_bits cs ≤ 42 * length cs
unfolding registers_bits
registers_small [] limits = omega arith
registers_small (c ∷ cs) limits =
    omega (
      arith,
      sum_by-cons register_bits c cs,
      register_small (c == 0) c (All-head (λ c. c ≤ 2 ^ 40) c cs limits),
      registers_small cs (All-tail (λ c. c ≤ 2 ^ 40) c cs limits),
    )

pub few_bits : (plan : Plan) (v : ℕ) → IsAccepted plan → bits_in (fields_of plan v) ≤ 251
few_bits plan v h =
    let shape = shape_of plan in
    let limits = fields_limited shape v (shape_of_accepted plan h) in
    let deep = accepted_depth plan.base plan.levels h.levels in
    omega (
      arith,
      width_small (fields_of plan v).base (omega (arith, limits.most)),
      registers_small (fields_of plan v).moduli limits.moduli,
      depth_at shape v,
      depth_of_shape plan,
      deep,
    )

few_digits : (plan : Plan) (v : ℕ) → IsAccepted plan → length (zeros plan v) ≤ 2700
few_digits plan v h =
    let all : bits_in (fields_of plan v) ≤ 8 * 1344 = omega (arith, few_bits plan v h) in
    omega (
      arith,
      length-replicate {A = ℕ} (2 * bytes_in (fields_of plan v)) 48,
      eighth (bits_in (fields_of plan v)) 1344 all,
    )

-- ---- lines are short

short_number : (n : ℕ) → n ≤ 1000001 → length (decimal n) ≤ 15
short_number n h = length-decimal-le 15 n (omega arith) (omega arith) (omega arith)

pub lie_line : (plan : Plan) (u v : ℕ) → IsAccepted plan → u < plan_nodes plan → v < plan_nodes plan
    → HasLine (lie_item u v (zeros plan u))
lie_line plan u v h a b =
    let n = few_nodes plan h in
    let d = few_digits plan u h in
    record {
      words = (omega (arith, n), omega (arith, n), all_zeros (2 * bytes_in (fields_of plan u)));
      short =
          omega (
            arith,
            length-append (decimal u) (32 ∷ (decimal v ++ 32 ∷ zeros plan u)),
            length-append (decimal v) (32 ∷ zeros plan u),
            short_number u (omega (arith, n)),
            short_number v (omega (arith, n)),
            d,
          );
    }

pub start_line : (plan : Plan) (v : ℕ) → IsAccepted plan → v < plan_nodes plan
    → HasLine (start_item v (zeros plan v))
start_line plan v h b =
    let n = few_nodes plan h in
    let d = few_digits plan v h in
    record {
      words = (omega (arith, n), all_zeros (2 * bytes_in (fields_of plan v)));
      short = omega (
        arith,
        length-append (decimal v) (32 ∷ zeros plan v),
        short_number v (omega (arith, n)),
        d,
      );
    }

abbrev zero_word : List ℕ → ℕ → Option ℕ
zero_word faulty v = if is_in faulty v then None else Some 0

abbrev pub zero_row : Plan → List ℕ → List (Option ℕ)
zero_row plan faulty = map (zero_word faulty) (range_with_len 0 (plan_nodes plan))

zero_word_short : (faulty : Bool) → IfSome (cond faulty None (Some 0)) IsShort
zero_word_short true = tt
zero_word_short false = omega arith

one_byte : (faulty : Bool) → length (row_word (cond faulty None (Some 0))) ≤ 1
one_byte true = omega arith
one_byte false = short_zero where
  short_zero : length (decimal 0) ≤ 1
  short_zero = length-decimal-le 1 0 (omega arith) (omega arith) (omega arith)

some_word : (faulty : Bool) → is_some {T = ℕ} (cond faulty None (Some 0)) ≡ not faulty
some_word true = refl
some_word false = refl

joined_length : (w : List ℕ) (faulty : List ℕ) (vs : List ℕ)
    → length (join_with_byte 32 (w ∷ map row_word (map (zero_word faulty) vs)))
    ≤ length w + 2 * length vs
joined_length w faulty [] = omega arith
joined_length w faulty (v ∷ vs) =
    omega (
      arith,
      length-append w (32 ∷ join_with_byte 32 (map row_word (map (zero_word faulty) (v ∷ vs)))),
      one_byte (is_in faulty v),
      joined_length (row_word (zero_word faulty v)) faulty vs,
    )

pub zero_row_is : (plan : Plan) (faulty : List ℕ) → IsRow plan faulty (zero_row plan faulty)
zero_row_is plan faulty = record { size = marks (range_with_len 0 (plan_nodes plan)) } where
  marks : (vs : List ℕ)
      → map is_some (map (zero_word faulty) vs) ≡ map (λ v. not (is_in faulty v)) vs
  marks [] = refl
  marks (v ∷ vs) = rw (some_word (is_in faulty v), marks vs) refl

pub zero_row_line : (plan : Plan) (faulty : List ℕ) (t : ℕ) → IsAccepted plan → t ≤ most_rounds
    → HasLine (row_item t (zero_row plan faulty))
zero_row_line plan faulty t h few =
    let n = few_nodes plan h in
    record {
      words = (
        omega arith,
        All-map (λ w. IfSome w IsShort) (zero_word faulty) (range_with_len 0 (plan_nodes plan))
            (λ i d l. zero_word_short (is_in faulty _)),
      );
      short =
          omega (
            arith,
            joined_length (decimal t) faulty (range_with_len 0 (plan_nodes plan)),
            length-range_with_len 0 (plan_nodes plan),
            short_number t (omega arith),
            n,
          );
    }

pub end_line : HasLine end_item
end_line = record { words = tt; short = omega arith }
