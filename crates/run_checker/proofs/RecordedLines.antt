-- The lines of what is recorded are short, and its eras few.
use Rattle.std.proofs.Common.{◌≡◌, ℕ, ◌+◌, ◌*◌, ◌^◌, ◌<◌, ◌≤◌, Bool, true, false, cond, List, []}
use Rattle.std.proofs.Common.{◌∷◌, ◌++◌, length, map, All, Option, Some, None, decimal, codes}
use Rattle.std.proofs.Common.{unwrap_or, ap, arith}
use Rattle.std.specs.Prelude.{IfSome, ◌==◌, nat_le}
use Rattle.std.specs.List.{range_with_len, join_with_byte, list_all}
use Rattle.std.proofs.lemmas.Bool.{and_parts, eqb-true}
use Rattle.std.proofs.lemmas.Fmt.{length-decimal-le}
use Rattle.std.proofs.lemmas.List.{length-append, length-map}
use Rattle.std.proofs.lemmas.List.Elements.{All-nil, All-cons, All-head, All-tail, All-weaker}
use Rattle.std.proofs.lemmas.List.FromFn.{length-range_with_len}
use Rattle.sync_types.specs.States.{State, register_at}
use Rattle.sync_types.specs.declared.states.Reg.{Reg}
use Rattle.construction.specs.Plans.{Level, Plan, plan_nodes, plan_depth, low_of}
use Rattle.construction.specs.Shown.{shown}
use Rattle.construction.specs.Steps.{state_of}
use Rattle.construction.specs.Runs.{is_in, IsNumber, IsRegister, HasRegisters, IsState}
use Rattle.construction.specs.Runs.{IsConfiguration, IsToleratedBy}
use Rattle.plan_numbers.specs.Numbers.{below_of}
use Rattle.plan_numbers.specs.Premises.{IsAccepted, LevelsAccepted, first_premise}
use Rattle.plan_numbers.proofs.Accepted.{meets, accepted_sized}
use Rattle.std.specs.Int.{div_ceil}
use Rattle.state_codec.specs.Shapes.{bits_in, bytes_in}
use Rattle.state_codec.specs.Texts.{is_state_text, is_lower_digit}
use Rattle.counter_core.proofs.StateLists.{each_below}
use Rattle.run_checker.proofs.LiveLines.{few_bits}
use Rattle.run_checker.specs.NodeFields.{fields_of}
use Rattle.run_checker.specs.Items.{IsShort, HasLine, row_word, run_item, base_item}
use Rattle.run_checker.specs.Items.{level_item, faulty_item, start_item, row_item, lie_item}
use Rattle.run_checker.specs.Items.{era_item}
use Rattle.run_checker.specs.Certificates.{spares_said, level_of}
use Rattle.run_checker.specs.Stated.{Snapshot, shown_row}
use Rattle.adversary_script.specs.Scripts.{most_rounds}

-- a number of a plan or a script
abbrev pub IsSmall : ℕ → Type 0
IsSmall n = n ≤ 2 ^ 40

pub short_number : (n : ℕ) → IsSmall n → length (decimal n) ≤ 13
short_number n le = length-decimal-le 13 n (omega arith) (omega arith) (omega arith)

short_id : (n : ℕ) → n < 256 → length (decimal n) ≤ 3
short_id n lt = length-decimal-le 3 n (omega arith) (omega arith) (omega arith)

-- ---- the head

pub run_line : (version : ℕ) → version ≤ 3 → HasLine (run_item version)
run_line version le = record {
  words = omega arith;
  short =
      omega (
        arith,
        length-append (codes "run") (32 ∷ decimal version),
        short_number version (omega arith),
      );
}

pub base_line : (base : ℕ) → IsSmall base → HasLine (base_item base)
base_line base le =
    record {
      words = omega arith;
      short = omega (arith, length-append (codes "base") (32 ∷ decimal base), short_number base le);
    }

level_line_by : (k f c : ℕ) (spares : Option ℕ) → IsSmall k → IsSmall f → IsSmall c
    → IfSome spares IsSmall
    → HasLine (level_item k f c spares)
level_line_by k f c None a b d e = record {
  words = (omega arith, omega arith, omega arith, tt);
  short = omega (
    arith,
    length-append (codes "level") (32 ∷ (decimal k ++ 32 ∷ (decimal f ++ 32 ∷ decimal c))),
    length-append (decimal k) (32 ∷ (decimal f ++ 32 ∷ decimal c)),
    length-append (decimal f) (32 ∷ decimal c),
    short_number k a,
    short_number f b,
    short_number c d,
  );
}
level_line_by k f c (Some s) a b d e = record {
  words = (omega arith, omega arith, omega arith, omega (arith, e));
  short = omega (
    arith,
    length-append (codes "level")
        (32
        ∷ (decimal k ++ 32
        ∷ (decimal f ++ 32 ∷ (decimal c ++ 32 ∷ (codes "spare" ++ 32 ∷ decimal s))))),
    length-append (decimal k)
        (32 ∷ (decimal f ++ 32 ∷ (decimal c ++ 32 ∷ (codes "spare" ++ 32 ∷ decimal s)))),
    length-append (decimal f) (32 ∷ (decimal c ++ 32 ∷ (codes "spare" ++ 32 ∷ decimal s))),
    length-append (decimal c) (32 ∷ (codes "spare" ++ 32 ∷ decimal s)),
    short_number k a,
    short_number f b,
    short_number c d,
    short_number s e,
  );
}

said_small : (three : Bool) (s : ℕ) → IsSmall s → IfSome (cond three (Some s) None) IsSmall
said_small true s le = le
said_small false s le = tt

level_line : (version base : ℕ) (below : List Level) (level : Level)
    → first_premise (below_of base below) level ≡ None → HasLine (level_of version level)
level_line version base below level none =
    let met = meets (below_of base below) level none in
    level_line_by level.blocks level.faults level.modulus (spares_said version level.spares)
    (omega (arith, met.most_blocks)) (omega (arith, met.most_faults)) met.most_modulus
    (said_small (version == 3) level.spares (omega (arith, met.most_nodes)))

pub levels_lines : (version base : ℕ) (levels : List Level) → LevelsAccepted base levels
    → All (λ level. HasLine (level_of version level)) levels
levels_lines version base [] accepted = All-nil (λ level. HasLine (level_of version level))
levels_lines version base (level ∷ below) accepted =
    All-cons (λ level. HasLine (level_of version level)) level below
    (level_line version base below level accepted.1) (levels_lines version base below accepted.0)

-- ---- ids

ids_length : (w : List ℕ) (ids : List ℕ) → All (λ id. id < 256) ids
    → length (join_with_byte 32 (w ∷ map decimal ids)) ≤ length w + 4 * length ids
ids_length w [] below = omega arith
ids_length w (id ∷ ids) below =
    omega (
      arith,
      length-append w (32 ∷ join_with_byte 32 (map decimal (id ∷ ids))),
      short_id id (All-head (λ id. id < 256) id ids below),
      ids_length (decimal id) ids (All-tail (λ id. id < 256) id ids below),
    )

module _ (plan : Plan) (accepted : IsAccepted plan) where
  pub nodes : plan_nodes plan ≤ 256
  nodes = (accepted_sized plan.base plan.levels accepted.levels).most

  few : (faulty : List ℕ) → IsToleratedBy plan faulty → length faulty ≤ 256
  few faulty borne =
      let s = accepted_sized plan.base plan.levels accepted.levels in
      omega (arith, borne.few, s.quorum, s.most)

  ids_below : (faulty : List ℕ) → IsToleratedBy plan faulty → All (λ id. id < 256) faulty
  ids_below faulty borne =
      All-weaker (λ id. id < plan_nodes plan) (λ id. id < 256) (λ id lt. omega (arith, lt, nodes))
      faulty borne.ids

  ids_short : (faulty : List ℕ) → IsToleratedBy plan faulty → All IsShort faulty
  ids_short faulty borne =
      All-weaker (λ id. id < plan_nodes plan) IsShort (λ id lt. omega (arith, lt, nodes)) faulty
      borne.ids

  pub faulty_line : (faulty : List ℕ) → IsToleratedBy plan faulty → HasLine (faulty_item faulty)
  faulty_line faulty borne = record {
    words = ids_short faulty borne;
    short =
        omega
        (arith, ids_length (codes "faulty") faulty (ids_below faulty borne), few faulty borne);
  }

  pub era_line : (t : ℕ) (faulty : List ℕ) → t ≤ most_rounds → IsToleratedBy plan faulty
      → HasLine (era_item t faulty)
  era_line t faulty le borne = record {
    words = (omega arith, ids_short faulty borne);
    short = omega (
      arith,
      length-append (codes "era") (32 ∷ join_with_byte 32 (decimal t ∷ map decimal faulty)),
      ids_length (decimal t) faulty (ids_below faulty borne),
      short_number t (omega arith),
      few faulty borne,
    );
  }

  -- ---- states

  digits_few : (v : ℕ) (digits : List ℕ) → is_state_text (fields_of plan v) digits ≡ true
      → (length digits ≤ 64) × (list_all is_lower_digit digits ≡ true)
  digits_few v digits text =
      let parts = and_parts _ _ text in
      let size : length digits ≡ 2 * bytes_in (fields_of plan v) = eqb-true _ _ parts.0 in
      let bytes : bytes_in (fields_of plan v)
      ≤ 32 = eighth (bits_in (fields_of plan v)) (few_bits plan v accepted) in
      (omega (arith, size, bytes), parts.1) where
        eighth : (n : ℕ) → n ≤ 251 → div_ceil n 8 ≤ 32
        eighth n le = omega arith

  pub start_line : (v : ℕ) (digits : List ℕ) → v < plan_nodes plan
      → is_state_text (fields_of plan v) digits ≡ true → HasLine (start_item v digits)
  start_line v digits lt text =
      let d = digits_few v digits text in
      let n = short_number v (omega (arith, lt, nodes)) in
      record {
        words = (omega (arith, lt, nodes), d.1);
        short =
            omega (
              arith,
              length-append (codes "start") (32 ∷ (decimal v ++ 32 ∷ digits)),
              length-append (decimal v) (32 ∷ digits),
              n,
              d.0,
            );
      }

  pub lie_line : (u v : ℕ) (digits : List ℕ) → u < plan_nodes plan → v < plan_nodes plan
      → is_state_text (fields_of plan u) digits ≡ true → HasLine (lie_item u v digits)
  lie_line u v digits a b text =
      let d = digits_few u digits text in
      record {
        words = (omega (arith, a, nodes), omega (arith, b, nodes), d.1);
        short = omega (
          arith,
          length-append (codes "lie") (32 ∷ (decimal u ++ 32 ∷ (decimal v ++ 32 ∷ digits))),
          length-append (decimal u) (32 ∷ (decimal v ++ 32 ∷ digits)),
          length-append (decimal v) (32 ∷ digits),
          short_number u (omega (arith, a, nodes)),
          short_number v (omega (arith, b, nodes)),
          d.0,
        );
      }

  -- ---- rows

  small_value : (a : Option ℕ) (m : ℕ) → IsSmall m → IfSome a (λ a. a < m) → IsSmall (unwrap_or a 0)
  small_value None m le h = omega arith
  small_value (Some a) m le h = omega (arith, le, h)

  small_register : (has : Bool) (m : ℕ) (r : Reg) → IsSmall m → IsRegister has m r
      → IsSmall (unwrap_or r.a 0)
  small_register true m r le h = small_value r.a m le h
  small_register false m r le h =
      let none : unwrap_or r.a 0 ≡ 0 = ap (λ (r : Reg). unwrap_or r.a 0) h in omega (arith, none)

  small_number : (has : Bool) (base x : ℕ) → IsSmall base → IsNumber has base x → IsSmall x
  small_number true base x le h = omega (arith, le, h)
  small_number false base x le h = omega (arith, h)

  small_by : (base : ℕ) (levels : List Level) (v : ℕ) (state : State) → LevelsAccepted base levels
      → IsNumber (nat_le (low_of levels v) 0) base state.x
      → HasRegisters (low_of levels v) levels state
      → IsSmall (shown (length levels) state)
  small_by base [] v state accepted x registers =
      small_number (nat_le 0 0) base state.x (let most : base ≤ 2 ^ 40 = grind arith in most) x
  small_by base (level ∷ below) v state accepted x registers =
      let met = meets (below_of base below) level accepted.1 in
      small_register (nat_le (low_of (level ∷ below) v) (length below + 1)) level.modulus
      (register_at (length below) state) met.most_modulus registers.1

  shown_small : (v : ℕ) (state : State) → IsState plan v state
      → IsSmall (shown (plan_depth plan) state)
  shown_small v state is = small_by plan.base plan.levels v state accepted.levels is.x is.registers

  word_few : (o : Option ℕ) → IfSome o IsSmall → length (row_word o) ≤ 13
  word_few None h = omega arith
  word_few (Some n) h = short_number n h

  row_length : (w : List ℕ) (row : List (Option ℕ)) → All (λ o. IfSome o IsSmall) row
      → length (join_with_byte 32 (w ∷ map row_word row)) ≤ length w + 14 * length row
  row_length w [] small = omega arith
  row_length w (o ∷ row) small =
      omega (
        arith,
        length-append w (32 ∷ join_with_byte 32 (map row_word (o ∷ row))),
        word_few o (All-head (λ o. IfSome o IsSmall) o row small),
        row_length (row_word o) row (All-tail (λ o. IfSome o IsSmall) o row small),
      )

  short_value : (o : Option ℕ) → IfSome o IsSmall → IfSome o IsShort
  short_value None h = tt
  short_value (Some n) h = omega (arith, h)

  pub row_line : (t : ℕ) (row : List (Option ℕ)) → t ≤ most_rounds → length row ≤ 256
      → All (λ o. IfSome o IsSmall) row → HasLine (row_item t row)
  row_line t row le few small = record {
    words = (
      omega arith,
      All-weaker (λ o. IfSome o IsSmall) (λ o. IfSome o IsShort) short_value row small,
    );
    short = omega (
      arith,
      length-append (codes "row") (32 ∷ join_with_byte 32 (decimal t ∷ map row_word row)),
      row_length (decimal t) row small,
      short_time t le,
      few,
    );
  } where
    short_time : (t : ℕ) → t ≤ most_rounds → length (decimal t) ≤ 7
    short_time t le = length-decimal-le 7 t (omega arith) (omega arith) (omega arith)

  shown_word : (liar : Bool) (o : ℕ) → IsSmall o → IfSome (cond liar None (Some o)) IsSmall
  shown_word true o h = tt
  shown_word false o h = h

  pub shown_row_line : (t : ℕ) (x : Snapshot) → t ≤ most_rounds → IsConfiguration plan x.config
      → HasLine (row_item t (shown_row plan x))
  shown_row_line t x le is =
      let word : ℕ
      → Option ℕ = λ v. cond (is_in x.faulty v) None
      (Some (shown (plan_depth plan) (state_of x.config v))) in
      let size = length-map (range_with_len 0 (plan_nodes plan)) word in
      let count = length-range_with_len 0 (plan_nodes plan) in
      row_line t (shown_row plan x) le (omega (arith, size, count, nodes))
      (each_below (λ o. IfSome o IsSmall) word (plan_nodes plan)
      (λ v lt. shown_word (is_in x.faulty v) _
      (shown_small v (state_of x.config v) (is.states v lt))))
