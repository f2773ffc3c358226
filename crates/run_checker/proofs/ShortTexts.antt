-- No certificate has more bytes than it may have.
use Rattle.std.proofs.Common.{◌≡◌, ℕ, ◌+◌, ◌*◌, ◌^◌, ◌<◌, ◌≤◌, List, [], ◌∷◌, ◌++◌, length, map}
use Rattle.std.proofs.Common.{reverse, filter, not, true, codes, decimal, Bool, cond, false, Option}
use Rattle.std.proofs.Common.{Some, None, ap, arith}
use Rattle.std.specs.Prelude.{All, IfSome}
use Rattle.std.specs.Int.{div_ceil}
use Rattle.std.specs.List.{flat_map, range_with_len}
use Rattle.std.proofs.lemmas.Bool.{and_parts, eqb-true}
use Rattle.std.proofs.lemmas.Fmt.{length-decimal-le}
use Rattle.std.proofs.lemmas.List.{length-append, length-map, length-reverse}
use Rattle.std.proofs.lemmas.List.Elements.{All-nil, All-cons, All-head, All-tail, All-map}
use Rattle.std.proofs.lemmas.List.FromFn.{length-range_with_len}
use Rattle.std.proofs.lemmas.Grind.{flat_map-append}
use Rattle.sync_types.proofs.RisingIds.{count_below}
use Rattle.construction.specs.Plans.{Plan, plan_nodes}
use Rattle.construction.specs.Runs.{is_in, IsToleratedBy}
use Rattle.plan_numbers.specs.Premises.{IsAccepted}
use Rattle.plan_numbers.proofs.Accepted.{accepted_sized, accepted_depth}
use Rattle.state_codec.specs.Shapes.{bits_in, bytes_in}
use Rattle.state_codec.specs.Texts.{is_state_text}
use Rattle.round_runner.specs.Locks.{correct_nodes}
use Rattle.run_checker.specs.NodeFields.{fields_of}
use Rattle.run_checker.specs.Items.{Item, HasLine, item_line, run_item, base_item, faulty_item}
use Rattle.run_checker.specs.Items.{row_item}
use Rattle.run_checker.specs.Certificates.{Put, Lie, Era, Turn, level_of, start_of, lie_of}
use Rattle.run_checker.specs.Certificates.{era_items, turns_items, items_of}
use Rattle.run_checker.specs.Grammar.{AreStarts, IsEra, IsTurn, AreTurns, faulty_behind}
use Rattle.run_checker.proofs.LiveLines.{few_bits}
use Rattle.run_checker.specs.TrueTexts.{CertificatesAreShort}
use Rattle.run_checker.proofs.LineTexts.{line_of}
use Rattle.run_checker.proofs.RecordTexts.{lines, lines_text}

-- ---- all of two lists

all_front : {X : Type 0} (P : X → Type 0) (xs ys : List X) → All P (xs ++ ys) → All P xs
all_front P [] ys h = All-nil P
all_front P (x ∷ xs) ys h =
    All-cons P x xs (All-head P x (xs ++ ys) h) (all_front P xs ys (All-tail P x (xs ++ ys) h))

all_back : {X : Type 0} (P : X → Type 0) (xs ys : List X) → All P (xs ++ ys) → All P ys
all_back P [] ys h = h
all_back P (x ∷ xs) ys h = all_back P xs ys (All-tail P x (xs ++ ys) h)

-- ---- lines

-- no line has more than 4096 bytes and its newline
line_most : (item : Item) → HasLine item → length (line_of item) ≤ 4097
line_most item has = omega (arith, length-append (item_line item) (10 ∷ []), has.short)

lines_most : (items : List Item) → All HasLine items → length (lines items) ≤ 4097 * length items
lines_most [] have = omega arith
lines_most (item ∷ items) have =
    omega (
      arith,
      length-append (line_of item) (lines items),
      line_most item (All-head HasLine item items have),
      lines_most items (All-tail HasLine item items have),
    )

short : (n : ℕ) → n < 10 ^ 15 → length (decimal n) ≤ 15
short n lt = length-decimal-le 15 n (omega arith) lt (omega (arith, lt))

module _ (plan : Plan) (accepted : IsAccepted plan) where
  few_nodes : plan_nodes plan ≤ 256
  few_nodes = (accepted_sized plan.base plan.levels accepted.levels).most

  digits_few : (v : ℕ) (digits : List ℕ) → is_state_text (fields_of plan v) digits ≡ true
      → length digits ≤ 64
  digits_few v digits text =
      let parts = and_parts _ _ text in
      let size : length digits ≡ 2 * bytes_in (fields_of plan v) = eqb-true _ _ parts.0 in
      omega (arith, size, eighth (bits_in (fields_of plan v)) (few_bits plan v accepted)) where
        eighth : (n : ℕ) → n ≤ 251 → div_ceil n 8 ≤ 32
        eighth n le = omega arith

  lie_most : (lie : Lie) → HasLine (lie_of lie)
      → is_state_text (fields_of plan lie.sender) lie.digits ≡ true
      → length (line_of (lie_of lie)) ≤ 101
  lie_most lie has text =
      let u = decimal lie.sender in
      let v = decimal lie.receiver in
      omega (
        arith,
        length-append (item_line (lie_of lie)) (10 ∷ []),
        length-append (codes "lie") (32 ∷ (u ++ 32 ∷ (v ++ 32 ∷ lie.digits))),
        length-append u (32 ∷ (v ++ 32 ∷ lie.digits)),
        length-append v (32 ∷ lie.digits),
        short lie.sender has.words.0,
        short lie.receiver has.words.1,
        digits_few lie.sender lie.digits text,
      )

  lies_most : (lies : List Lie) → All HasLine (map lie_of lies)
      → All (λ lie. is_state_text (fields_of plan lie.sender) lie.digits ≡ true) lies
      → length (lines (map lie_of lies)) ≤ 101 * length lies
  lies_most [] have texts = omega arith
  lies_most (lie ∷ lies) have texts =
      omega (
        arith,
        length-append (line_of (lie_of lie)) (lines (map lie_of lies)),
        lie_most lie (All-head HasLine (lie_of lie) (map lie_of lies) have)
            (All-head (λ lie. is_state_text (fields_of plan lie.sender) lie.digits ≡ true) lie lies
            texts),
        lies_most lies (All-tail HasLine (lie_of lie) (map lie_of lies) have)
            (All-tail (λ lie. is_state_text (fields_of plan lie.sender) lie.digits ≡ true) lie lies
            texts),
      )

  -- ---- how many lines

  kept_most : (p : ℕ → Bool) (xs : List ℕ) → length (filter p xs) ≤ length xs
  kept_most p [] = omega arith
  kept_most p (x ∷ xs) = by (p x) (kept_most p xs) where
    by : (b : Bool) → length (filter p xs) ≤ length xs
        → length (cond b (x ∷ filter p xs) (filter p xs)) ≤ length (x ∷ xs)
    by true le = omega (arith, le)
    by false le = omega (arith, le)

  receivers_few : (faulty : List ℕ) → length (correct_nodes (plan_nodes plan) faulty) ≤ 256
  receivers_few faulty =
      omega (
        arith,
        kept_most (λ v. not (is_in faulty v)) (range_with_len 0 (plan_nodes plan)),
        length-range_with_len 0 (plan_nodes plan),
        few_nodes,
      )

  -- each of these senders with each correct node
  abbrev pairs_from : (faulty senders : List ℕ) → List (ℕ × ℕ)
  pairs_from faulty senders =
      flat_map (λ u. map (λ v. (u, v)) (correct_nodes (plan_nodes plan) faulty)) senders

  pairs_most : (faulty senders : List ℕ)
      → length (pairs_from faulty senders) ≤ 256 * length senders
  pairs_most faulty [] = omega arith
  pairs_most faulty (u ∷ us) =
      let vs = correct_nodes (plan_nodes plan) faulty in
      let pair : ℕ → ℕ × ℕ = λ v. (u, v) in
      omega (
        arith,
        length-append (map pair vs) (pairs_from faulty us),
        length-map vs pair,
        receivers_few faulty,
        pairs_most faulty us,
      )

  faulty_few : (faulty : List ℕ) → IsToleratedBy plan faulty → length faulty ≤ 256
  faulty_few faulty borne =
      omega (arith, count_below (plan_nodes plan) faulty borne.rising borne.ids, few_nodes)

  lies_few : (faulty : List ℕ) (turn : Turn) → IsToleratedBy plan faulty → IsTurn plan faulty turn
      → length turn.lies ≤ 65536
  lies_few faulty turn borne is =
      let pair : Lie → ℕ × ℕ = λ lie. (lie.sender, lie.receiver) in
      omega (
        arith,
        length-map turn.lies pair,
        ap length is.told,
        pairs_most faulty faulty,
        faulty_few faulty borne,
      )

  starts_few : (unknown faulty : List ℕ) (starts : List Put) → AreStarts plan unknown faulty starts
      → length (map start_of starts) ≤ 256
  starts_few unknown faulty starts are =
      let ids = map (λ (put : Put). put.node) starts in
      omega (
        arith,
        length-map starts start_of,
        length-map starts (λ (put : Put). put.node),
        count_below (plan_nodes plan) ids are.rising
            (All-map (λ id. id < plan_nodes plan) (λ (put : Put). put.node) starts are.nodes),
        few_nodes,
      )

  era_few : (faulty : List ℕ) (t : ℕ) (era : Option Era) → IfSome era (IsEra plan faulty)
      → length (era_items t era) ≤ 257
  era_few faulty t None is = omega arith
  era_few faulty t (Some era) is = omega (arith, starts_few faulty era.faulty era.starts is.starts)

  -- ---- rounds

  next_borne : (faulty : List ℕ) (era : Option Era) → IsToleratedBy plan faulty
      → IfSome era (IsEra plan faulty) → IsToleratedBy plan (faulty_behind faulty era)
  next_borne faulty None borne is = borne
  next_borne faulty (Some era) borne is = is.borne

  turn_most : (faulty : List ℕ) (t : ℕ) (turn : Turn) (more : List Item) → IsToleratedBy plan faulty
      → IsTurn plan faulty turn
      → All HasLine (map lie_of turn.lies ++ (era_items t turn.era ++ (row_item t turn.row ∷ more)))
      → length
      (lines (map lie_of turn.lies ++ (era_items t turn.era ++ (row_item t turn.row ∷ more))))
      ≤ 7676162 + length (lines more)
  turn_most faulty t turn more borne is have =
      let told = map lie_of turn.lies in
      let era = era_items t turn.era in
      let row = row_item t turn.row in
      let behind = all_back HasLine told (era ++ (row ∷ more)) have in
      let last = all_back HasLine era (row ∷ more) behind in
      omega (
        arith,
        ap length (flat_map-append line_of told (era ++ (row ∷ more))),
        length-append (lines told) (lines (era ++ (row ∷ more))),
        ap length (flat_map-append line_of era (row ∷ more)),
        length-append (lines era) (lines (row ∷ more)),
        length-append (line_of row) (lines more),
        lies_most turn.lies (all_front HasLine told (era ++ (row ∷ more)) have) is.states,
        lies_few faulty turn borne is,
        lines_most era (all_front HasLine era (row ∷ more) behind),
        era_few faulty t turn.era is.era,
        line_most row (All-head HasLine row more last),
      )

  turns_most : (turns : List Turn) (faulty : List ℕ) (t : ℕ) → IsToleratedBy plan faulty
      → AreTurns plan faulty turns → All HasLine (turns_items t turns)
      → length (lines (turns_items t turns)) ≤ 7676162 * length turns + 4097
  turns_most [] faulty t borne are have = omega (arith, lines_most (turns_items t []) have)
  turns_most (turn ∷ turns) faulty t borne are have =
      let told = map lie_of turn.lies in
      let era = era_items t turn.era in
      let row = row_item t turn.row in
      let more = turns_items (t + 1) turns in
      let behind = all_back HasLine told (era ++ (row ∷ more)) have in
      let last = all_back HasLine era (row ∷ more) behind in
      omega (
        arith,
        turn_most faulty t turn more borne are.0 have,
        turns_most turns (faulty_behind faulty turn.era) (t + 1)
            (next_borne faulty turn.era borne are.0.era) are.1 (All-tail HasLine row more last),
      )

-- ---- all lines

pub certificates_are_short : CertificatesAreShort
certificates_are_short c is =
    let levels = map (level_of c.version) (reverse c.plan.levels) in
    let starts = map start_of c.starts in
    let row = row_item 0 c.row in
    let turns = turns_items 1 c.turns in
    let behind = faulty_item c.faulty ∷ (starts ++ (row ∷ turns)) in
    let first = run_item c.version ∷ base_item c.plan.base ∷ levels in
    let have_first = all_front HasLine first behind is.lines in
    let have_behind = all_back HasLine first behind is.lines in
    let have_starts = All-tail HasLine (faulty_item c.faulty) (starts ++ (row ∷ turns))
    have_behind in
    let have_rows = all_back HasLine starts (row ∷ turns) have_starts in
    omega (
      arith,
      ap length (lines_text (items_of c)),
      ap length (flat_map-append line_of first behind),
      length-append (lines first) (lines behind),
      length-append (line_of (faulty_item c.faulty)) (lines (starts ++ (row ∷ turns))),
      ap length (flat_map-append line_of starts (row ∷ turns)),
      length-append (lines starts) (lines (row ∷ turns)),
      length-append (line_of row) (lines turns),
      lines_most first have_first,
      length-map (reverse c.plan.levels) (level_of c.version),
      length-reverse c.plan.levels,
      accepted_depth c.plan.base c.plan.levels is.accepted.levels,
      line_most (faulty_item c.faulty)
          (All-head HasLine (faulty_item c.faulty) (starts ++ (row ∷ turns)) have_behind),
      lines_most starts (all_front HasLine starts (row ∷ turns) have_starts),
      starts_few c.plan is.accepted (range_with_len 0 (plan_nodes c.plan)) c.faulty c.starts
          is.starts,
      line_most row (All-head HasLine row turns have_rows),
      turns_most c.plan is.accepted c.turns c.faulty 1 is.borne is.turns
          (All-tail HasLine row turns have_rows),
      is.rounds,
    )
