-- The lines before the first row, and with them whole certificates.
use Rattle.std.proofs.Common.{◌≡◌, ℕ, ◌+◌, ◌≤◌, Bool, true, false, cond, leb, not, ◌&&◌, List, []}
use Rattle.std.proofs.Common.{◌∷◌, ◌++◌, map, reverse, Option, Some, None, refl, sym, ap, subst}
use Rattle.std.proofs.Common.{◌∙◌, append_assoc, arith}
use Rattle.std.specs.Prelude.{All, ◌==◌, if◌then◌else◌, unwrap_or}
use Rattle.std.specs.Option.{is_some}
use Rattle.std.specs.List.{range_with_len}
use Rattle.std.proofs.lemmas.Bool.{and_parts, and_from, leb-true, le-leb, not-true, true≢false}
use Rattle.std.proofs.lemmas.List.Elements.{All-nil, All-cons, All-head, All-tail}
use Rattle.std.proofs.lemmas.List.{append-nil, map-append, reverse-append}
use Rattle.texts.specs.Parts.{goes}
use Rattle.construction.specs.Plans.{Level, Plan, plan_nodes}
use Rattle.plan_numbers.specs.Numbers.{line, below_of, numbers_below, with_level}
use Rattle.plan_numbers.specs.Premises.{base_premise, first_premise, LevelsAccepted, FitsVersion}
use Rattle.run_checker.specs.declared.Verdict.{Verdict}
use Rattle.run_checker.specs.Items.{Item, HasLine, run_item, base_item, level_item}
use Rattle.run_checker.specs.Items.{faulty_item, row_item}
use Rattle.run_checker.specs.Certificates.{Certificate, spares_said, level_of, start_of}
use Rattle.run_checker.specs.Certificates.{turns_items, items_of}
use Rattle.run_checker.specs.Grammar.{IsCertificate, AreTurns, plan_version, most_eras}
use Rattle.run_checker.specs.Grammar.{era_count}
use Rattle.run_checker.specs.Checking.{Known, Stage, unread, begun, planned, putting, telling}
use Rattle.run_checker.specs.Checking.{refused, accepts, is_borne, spares_fit, level_fits}
use Rattle.run_checker.specs.Checking.{nothing_known, compared}
use Rattle.run_checker.proofs.Complete.{following, passes, put_all, puts_read, turns_pass}
use Rattle.run_checker.proofs.Complete.{followed}
use Rattle.run_checker.proofs.Sound.{passed, ReadPuts, read_behind}
use Rattle.run_checker.proofs.Starts.{starts_fit, starts_declared}
use Rattle.run_checker.proofs.Tests.{row_tested, row_declared, borne_tested, borne_declared}
use Rattle.run_checker.proofs.Tests.{puts_fit, puts_back, turns_tested, turns_declared}
use Rattle.run_checker.proofs.Tests.{plan_put_all, version_put_all, eras_put_all}
use Rattle.run_checker.proofs.Tests.{faulty_put_all}
use Rattle.run_checker.proofs.Complete.{at_put_all}

-- a test that fails is passed
passes_not : (b : Bool) (s : Stage) (items : List Item) → b ≡ false
    → following (cond b refused (goes s)) items ≡ accepts s items
passes_not false s items e = refl
passes_not true s items e = absurd cc

passed_not : (b : Bool) (s : Stage) (items : List Item) (v : Verdict)
    → following (cond b refused (goes s)) items ≡ Some v → (b ≡ false) × (accepts s items ≡ Some v)
passed_not false s items v e = (refl, e)
passed_not true s items v e = absurd cc

pub none_is : {X : Type 0} (o : Option X) → is_some o ≡ false → o ≡ None
none_is None e = refl
none_is (Some x) e = absurd cc

abbrev all_ids : Plan → List ℕ
all_ids plan = range_with_len 0 (plan_nodes plan)

-- the plan of a certificate of a version, with these levels
abbrev planned_of : (version base : ℕ) → List Level → Plan
planned_of version base levels =
    record { version = plan_version version; base = base; levels = levels }

abbrev base_plan : (version base : ℕ) → Plan
base_plan version base = planned_of version base []

-- ---- spares are said exactly if the version says them

said_by : (three : Bool) (spares : ℕ) → (cond {A = ℕ} three 2 1 ≡ 1 → spares ≡ 0)
    → unwrap_or (if three then Some spares else None) 0 ≡ spares
said_by true spares none = refl
said_by false spares none = sym (none refl)

fit_by : (version spares : ℕ) (three : Bool) → (version == 3) ≡ three
    → spares_fit version (if three then Some spares else None) ≡ true
fit_by version spares true e = e
fit_by version spares false e = ap not e

pub back_by : (version : ℕ) (three : Bool) (spares : Option ℕ) → (version == 3) ≡ three
    → spares_fit version spares ≡ true
    → ((if three then Some (unwrap_or spares 0) else None) ≡ spares)
    × (cond {A = ℕ} three 2 1 ≡ 1 → unwrap_or spares 0 ≡ 0)
back_by version true None e fit = absurd (true≢false (sym fit ∙ ap not e))
back_by version true (Some s) e fit = (refl, λ one. absurd (omega (arith, one)))
back_by version false None e fit = (refl, λ one. refl)
back_by version false (Some s) e fit = absurd (true≢false (sym fit ∙ e))

level_fit : (version : ℕ) (plan : Plan) (level : Level) → FitsVersion (plan_version version) level
    → first_premise (numbers_below plan) level ≡ None
    → level_fits version plan level.blocks level.faults level.modulus
    (spares_said version level.spares)
    ≡ true
level_fit version plan level fits none =
    let same = said_by (version == 3) level.spares fits in
    and_from _ _ (fit_by version level.spares (version == 3) refl)
    (ap
    (λ s. not
    (is_some
    (first_premise (numbers_below plan) (line level.blocks level.faults level.modulus s))))
    same
    ∙ ap (λ p. not (is_some p)) none)

-- ---- levels are read from the lowest up

levels_items : (version : ℕ) (level : Level) (levels : List Level) (rest : List Item)
    → map (level_of version) (reverse (level ∷ levels)) ++ rest
    ≡ map (level_of version) (reverse levels) ++ (level_of version level ∷ rest)
levels_items version level levels rest =
    ap (λ l. map (level_of version) l ++ rest) (reverse-append (level ∷ []) levels)
    ∙ ap (λ l. l ++ rest) (map-append (level_of version) (reverse levels) (level ∷ []))
    ∙ append_assoc (map (level_of version) (reverse levels)) (level_of version level ∷ []) rest

levels_pass : (version base : ℕ) (levels : List Level) (rest : List Item)
    → LevelsAccepted base levels
    → All (FitsVersion (plan_version version)) levels
    → accepts (planned version (base_plan version base))
    (map (level_of version) (reverse levels) ++ rest)
    ≡ accepts (planned version (planned_of version base levels)) rest
levels_pass version base [] rest h fit = refl
levels_pass version base (level ∷ levels) rest h fit =
    let fits : FitsVersion (plan_version version) level = All-head
    (FitsVersion (plan_version version)) level levels fit in
    let plan = planned_of version base levels in
    let said = spares_said version level.spares in
    let put : ℕ → Plan = λ s. with_level plan (line level.blocks level.faults level.modulus s) in
    ap (accepts (planned version (base_plan version base))) (levels_items version level levels rest)
    ∙ levels_pass version base levels (level_of version level ∷ rest) h.0
    (All-tail (FitsVersion (plan_version version)) level levels fit)
    ∙ passes (level_fits version plan level.blocks level.faults level.modulus said)
    (planned version (put (unwrap_or said 0))) rest (level_fit version plan level fits h.1)
    ∙ ap (λ s. accepts (planned version (put s)) rest) (said_by (version == 3) level.spares fits)

base_accepted : (base : ℕ) (levels : List Level) → LevelsAccepted base levels
    → base_premise base ≡ None
base_accepted base [] h = h
base_accepted base (level ∷ levels) h = base_accepted base levels h.0

-- what is known once the first row was read
abbrev pub opened : Certificate → Known
opened c = compared (put_all (nothing_known c.version c.plan c.faulty) c.starts) c.row

-- a certificate is read, to the verdict that follows from it
pub certificate_read : (c : Certificate) → IsCertificate c
    → accepts unread (items_of c) ≡ Some (followed (opened c) c.turns)
certificate_read c is =
    let known = nothing_known c.version c.plan c.faulty in
    let placed = put_all known c.starts in
    let plan_is : placed.plan ≡ c.plan = plan_put_all known c.starts in
    let at_is : placed.at ≡ 0 = at_put_all known c.starts in
    let rows : List Item = turns_items 1 c.turns in
    let states : List Item = map start_of c.starts ++ (row_item 0 c.row ∷ rows) in
    let levels : List Item = map (level_of c.version) (reverse c.plan.levels)
    ++ (faulty_item c.faulty ∷ states) in
    passes (leb 1 c.version && leb c.version 3) (begun c.version) (base_item c.plan.base ∷ levels)
    (and_from _ _ (le-leb _ _ is.version.0) (le-leb _ _ is.version.1))
    ∙ passes_not (is_some (base_premise c.plan.base))
    (planned c.version (base_plan c.version c.plan.base)) levels
    (ap is_some (base_accepted c.plan.base c.plan.levels is.accepted.levels))
    ∙ levels_pass c.version c.plan.base c.plan.levels (faulty_item c.faulty ∷ states)
    is.accepted.levels
    (subst (λ v. All (FitsVersion v) c.plan.levels) is.plan_is is.accepted.fits)
    ∙ ap
    (λ v. accepts
    (planned c.version (record { version = v; base = c.plan.base; levels = c.plan.levels }))
    (faulty_item c.faulty ∷ states))
    (sym is.plan_is)
    ∙ passes (is_borne c.plan c.faulty) (putting known (all_ids c.plan) 0) states
    (borne_tested c.plan c.faulty is.borne)
    ∙ puts_read known (all_ids c.plan) 0 c.starts c.row rows
    (puts_fit known (all_ids c.plan) 0 c.starts c.row
    (starts_fit c.plan (all_ids c.plan) c.faulty c.starts is.starts)
    (row_tested c.plan c.faulty c.row is.row))
    ∙ ap (λ t. accepts (telling (opened c) []) (turns_items (t + 1) c.turns)) (sym at_is)
    ∙ turns_pass (opened c) c.turns (turns_tested (opened c) c.turns
    (subst (λ p. AreTurns p placed.stand.faulty c.turns) (sym plan_is)
    (subst (λ f. AreTurns c.plan f c.turns) (sym (faulty_put_all known c.starts)) is.turns))
    (omega (arith, at_is, is.rounds))
    (subst (λ v. placed.eras + era_count c.turns ≤ most_eras v)
    (sym (version_put_all known c.starts))
    (omega (arith, eras_put_all known c.starts, is.eras))))

-- ---- and back

-- after the base line: further levels from the lowest up, and all that follows
record ReadPlan (version base : ℕ) (below : List Level) (items : List Item) (v : Verdict) : Type 0
  where
    levels : List Level
    more : List Level
    join : levels ≡ more ++ below
    accepted : LevelsAccepted base levels
    fits : All (FitsVersion (plan_version version)) levels
    faulty : List ℕ
    borne : is_borne (planned_of version base levels) faulty ≡ true
    rest : List Item
    puts : ReadPuts (nothing_known version (planned_of version base levels) faulty)
        (all_ids (planned_of version base levels)) 0 rest v
    items_are : items ≡ map (level_of version) (reverse more) ++ (faulty_item faulty ∷ rest)

level_before : (version base : ℕ) (levels : List Level) (level : Level) (items : List Item)
    (v : Verdict)
    → ReadPlan version base (level ∷ levels) items v
    → ReadPlan version base levels (level_of version level ∷ items) v
level_before version base levels level items v r = record {
  levels = r.levels;
  more = r.more ++ level ∷ [];
  join = r.join ∙ sym (append_assoc r.more (level ∷ []) levels);
  accepted = r.accepted;
  fits = r.fits;
  faulty = r.faulty;
  borne = r.borne;
  rest = r.rest;
  puts = r.puts;
  items_are =
      ap (λ l. level_of version level ∷ l) r.items_are
      ∙ ap (λ l. map (level_of version) l ++ (faulty_item r.faulty ∷ r.rest))
      (sym (reverse-append r.more (level ∷ [])));
}

read_plan : (items : List Item) (version base : ℕ) (levels : List Level) (v : Verdict)
    → LevelsAccepted base levels
    → All (FitsVersion (plan_version version)) levels
    → accepts (planned version (planned_of version base levels)) items ≡ Some v
    → ReadPlan version base levels items v
read_plan [] version base levels v h fit e = absurd cc
read_plan (level_item k f c spares ∷ items) version base levels v h fit e =
    let plan = planned_of version base levels in
    let level : Level = line k f c (unwrap_or spares 0) in
    let p = passed (level_fits version plan k f c spares) (planned version (with_level plan level))
    items v e in
    let ok = and_parts _ _ p.0 in
    let said = back_by version (version == 3) spares refl ok.0 in
    let none : first_premise (below_of base levels) level ≡ None = none_is _ (not-true _ ok.1) in
    let more = read_plan items version base (level ∷ levels) v (h, none)
    (All-cons (FitsVersion (plan_version version)) level levels said.1 fit) p.1 in
    subst (λ s. ReadPlan version base levels (level_item k f c s ∷ items) v) said.0
    (level_before version base levels level items v more)
read_plan (faulty_item ids ∷ items) version base levels v h fit e =
    let plan = planned_of version base levels in
    let p = passed (is_borne plan ids) (putting (nothing_known version plan ids) (all_ids plan) 0)
    items v e in
    record {
      levels = levels;
      more = [];
      join = refl;
      accepted = h;
      fits = fit;
      faulty = ids;
      borne = p.0;
      rest = items;
      puts = read_behind items (putting (nothing_known version plan ids) (all_ids plan) 0) v p.1;
      items_are = refl;
    }
read_plan (item ∷ items) version base levels v h fit e = absurd cc

none_some : (v : Verdict) → None ≡ Some v → ⊥
none_some v e = absurd cc

-- what is read to a verdict is the items of a certificate, and the verdict is that which follows
-- from it
pub record IsReadAs (items : List Item) (v : Verdict) : Type 0 where
  pub certificate : Certificate
  pub is : All HasLine items → IsCertificate certificate
  pub items_are : items ≡ items_of certificate
  pub verdict : followed (opened certificate) certificate.turns ≡ v

pub least_plan : (three : Bool) → 1 ≤ cond {A = ℕ} three 2 1
least_plan true = omega arith
least_plan false = omega arith

pub most_plan : (three : Bool) → cond {A = ℕ} three 2 1 ≤ 2
most_plan true = omega arith
most_plan false = omega arith

written_as : (version base : ℕ) (items : List Item) (v : Verdict) → 1 ≤ version → version ≤ 3
    → ReadPlan version base [] items v → IsReadAs (run_item version ∷ base_item base ∷ items) v
written_as version base items v least most r =
    let plan : Plan = planned_of version base r.levels in
    let known = nothing_known version plan r.faulty in
    let p = r.puts in
    let placed = put_all known p.puts in
    let back = puts_back known (all_ids plan) 0 p.puts p.row p.puts_pass in
    let c : Certificate = record {
      version = version;
      plan = plan;
      faulty = r.faulty;
      starts = p.puts;
      row = p.row;
      turns = p.turns;
    } in
    let turns = turns_declared (compared placed p.row) p.turns
    (omega (arith, at_put_all known p.puts)) (omega (arith, eras_put_all known p.puts))
    p.turns_pass in
    let same : r.levels ≡ r.more = r.join ∙ append-nil r.more in
    let items_are : run_item version ∷ base_item base ∷ items ≡ items_of c =
    ap (λ l. run_item version ∷ base_item base ∷ l)
    (r.items_are
    ∙ ap (λ l. map (level_of version) (reverse l) ++ (faulty_item r.faulty ∷ r.rest))
    (sym same)
    ∙ ap (λ l. map (level_of version) (reverse r.levels) ++ (faulty_item r.faulty ∷ l))
    p.items_are) in
    record {
      certificate = c;
      is = λ lines. record {
        version = (least, most);
        plan_is = refl;
        accepted =
            record {
              oldest = least_plan (version == 3);
              newest = most_plan (version == 3);
              fits = r.fits;
              levels = r.accepted;
            };
        borne = borne_declared plan r.faulty r.borne;
        starts = starts_declared plan (all_ids plan) r.faulty p.puts back.0;
        row = row_declared plan r.faulty p.row back.1;
        turns =
            subst (λ q. AreTurns q r.faulty p.turns) (plan_put_all known p.puts)
            (subst (λ f. AreTurns placed.plan f p.turns) (faulty_put_all known p.puts) turns.are);
        rounds = omega (arith, turns.rounds, at_put_all known p.puts);
        eras =
            let x : placed.eras + era_count p.turns
            ≤ most_eras version = subst (λ m. placed.eras + era_count p.turns ≤ most_eras m)
            (version_put_all known p.puts) turns.eras in
            omega (arith, eras_put_all known p.puts);
        lines = subst (All HasLine) items_are lines;
      };
      items_are = items_are;
      verdict = p.verdict;
    }

pub read_whole : (items : List Item) (v : Verdict) → accepts unread items ≡ Some v
    → IsReadAs items v
read_whole [] v e = absurd cc
read_whole (run_item version ∷ []) v e =
    absurd (none_some v (passed (leb 1 version && leb version 3) (begun version) [] v e).1)
read_whole (run_item version ∷ base_item base ∷ items) v e =
    let p = passed (leb 1 version && leb version 3) (begun version) (base_item base ∷ items) v e in
    let q = passed_not (is_some (base_premise base)) (planned version (base_plan version base))
    items v p.1 in
    let ok = and_parts _ _ p.0 in
    written_as version base items v (leb-true _ _ ok.0) (leb-true _ _ ok.1)
    (read_plan items version base [] v (none_is _ q.0)
    (All-nil (FitsVersion (plan_version version))) q.1)
read_whole (run_item version ∷ item ∷ items) v e =
    absurd
    (none_some v (passed (leb 1 version && leb version 3) (begun version) (item ∷ items) v e).1)
read_whole (item ∷ items) v e = absurd cc
