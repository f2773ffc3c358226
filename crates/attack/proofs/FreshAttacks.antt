-- Attacks that are drawn afresh are read as their scripts, and so a search finds one.
use Rattle.std.proofs.Common.{◌≡◌, ℕ, zero, suc, ◌+◌, ◌-◌, ◌*◌, ◌^◌, ◌<◌, ◌≤◌, min, Bool, true}
use Rattle.std.proofs.Common.{false, List, [], ◌∷◌, ◌++◌, All, Option, None, refl, sym, ap}
use Rattle.std.proofs.Common.{subst, arith}
use Rattle.std.specs.Prelude.{is_some, nat_eq, if◌then◌else◌}
use Rattle.std.specs.List.{flat_map, AllByRecursion}
use Rattle.std.proofs.lemmas.Bool.{eq-eqb}
use Rattle.std.proofs.lemmas.List.Elements.{recursion_from_All}
use Rattle.std.proofs.lemmas.List.Folds.{list_any_at}
use Rattle.sync_types.specs.FaultSets.{is_in}
use Rattle.state_codec.specs.Shapes.{Shape, shape_nodes}
use Rattle.machines.specs.Machines.{Machine}
use Rattle.adversary_script.specs.Scripts.{most_rounds}
use Rattle.adversary_script.specs.ScriptPart.{IsTolerated}
use Rattle.adversary_script.specs.Writable.{FitsLines}
use Rattle.halving_plan.specs.Trees.{left_part}
use Rattle.attack.specs.declared.candidates.LieLine.{LieLine}
use Rattle.attack.specs.declared.kinds.Kind.{Kind}
use Rattle.attack.specs.declared.kinds.Kind.TheVariants as kind
use Rattle.attack.specs.declared.searching.Best.{Best}
use Rattle.attack.specs.declared.trying.Tried.{Tried}
use Rattle.attack.specs.declared.trying.Tried.TheVariants as tried
use Rattle.attack.specs.Attacks.{Attack}
use Rattle.attack.specs.Draws.{drawn, below}
use Rattle.attack.specs.Drawings.{Drawing, drawing_for, kind_at, made_by}
use Rattle.attack.specs.FreshLaws.{IsAttacked, FreshIsRead, SearchesFind, PlansAreAttacked}
use Rattle.attack.specs.FaultyIds.{kings_but}
use Rattle.attack.specs.Kinds.{ahead, is_with_others, lower_ahead, upper_ahead, kind_lies}
use Rattle.attack.specs.Kinds.{kind_faulty, fresh}
use Rattle.attack.specs.PlanTexts.{machine_in, shape_in, first_line_of}
use Rattle.attack.specs.Searches.{better, searched}
use Rattle.attack.specs.Tried.{tried_as}
use Rattle.attack.proofs.DrawnIds.{chosen_borne, kings_borne, below_less}
use Rattle.attack.proofs.DrawnLies.{IsDrawnLie, below_most, lies_are, all_few}
use Rattle.attack.proofs.PlanFits.{plans_fit}
use Rattle.attack.proofs.SoundTexts.{IsToldBy, IsSoundAttack, sound_is_read}

-- what holds of two lists holds of both together
both_all : {X : Type 0} (P : X → Type 0) (xs ys : List X) → AllByRecursion P xs
    → AllByRecursion P ys → AllByRecursion P (xs ++ ys)
both_all P [] ys first more = more
both_all P (x ∷ xs) ys first more = (first.0, both_all P xs ys first.1 more)

-- each id is among all
are_in : (ids : List ℕ) → All (λ id. is_in ids id ≡ true) ids
are_in ids k d lt = list_any_at (λ id. nat_eq _ id) ids k d lt (eq-eqb _ _ refl)

-- the left half tolerates fewer than half of the faults
left_few : (f : ℕ) → 2 * left_part f ≤ f
left_few f = omega arith

-- all kings but one
kings_are : (n f without : ℕ) → 3 * f < n → IsTolerated n f (kings_but (left_part f) without f)
kings_are n f without quorum =
    kings_borne (left_part f) without f n (omega (arith, quorum, left_few f))

borne_of : (kind : Kind) (seed n f : ℕ) → 3 * f < n → IsTolerated n f (kind_faulty kind seed n f)
borne_of kind.King seed n f quorum = kings_are n f (below seed 0 (f + 1)) quorum
borne_of kind.Left seed n f quorum =
    kings_are n f (left_part f + 1 + below seed 0 (f - left_part f)) quorum
borne_of kind.Right seed n f quorum = kings_are n f (below seed 0 (left_part f + 1)) quorum
borne_of kind.Noise seed n f quorum = chosen_borne seed n f (omega (arith, quorum))
borne_of kind.Frozen seed n f quorum = chosen_borne seed n f (omega (arith, quorum))
borne_of kind.Split seed n f quorum = chosen_borne seed n f (omega (arith, quorum))
borne_of kind.Shadow seed n f quorum = chosen_borne seed n f (omega (arith, quorum))

-- how far one left half is ahead of the other is said in few digits
ahead_few : (seed f : ℕ) → f ≤ 256 → ahead seed f < 10 ^ 15
ahead_few seed f few =
    omega (arith, few, below_less seed 4 (3 * f + 4) (omega arith))

lower_by : (with_others : Bool) (by : ℕ) → by < 10 ^ 15 → (if with_others then by else 0) < 10 ^ 15
lower_by true by few = few
lower_by false by few = omega arith

upper_by : (with_others : Bool) (f by : ℕ) → f ≤ 256
    → (if with_others then 0 else 3 * f + 5 - by) < 10 ^ 15
upper_by true f by few = omega arith
upper_by false f by few = omega (arith, few)

module _ (n f rounds : ℕ) (quorum : 3 * f < n) (most : n ≤ 256) (few : rounds ≤ most_rounds)
    (kind : Kind) (seed : ℕ) where
  abbrev faulty : List ℕ
  faulty = kind_faulty kind (drawn seed 1) n f

  some : 1 ≤ n
  some = omega (arith, quorum)

  borne : IsTolerated n f faulty
  borne = borne_of kind (drawn seed 1) n f quorum

  abbrev middle : ℕ
  middle = below seed 2 (n - 1)

  abbrev lower : ℕ → ℕ
  lower sender = lower_ahead f middle sender (ahead seed f)

  abbrev upper : ℕ → ℕ
  upper sender = upper_ahead f middle sender (ahead seed f)

  abbrev lot : ℕ → ℕ
  lot sender = drawn (drawn seed 3) sender

  abbrev told : ℕ → List LieLine
  told sender = kind_lies n rounds sender kind middle (lower sender) (upper sender) (lot sender)

  little : f ≤ 256
  little = omega (arith, quorum, most)

  lower_few : (sender : ℕ) → lower sender < 10 ^ 15
  lower_few sender =
      lower_by (is_with_others f middle sender) (ahead seed f) (ahead_few seed f little)

  upper_few : (sender : ℕ) → upper sender < 10 ^ 15
  upper_few sender = upper_by (is_with_others f middle sender) f (ahead seed f) little

  inside : middle < n
  inside = omega (arith, below_most seed 2 (n - 1), some)

  told_by : (sender : ℕ) → sender < n → is_in faulty sender ≡ true → (lies : List LieLine)
      → AllByRecursion (IsDrawnLie n sender) lies → AllByRecursion (IsToldBy n faulty) lies
  told_by sender lt among [] all = tt
  told_by sender lt among (lie ∷ lies) all =
      let first = all.0 in
      let same = first.sender_is in (
        record {
          inside = omega (arith, same, lt);
          faulty = subst (λ u. is_in faulty u ≡ true) (sym same) among;
          drawn = subst (λ u. IsDrawnLie n u lie) (sym same) first;
        },
        told_by sender lt among lies all.1,
      )

  all_told : (senders : List ℕ) → AllByRecursion (λ u. u < n) senders
      → AllByRecursion (λ u. is_in faulty u ≡ true) senders
      → AllByRecursion (IsToldBy n faulty)
      (flat_map told senders)
  all_told [] below among = tt
  all_told (sender ∷ senders) below among =
      both_all (IsToldBy n faulty) (told sender) (flat_map told senders)
      (told_by sender below.0 among.0 (told sender)
      (lies_are n rounds some few sender kind middle (lower sender) (upper sender) (lot sender)
      inside (lower_few sender) (upper_few sender)))
      (all_told senders below.1 among.1)

  fresh_is_sound : IsSoundAttack n f (fresh kind seed n f rounds)
  unfolding fresh
  fresh_is_sound =
      let count = borne.few in
      record {
        borne = borne;
        starts = refl;
        many = omega (
          arith,
          all_few n rounds some few kind middle lower upper lot faulty,
          count,
          quorum,
          most,
        );
        lies = all_told faulty (recursion_from_All (λ u. u < n) faulty borne.ids)
            (recursion_from_All (λ u. is_in faulty u ≡ true) faulty (are_in faulty));
        rounds = few;
        order = omega arith;
        shown = omega arith;
      }

pub fresh_is_read : FreshIsRead
fresh_is_read machine shape first_line is kind seed rounds few =
    let nodes = is.shaped.nodes in
    let most = is.sound.few in
    let attack = fresh kind seed machine.nodes machine.faults rounds in
    let fits : FitsLines (shape_nodes shape) shape =
    subst (λ n. FitsLines n shape) (sym nodes) is.fits in
    let sound : IsSoundAttack (shape_nodes shape) machine.faults attack =
    subst (λ n. IsSoundAttack n machine.faults attack) (sym nodes)
    (fresh_is_sound machine.nodes machine.faults rounds is.sound.quorum most few kind seed) in
    sound_is_read machine shape is.shaped fits (omega (arith, nodes, most)) attack sound first_line

-- ---- a search

stays : (best : Option Best) (attack : Attack) (t : Tried) → is_some best ≡ true
    → is_some (better best attack t) ≡ true
stays best attack tried.Refused is = is
stays best attack (tried.Played lock) is = refl

module _ (machine : Machine) (shape : Shape) (first_line : ℕ) (is : IsAttacked machine shape)
    (seed runs : ℕ) (kinds : List Kind) where
  abbrev drawing : Drawing
  drawing = drawing_for machine seed runs kinds

  abbrev found : ℕ → Option Best
  found tries = searched machine shape first_line (made_by drawing) tries

  first_found : is_some (found 1) ≡ true
  first_found =
      let own = kind_at drawing.kinds 0 in
      let lot = drawn drawing.seed 0 in
      let rounds : ℕ = min machine.bound most_rounds in
      let attack = fresh own lot machine.nodes machine.faults rounds in
      ap (λ r. is_some (better None attack (tried_as machine r)))
      (fresh_is_read machine shape first_line is own lot rounds (omega arith))

  all_found : (tries : ℕ) → is_some (found (suc tries)) ≡ true
  all_found zero = first_found
  all_found (suc tries) = stays (found (suc tries)) _ _ (all_found tries)

pub searches_find : SearchesFind
searches_find machine shape first_line is seed zero kinds some = absurd (omega arith)
searches_find machine shape first_line is seed (suc tries) kinds some =
    all_found machine shape first_line is seed (suc tries) kinds tries

pub plans_are_attacked : PlansAreAttacked
plans_are_attacked plan accepted numbers kinds some =
    searches_find (machine_in plan) (shape_in plan) (first_line_of plan) (plans_fit plan accepted)
    numbers.seed numbers.runs kinds some
