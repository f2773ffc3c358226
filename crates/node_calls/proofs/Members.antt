-- There are networks of processes and callers: connected nodes, each taken as the one or the other.
use Rattle.std.proofs.Common.{◌≡◌, inl, inr, ℕ, ◌+◌, ◌-◌, ◌<◌, ◌≤◌, Bool, true, false, cond, List}
use Rattle.std.proofs.Common.{[], length, get_or, All, Option, Some, None, Ok, refl, sym, ap}
use Rattle.std.proofs.Common.{◌∙◌, subst, arith}
use Rattle.std.specs.Prelude.{unwrap_or, nat_lt, if◌then◌else◌}
use Rattle.std.proofs.lemmas.Bool.{cases_lt, lt-ltb, le-ltb}
use Rattle.std.proofs.lemmas.List.Elements.{All-from_get_or}
use Rattle.sync_types.specs.States.{State}
use Rattle.construction.specs.Runs.{is_in}
use Rattle.state_codec.specs.Writing.{written}
use Rattle.node_stepper.specs.Laws.{packet_text, AreFull}
use Rattle.node_stepper.proofs.CellByCell.{written_size}
use Rattle.machines.specs.Machines.{Machine, IsState}
use Rattle.machines.specs.Laws.{IsSound}
use Rattle.node_calls.specs.declared.any_machines.AnyMachine.{AnyMachine}
use Rattle.node_calls.specs.Machines.{machine_of}
use Rattle.node_stepper.specs.Bytes.{FitsCell}
use Rattle.node_stepper.specs.RunLaws.{Connects}
use Rattle.node_stepper.specs.Lossy.{ConnectsMost}
use Rattle.node_stepper.specs.Losses.{AreMissed}
use Rattle.node_stepper.specs.NodeRuns.{Nodes, cell_given, IsCorrect, state_at, state_in}
use Rattle.node_stepper.proofs.Bytes.{packet_bytes, written_fits, none_fit}
use Rattle.node_stepper.proofs.Connected.{any_lies_connect, any_losses_connect}
use Rattle.node_stepper.proofs.Written.{node_writes_states}
use Rattle.node_calls.specs.Counters.{counter_answer}
use Rattle.node_calls.specs.MixedNodes.{Member, process, caller, says, hears, IsMember}
use Rattle.node_calls.specs.Members.{Begins, IsGivenBytes, ConnectedMembers, HeardMembers}
use Rattle.node_calls.specs.Members.{AnyMembersConnect, AnyMembersAreHeard}
use Rattle.node_calls.proofs.Callers.{packet_full, cell_is, caller_steps_on}
use Rattle.node_calls.proofs.Counters.{sound_of, states_fit}

-- where the window begins in a node; in a caller it begins at once
abbrev first_of : Option ℕ → ℕ
first_of at = unwrap_or at 0

-- nodes over packets, each taken as a process or a caller
module _ (text : List ℕ) (counter : AnyMachine) (is : counter_answer text ≡ Ok counter)
    (nodes : Nodes) (rounds : ℕ) where
  abbrev m : Machine
  m = machine_of counter

  abbrev member_of : Option ℕ → (v : ℕ) → Member
  member_of (Some at) v = process (nodes.starts v) (nodes.packets v) at
  member_of None v =
      caller text (λ t. written (m.fields v) (state_at m nodes t v))
      (λ t. packet_text (get_or (nodes.packets v) t []))

  module _ (at : Option ℕ) (v : ℕ) (long : first_of at + rounds ≤ length (nodes.packets v)) where
    says_by : (a : Option ℕ) → a ≡ at → (i : ℕ) → i ≤ rounds
        → says m v (member_of a v) i ≡ written (m.fields v) (state_at m nodes (first_of a + i) v)
    says_by (Some begins) same i le =
        let e : begins ≡ first_of at = ap first_of same in
        ap (λ (cell : Option (List ℕ)). unwrap_or cell [])
        (node_writes_states m v (nodes.starts v) (nodes.packets v) (begins + i)
        (omega (arith, long, e)))
    says_by None same i le =
        let e : i ≡ 0 + i = omega arith in
        ap (λ t. written (m.fields v) (state_at m nodes t v)) e

    module _ (node : v < m.nodes) (full : AreFull m.nodes (nodes.packets v)) where
      hears_by : (a : Option ℕ) → a ≡ at → (i u : ℕ) → i < rounds
          → hears m (member_of a v) i u ≡ cell_given nodes (first_of a + i) v u
      hears_by (Some begins) same i u lt = refl
      hears_by None same i u lt =
          let e : i ≡ 0 + i = omega arith in
          let none : 0 ≡ first_of at = ap first_of same in
          cell_is text counter is v node (nodes.packets v) full i (omega (arith, long, none)) u
          ∙ ap (λ t. cell_given nodes t v u) e

      member_by : IsState m v (nodes.starts v) → (a : Option ℕ) → a ≡ at
          → IsMember m rounds v (member_of a v)
      member_by begun (Some begins) same =
          let e : begins ≡ first_of at = ap first_of same in
          (begun, omega (arith, long, e))
      member_by begun None same =
          let none : 0 ≡ first_of at = ap first_of same in
          record {
            counter = counter;
            is = is;
            of = refl;
            long = written_size (m.fields v) (state_at m nodes 0 v);
            steps = λ i lt.
                caller_steps_on text counter is v node (nodes.packets v) full i
                (omega (arith, long, none)) (nodes.starts v) begun;
          }

      cells_fit : ((t u : ℕ) → t < length (nodes.packets v) → u < m.nodes
          → FitsCell (cell_given nodes t v u)) → (t : ℕ) → t < length (nodes.packets v)
          → All FitsCell (get_or (nodes.packets v) t [])
      cells_fit fits t lt =
          let size = packet_full text counter is v node (nodes.packets v) full t lt in
          All-from_get_or FitsCell (get_or (nodes.packets v) t []) []
          (λ u ult. fits t u lt (omega (arith, ult, size)))

      -- if all cells fit, its packets are bytes
      bytes_by : ((t u : ℕ) → t < length (nodes.packets v) → u < m.nodes
          → FitsCell (cell_given nodes t v u)) → (a : Option ℕ) → a ≡ at
          → IsGivenBytes rounds (member_of a v)
      bytes_by fits (Some begins) same =
          All-from_get_or (All FitsCell) (nodes.packets v) [] (λ t lt. cells_fit fits t lt)
      bytes_by fits None same =
          let none : 0 ≡ first_of at = ap first_of same in
          λ i lt. packet_bytes (get_or (nodes.packets v) i [])
          (cells_fit fits i (omega (arith, long, none)))

-- it begins as is said
begins_by : (text : List ℕ) (counter : AnyMachine) (is : counter_answer text ≡ Ok counter)
    (nodes : Nodes) (rounds : ℕ) (starts : ℕ → State) → nodes.starts ≡ starts
    → (at : Option ℕ) (v : ℕ)
    → Begins (machine_of counter) text v (starts v) at (member_of text counter is nodes rounds at v)
begins_by text counter is nodes rounds starts same (Some at) v =
    (ap (λ (s : ℕ → State). s v) same, refl)
begins_by text counter is nodes rounds starts same None v =
    (refl, ap (λ (s : ℕ → State). written ((machine_of counter).fields v) (s v)) same)

-- ---- what is sent, by packets

-- nothing before the window
abbrev by_packet : (firsts : ℕ → ℕ) → (sent : (i v u : ℕ) → List ℕ) → (t v u : ℕ) → List ℕ
by_packet firsts sent t v u =
    if nat_lt t (firsts v) then [] else sent (t - firsts v) v u

early_none : (firsts : ℕ → ℕ) (sent : (i v u : ℕ) → List ℕ) (t v u : ℕ) → t < firsts v
    → by_packet firsts sent t v u ≡ []
early_none firsts sent t v u early =
    ap (λ b. cond b [] (sent (t - firsts v) v u)) (lt-ltb t (firsts v) early)

in_round : (firsts : ℕ → ℕ) (sent : (i v u : ℕ) → List ℕ) (i v u : ℕ)
    → by_packet firsts sent (firsts v + i) v u ≡ sent i v u
in_round firsts sent i v u =
    let e : firsts v + i - firsts v ≡ i = omega arith in
    ap (λ b. cond b [] (sent (firsts v + i - firsts v) v u))
    (le-ltb (firsts v + i) (firsts v) (omega arith))
    ∙ ap (λ k. sent k v u) e

module _ (text : List ℕ) (counter : AnyMachine) (is : counter_answer text ≡ Ok counter)
    (faulty : List ℕ) (starts : ℕ → State) (begins : ℕ → Option ℕ)
    (sent : (i v u : ℕ) → List ℕ) (rounds : ℕ)
    (begun : (v : ℕ) → IsCorrect (machine_of counter) faulty v
    → IsState (machine_of counter) v (starts v)) where
  abbrev k : Machine
  k = machine_of counter

  sound : IsSound k
  sound = sound_of text counter is

  abbrev firsts : ℕ → ℕ
  firsts v = first_of (begins v)

  abbrev given_by : (t v u : ℕ) → List ℕ
  given_by = by_packet firsts sent

  -- nodes over packets that begin so, of which what each misses is lost
  pub record Made (nodes : Nodes) (missed : (i v : ℕ) → List ℕ) : Type 0 where
    pub begin : nodes.starts ≡ starts
    pub long : (v : ℕ) → length (nodes.packets v) ≡ firsts v + rounds
    pub full : (v : ℕ) → AreFull k.nodes (nodes.packets v)
    pub early : (t v u : ℕ) → t < firsts v → u < k.nodes → cell_given nodes t v u ≡ given_by t v u
    pub lost : (i v u : ℕ) → i < rounds → u < k.nodes → is_in (missed i v) u ≡ true
        → cell_given nodes (firsts v + i) v u ≡ given_by (firsts v + i) v u
    pub wrote : (i v u : ℕ) → i < rounds → u < k.nodes → is_in (missed i v) u ≡ false
        → cell_given nodes (firsts v + i) v u
        ≡ written (k.fields u) (state_in k nodes firsts i u)

  module _ (nodes : Nodes) (missed : (i v : ℕ) → List ℕ) (made : Made nodes missed) where
    abbrev member : ℕ → Member
    member v = member_of text counter is nodes rounds (begins v) v

    enough : (v : ℕ) → firsts v + rounds ≤ length (nodes.packets v)
    enough v = let long = made.long v in omega (arith, long)

    pub begin : (v : ℕ) → Begins k text v (starts v) (begins v) (member v)
    begin v = begins_by text counter is nodes rounds starts made.begin (begins v) v

    pub are : (v : ℕ) → IsCorrect k faulty v → IsMember k rounds v (member v)
    are v correct =
        member_by text counter is nodes rounds (begins v) v (enough v) correct.0 (made.full v)
        (subst (λ (s : ℕ → State). IsState k v (s v)) (sym made.begin) (begun v correct))
        (begins v) refl

    hears_is : (i v u : ℕ) → i < rounds → v < k.nodes
        → hears k (member v) i u ≡ cell_given nodes (firsts v + i) v u
    hears_is i v u lt node =
        hears_by text counter is nodes rounds (begins v) v (enough v) node (made.full v)
        (begins v) refl i u lt

    pub told : (i v u : ℕ) → i < rounds → IsCorrect k faulty v → u < k.nodes
        → is_in (missed i v) u ≡ false → hears k (member v) i u ≡ says k u (member u) i
    told i v u lt correct ult not_missed =
        hears_is i v u lt correct.0
        ∙ made.wrote i v u lt ult not_missed
        ∙ sym (says_by text counter is nodes rounds (begins u) u (enough u) (begins u) refl i
        (omega (arith, lt)))

    pub given : (i v u : ℕ) → i < rounds → IsCorrect k faulty v → u < k.nodes
        → is_in (missed i v) u ≡ true → hears k (member v) i u ≡ sent i v u
    given i v u lt correct ult is_missed =
        hears_is i v u lt correct.0
        ∙ made.lost i v u lt ult is_missed
        ∙ in_round firsts sent i v u

    module _ (fits : (i v u : ℕ) → i < rounds → IsCorrect k faulty v → u < k.nodes
        → is_in (missed i v) u ≡ true → FitsCell (sent i v u)) (v : ℕ)
        (correct : IsCorrect k faulty v) where
      fits_by : (i u : ℕ) → i < rounds → u < k.nodes → (b : Bool) → is_in (missed i v) u ≡ b
          → FitsCell (cell_given nodes (firsts v + i) v u)
      fits_by i u lt ult true is_missed =
          subst FitsCell
          (sym (made.lost i v u lt ult is_missed ∙ in_round firsts sent i v u))
          (fits i v u lt correct ult is_missed)
      fits_by i u lt ult false not_missed =
          subst FitsCell (sym (made.wrote i v u lt ult not_missed))
          (written_fits (k.fields u) (state_in k nodes firsts i u)
          (states_fit text counter is u ult))

      all_fit : (t u : ℕ) → t < length (nodes.packets v) → u < k.nodes
          → FitsCell (cell_given nodes t v u)
      all_fit t u lt ult = elim (cases_lt t (firsts v)) [
        | inl before ↦
            subst FitsCell
            (sym (made.early t v u before ult ∙ early_none firsts sent t v u before)) none_fit
        | inr later ↦
            let long = made.long v in
            let i : ℕ = t - firsts v in
            let e : firsts v + i ≡ t = omega (arith, later) in
            subst (λ n. FitsCell (cell_given nodes n v u)) e
            (fits_by i u (omega (arith, lt, long, later)) ult (is_in (missed i v) u) refl)
      ]

      pub given_bytes : IsGivenBytes rounds (member v)
      given_bytes =
          bytes_by text counter is nodes rounds (begins v) v (enough v) correct.0 (made.full v)
          all_fit (begins v) refl

  -- ---- whatever faulty nodes say

  abbrev lies : Connects k faulty starts given_by firsts rounds
  lies = any_lies_connect k sound faulty starts given_by firsts rounds begun

  lies_made : Made lies.nodes (λ i v. faulty)
  lies_made = record {
    begin = lies.begin;
    long = lies.long;
    full = lies.full;
    early = λ t v u lt ult. lies.given t v u (omega (arith, lt)) ult (inl lt);
    lost = λ i v u lt ult bad. lies.given (firsts v + i) v u (omega (arith, lt)) ult (inr bad);
    wrote = λ i v u lt ult good. lies.wrote i v u lt (ult, good);
  }

  pub connected : ConnectedMembers k text faulty starts begins sent rounds
  connected = record {
    members = member lies.nodes (λ i v. faulty) lies_made;
    begin = λ v correct. begin lies.nodes (λ i v. faulty) lies_made v;
    connect = record {
      are = are lies.nodes (λ i v. faulty) lies_made;
      told = λ i v u lt correct other apart.
          told lies.nodes (λ i v. faulty) lies_made i v u lt correct other.0 other.1;
    };
    given = given lies.nodes (λ i v. faulty) lies_made;
    in_bytes = given_bytes lies.nodes (λ i v. faulty) lies_made;
  }

  -- ---- whatever is lost

  module _ (missed : (i v : ℕ) → List ℕ)
      (few : (i v : ℕ) → i < rounds → IsCorrect k faulty v → AreMissed k faulty v (missed i v))
    where
      abbrev losses : ConnectsMost k faulty starts given_by missed firsts rounds
      losses = any_losses_connect k sound faulty starts given_by missed firsts rounds begun few

      losses_made : Made losses.nodes missed
      losses_made = record {
        begin = losses.begin;
        long = losses.long;
        full = losses.full;
        early = losses.early;
        lost = losses.lost;
        wrote = losses.wrote;
      }

      pub heard : HeardMembers k text faulty starts begins sent rounds missed
      heard = record {
        members = member losses.nodes missed losses_made;
        begin = λ v correct. begin losses.nodes missed losses_made v;
        heard = record {
          are = are losses.nodes missed losses_made;
          missed = missed;
          few = few;
          told = λ i v u lt correct ult not_missed apart.
              told losses.nodes missed losses_made i v u lt correct ult not_missed;
        };
        miss = refl;
        given = given losses.nodes missed losses_made;
        in_bytes = given_bytes losses.nodes missed losses_made;
      }

pub any_members_connect : AnyMembersConnect
any_members_connect text counter is faulty starts begins sent rounds begun =
    connected text counter is faulty starts begins sent rounds begun

pub any_members_are_heard : AnyMembersAreHeard
any_members_are_heard text counter is faulty starts begins sent missed rounds begun few =
    heard text counter is faulty starts begins sent rounds begun missed few
